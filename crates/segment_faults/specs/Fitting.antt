-- Where the table fits.
use Rattle.std.specs.Prelude.{◌≡◌, ℕ, ◌+◌, ◌<◌, ◌≤◌, List, Some, None}
use Rattle.dart_tokens.specs.declared.grouped_token.GroupedToken.{GroupedToken as Token}
use Rattle.segment_faults.specs.declared.fault.SegmentFault.{SegmentFault}
use Rattle.segment_faults.specs.Table.{fault_at}

-- a row fits at a place of a segment, and none at an earlier place
pub record FitsFirst (text : List Token) (first count : ℕ) (fault : SegmentFault) : Type 0 where
  pub place : ℕ
  pub from : first ≤ place
  pub within : place < first + count
  pub fits : fault_at text first place ≡ Some fault
  pub earlier : (other : ℕ) → first ≤ other → other < place → fault_at text first other ≡ None

-- no row fits at any place of a segment
abbrev pub FitsNowhere : List Token → (first count : ℕ) → Type 0
FitsNowhere text first count = (place : ℕ) → first ≤ place → place < first + count → fault_at text first place ≡ None
