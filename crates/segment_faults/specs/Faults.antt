-- What is wrong with a segment of a text that derives nothing. It is known by the place of its first token in the text and by the number of its tokens, those in its groups and interpolations among them.
use Rattle.std.specs.Prelude.{ℕ, zero, suc, List, Option, None, unwrap_or, if◌then◌else◌}
use Rattle.std.specs.Option.{option_or}
use Rattle.dart_tokens.specs.declared.grouped_token.GroupedToken.{GroupedToken as Token}
use Rattle.segment_faults.specs.declared.fault.SegmentFault.{SegmentFault}
use Rattle.segment_faults.specs.declared.fault.SegmentFault.TheVariants as fault
use Rattle.segment_faults.specs.Table.{fault_at}
use Rattle.segment_faults.specs.Nesting.{is_nested}

-- what is wrong at the first of so many places, from one on, at which the table fits
abbrev pub first_fault : (text : List Token) → (first place count : ℕ) → Option SegmentFault
first_fault text first place zero = None
first_fault text first place (suc count) = option_or (fault_at text first place) (first_fault text first (suc place) count)

-- what is wrong where the table fits nowhere
abbrev pub plain_fault : (text : List Token) → (first count : ℕ) → SegmentFault
plain_fault text first count = if is_nested text first count then fault.Nesting else fault.Syntax

-- what is wrong with the segment
abbrev pub fault_of : (text : List Token) → (first count : ℕ) → SegmentFault
fault_of text first count = unwrap_or (first_fault text first first count) (plain_fault text first count)
