-- What stands behind an operand, by its extent.
use Rattle.std.proofs.Common.{◌≡◌, ℕ, Bool, List, drop, Option, Some, None, sym, ap, ◌∙◌}
use Rattle.readings.specs.Readings.{Reading}
use Rattle.dart_tree.specs.Tree.{Tree}
use Rattle.dart_tokens.specs.declared.grouped_token.GroupedToken.{GroupedToken as Token}
use Rattle.grammar.specs.declared.level.Level.{Level}
use Rattle.grammar.specs.declared.level.Setting.TheVariants as setting
use Rattle.grammar.specs.Operators.{table}
use Rattle.grammar.specs.Expressions.{Side}
use Rattle.grammar.specs.Descents.{lower, take_right, take_cascade_section}
use Rattle.parse_leaves.specs.declared.miss.Miss.{Miss}
use Rattle.parse_leaves.specs.declared.miss.Miss.TheVariants.{NoReading, Memory}
use Rattle.parse_leaves.specs.Answers.{Misses}
use Rattle.parse_operators.specs.declared.extents.Extent.{Extent}
use Rattle.parse_operators.specs.Ends.{extent_of, side_extent, section_extent, seen, rank, behind_at}

seen_missed : {A : Type 0} (view : A → Extent) (miss : Miss) (o : Option (Reading Token A)) → Misses miss o → Misses miss (seen view o)
seen_missed view Memory o e = tt
seen_missed view NoReading o e = ap (seen view) e

-- an operator's right side
pub side_missed : (n : ℕ) (which : Level) (ts : List Token) (miss : Miss) (above : List Level) → above ≡ drop (rank which) table → Misses miss (take_right setting.Plain (lower n) which above ts) → Misses miss (behind_at n (Some which) ts)
side_missed n which ts miss above same e = seen_missed side_extent miss (take_right setting.Plain (lower n) which (drop (rank which) table) ts) (rw same at e)

pub side_seen : (n : ℕ) (which : Level) (ts us : List Token) (side : Side) (extent : Extent) (above : List Level) → above ≡ drop (rank which) table → take_right setting.Plain (lower n) which above ts ≡ Some (side, us) → extent ≡ side_extent side →
    behind_at n (Some which) ts ≡ Some (extent, us)
side_seen n which ts us side extent above same e view =
    ap (λ (rs : List Level). seen side_extent (take_right setting.Plain (lower n) which rs ts)) (sym same) ∙ ap (seen side_extent) e ∙ ap (λ (x : Extent). Some (x, us)) (sym view)

-- a section of a cascade
pub section_missed : (n : ℕ) (ts : List Token) (miss : Miss) → Misses miss (take_cascade_section setting.Plain (lower n) ts) → Misses miss (behind_at n None ts)
section_missed n ts miss e = seen_missed section_extent miss (take_cascade_section setting.Plain (lower n) ts) e

pub section_seen : (n : ℕ) (ts us : List Token) (null_aware : Bool) (section : Tree) (extent : Extent) → take_cascade_section setting.Plain (lower n) ts ≡ Some ((null_aware, section), us) → extent ≡ extent_of section → behind_at n None ts ≡ Some (extent, us)
section_seen n ts us null_aware section extent e view = ap (seen section_extent) e ∙ ap (λ (x : Extent). Some (x, us)) (sym view)
