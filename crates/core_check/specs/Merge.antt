-- One walk through two lists of facts in order, and what it shows.
use Rattle.std.specs.Prelude.{◌<◌, ℕ, nat_eq, nat_le, List, [], ◌∷◌, Option, Some, None, if◌then◌else◌, All, IsFalse, length}
use Rattle.core_ir.specs.PointFacts.{PointFacts}
use Rattle.core_ir.specs.Program.{Function, Program}
use Rattle.core_ir.specs.Values.{declared_at}
use Rattle.core_ir.specs.declared.facts.Held.{Held}
use Rattle.core_ir.specs.declared.facts.Held.TheVariants.{Declared, Own, Shared}
use Rattle.core_ir.specs.declared.facts.Known.{Known}
use Rattle.core_ir.specs.declared.facts.SlotFact.{SlotFact}
use Rattle.core_check.specs.declared.parts.Change.{Change}
use Rattle.core_check.specs.Known.{unlisted, known_in, known_of}
use Rattle.core_check.specs.Types.{known_on, is_changed}
use Rattle.core_check.specs.Accepted.{SlotImplies}

-- the type of the slot is its declared one
abbrev pub HasDeclared : Held → Type 0
HasDeclared Declared = Unit {0}
HasDeclared (Own t) = ⊥
HasDeclared Shared = Unit {0}

-- the first slot that either list speaks of
abbrev pub least_slot : List SlotFact → List SlotFact → Option ℕ
least_slot [] [] = None
least_slot [] (y ∷ ys) = Some y.slot.0
least_slot (x ∷ xs) [] = Some x.slot.0
least_slot (x ∷ xs) (y ∷ ys) = if nat_le x.slot.0 y.slot.0 then Some x.slot.0 else Some y.slot.0

-- what the first fact of a list says of a slot
abbrev pub first_known : List SlotFact → ℕ → Known
first_known [] slot = unlisted
first_known (x ∷ xs) slot = if nat_eq x.slot.0 slot then x.known else unlisted

-- the list without its first fact, if that is of the slot
abbrev pub rest_behind : List SlotFact → ℕ → List SlotFact
rest_behind [] slot = []
rest_behind (x ∷ xs) slot = if nat_eq x.slot.0 slot then xs else x ∷ xs

-- what the one list says of each slot implies what the other says, but for the slots that are changed
pub record AreImplied (p : Program) (g : Function) (changes : List Change) (before after : List SlotFact) : Type 0 where
  pub each : (i : ℕ) → i < length g.slots → IsFalse (is_changed changes i) → SlotImplies p.rows.table (declared_at g i) (known_in before i) (known_in after i)

-- what is known of each slot that is changed implies what is known of it after
pub record AreChangedImplied (p : Program) (g : Function) (f : PointFacts) (changes : List Change) (after : PointFacts) : Type 0 where
  pub each : All (λ (c : Change). SlotImplies p.rows.table (declared_at g c.slot.0) (known_on p g f changes c.slot.0) (known_of after c.slot.0)) changes
