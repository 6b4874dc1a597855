-- What the facts of a point say of each slot.
use Rattle.std.proofs.Common.{◌≡◌, ℕ, suc, ◌+◌, ◌-◌, ◌<◌, ◌≤◌, Bool, true, false, cond, ◌||◌, nat_eq, filter, fold, map, List, [], ◌∷◌, ◌++◌, Option, Some, None, refl, sym, ap, ◌∙◌, arith}
use Rattle.std.specs.Prelude.{All, find}
use Rattle.std.specs.Option.{option_map_or}
use Rattle.std.proofs.lemmas.Bool.Decides.{nat_tests}
use Rattle.std.proofs.lemmas.List.Elements.{All-head, All-tail}
use Rattle.dart_types.specs.Ty.{Ty}
use Rattle.flow_model.specs.Flow.{FlowModel, IsInOrder, is_of, facts_of, last_or}
use Rattle.flow_model.specs.declared.locals.Facts.{Facts}
use Rattle.flow_model.specs.declared.locals.LocalId.{LocalId}
use Rattle.core_ir.specs.PointFacts.{put}
use Rattle.core_ir.specs.declared.facts.Held.TheVariants.{Declared, Own, Shared}
use Rattle.core_ir.specs.declared.facts.Known.{Known}
use Rattle.core_ir.specs.declared.facts.SlotFact.{SlotFact}
use Rattle.core_ir.specs.declared.points.SlotId.{SlotId}
use Rattle.core_check.specs.Known.{known_in, known_of, unlisted}
use Rattle.elaborate.specs.Sources.{Sources, slot_of_local}
use Rattle.elaborate.specs.Known.{is_promoted, says_something, known_of_local, fact_of_local, facts_of_locals, fact_of_value, facts}
use Rattle.elaborate.proofs.Given.{Setting, Laws}

-- whether the slot with the number i is among some
abbrev pub holds : List SlotId → ℕ → Bool
holds [] i = false
holds (slot ∷ slots) i = nat_eq slot.0 i || holds slots i

-- what is known of a value that is held
abbrev pub value_known : Known
value_known = record { assigned = true; held = Declared }

-- what facts say of a slot of which this was known before: the last that is said counts
abbrev told : List SlotFact → ℕ → Known → Known
told [] i k = k
told (f ∷ fs) i k = told fs i (cond (nat_eq f.slot.0 i) f.known k)

one_of_two : (a b : Bool) (v k : Known) → cond b v (cond a v k) ≡ cond (a || b) v k
one_of_two true true v k = refl
one_of_two true false v k = refl
one_of_two false true v k = refl
one_of_two false false v k = refl

told_values : (values : List SlotId) (i : ℕ) (k : Known) → told (map fact_of_value values) i k ≡ cond (holds values i) value_known k
told_values [] i k = refl
told_values (slot ∷ slots) i k =
    told_values slots i (cond (nat_eq slot.0 i) value_known k) ∙ one_of_two (nat_eq slot.0 i) (holds slots i) value_known k

-- one more value is held
pub holds-more : (values : List SlotId) (slot : SlotId) (i : ℕ) → holds (values ++ slot ∷ []) i ≡ (holds values i || nat_eq slot.0 i)
holds-more [] slot i = at (nat_eq slot.0 i)
  where
    at : (b : Bool) → (b || false) ≡ b
    at true = refl
    at false = refl
holds-more (s ∷ values) slot i = ap (λ b. nat_eq s.0 i || b) (holds-more values slot i) ∙ at (nat_eq s.0 i) (holds values i) (nat_eq slot.0 i)
  where
    at : (a b d : Bool) → (a || (b || d)) ≡ ((a || b) || d)
    at true b d = refl
    at false b d = refl

-- whether this is known of the slot with the number i
abbrev pub is_at : Sources → ℕ → Facts → Bool
is_at x i l = nat_eq (slot_of_local x l.var).0 i

-- the local whose slot has the number i
abbrev pub local_at : Sources → ℕ → LocalId
local_at x i = record { 0 = i + x.first }

-- of a local of which nothing is known, what an unlisted slot says
unlisted_of : (assigned captured : Bool) (declared : Ty) (chain : List Ty) → (assigned || (is_promoted chain || captured)) ≡ false
    → (let k : Known = record { assigned = assigned; held = cond captured Shared (cond (is_promoted chain) (Own (last_or declared chain)) Declared) } in k) ≡ unlisted
unlisted_of false false declared [] nothing = refl
unlisted_of false true declared [] nothing = absurd cc
unlisted_of false captured declared (t ∷ ts) nothing = absurd cc
unlisted_of true captured declared chain nothing = absurd cc

-- what a list says of a local's slot of which this was known before
abbrev told_of_local : Facts → Known → Known
told_of_local l k = cond (says_something l) (known_of_local l) k

told_unlisted : (found : Option Facts) → option_map_or (λ l. told_of_local l unlisted) found unlisted ≡ option_map_or known_of_local found unlisted
told_unlisted None = refl
told_unlisted (Some l) = at (says_something l) refl
  where
    at : (s : Bool) → says_something l ≡ s → told_of_local l unlisted ≡ known_of_local l
    at true is = ap (λ s. cond s (known_of_local l) unlisted) is
    at false is = ap (λ s. cond s (known_of_local l) unlisted) is ∙ sym (unlisted_of l.assigned l.captured l.ty l.chain is)

-- the locals stand from the first number on
abbrev pub AreFrom : ℕ → List Facts → Type 0
AreFrom first locals = All (λ (l : Facts). first ≤ l.var.0) locals

module _ (x : Sources) (i : ℕ) where
  -- the test by slots is the test by numbers
  is_at-is_of : (l : Facts) → x.first ≤ l.var.0 → is_at x i l ≡ is_of (local_at x i) l
  is_at-is_of l from = grind (arith, nat_tests)

  pub found_at : (locals : List Facts) → AreFrom x.first locals → find (is_at x i) locals ≡ find (is_of (local_at x i)) locals
  found_at [] from = refl
  found_at (l ∷ locals) from =
      ap (λ b. cond b (Some l) (find (is_at x i) locals)) (is_at-is_of l (All-head (λ (k : Facts). x.first ≤ k.var.0) l locals from))
      ∙ ap (λ r. cond (is_of (local_at x i) l) (Some l) r) (found_at locals (All-tail (λ (k : Facts). x.first ≤ k.var.0) l locals from))

  -- behind a number with the slot no other has it
  none_behind : (v : ℕ) (locals : List Facts) → x.first ≤ v → nat_eq (v - x.first) i ≡ true → All (λ (k : Facts). v < k.var.0) locals → find (is_at x i) locals ≡ None
  none_behind v [] from is behind = refl
  none_behind v (k ∷ locals) from is behind =
      let less : v < k.var.0 = All-head (λ (l : Facts). v < l.var.0) k locals behind in
      let other : is_at x i k ≡ false = grind (arith, nat_tests) in
      ap (λ b. cond b (Some k) (find (is_at x i) locals)) other
      ∙ none_behind v locals from is (All-tail (λ (l : Facts). v < l.var.0) k locals behind)

  -- what the locals say of the slot: what is known of the one that has it
  told_locals_at : (l : Facts) (locals : List Facts) (k : Known) (b s : Bool) → is_at x i l ≡ b → says_something l ≡ s
      → (b ≡ true → find (is_at x i) locals ≡ None)
      → ((k : Known) → told (facts_of_locals x locals) i k ≡ option_map_or (λ m. told_of_local m k) (find (is_at x i) locals) k)
      → told (map (fact_of_local x) (cond s (l ∷ filter says_something locals) (filter says_something locals))) i k ≡ option_map_or (λ m. told_of_local m k) (cond b (Some l) (find (is_at x i) locals)) k
  told_locals_at l locals k true true e says none rest =
      rest (cond (is_at x i l) (known_of_local l) k)
      ∙ ap (λ found. option_map_or (λ m. told_of_local m (cond (is_at x i l) (known_of_local l) k)) found (cond (is_at x i l) (known_of_local l) k)) (none refl)
      ∙ ap (λ b. cond b (known_of_local l) k) e
      ∙ sym (ap (λ s. cond s (known_of_local l) k) says)
  told_locals_at l locals k false true e says none rest =
      rest (cond (is_at x i l) (known_of_local l) k)
      ∙ ap (λ b. option_map_or (λ m. told_of_local m (cond b (known_of_local l) k)) (find (is_at x i) locals) (cond b (known_of_local l) k)) e
  told_locals_at l locals k true false e says none rest =
      rest k
      ∙ ap (λ found. option_map_or (λ m. told_of_local m k) found k) (none refl)
      ∙ sym (ap (λ s. cond s (known_of_local l) k) says)
  told_locals_at l locals k false false e says none rest = rest k

  told_locals : (locals : List Facts) (k : Known) → IsInOrder locals → AreFrom x.first locals → told (facts_of_locals x locals) i k ≡ option_map_or (λ m. told_of_local m k) (find (is_at x i) locals) k
  told_locals [] k order from = refl
  told_locals (l ∷ locals) k order from =
      told_locals_at l locals k (is_at x i l) (says_something l) refl refl
      (λ is. none_behind l.var.0 locals (All-head (λ (j : Facts). x.first ≤ j.var.0) l locals from) is (λ n d lt. order 0 (suc n) d (omega arith) (omega arith)))
      (λ k. told_locals locals k (λ a b d lt inside. order (suc a) (suc b) d (omega arith) (omega arith)) (All-tail (λ (j : Facts). x.first ≤ j.var.0) l locals from))

-- what is known of the slot with the number i, where this is known of a local that may have it, and these values are held
abbrev pub slot_known : Option Facts → (held : Bool) → Known
slot_known found held = cond held value_known (option_map_or known_of_local found unlisted)

module _ (c : Setting) (laws : Laws c) where
  told_of : (start fs : List SlotFact) (i : ℕ) → known_in (fold put start fs) i ≡ told fs i (known_in start i)
  told_of start [] i = refl
  told_of start (f ∷ fs) i = told_of (put start f) fs i ∙ ap (told fs i) (laws.put_tells start f i)

  -- what is known of each slot at a point
  pub known_at : (m : FlowModel) (values : List SlotId) (i : ℕ) → IsInOrder m.locals → AreFrom c.x.first m.locals → known_of (facts c.x m values) i ≡ slot_known (facts_of m (local_at c.x i)) (holds values i)
  known_at m values i order from =
      told_of (fold put [] (facts_of_locals c.x m.locals)) (map fact_of_value values) i
      ∙ told_values values i (known_in (fold put [] (facts_of_locals c.x m.locals)) i)
      ∙ ap (cond (holds values i) value_known)
      (told_of [] (facts_of_locals c.x m.locals) i
      ∙ told_locals c.x i m.locals unlisted order from
      ∙ told_unlisted (find (is_at c.x i) m.locals)
      ∙ ap (λ found. option_map_or known_of_local found unlisted) (found_at c.x i m.locals from))
