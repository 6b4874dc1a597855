-- One walk through two lists of facts in order shows what it is to show.
use Rattle.std.proofs.Common.{◌≡◌, ◌≢◌, ℕ, suc, ◌+◌, ◌<◌, ◌≤◌, Bool, true, false, cond, nat_eq, nat_le, not, ◌||◌, List, [], ◌∷◌, length, get_or, Some, None, refl, sym, ap, ◌∙◌, subst, arith, IsTrue, IsFalse, All, inl, inr}
use Rattle.std.specs.List.{list_any}
use Rattle.std.proofs.lemmas.Bool.{cases_eq, cond-true, cond-false, eq-eqb, ne_eqb}
use Rattle.std.proofs.lemmas.Bool.Decides.{nat_tests}
use Rattle.std.proofs.lemmas.List.Elements.{All-cons}
use Rattle.dart_types.specs.Ty.{Ty}
use Rattle.dart_types.specs.Sub.{reflexivity}
use Rattle.dart_types.specs.SubTest.{sub}
use Rattle.dart_types.specs.Tables.{Table}
use Rattle.dart_types.specs.Laws.{RowLaws}
use Rattle.core_ir.specs.PointFacts.{PointFacts, AreInOrder}
use Rattle.core_ir.specs.Program.{Function, Program}
use Rattle.core_ir.specs.Values.{declared_at}
use Rattle.core_ir.specs.declared.facts.Held.{Held}
use Rattle.core_ir.specs.declared.facts.Held.TheVariants.{Declared, Own, Shared}
use Rattle.core_ir.specs.declared.facts.Known.{Known}
use Rattle.core_ir.specs.declared.facts.SlotFact.{SlotFact}
use Rattle.core_check.specs.declared.parts.Change.{Change}
use Rattle.core_check.specs.WellFormed.{IsSlot}
use Rattle.core_check.specs.Known.{unlisted, known_in, known_of, facts_at, held_type, is_shared}
use Rattle.core_check.specs.Shapes.{WayShape}
use Rattle.core_check.specs.Types.{changed, changes_to, known_on, is_changed}
use Rattle.core_check.specs.Accepted.{SlotImplies, Leads}
use Rattle.core_check.specs.Merge.{HasDeclared, least_slot, first_known, rest_behind, AreImplied, AreChangedImplied}

-- a type is below itself
pub below_itself : (table : Table) → RowLaws table → (t : Ty) → sub table t t ≡ true
below_itself table laws t = laws.sub_complete t t reflexivity

-- a slot of its declared type has that type
pub declared_held : (t : Ty) (held : Held) → HasDeclared held → held_type t held ≡ t
declared_held t Declared h = refl
declared_held t (Own u) h = absurd h
declared_held t Shared h = refl

-- declared types are below each other
pub declared_below : (table : Table) → RowLaws table → (t : Ty) (before after : Held) → HasDeclared before → HasDeclared after → sub table (held_type t before) (held_type t after) ≡ true
declared_below table laws t before after b a = rw (declared_held t before b, declared_held t after a) (below_itself table laws t)

-- what is kept
kept : (a b : Bool) → (not a || b) ≡ true → IsTrue a → IsTrue b
kept true b h a = h
kept false b h a = absurd cc

-- what is known of a slot implies what is known after, part by part
pub slot_implies : (table : Table) (t : Ty) (before after : Known) → (not after.assigned || before.assigned) ≡ true → (not (is_shared before.held) || is_shared after.held) ≡ true → IsTrue (sub table (held_type t before.held) (held_type t after.held)) → SlotImplies table t before after
slot_implies table t before after assigned shared narrower = record { assigned = kept after.assigned before.assigned assigned; narrower = narrower; shared = kept (is_shared before.held) (is_shared after.held) shared }

-- of a slot that isn't listed nothing is known before and after
unlisted_implies : (table : Table) → RowLaws table → (t : Ty) → SlotImplies table t unlisted unlisted
unlisted_implies table laws t = slot_implies table t unlisted unlisted refl refl (below_itself table laws t)

-- all facts behind the first are of later slots
behind_first : (x : SlotFact) (xs : List SlotFact) → AreInOrder (x ∷ xs) → All (λ f. x.slot.0 < f.slot.0) xs
behind_first x xs order k d lt = order 0 (suc k) d (omega arith) (omega arith)

tail_order : (x : SlotFact) (xs : List SlotFact) → AreInOrder (x ∷ xs) → AreInOrder xs
tail_order x xs order i j d ij jl = order (suc i) (suc j) d (omega arith) (omega arith)

tail_all : (P : SlotFact → Type 0) (x : SlotFact) (xs : List SlotFact) → All P (x ∷ xs) → All P xs
tail_all P x xs all k d lt = all (suc k) d (omega arith)

-- a list of later facts says nothing of a slot
absent : (xs : List SlotFact) (n : ℕ) → All (λ f. n < f.slot.0) xs → known_in xs n ≡ unlisted
absent [] n all = refl
absent (x ∷ xs) n all =
    let here : n < x.slot.0 = all 0 x (omega arith) in
    cond-false (nat_eq x.slot.0 n) x.known (known_in xs n) (ne_eqb x.slot.0 n (λ e. absurd (omega arith)))
    ∙ absent xs n (tail_all (λ f. n < f.slot.0) x xs all)

-- what a list of facts from a slot on says of the slot, its first fact says
known_first : (xs : List SlotFact) (s : ℕ) → AreInOrder xs → All (λ f. s ≤ f.slot.0) xs → known_in xs s ≡ first_known xs s
known_first [] s order all = refl
known_first (x ∷ xs) s order all = elim (cases_eq x.slot.0 s) [
  | inl same ↦ (cond-true (nat_eq x.slot.0 s) x.known (known_in xs s) (eq-eqb x.slot.0 s same) ∙ sym (cond-true (nat_eq x.slot.0 s) x.known unlisted (eq-eqb x.slot.0 s same)))
  | inr apart ↦
      (let first : s ≤ x.slot.0 = all 0 x (omega arith) in
      let later : All (λ f. s < f.slot.0) xs = λ k d lt. let h : x.slot.0 < (get_or xs k d).slot.0 = behind_first x xs order k d lt in omega arith in
      cond-false (nat_eq x.slot.0 s) x.known (known_in xs s) (ne_eqb x.slot.0 s apart) ∙ absent xs s later ∙ sym (cond-false (nat_eq x.slot.0 s) x.known unlisted (ne_eqb x.slot.0 s apart)))
]

-- of another slot the rest says what the list says
known_rest : (xs : List SlotFact) (s i : ℕ) → i ≢ s → known_in (rest_behind xs s) i ≡ known_in xs i
known_rest [] s i apart = refl
known_rest (x ∷ xs) s i apart = elim (cases_eq x.slot.0 s) [
  | inl same ↦
      (ap (λ l. known_in l i) (cond-true (nat_eq x.slot.0 s) xs (x ∷ xs) (eq-eqb x.slot.0 s same))
      ∙ sym (cond-false (nat_eq x.slot.0 i) x.known (known_in xs i) (ne_eqb x.slot.0 i (λ e. apart (sym e ∙ same)))))
  | inr other ↦ ap (λ l. known_in l i) (cond-false (nat_eq x.slot.0 s) xs (x ∷ xs) (ne_eqb x.slot.0 s other))
]

-- what holds of a list and of its tail holds of the rest
rest_keeps : (P : List SlotFact → Type 0) (xs : List SlotFact) (s : ℕ) → ((x : SlotFact) (ys : List SlotFact) → P (x ∷ ys) → P ys) → P xs → P (rest_behind xs s)
rest_keeps P [] s tail h = h
rest_keeps P (x ∷ xs) s tail h = elim (cases_eq x.slot.0 s) [
  | inl same ↦ subst P (sym (cond-true (nat_eq x.slot.0 s) xs (x ∷ xs) (eq-eqb x.slot.0 s same))) (tail x xs h)
  | inr other ↦ subst P (sym (cond-false (nat_eq x.slot.0 s) xs (x ∷ xs) (ne_eqb x.slot.0 s other))) h
]

-- the facts of a list in order are of the slot s and later ones, if the first is
from_first : (x : SlotFact) (xs : List SlotFact) (s : ℕ) → AreInOrder (x ∷ xs) → s ≤ x.slot.0 → All (λ f. s ≤ f.slot.0) (x ∷ xs)
from_first x xs s order le = All-cons (λ (f : SlotFact). s ≤ f.slot.0) x xs le (λ k d lt. let h : x.slot.0 < (get_or xs k d).slot.0 = behind_first x xs order k d lt in omega arith)

same_some : (a b : ℕ) → Some a ≡ Some b → a ≡ b
same_some a b e = cc

-- the least slot of two lists, by which of their first ones is less
record IsLeast (before after : List SlotFact) (s : ℕ) : Type 0 where
  before_from : All (λ f. s ≤ f.slot.0) before
  after_from : All (λ f. s ≤ f.slot.0) after
  shorter : length (rest_behind before s) + length (rest_behind after s) < length before + length after

none_from : (s : ℕ) → All (λ (f : SlotFact). s ≤ f.slot.0) []
none_from s k d lt = absurd (omega arith)

rest_length : (xs : List SlotFact) (s : ℕ) → length (rest_behind xs s) ≤ length xs
rest_length [] s = omega arith
rest_length (x ∷ xs) s = elim (cases_eq x.slot.0 s) [
  | inl same ↦ subst (λ (l : List SlotFact). length l ≤ suc (length xs)) (sym (cond-true (nat_eq x.slot.0 s) xs (x ∷ xs) (eq-eqb x.slot.0 s same))) (omega arith)
  | inr other ↦ subst (λ (l : List SlotFact). length l ≤ suc (length xs)) (sym (cond-false (nat_eq x.slot.0 s) xs (x ∷ xs) (ne_eqb x.slot.0 s other))) (omega arith)
]

rest_of_first : (x : SlotFact) (xs : List SlotFact) (s : ℕ) → x.slot.0 ≡ s → length (rest_behind (x ∷ xs) s) ≡ length xs
rest_of_first x xs s same = ap (λ (l : List SlotFact). length l) (cond-true (nat_eq x.slot.0 s) xs (x ∷ xs) (eq-eqb x.slot.0 s same))

before_least : (x : SlotFact) (xs : List SlotFact) (y : SlotFact) (ys : List SlotFact) (s : ℕ) → AreInOrder (x ∷ xs) → AreInOrder (y ∷ ys) → x.slot.0 ≡ s → s ≤ y.slot.0 → IsLeast (x ∷ xs) (y ∷ ys) s
before_least x xs y ys s xo yo same le =
    let first = rest_of_first x xs s same in
    let second = rest_length (y ∷ ys) s in
    record { before_from = from_first x xs s xo (omega arith); after_from = from_first y ys s yo le; shorter = omega arith }

after_least : (x : SlotFact) (xs : List SlotFact) (y : SlotFact) (ys : List SlotFact) (s : ℕ) → AreInOrder (x ∷ xs) → AreInOrder (y ∷ ys) → y.slot.0 ≡ s → s ≤ x.slot.0 → IsLeast (x ∷ xs) (y ∷ ys) s
after_least x xs y ys s xo yo same le =
    let first = rest_length (x ∷ xs) s in
    let second = rest_of_first y ys s same in
    record { before_from = from_first x xs s xo le; after_from = from_first y ys s yo (omega arith); shorter = omega arith }

is_least : (before after : List SlotFact) (s : ℕ) → AreInOrder before → AreInOrder after → least_slot before after ≡ Some s → IsLeast before after s
is_least [] [] s bo ao e = absurd cc
is_least [] (y ∷ ys) s bo ao e =
    let same : y.slot.0 ≡ s = same_some y.slot.0 s e in
    let second = rest_of_first y ys s same in
    record { before_from = none_from s; after_from = from_first y ys s ao (omega arith); shorter = omega arith }
is_least (x ∷ xs) [] s bo ao e =
    let same : x.slot.0 ≡ s = same_some x.slot.0 s e in
    let first = rest_of_first x xs s same in
    record { before_from = from_first x xs s bo (omega arith); after_from = none_from s; shorter = omega arith }
is_least (x ∷ xs) (y ∷ ys) s bo ao e = by (nat_le x.slot.0 y.slot.0) refl e
  where
    by : (b : Bool) → nat_le x.slot.0 y.slot.0 ≡ b → cond b (Some x.slot.0) (Some y.slot.0) ≡ Some s → IsLeast (x ∷ xs) (y ∷ ys) s
    by true is e =
        let same : x.slot.0 ≡ s = same_some x.slot.0 s e in
        let le : x.slot.0 ≤ y.slot.0 = grind (arith, nat_tests) in
        before_least x xs y ys s bo ao same (omega arith)
    by false is e =
        let same : y.slot.0 ≡ s = same_some y.slot.0 s e in
        let le : y.slot.0 < x.slot.0 = grind (arith, nat_tests) in
        after_least x xs y ys s bo ao same (omega arith)

-- how far a walk has come: what is left to walk through shows what is to be shown
pub record Walks (p : Program) (g : Function) (changes : List Change) (all_before all_after before after : List SlotFact) : Type 0 where
  pub before_in_order : AreInOrder before
  pub after_in_order : AreInOrder after
  pub before_in : All (λ (fact : SlotFact). IsSlot g fact.slot) before
  pub after_in : All (λ (fact : SlotFact). IsSlot g fact.slot) after
  pub shows : AreImplied p g changes before after → AreImplied p g changes all_before all_after

module _ (p : Program) (g : Function) (changes : List Change) (all_before all_after before after : List SlotFact) (s : ℕ) (walks : Walks p g changes all_before all_after before after) (least : least_slot before after ≡ Some s) where
  at_least : IsLeast before after s
  at_least = is_least before after s walks.before_in_order walks.after_in_order least

  pub walk_shorter : length (rest_behind before s) + length (rest_behind after s) < length before + length after
  walk_shorter = at_least.shorter

  -- the walk goes on where the slot is shown, or is one of those that are changed
  pub walk_on : (IsFalse (is_changed changes s) → SlotImplies p.rows.table (declared_at g s) (first_known before s) (first_known after s)) → Walks p g changes all_before all_after (rest_behind before s) (rest_behind after s)
  walk_on here = record {
    before_in_order = rest_keeps AreInOrder before s tail_order walks.before_in_order;
    after_in_order = rest_keeps AreInOrder after s tail_order walks.after_in_order;
    before_in = rest_keeps (All (λ (fact : SlotFact). IsSlot g fact.slot)) before s (tail_all (λ (fact : SlotFact). IsSlot g fact.slot)) walks.before_in;
    after_in = rest_keeps (All (λ (fact : SlotFact). IsSlot g fact.slot)) after s (tail_all (λ (fact : SlotFact). IsSlot g fact.slot)) walks.after_in;
    shows = λ rest. walks.shows (record { each = λ i lt unchanged. at i lt unchanged rest });
  }
    where
      at_slot : IsFalse (is_changed changes s) → SlotImplies p.rows.table (declared_at g s) (known_in before s) (known_in after s)
      at_slot unchanged =
          subst (λ (k : Known). SlotImplies p.rows.table (declared_at g s) k (known_in after s)) (sym (known_first before s walks.before_in_order at_least.before_from))
          (subst (λ (k : Known). SlotImplies p.rows.table (declared_at g s) (first_known before s) k) (sym (known_first after s walks.after_in_order at_least.after_from)) (here unchanged))

      at : (i : ℕ) → i < length g.slots → IsFalse (is_changed changes i) → AreImplied p g changes (rest_behind before s) (rest_behind after s) → SlotImplies p.rows.table (declared_at g i) (known_in before i) (known_in after i)
      at i lt unchanged rest = elim (cases_eq i s) [
        | inl same ↦
            subst (λ (k : ℕ). IsFalse (is_changed changes k) → SlotImplies p.rows.table (declared_at g k) (known_in before k) (known_in after k)) (sym same) at_slot unchanged
        | inr apart ↦
            subst (λ (k : Known). SlotImplies p.rows.table (declared_at g i) k (known_in after i)) (known_rest before s i apart)
            (subst (λ (k : Known). SlotImplies p.rows.table (declared_at g i) (known_in (rest_behind before s) i) k) (known_rest after s i apart) (rest.each i lt unchanged))
      ]

-- the walk is over where both lists are
pub walk_ends : (p : Program) (g : Function) (changes : List Change) (all_before all_after before after : List SlotFact) → RowLaws p.rows.table → least_slot before after ≡ None → Walks p g changes all_before all_after before after → AreImplied p g changes all_before all_after
walk_ends p g changes all_before all_after [] [] laws e walks = walks.shows (record { each = λ i lt unchanged. unlisted_implies p.rows.table laws (declared_at g i) })
walk_ends p g changes all_before all_after [] (y ∷ ys) laws e walks = absurd cc
walk_ends p g changes all_before all_after (x ∷ xs) [] laws e walks = absurd cc
walk_ends p g changes all_before all_after (x ∷ xs) (y ∷ ys) laws e walks = by (nat_le x.slot.0 y.slot.0) e
  where
    by : (b : Bool) → cond b (Some x.slot.0) (Some y.slot.0) ≡ None → AreImplied p g changes all_before all_after
    by true e = absurd cc
    by false e = absurd cc

-- the slot of the walk is one of the function
pub least_in : (g : Function) (before after : List SlotFact) (s : ℕ) → All (λ (fact : SlotFact). IsSlot g fact.slot) before → All (λ (fact : SlotFact). IsSlot g fact.slot) after → least_slot before after ≡ Some s → s < length g.slots
least_in g [] [] s b a e = absurd cc
least_in g [] (y ∷ ys) s b a e = let same = same_some y.slot.0 s e in let h : y.slot.0 < length g.slots = a 0 y (omega arith) in omega arith
least_in g (x ∷ xs) [] s b a e = let same = same_some x.slot.0 s e in let h : x.slot.0 < length g.slots = b 0 x (omega arith) in omega arith
least_in g (x ∷ xs) (y ∷ ys) s b a e = by (nat_le x.slot.0 y.slot.0) e
  where
    by : (t : Bool) → cond t (Some x.slot.0) (Some y.slot.0) ≡ Some s → s < length g.slots
    by true e = let same = same_some x.slot.0 s e in let h : x.slot.0 < length g.slots = b 0 x (omega arith) in omega arith
    by false e = let same = same_some y.slot.0 s e in let h : y.slot.0 < length g.slots = a 0 y (omega arith) in omega arith

-- no change is one of a slot that isn't changed
pub not_changed : (p : Program) (g : Function) (f : PointFacts) (changes : List Change) (i : ℕ) (known : Known) → IsFalse (is_changed changes i) → changes_to p g f changes i known ≡ known
not_changed p g f [] i known unchanged = refl
not_changed p g f (c ∷ cs) i known unchanged = by (nat_eq c.slot.0 i) (not_changed p g f cs i known) unchanged
  where
    by : (b : Bool) → (is_changed cs i ≡ false → changes_to p g f cs i known ≡ known) → (b || list_any (λ (d : Change). nat_eq d.slot.0 i) cs) ≡ false → changes_to p g f cs i (cond b (changed p g f c.how known) known) ≡ known
    by true others h = absurd cc
    by false others h = others h

-- a slot that is changed is that of a change
which_change : (changes : List Change) (i : ℕ) (P : ℕ → Type 0) → All (λ (c : Change). P c.slot.0) changes → IsTrue (is_changed changes i) → P i
which_change [] i P all h = absurd cc
which_change (c ∷ cs) i P all h = by (nat_eq c.slot.0 i) refl (which_change cs i P (λ k d lt. all (suc k) d (omega arith))) h
  where
    by : (b : Bool) → nat_eq c.slot.0 i ≡ b → (is_changed cs i ≡ true → P i) → (b || list_any (λ (d : Change). nat_eq d.slot.0 i) cs) ≡ true → P i
    by true is others h = let same : c.slot.0 ≡ i = grind (arith, nat_tests) in subst P same (all 0 c (omega arith))
    by false is others h = others h

-- both together show that the way leads on
pub leads_on : (p : Program) (g : Function) (f : PointFacts) (way : WayShape) (after : PointFacts) → after ≡ facts_at p way.next.0 → IsTrue after.reachable → AreImplied p g way.changes f.listed after.listed → AreChangedImplied p g f way.changes after → Leads p g f way
leads_on p g f way after at reached listed changes =
    subst (λ (a : PointFacts). IsTrue a.reachable → ((i : ℕ) → i < length g.slots → SlotImplies p.rows.table (declared_at g i) (known_on p g f way.changes i) (known_of a i)) → Leads p g f way) (sym at)
    (λ r s. record { reachable = r; slots = s }) reached
    (λ i lt. by i lt (is_changed way.changes i) refl)
  where
    by : (i : ℕ) → i < length g.slots → (b : Bool) → is_changed way.changes i ≡ b → SlotImplies p.rows.table (declared_at g i) (known_on p g f way.changes i) (known_of after i)
    by i lt true is = which_change way.changes i (λ (k : ℕ). SlotImplies p.rows.table (declared_at g k) (known_on p g f way.changes k) (known_of after k)) changes.each is
    by i lt false is = subst (λ (k : Known). SlotImplies p.rows.table (declared_at g i) k (known_of after i)) (sym (not_changed p g f way.changes i (known_of f i) is)) (listed.each i lt is)

-- the same by lists that are equal to those
pub leads_from : (p : Program) (g : Function) (f : PointFacts) (way : WayShape) (after : PointFacts) (cs more : List Change) (before listed : List SlotFact) → after ≡ facts_at p way.next.0 → IsTrue after.reachable → cs ≡ way.changes → more ≡ way.changes → before ≡ f.listed → listed ≡ after.listed → AreImplied p g cs before listed → AreChangedImplied p g f more after → Leads p g f way
leads_from p g f way after cs more before listed at reached same_cs same_more same_before same_listed implied changes =
    leads_on p g f way after at reached
    (subst (λ (l : List SlotFact). AreImplied p g way.changes l after.listed) same_before
    (subst (λ (l : List SlotFact). AreImplied p g way.changes before l) same_listed
    (subst (λ (l : List Change). AreImplied p g l before listed) same_cs implied)))
    (subst (λ (l : List Change). AreChangedImplied p g f l after) same_more changes)
