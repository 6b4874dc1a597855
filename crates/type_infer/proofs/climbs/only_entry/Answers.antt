use Rattle.std.proofs.Common.{◌≡◌, ℕ, zero, suc, ◌+◌, ◌<◌, Bool, true, Bor, Option, List, ◌∷◌, length, get_or, filter, refl, sym, ◌∙◌, subst, arith}
use Rattle.std.specs.Prelude.{Contains, All, MatchOption}
use Rattle.std.proofs.lemmas.List.Elements.{All-contains}
use Rattle.dart_types.specs.Same.{same_class}
use Rattle.dart_types.specs.Superinterfaces.{interface_with}
use Rattle.dart_types.specs.declared.superinterfaces.Superinterface.{Superinterface}
use Rattle.type_infer.specs.Above.{IsOnlyEntry}
use Rattle.type_infer.proofs.General.{contains_passed, passed_contains, all_next, all_done, granted, refused}
use Rattle.type_infer.proofs.climbs.only_entry.Goals as goal

module _ {X : Type 0} where
  -- what a list holds is its first or one of the rest
  first_or_rest : (P : X → Type 0) (x : X) (xs : List X) → P x → All P xs → (y : X) → Contains (x ∷ xs) y → P y
  first_or_rest P x xs p all y k = at k.0 (omega (arith, k.1)) k.2
    where
      at : (i : ℕ) → i < length xs + 1 → get_or (x ∷ xs) i y ≡ y → P y
      at zero lt e = subst P e p
      at (suc i) lt e = All-contains P xs y all (i, omega (arith, lt), e)

  none_in : (xs : List X) (y : X) → length xs ≡ 0 → Contains xs y → ⊥
  none_in xs y e k = absurd (omega (arith, e, k.1))

-- an entry of the class is among those of it
among : (of : Superinterface → Bool) (list found : List Superinterface) (s : Superinterface) → found ≡ filter of list → Contains list s → of s ≡ true → Contains found s
among of list found s is k h = subst (λ (items : List Superinterface). Contains items s) (sym is) (passed_contains of list s k h)

-- and those of it are entries of the class
of_list : (of : Superinterface → Bool) (list found : List Superinterface) (s : Superinterface) → found ≡ filter of list → Contains found s → Contains list s × (of s ≡ true)
of_list of list found s is k = contains_passed of list s (subst (λ (items : List Superinterface). Contains items s) is k)

-- the first of them is one, and so is each of the others
the_first : (found others : List Superinterface) (first : Superinterface) → found ≡ first ∷ others → Contains found first
the_first found others first e = subst (λ (items : List Superinterface). Contains items first) (sym e) (0, omega arith, refl)

one_more : (found others : List Superinterface) (first s : Superinterface) → found ≡ first ∷ others → (i : ℕ) → i < length others → get_or others i s ≡ s → Contains found s
one_more found others first s e i lt is = subst (λ (items : List Superinterface). Contains items s) (sym e) (suc i, omega (arith, lt), is)

pub returns-in_err-first : goal.returns-in_err-first
returns-in_err-first c =
    let of = λ (s : Superinterface). same_class s.class c.args.class in
    let list = c.args.superinterfaces.now in
    let found = c.superinterfaces_of_class-of_class.result.now in
    let not : (s : Superinterface) → IsOnlyEntry list c.args.class c.args.arguments s → ⊥ =
    λ s h. none_in found s c.in_err-first.ensures.cases (among of list found s c.superinterfaces_of_class-of_class.ensures h.listed h.of_class) in
    subst (λ (o : Option (Bor Superinterface)). MatchOption o ((s : Superinterface) → IsOnlyEntry list c.args.class c.args.arguments s → ⊥) (λ s. IsOnlyEntry list c.args.class c.args.arguments s.now)) (sym c.from_residual.ensures) not

pub loop-other-init : goal.loop-other-init
loop-other-init c = λ k o lt. absurd (omega (arith, lt))

pub returns-then-not-is_same_with : goal.returns-then-not-is_same_with
returns-then-not-is_same_with c =
    let of = λ (s : Superinterface). same_class s.class c.args.class in
    let list = c.args.superinterfaces.now in
    let found = c.superinterfaces_of_class-of_class.result.now in
    let first = c.in_ok-first.first.now in
    let others = c.in_ok-first.others.now in
    let other = c.other-item.result in
    let is = c.in_ok-first.ensures.cases.0 in
    let differs = refused c.is_same_with.ensures c.if-not-is_same_with.true in
    let one = of_list of list found first c.superinterfaces_of_class-of_class.ensures (the_first found others first is) in
    let two = of_list of list found other c.superinterfaces_of_class-of_class.ensures (one_more found others first other is c.loop-other.other-index c.loop-other-test.true (sym c.other-item.is)) in
    λ s h. differs (h.only other two.0 two.1 ∙ sym (h.only first one.0 one.1))

pub loop-other-preserved : goal.loop-other-preserved
loop-other-preserved c =
    let first = c.in_ok-first.first.now in
    let same = λ (o : Superinterface). interface_with c.args.arguments o ≡ interface_with c.args.arguments first in
    all_next same c.in_ok-first.others.now c.loop-other.other-index c.other-item.result c.loop-other-test.true c.other-item.is c.loop-other.invariant (granted c.is_same_with.ensures c.if-not-is_same_with.false)

pub returns : goal.returns
returns c =
    let of = λ (s : Superinterface). same_class s.class c.args.class in
    let list = c.args.superinterfaces.now in
    let found = c.superinterfaces_of_class-of_class.result.now in
    let first = c.in_ok-first.first.now in
    let others = c.in_ok-first.others.now in
    let is = c.in_ok-first.ensures.cases.0 in
    let same = λ (o : Superinterface). interface_with c.args.arguments o ≡ interface_with c.args.arguments first in
    let passed : All same others = all_done same others c.loop-other.other-index c.loop-other-test.false c.loop-other.invariant in
    let one = of_list of list found first c.superinterfaces_of_class-of_class.ensures (the_first found others first is) in
    record {
      listed = one.0;
      of_class = one.1;
      only = λ o k h. first_or_rest same first others refl passed o (subst (λ (items : List Superinterface). Contains items o) is (among of list found o c.superinterfaces_of_class-of_class.ensures k h));
    }
