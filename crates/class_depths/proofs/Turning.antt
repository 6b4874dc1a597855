-- What is gone through of direct supertypes, and where the way leads from there.
use Rattle.std.proofs.Common.{◌≡◌, ℕ, suc, ◌+◌, ◌<◌, ◌≤◌, max, true, List, [], ◌∷◌, length, drop, get_or, Contains, Option, Some, None, refl, sym, ap, ◌∙◌, subst, arith, drop-cons, add-one}
use Rattle.std.specs.Prelude.{AllPairs}
use Rattle.std.proofs.lemmas.List.{drop_all}
use Rattle.dart_types.specs.Ty.{Ty}
use Rattle.dart_types.specs.Tables.{Table}
use Rattle.dart_types.specs.WellFormed.{class_before}
use Rattle.class_depths.specs.Marked.{IsDepthAt, IsDepthOf, IsDepthOver, over_none, over_below, over_declared, class_at, head_in, mark_at}
use Rattle.class_depths.specs.Climbing.{IsPartly, LeadsTo}
use Rattle.class_depths.specs.declared.classes.DeclaredClass.{DeclaredClass}
use Rattle.class_depths.specs.declared.marks.Mark.{Mark}
use Rattle.class_depths.specs.declared.marks.Step.{Step}
use Rattle.class_depths.proofs.Finding.{head_named, stands_at}

module _ (below : Table) (declared : List DeclaredClass) where
  -- one more direct supertype
  one_more : (v : Ty) (vs : List Ty) (k n : ℕ) (o : Option DeclaredClass) → head_in declared v ≡ o → IsDepthOf below declared v o k → IsDepthOver below declared vs n → IsDepthOver below declared (v ∷ vs) (max (k + 1) n)
  one_more v vs k n None e is rest = subst (λ (m : ℕ). IsDepthOver below declared (v ∷ vs) (max (m + 1) n)) (sym is) (over_below e rest)
  one_more v vs k n (Some d) e is rest = over_declared e is rest

  module _ (p i depth : ℕ) where
    abbrev supers : List Ty
    supers = (class_at declared p).supers

    -- it is gone through
    pub next_partly : (v : Ty) (k : ℕ) → i < length supers → v ≡ get_or supers i v → IsDepthOf below declared v (head_in declared v) k → IsPartly below declared (record { place = p; gone = i; depth = depth }) → IsPartly below declared (record { place = p; gone = i + 1; depth = max depth (k + 1) })
    next_partly v k lt is known partly n rest =
        let left : drop i supers ≡ v ∷ drop (i + 1) supers = drop-cons supers i v lt ∙ (ap (λ (w : Ty). w ∷ drop (suc i) supers) (sym is) ∙ ap (λ (m : ℕ). v ∷ drop m supers) (sym (add-one i))) in
        let more : IsDepthOver below declared (v ∷ drop (i + 1) supers) (max (k + 1) n) = one_more v (drop (i + 1) supers) k n (head_in declared v) refl known rest in
        let whole = partly (max (k + 1) n) (subst (λ (vs : List Ty). IsDepthOver below declared vs (max (k + 1) n)) (sym left) more) in
        let same : max depth (max (k + 1) n) ≡ max (max depth (k + 1)) n = omega arith in
        subst (λ (m : ℕ). IsDepthAt below declared p m) same whole

    -- all are
    pub all_gone : length supers ≤ i → IsPartly below declared (record { place = p; gone = i; depth = depth }) → IsDepthAt below declared p depth
    all_gone end partly =
        let none : [] ≡ drop i supers = sym (drop_all i supers end) in
        let whole = partly 0 (subst (λ (vs : List Ty). IsDepthOver below declared vs 0) none over_none) in
        let same : max depth 0 ≡ depth = omega arith in
        subst (λ (m : ℕ). IsDepthAt below declared p m) same whole

  -- the way leads to the class of a direct supertype
  pub leads : AllPairs (λ (a b : DeclaredClass). class_before a.id b.id ≡ true) declared → (marks : List Mark) (s : Step) (q : ℕ) (mark : Mark) (v : Ty) → s.place < length declared → Contains (class_at declared s.place).supers v → q < length declared → head_in declared v ≡ Some (class_at declared q) → mark_at marks q ≡ mark → LeadsTo declared marks s q mark
  leads order marks s q mark v within has there named marked =
      let head = head_named declared v (class_at declared q) named in
      record {
        place = there;
        marked = marked;
        over = record {
          declaration = class_at declared s.place;
          found = stands_at declared order s.place within;
          args = head.0;
          supertype = subst (λ (w : Ty). Contains (class_at declared s.place).supers w) head.1 has;
        };
      }
