-- Declared classes that are found by id, and their rows.
use Rattle.std.proofs.Common.{◌≡◌, ℕ, ◌<◌, Bool, true, false, List, length, map, get_or, Contains, Option, Some, None, refl, sym, ap, ◌∙◌, subst}
use Rattle.std.specs.Prelude.{AllPairs, find}
use Rattle.std.specs.List.{AllWithin}
use Rattle.std.specs.Option.{option_map, option_or}
use Rattle.std.proofs.lemmas.List.{get_or_default}
use Rattle.std.proofs.lemmas.List.Folds.{find-append}
use Rattle.dart_types.specs.Ty.{Ty, Types, invalid, never, void, null, interface, function, variable, promoted, nullable}
use Rattle.dart_types.specs.Same.{same_class}
use Rattle.dart_types.specs.Tables.{Table, class_of}
use Rattle.dart_types.specs.WellFormed.{class_before}
use Rattle.dart_types.specs.declared.ids.ClassId.{ClassId}
use Rattle.dart_types.specs.declared.class_rows.ClassRow.{ClassRow}
use Rattle.dart_types.specs.declared.class_rows.VarRow.{VarRow}
use Rattle.class_depths.proofs.Ids.{equal_from_same_class, same_class-refl, find-map, found_in, from_mapped, find_at, before_other, not_true}
use Rattle.class_depths.specs.Over.{class_in}
use Rattle.class_depths.specs.Settled.{declared_of, over}
use Rattle.class_depths.specs.Marked.{class_at, head_in, no_class}
use Rattle.class_depths.specs.Climbing.{id_at}
use Rattle.class_depths.specs.declared.classes.DeclaredClass.{DeclaredClass}

module _ (declared : List DeclaredClass) where
  -- what is found has the id
  pub class_id : (c : ClassId) (d : DeclaredClass) → class_in declared c ≡ Some d → d.id ≡ c
  class_id c d e = equal_from_same_class d.id c (found_in (λ (x : DeclaredClass). same_class x.id c) declared d e).1

  -- an interface of a declared class has its id
  pub head_named : (v : Ty) (d : DeclaredClass) → head_in declared v ≡ Some d → (ts : Types) × (v ≡ interface d.id ts)
  head_named invalid d e = cc
  head_named never d e = cc
  head_named void d e = cc
  head_named null d e = cc
  head_named (interface c ts) d e = (ts, ap (λ (k : ClassId). interface k ts) (sym (class_id c d e)))
  head_named (function r o n t) d e = cc
  head_named (variable x) d e = cc
  head_named (promoted x t) d e = cc
  head_named (nullable t) d e = cc

  -- each class is found by its id, where the ids rise
  module _ (order : AllPairs (λ (a b : DeclaredClass). class_before a.id b.id ≡ true) declared) (p : ℕ) (within : p < length declared) where
    others_before : AllWithin (λ (x : DeclaredClass). same_class x.id (id_at declared p) ≡ false) declared 0 p
    others_before j d from to =
        let a = (get_or declared j d).id in
        let b = id_at declared p in
        let before : class_before a b ≡ true = subst (λ (x : DeclaredClass). class_before a x.id ≡ true) (get_or_default declared p d no_class within) (order j p d to within) in
        not_true _ (λ same. before_other a.lib.0 a.index b.lib.0 b.index before same)

    pub stands_at : class_in declared (id_at declared p) ≡ Some (class_at declared p)
    stands_at =
        find_at (λ (x : DeclaredClass). same_class x.id (id_at declared p)) declared p no_class within others_before (same_class-refl (id_at declared p))

none_mapped : {X Y : Type 0} (f : X → Y) (o : Option X) → option_map f o ≡ None → o ≡ None
none_mapped f None e = refl
none_mapped f (Some x) e = cc

module _ (below : Table) (vars : List VarRow) (declared : List DeclaredClass) (rows : List ClassRow) (same : map declared_of rows ≡ declared) (c : ClassId) where
  abbrev is_it : ClassRow → Bool
  is_it row = same_class row.id c

  among_rows : option_map declared_of (find is_it rows) ≡ class_in declared c
  among_rows =
      sym (find-map declared_of (λ (d : DeclaredClass). same_class d.id c) rows)
      ∙ ap (λ (ds : List DeclaredClass). class_in ds c) same

  in_both : class_of (over below vars rows) c ≡ option_or (find is_it rows) (class_of below c)
  in_both = find-append is_it rows below.classes

  -- the row of a declared class
  pub found_row : (d : DeclaredClass) → class_in declared c ≡ Some d → (row : ClassRow) × (class_of (over below vars rows) c ≡ Some row) × (declared_of row ≡ d) × Contains rows row
  found_row d e =
      let m = from_mapped declared_of (find is_it rows) d (among_rows ∙ e) in
      (m.0, in_both ∙ ap (λ (o : Option ClassRow). option_or o (class_of below c)) m.1, m.2, (found_in is_it rows m.0 m.1).0)

  -- another class has the row that it has below
  pub row_below : class_in declared c ≡ None → class_of (over below vars rows) c ≡ class_of below c
  row_below e =
      in_both ∙ ap (λ (o : Option ClassRow). option_or o (class_of below c)) (none_mapped declared_of (find is_it rows) (among_rows ∙ e))
