-- How the only superinterface that is of another class is found and formed.
use Rattle.std.proofs.Common.{◌≡◌, ◌≤◌, true, List, length, Some, None, Ok, Err, refl, sym, ◌∙◌, ap, subst}
use Rattle.std.specs.Prelude.{Contains}
use Rattle.dart_types.specs.Ty.{Ty, Types, invalid, never, void, null, interface, function, variable, promoted, nullable, count, types_of}
use Rattle.dart_types.specs.Normal.{normal, normal_all}
use Rattle.dart_types.specs.Same.{same_class}
use Rattle.dart_types.specs.Sizes.{size_of}
use Rattle.dart_types.specs.Substitution.{put, put_all, by_params}
use Rattle.dart_types.specs.Superinterfaces.{AreSuperinterfaces, interface_of}
use Rattle.dart_types.specs.Tables.{Table, class_of}
use Rattle.dart_types.specs.WellFormed.{IsSupertype}
use Rattle.dart_types.specs.Formed.{Forms}
use Rattle.dart_types.specs.declared.class_rows.ClassRow.{ClassRow}
use Rattle.dart_types.specs.declared.ids.ClassId.{ClassId}
use Rattle.dart_types.specs.declared.ids.VarId.{VarId}
use Rattle.dart_types.specs.declared.refusal.TypeRefusal.{TypeRefusal}
use Rattle.dart_types.specs.declared.refusal.TypeRefusal.TheVariants.{TooLarge, Memory}
use Rattle.dart_types.specs.declared.refusal.TheConstants.{NODE_LIMIT}
use Rattle.dart_types.specs.declared.superinterfaces.Superinterface.{Superinterface}
use Rattle.dart_types.specs.Laws.{RowLaws}
use Rattle.type_bounds.specs.Common.{IsAbove}
use Rattle.type_infer.specs.Above.{FormsAbove, IsOnlyAbove}
use Rattle.type_infer.proofs.General.{equal_from_same_class, same_class-refl}

module _ (table : Table) (laws : RowLaws table) (c : ClassId) (ts : Types) (d : ClassId) where
  -- the class has no superinterface of the class d that is its only one
  abbrev pub NoneAbove : Type 0
  NoneAbove = (us : Types) → IsOnlyAbove table c ts d us → ⊥

  pub no_class : class_of table c ≡ None → NoneAbove
  no_class e us a = let k : None ≡ Some a.above.row = sym e ∙ a.above.row_is in cc

  module _ (row : ClassRow) (r : class_of table c ≡ Some row) where
    the_row : (p : ClassRow) → class_of table c ≡ Some p → p ≡ row
    the_row p e = let k : Some p ≡ Some row = sym e ∙ r in cc

    pub other_number : (count ts ≡ length row.params → ⊥) → NoneAbove
    other_number h us a = h (a.above.counted ∙ ap (λ (p : ClassRow). length p.params) (the_row a.above.row a.above.row_is))

    module _ (list : List Superinterface) (are : AreSuperinterfaces table c list) (params : List VarId) (own : params ≡ row.params) where
      abbrev σ : VarId → Ty
      σ = by_params params ts

      -- the type that an entry stands for where the class has these arguments
      abbrev pub Put : Superinterface → Ty
      Put s = normal (put σ (interface_of s))

      abbrev Args : Superinterface → Types
      Args s = normal_all (put_all σ (types_of s.args))

      -- an entry of the class d, and the only type that is of it
      abbrev pub Only : Superinterface → Type 0
      Only s = Contains list s × (same_class s.class d ≡ true) × ((o : Superinterface) → Contains list o → same_class o.class d ≡ true → Put o ≡ Put s)

      put_class : (s : Superinterface) → same_class s.class d ≡ true → Put s ≡ interface d (Args s)
      put_class s is = ap (λ (g : ClassId). interface g (Args s)) (equal_from_same_class s.class d is)

      -- a superinterface, with others put in, is of the class of its entry
      entry_class : (us : Types) (s : Superinterface) (v : Ty) → IsSupertype row.params v → interface d us ≡ normal (put σ v) → interface_of s ≡ normal v → s.class ≡ d
      entry_class us s invalid i e f = absurd i
      entry_class us s never i e f = absurd i
      entry_class us s void i e f = absurd i
      entry_class us s null i e f = absurd i
      entry_class us s (interface g vs) i e f =
          let a : d ≡ g = cc in
          let b : s.class ≡ g = cc in
          b ∙ sym a
      entry_class us s (function r' o n x) i e f = absurd i
      entry_class us s (variable x) i e f = absurd i
      entry_class us s (promoted x u) i e f = absurd i
      entry_class us s (nullable u) i e f = absurd i

      -- a superinterface of the class d is that of an entry
      entry_of : (us : Types) → IsAbove table c ts (interface d us) → (s : Superinterface) × Contains list s × (same_class s.class d ≡ true) × (Put s ≡ interface d us)
      entry_of us a =
          let entry = are.every a.over a.superinterface in
          let same_params : params ≡ a.row.params = own ∙ ap (λ (p : ClassRow). p.params) (sym (the_row a.row a.row_is)) in
          let is : interface d us ≡ normal (put σ a.over) = subst (λ (vs : List VarId). interface d us ≡ normal (put (by_params vs ts) a.over)) (sym same_params) a.is in
          let same : entry.0.class ≡ d = entry_class us entry.0 a.over (laws.superinterface_simple c row a.over r (laws.inherited c a.over a.superinterface.0)) is entry.2 in
          (entry.0, entry.1, subst (λ (k : ClassId). same_class k d ≡ true) (sym same) (same_class-refl d), ap (λ (u : Ty). normal (put σ u)) entry.2 ∙ laws.types.normal-put-normal σ a.over ∙ sym is)

      module _ (counted : count ts ≡ length params) where
        -- the type of an entry is a superinterface
        put_above : (s : Superinterface) → Contains list s → IsAbove table c ts (Put s)
        put_above s k =
            let q = are.no_other s k in
            record { row = row; row_is = r; counted = counted ∙ ap (λ (vs : List VarId). length vs) own; over = q.0; superinterface = q.1; is = ap (λ (u : Ty). normal (put σ u)) q.2 ∙ laws.types.normal-put-normal σ q.0 ∙ ap (λ (vs : List VarId). normal (put (by_params vs ts) q.0)) own }

        entry_above : (s : Superinterface) → Contains list s → same_class s.class d ≡ true → IsAbove table c ts (interface d (Args s))
        entry_above s k is = subst (λ (u : Ty). IsAbove table c ts u) (put_class s is) (put_above s k)

        pub none_only : ((s : Superinterface) → Only s → ⊥) → NoneAbove
        none_only not us a =
            let entry = entry_of us a.above in
            not entry.0 (entry.1, entry.2, λ o k is. put_class o is ∙ ap (interface d) (a.only (Args o) (entry_above o k is)) ∙ sym entry.3)

        module _ (s : Superinterface) (only : Only s) where
          is_only : IsOnlyAbove table c ts d (Args s)
          is_only = record {
            above = entry_above s only.0 only.1;
            only = λ vs a.
                let entry = entry_of vs a in
                let same : interface d vs ≡ interface d (Args s) = sym entry.3 ∙ only.2 entry.0 entry.1 entry.2 ∙ put_class s only.1 in
                cc;
          }

          pub formed_above : (t : Ty) → (t ≡ Put s) × (size_of (Put s) ≤ NODE_LIMIT) → FormsAbove table c ts d (Ok (Some t))
          formed_above t h = subst (λ (u : Ty). FormsAbove table c ts d (Ok (Some u))) (sym (h.0 ∙ put_class s only.1)) (refl, is_only, h.1)

          pub refused_above : (e : TypeRefusal) → Forms (Err e) (Put s) → FormsAbove table c ts d (Err e)
          refused_above (TooLarge nodes) h = (Args s, is_only, h.0, h.1)
          refused_above Memory h = tt
