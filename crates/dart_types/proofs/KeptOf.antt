-- The superinterfaces that are computed are those that a class keeps.
use Rattle.std.proofs.Common.{◌≡◌, ℕ, zero, suc, ◌+◌, ◌<◌, ◌++◌, List, [], ◌∷◌, map, filter, Option, None, Some, refl, sym, subst, arith, inl, inr}
use Rattle.std.specs.Prelude.{Contains}
use Rattle.std.specs.Option.{option_map_or}
use Rattle.std.proofs.lemmas.List.Elements.{Contains-append_left, Contains-append_right, Contains-append_cases}
use Rattle.dart_types.specs.Ty.{Ty, Types, invalid, never, void, null, interface, function, variable, promoted, nullable}
use Rattle.dart_types.specs.Sizes.{size_of}
use Rattle.dart_types.specs.Normal.{normal}
use Rattle.dart_types.specs.Substitution.{put, by_params}
use Rattle.dart_types.specs.Tables.{Table, class_of, depth_of}
use Rattle.dart_types.specs.WellFormed.{IsWellFormed}
use Rattle.dart_types.specs.Superinterfaces.{Inherits, supertype, handed_on, Keeps}
use Rattle.dart_types.specs.Kept.{is_within_limit, handed_by, inherited_by, kept_within, kept_of}
use Rattle.dart_types.specs.declared.ids.ClassId.{ClassId}
use Rattle.dart_types.specs.declared.class_rows.ClassRow.{ClassRow}
use Rattle.dart_types.specs.declared.refusal.TheConstants.{NODE_LIMIT}
use Rattle.dart_types.proofs.Formed.{super_depth}
use Rattle.dart_types.proofs.Lists.{contains_passed, passed_contains, Contains-map, from_map, cons_cases, here_first, behind_first}
use Rattle.dart_types.proofs.SameIds.{le_from_test, le_test}

-- an empty list has no element
no_element : {X A : Type 0} (x : X) → Contains [] x → A
no_element x i = absurd (omega (arith, i.1))

module _ (table : Table) where
  -- what is computed is kept
  module _ (kept : ClassId → List Ty) (sound : (d : ClassId) (w : Ty) → Contains (kept d) w → Keeps table d w) (c : ClassId) (row : ClassRow) (r : class_of table c ≡ Some row) where
    handed_sound : (u v : Ty) → Contains row.supers u → Contains (handed_by table kept u) v → Inherits table c v
    handed_sound invalid v i h = no_element v h
    handed_sound never v i h = no_element v h
    handed_sound void v i h = no_element v h
    handed_sound null v i h = no_element v h
    handed_sound (interface d ts) v i h = at (class_of table d) refl h
      where
        at : (o : Option ClassRow) → class_of table d ≡ o → Contains (option_map_or (λ above. map (put (by_params above.params ts)) (kept d)) o []) v → Inherits table c v
        at None e k = no_element v k
        at (Some above) e k =
            let q = from_map (put (by_params above.params ts)) (kept d) v k in
            let low = sound d q.0 q.1 in
            subst (λ (x : Ty). Inherits table c x) q.2 (handed_on row above r i e low.0 low.1)
    handed_sound (function f o n e) v i h = no_element v h
    handed_sound (variable x) v i h = no_element v h
    handed_sound (promoted x t) v i h = no_element v h
    handed_sound (nullable t) v i h = no_element v h

    pub inherited_sound : (vs : List Ty) → ((u : Ty) → Contains vs u → Contains row.supers u) → (v : Ty) → Contains (inherited_by table kept vs) v → Inherits table c v
    inherited_sound [] within v h = no_element v h
    inherited_sound (u ∷ us) within v h =
        elim (cons_cases u (handed_by table kept u ++ inherited_by table kept us) v h) as (λ _. Inherits table c v) [
          | inl e ↦ subst (λ (x : Ty). Inherits table c x) e (supertype row r (within u (here_first u us)))
          | inr k ↦ elim (Contains-append_cases (handed_by table kept u) (inherited_by table kept us) v k) as (λ _. Inherits table c v) [
            | inl g ↦ handed_sound u v (within u (here_first u us)) g
            | inr g ↦ inherited_sound us (λ w i. within w (behind_first u us w i)) v g
          ]
        ]

  pub kept_sound : (n : ℕ) (c : ClassId) (v : Ty) → Contains (kept_within table n c) v → Keeps table c v
  kept_sound zero c v i = no_element v i
  kept_sound (suc n) c v i = at (λ d w j. kept_sound n d w j) (class_of table c) refl i
    where
      at : ((d : ClassId) (w : Ty) → Contains (kept_within table n d) w → Keeps table d w) → (o : Option ClassRow) → class_of table c ≡ o → Contains (option_map_or (λ row. filter is_within_limit (inherited_by table (kept_within table n) row.supers)) o []) v → Keeps table c v
      at sound None e k = no_element v k
      at sound (Some row) e k =
          let p = contains_passed is_within_limit (inherited_by table (kept_within table n) row.supers) v k in
          (inherited_sound (kept_within table n) sound c row e row.supers (λ u j. j) v p.0, le_from_test (size_of (normal v)) NODE_LIMIT p.1)

  -- what stands among direct supertypes, or is handed on by one
  first_found : (kept : ClassId → List Ty) (vs : List Ty) (v : Ty) → Contains vs v → Contains (inherited_by table kept vs) v
  first_found kept [] v i = no_element v i
  first_found kept (u ∷ us) v i =
      elim (cons_cases u us v i) as (λ _. Contains (inherited_by table kept (u ∷ us)) v) [
        | inl e ↦ subst (λ (x : Ty). Contains (inherited_by table kept (u ∷ us)) x) e (here_first u (handed_by table kept u ++ inherited_by table kept us))
        | inr k ↦ behind_first u (handed_by table kept u ++ inherited_by table kept us) v (Contains-append_right (handed_by table kept u) (inherited_by table kept us) v (first_found kept us v k))
      ]

  handed_found : (kept : ClassId → List Ty) (vs : List Ty) (w v : Ty) → Contains vs w → Contains (handed_by table kept w) v → Contains (inherited_by table kept vs) v
  handed_found kept [] w v i h = no_element w i
  handed_found kept (u ∷ us) w v i h =
      elim (cons_cases u us w i) as (λ _. Contains (inherited_by table kept (u ∷ us)) v) [
        | inl e ↦ behind_first u (handed_by table kept u ++ inherited_by table kept us) v (Contains-append_left (handed_by table kept u) (inherited_by table kept us) v (subst (λ (x : Ty). Contains (handed_by table kept x) v) (sym e) h))
        | inr k ↦ behind_first u (handed_by table kept u ++ inherited_by table kept us) v (Contains-append_right (handed_by table kept u) (inherited_by table kept us) v (handed_found kept us w v k h))
      ]

  handed_in : (kept : ClassId → List Ty) (d : ClassId) (ts : Types) (above : ClassRow) (w : Ty) → class_of table d ≡ Some above → Contains (kept d) w → Contains (handed_by table kept (interface d ts)) (put (by_params above.params ts) w)
  handed_in kept d ts above w r i =
      subst (λ (o : Option ClassRow). Contains (option_map_or (λ a. map (put (by_params a.params ts)) (kept d)) o []) (put (by_params above.params ts) w)) (sym r)
      (Contains-map (put (by_params above.params ts)) (kept d) w i)

  -- what is kept is computed: as many steps up as the class is far from Object are enough
  module _ (wf : IsWellFormed table) where
    pub inherits_found : (n : ℕ) (c : ClassId) → ((d : ClassId) (w : Ty) → depth_of table d < depth_of table c → Keeps table d w → Contains (kept_within table n d) w) → {v : Ty} → Inherits table c v → (row : ClassRow) × (class_of table c ≡ Some row) × Contains (inherited_by table (kept_within table n) row.supers) v
    inherits_found n c go {v} (supertype row r i) = (row, r, first_found (kept_within table n) row.supers v i)
    inherits_found n c go (handed_on {d = d} {ts = ts} {v = w} row above r i r' h small) =
        let low = go d w (omega (arith, super_depth table wf c row (interface d ts) r i)) (h, small) in
        (row, r, handed_found (kept_within table n) row.supers (interface d ts) (put (by_params above.params ts) w) i (handed_in (kept_within table n) d ts above w r' low))

    pub kept_complete : (n : ℕ) (c : ClassId) (v : Ty) → depth_of table c < n → Keeps table c v → Contains (kept_within table n c) v
    kept_complete zero c v lt k = absurd (omega arith)
    kept_complete (suc n) c v lt k =
        let q = inherits_found n c (λ d w less h. kept_complete n d w (omega (arith, less, lt)) h) k.0 in
        subst (λ (o : Option ClassRow). Contains (option_map_or (λ row. filter is_within_limit (inherited_by table (kept_within table n) row.supers)) o []) v) (sym q.1)
        (passed_contains is_within_limit (inherited_by table (kept_within table n) q.0.supers) v q.2 (le_test (size_of (normal v)) NODE_LIMIT k.1))

    pub kept_found : (c : ClassId) (v : Ty) → Keeps table c v → Contains (kept_of table c) v
    kept_found c v k = kept_complete (depth_of table c + 1) c v (omega arith) k
