-- The steps of the test of subtyping through the named parameters of two function types.
use Rattle.std.proofs.Common.{◌≡◌, ℕ, ◌+◌, ◌<◌, ◌≤◌, true, false, IsTrue, List, length, drop, get_or, sym, ◌∙◌, ap, subst}
use Rattle.std.specs.Prelude.{◌↔◌}
use Rattle.std.proofs.Math.ListN.{length-map}
use Rattle.dart_types.specs.Ty.{Ty}
use Rattle.dart_types.specs.Named.{named_of, names_of, AreInOrder}
use Rattle.dart_types.specs.NamedSearch.{StandsFrom, IsNotFrom}
use Rattle.dart_types.specs.Substitution.{put, put_named}
use Rattle.dart_types.specs.Tables.{Table}
use Rattle.dart_types.specs.Sub.{Sub, SubNamed, HasNamed}
use Rattle.dart_types.specs.declared.types.NamedType.{NamedType}
use Rattle.dart_types.specs.declared.ids.VarId.{VarId}
use Rattle.dart_types.proofs.Names.{AllBefore, nowhere, name_at, same_place, before_past, has_at, place_of}
use Rattle.dart_types.proofs.Places.{names_end, names_step, names_at}
use Rattle.dart_types.proofs.Steps.{yes, no}

module _ (table : Table) (σ τ : VarId → Ty) (named own : List NamedType) (order : AreInOrder (names_of named)) (own_order : AreInOrder (names_of own)) where
  -- the parameters of the first list from a place on are subtypes of those of their names
  abbrev From : ℕ → Type 0
  From i = SubNamed table (put_named τ (named_of (drop i named))) (put_named σ (named_of own))

  abbrev Whole : Type 0
  Whole = SubNamed table (put_named τ (named_of named)) (put_named σ (named_of own))

  module _ (from i : ℕ) (d : NamedType) (lt : i < length named) where
    -- a name that isn't there
    pub name_missing : AllBefore own from named i → IsNotFrom (names_of own) from (get_or named i d).name → IsTrue false ↔ Whole
    name_missing before none =
        no (λ a.
        let s = names_at table τ named i d (put_named σ (named_of own)) a lt in
        let p = place_of σ own (get_or named i d).name s.0 s.1 d in
        nowhere named own order own_order from i d lt before none p.0 d p.1 p.2)

    module _ (at : ℕ) (o : NamedType) (stands : StandsFrom (names_of own) from (get_or named i d).name at) where
      pub name_within : at < length own
      name_within = rw (← length-map own (λ (n : NamedType). n.name)) stands.in_range

      same_name : (get_or own at o).name ≡ (get_or named i d).name
      same_name = name_at named own order own_order at o (get_or named i d).name name_within (stands.is_it o.name)

      -- a name whose types aren't in order
      pub name_refused : (Sub table (put τ (get_or named i d).ty) (put σ (get_or own at o).ty) → ⊥) → IsTrue false ↔ Whole
      name_refused h =
          no (λ a.
          let s = names_at table τ named i d (put_named σ (named_of own)) a lt in
          let p = place_of σ own (get_or named i d).name s.0 s.1 o in
          let here : p.0 ≡ at = same_place own named own_order order p.0 at o p.1 name_within (p.2 ∙ sym same_name) in
          h (subst (λ (u : Ty). Sub table (put τ (get_or named i d).ty) u) (sym p.3 ∙ ap (λ (n : ℕ). put σ (get_or own n o).ty) here) s.2))

      -- a name whose types are
      pub name_granted : Sub table (put τ (get_or named i d).ty) (put σ (get_or own at o).ty) → (From i → Whole) → From (i + 1) → Whole
      name_granted a go rest =
          go (names_step table τ named i d (put_named σ (named_of own)) (put σ (get_or own at o).ty) lt
          (subst (λ (m : List ℕ). HasNamed (put_named σ (named_of own)) m (put σ (get_or own at o).ty)) same_name (has_at σ own at o name_within))
          a rest)

      pub names_passed : AllBefore own (at + 1) named (i + 1)
      names_passed = before_past named own order own_order from i at d lt stands

  -- no name is left
  pub names_done : (i : ℕ) → length named ≤ i → (From i → Whole) → IsTrue true ↔ Whole
  names_done i le go = yes (go (names_end table τ named i (put_named σ (named_of own)) le))
