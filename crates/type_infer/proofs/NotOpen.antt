-- The mark of an open parameter stands in no type over well-formed rows.
use Rattle.std.proofs.Common.{◌≡◌, Bool, true, false, Option, Some, None, refl, ◌∙◌, ap}
use Rattle.std.specs.Prelude.{◌||◌, IsSome, find}
use Rattle.std.proofs.lemmas.List.Elements.{All-contains}
use Rattle.dart_types.specs.Ty.{Ty, Types, Named, invalid, never, void, null, interface, function, variable, promoted, nullable, no_more, more, no_named, more_named}
use Rattle.dart_types.specs.Same.{same_var}
use Rattle.dart_types.specs.Tables.{Table, bound_of}
use Rattle.dart_types.specs.WellFormed.{IsOver, AreOver, AreOverNamed, IsFormedVar, IsWellFormed}
use Rattle.dart_types.specs.declared.ids.VarId.{VarId}
use Rattle.dart_types.specs.declared.class_rows.VarRow.{VarRow}
use Rattle.type_infer.specs.Open.{is_open, are_open, are_open_named}
use Rattle.type_infer.specs.declared.contexts.TheConstants.{OPEN_PARAMETER}
use Rattle.type_infer.proofs.General.{equal_from_same_var, found_in, from_mapped}

neither : (a b : Bool) → a ≡ false → b ≡ false → (a || b) ≡ false
neither a b e k = rw e k

not_true : (b : Bool) → (b ≡ true → ⊥) → b ≡ false
not_true true h = absurd (h refl)
not_true false h = refl

module _ (table : Table) (wf : IsWellFormed table) where
  not_the_mark : (x : VarId) → IsSome (bound_of table x) → same_var x OPEN_PARAMETER ≡ false
  not_the_mark x some = not_true (same_var x OPEN_PARAMETER) (λ e. at (bound_of table x) refl some (ap (λ (y : VarId). y.lib) (equal_from_same_var x OPEN_PARAMETER e)))
    where
      at : (o : Option Ty) → bound_of table x ≡ o → IsSome o → x.lib ≡ OPEN_PARAMETER.lib → ⊥
      at None is none e = cc
      at (Some b) is some e =
          let m = from_mapped (λ (row : VarRow). row.bound) (find (λ (row : VarRow). same_var row.var x) table.vars) b is in
          let g = found_in (λ (row : VarRow). same_var row.var x) table.vars m.0 m.1 in
          let f = All-contains (IsFormedVar table) table.vars m.0 wf.vars g.0 in
          let same : m.0.var ≡ x = equal_from_same_var m.0.var x g.1 in
          f.declared (ap (λ (y : VarId). y.lib) same ∙ e)

  mutual
    pub not_open : (t : Ty) → IsOver table t → is_open t ≡ false
    not_open invalid h = refl
    not_open never h = refl
    not_open void h = refl
    not_open null h = refl
    not_open (interface c ts) h = not_open_types ts h.1
    not_open (function r o n e) h = neither _ _ (not_open_types r h.0) (neither _ _ (not_open_types o h.1) (neither _ _ (not_open_named n h.2) (not_open e h.3)))
    not_open (variable x) h = not_the_mark x h
    not_open (promoted x t) h = not_open t h.1
    not_open (nullable t) h = not_open t h

    not_open_types : (ts : Types) → AreOver table ts → are_open ts ≡ false
    not_open_types no_more h = refl
    not_open_types (more t ts) h = neither _ _ (not_open t h.0) (not_open_types ts h.1)

    not_open_named : (ts : Named) → AreOverNamed table ts → are_open_named ts ≡ false
    not_open_named no_named h = refl
    not_open_named (more_named n r t ts) h = neither _ _ (not_open t h.0) (not_open_named ts h.1)
