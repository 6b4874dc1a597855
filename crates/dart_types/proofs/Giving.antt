-- What one direct supertype gives a class, from the superinterfaces that are known.
use Rattle.std.specs.declared.rc.Rc.{Rc}
use Rattle.std.proofs.Common.{Global, ◌≡◌, ◌≤◌, List, [], Some, None, refl, sym, ◌∙◌, ap, subst, arith, inl, inr}
use Rattle.std.specs.Prelude.{◌⊎◌, Contains, find}
use Rattle.std.specs.Option.{option_map}
use Rattle.dart_types.specs.Ty.{Ty, Types, interface}
use Rattle.dart_types.specs.Same.{same_class}
use Rattle.dart_types.specs.Sizes.{size_of}
use Rattle.dart_types.specs.Substitution.{put, by_params}
use Rattle.dart_types.specs.Normal.{normal}
use Rattle.dart_types.specs.Tables.{Table, class_of}
use Rattle.dart_types.specs.WellFormed.{IsSupertype, IsWellFormed}
use Rattle.dart_types.specs.Entries.{table_of}
use Rattle.dart_types.specs.Superinterfaces.{Inherits, supertype, handed_on, Keeps, AreSuperinterfaces, interface_of}
use Rattle.dart_types.specs.Replacements.{replaced}
use Rattle.dart_types.specs.Gathering.{Adds, IsAbove, itself, beyond, IsGivenBy, IsGiven, IsPut}
use Rattle.dart_types.specs.Node.{type_of}
use Rattle.dart_types.specs.declared.ids.ClassId.{ClassId}
use Rattle.dart_types.specs.declared.ids.VarId.{VarId}
use Rattle.dart_types.specs.declared.types.TypeList.{TypeList}
use Rattle.dart_types.specs.declared.types.TypeNode.{TypeNode}
use Rattle.dart_types.specs.declared.types.TypeNode.TheVariants.{Invalid, Never, Void, Null, Interface, Function, Var, Promoted, Nullable}
use Rattle.dart_types.specs.declared.class_rows.ClassRow.{ClassRow}
use Rattle.dart_types.specs.declared.class_rows.VarRow.{VarRow}
use Rattle.dart_types.specs.declared.entries.ClassEntry.{ClassEntry}
use Rattle.dart_types.specs.declared.superinterfaces.Superinterface.{Superinterface}
use Rattle.dart_types.specs.declared.refusal.TheConstants.{NODE_LIMIT}
use Rattle.dart_types.proofs.EntryLemmas.{find-map}
use Rattle.dart_types.proofs.NormalPut.{normal-put-normal}
use Rattle.dart_types.proofs.Replacing.{replaced_nothing}

-- a direct supertype has the form of an interface
pub must_be_interface : (params : List VarId) (node : TypeNode) → IsSupertype params (type_of node) → ((class : ClassId) (args : Rc TypeList Global) → node ≡ Interface class args → ⊥) → ⊥
must_be_interface params Invalid i other = i
must_be_interface params Never i other = i
must_be_interface params Void i other = i
must_be_interface params Null i other = i
must_be_interface params (Interface class args) i other = other class args refl
must_be_interface params (Function f) i other = i
must_be_interface params (Var x) i other = i
must_be_interface params (Promoted x t) i other = i
must_be_interface params (Nullable t) i other = i

module _ (table : Table) (class : ClassId) (ts : Types) where
  abbrev pub IsItself : Ty → Type 0
  IsItself t = (t ≡ replaced [] (interface class ts)) × (size_of t ≤ NODE_LIMIT)

  -- a class without a row gives itself alone
  pub gives_itself : class_of table class ≡ None → (t : Ty) → IsGivenBy table (interface class ts) t → IsItself t
  gives_itself none t g = at g.0 g.1 g.2
    where
      at : (w : Ty) → IsAbove table (interface class ts) w → t ≡ normal w → IsItself t
      at w itself e = (e ∙ sym (replaced_nothing (interface class ts)), g.3)
      at w (beyond r h) e = cc

  pub itself_given : (t : Ty) → IsItself t → IsGivenBy table (interface class ts) t
  itself_given t e = (interface class ts, itself, e.0 ∙ replaced_nothing (interface class ts), e.1)

  module _ (row : ClassRow) (r : class_of table class ≡ Some row) (list : List Superinterface) (known : AreSuperinterfaces table class list) where
    -- any other gives what it keeps with the arguments put in
    pub gives_split : (t : Ty) → IsGivenBy table (interface class ts) t → IsItself t ⊎ IsPut row.params ts list t
    gives_split t g = at g.0 g.1 g.2
      where
        at : (w : Ty) → IsAbove table (interface class ts) w → t ≡ normal w → IsItself t ⊎ IsPut row.params ts list t
        at w itself e = inl (e ∙ sym (replaced_nothing (interface class ts)), g.3)
        at w (beyond {row = row'} {u = u} r' h) e =
            let is : row' ≡ row = same_row row' r' in
            let s = known.every u h in
            let σ = by_params row.params ts in
            inr (s.0, s.1, e ∙ ap (λ (k : ClassRow). normal (put (by_params k.params ts) u)) is ∙ sym (normal-put-normal σ u) ∙ ap (λ (x : Ty). normal (put σ x)) (sym s.2), g.3)
          where
            same_row : (row' : ClassRow) → class_of table class ≡ Some row' → row' ≡ row
            same_row row' r' = cc

    pub gives_join : (t : Ty) → IsItself t ⊎ IsPut row.params ts list t → IsGivenBy table (interface class ts) t
    gives_join t (inl e) = itself_given t e
    gives_join t (inr p) =
        let u = known.no_other p.0 p.1 in
        let σ = by_params row.params ts in
        (put σ u.0, beyond r u.1, p.2 ∙ ap (λ (x : Ty). normal (put σ x)) u.2 ∙ normal-put-normal σ u.0, p.3)

module _ (entries : List ClassEntry) (vars : List VarRow) where
  -- the row of the entry that is found is that of the class
  pub row_of_found : (class : ClassId) (entry : ClassEntry) → Some entry ≡ find (λ (e : ClassEntry). same_class e.row.id class) entries → class_of (table_of entries vars) class ≡ Some entry.row
  row_of_found class entry e =
      find-map (λ (x : ClassEntry). x.row) (λ (row : ClassRow). same_class row.id class) entries ∙ ap (option_map (λ (x : ClassEntry). x.row)) (sym e)

  pub row_of_none : (class : ClassId) → None ≡ find (λ (e : ClassEntry). same_class e.row.id class) entries → class_of (table_of entries vars) class ≡ None
  row_of_none class e =
      find-map (λ (x : ClassEntry). x.row) (λ (row : ClassRow). same_class row.id class) entries ∙ ap (option_map (λ (x : ClassEntry). x.row)) (sym e)

module _ (table : Table) (wf : IsWellFormed table) (row : ClassRow) (r : class_of table row.id ≡ Some row) where
  the_row : (row' : ClassRow) → class_of table row.id ≡ Some row' → row' ≡ row
  the_row row' r' = let e : Some row' ≡ Some row = sym r' ∙ r in cc

  -- what a class inherits one of its direct supertypes gives
  pub inherits_above : {w : Ty} → Inherits table row.id w → (v : Ty) × Contains row.supers v × IsAbove table v w
  inherits_above {w} (supertype row' r' i) = (w, subst (λ (k : ClassRow). Contains k.supers w) (the_row row' r') i, itself)
  inherits_above (handed_on {d = d} {ts = ts} row' above r' i r'' h small) =
      (interface d ts, subst (λ (k : ClassRow). Contains k.supers (interface d ts)) (the_row row' r') i, beyond r'' (h, small))

  pub above_inherits : {v w : Ty} → Contains row.supers v → IsAbove table v w → Inherits table row.id w
  above_inherits i itself = supertype row r i
  above_inherits i (beyond {row = above} r' k) = handed_on row above r i r' k.0 k.1

  -- what all direct supertypes give is what the class keeps
  pub all_given : (list : List Superinterface) → Adds (IsGiven table row.supers) [] list → AreSuperinterfaces table row.id list
  all_given list adds = record {
    every = λ v h. let g = inherits_above h.0 in adds.added (normal v) (g.0, g.1, (v, g.2, refl, h.1));
    no_other = λ s i. elim (adds.no_other s i) as (λ _. (v : Ty) × Keeps table row.id v × (interface_of s ≡ normal v)) [
      | inl k ↦ absurd (omega (arith, k.1))
      | inr g ↦ (g.2.0, (above_inherits g.1 g.2.1, subst (λ (t : Ty). size_of t ≤ NODE_LIMIT) g.2.2 g.2.3), g.2.2)
    ];
    in_order = adds.in_order (λ i j d lt within. absurd (omega arith));
    once = adds.once (λ i j d lt within. absurd (omega arith));
  }
