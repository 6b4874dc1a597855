-- A class keeps all its superinterfaces where nothing is left out.
use Rattle.std.proofs.Common.{◌≡◌, ℕ, zero, suc, ◌≤◌, Some, arith, inl, inr}
use Rattle.std.specs.Prelude.{Contains}
use Rattle.std.proofs.lemmas.Bool.{cases_lt}
use Rattle.dart_types.specs.Ty.{Ty}
use Rattle.dart_types.specs.Sizes.{size_of}
use Rattle.dart_types.specs.Normal.{normal}
use Rattle.dart_types.specs.Tables.{Table, class_of, depth_of}
use Rattle.dart_types.specs.WellFormed.{IsWellFormed}
use Rattle.dart_types.specs.Superinterfaces.{IsSuperinterface, direct, further, Inherits, supertype, handed_on, Keeps, FormsTooLarge, LeavesNothingOut}
use Rattle.dart_types.specs.declared.ids.ClassId.{ClassId}
use Rattle.dart_types.specs.declared.class_rows.ClassRow.{ClassRow}
use Rattle.dart_types.specs.declared.refusal.TheConstants.{NODE_LIMIT}
use Rattle.dart_types.proofs.Formed.{super_depth}
use Rattle.dart_types.proofs.Supers.{inherited}
use Rattle.dart_types.proofs.Descents.{LiesOver, itself, beyond, given}

module _ (table : Table) (wf : IsWellFormed table) where
  its_row : {c : ClassId} {v : Ty} → IsSuperinterface table c v → (row : ClassRow) × (class_of table c ≡ Some row)
  its_row (direct {row = row} r i) = (row, r)
  its_row (further h r i) = its_row h

  module _ (small : (c : ClassId) (v : Ty) → Inherits table c v → size_of (normal v) ≤ NODE_LIMIT) where
    lying : (n : ℕ) (c : ClassId) → depth_of table c ≤ n → (row : ClassRow) → class_of table c ≡ Some row → (v : Ty) → Contains row.supers v → (w : Ty) → LiesOver table v w → Inherits table c w
    lying n c le row r v i w itself = supertype row r i
    lying zero c le row r v i w (beyond r' h) = absurd (omega (arith, le, super_depth table wf c row v r i))
    lying (suc n) c le row r v i w (beyond {d = d} {row = above} {u = u} r' h) =
        let own = its_row h in
        let g = given table wf own.0 own.1 h in
        let low = lying n d (omega (arith, le, super_depth table wf c row v r i)) own.0 own.1 g.0 g.1 u g.2 in
        handed_on row above r i r' low (small d u low)

    climbed : (c : ClassId) (w : Ty) → IsSuperinterface table c w → Inherits table c w
    climbed c w h =
        let own = its_row h in
        let g = given table wf own.0 own.1 h in
        lying (depth_of table c) c (omega arith) own.0 own.1 g.0 g.1 w g.2

  -- where nothing is left out a class keeps each superinterface
  pub super_kept : LeavesNothingOut table → {c : ClassId} {v : Ty} → IsSuperinterface table c v → Keeps table c v
  super_kept nothing {c} {v} h =
      (climbed (λ d u k. nothing d u (inherited table wf k)) c v h, nothing c v h)

  -- nothing is left out where no class forms a superinterface that is too large
  pub none_too_large : ((c : ClassId) → FormsTooLarge table c → ⊥) → LeavesNothingOut table
  none_too_large none c v h = small c v (climbed small c v h)
    where
      small : (d : ClassId) (u : Ty) → Inherits table d u → size_of (normal u) ≤ NODE_LIMIT
      small d u k = elim (cases_lt NODE_LIMIT (size_of (normal u))) as (λ _. size_of (normal u) ≤ NODE_LIMIT) [ inl lt ↦ absurd (none d (u, k, lt)) | inr le ↦ omega arith ]

  pub too_large_none : LeavesNothingOut table → (c : ClassId) → FormsTooLarge table c → ⊥
  too_large_none nothing c k = absurd (omega (arith, nothing c k.0 (inherited table wf k.1), k.2))
