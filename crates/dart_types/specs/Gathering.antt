-- Superinterfaces that are gathered in a list.
use Rattle.std.specs.Prelude.{◌≡◌, ◌≢◌, ◌<◌, ◌≤◌, ◌⊎◌, ℕ, List, take, Option, None, Some, Contains, All, AllPairs}
use Rattle.dart_types.specs.Ty.{Ty, Types, interface}
use Rattle.dart_types.specs.Sizes.{size_of}
use Rattle.dart_types.specs.Substitution.{put, by_params}
use Rattle.dart_types.specs.Normal.{normal}
use Rattle.dart_types.specs.Tables.{Table, class_of}
use Rattle.dart_types.specs.Superinterfaces.{Keeps, interface_of, AreOrdered, AreSuperinterfaces}
use Rattle.dart_types.specs.Replacements.{replaced}
use Rattle.dart_types.specs.declared.ids.ClassId.{ClassId}
use Rattle.dart_types.specs.declared.ids.VarId.{VarId}
use Rattle.dart_types.specs.declared.class_rows.ClassRow.{ClassRow}
use Rattle.dart_types.specs.declared.entries.ClassEntry.{ClassEntry}
use Rattle.dart_types.specs.declared.replacements.Replacement.{Replacement}
use Rattle.dart_types.specs.declared.superinterfaces.Superinterface.{Superinterface}
use Rattle.dart_types.specs.declared.refusal.TheConstants.{NODE_LIMIT}

-- each stands in the list once
abbrev pub StandOnce : List Superinterface → Type 0
StandOnce list = AllPairs (λ (a b : Superinterface). a ≢ b) list

-- the later list has those of the earlier one and these types, and no others; it keeps the order, and that each stands there once
pub record Adds (wanted : Ty → Type 0) (before after : List Superinterface) : Type 0 where
  pub kept : (s : Superinterface) → Contains before s → Contains after s
  pub added : (t : Ty) → wanted t → (s : Superinterface) × Contains after s × (interface_of s ≡ t)
  pub no_other : (s : Superinterface) → Contains after s → Contains before s ⊎ wanted (interface_of s)
  pub in_order : AreOrdered before → AreOrdered after
  pub once : StandOnce before → StandOnce after

-- the type is formed exactly where it has no more nodes than it may have
abbrev pub IsFormedWithin : Ty → Option Superinterface → Type 0
IsFormedWithin t None = NODE_LIMIT < size_of t
IsFormedWithin t (Some s) = (interface_of s ≡ t) × (size_of t ≤ NODE_LIMIT)

-- the type is one of these superinterfaces with the replacements put in, and isn't too large
abbrev pub IsReplaced : List Replacement → List Superinterface → Ty → Type 0
IsReplaced replacements list t = (s : Superinterface) × Contains list s × (t ≡ replaced replacements (interface_of s)) × (size_of t ≤ NODE_LIMIT)

-- what a direct supertype gives a class: itself, and the superinterfaces that its class keeps, with the arguments put in
pub data IsAbove (table : Table) : Ty → Ty → Type 0 where
  itself : {v : Ty} → IsAbove table v v
  beyond : {d : ClassId} {ts : Types} {row : ClassRow} {u : Ty} → class_of table d ≡ Some row → Keeps table d u → IsAbove table (interface d ts) (put (by_params row.params ts) u)

-- what a direct supertype gives a class is too large
abbrev pub GivesTooLarge : Table → Ty → Type 0
GivesTooLarge table v = (w : Ty) × IsAbove table v w × (NODE_LIMIT < size_of (normal w))

-- a class hands on what is too large: it keeps a superinterface which is so with these arguments put in
abbrev pub HandsOnTooLarge : Table → ClassId → Types → Type 0
HandsOnTooLarge table d ts =
    (row : ClassRow) × (class_of table d ≡ Some row) × ((u : Ty) × Keeps table d u × (NODE_LIMIT < size_of (normal (put (by_params row.params ts) u))))

-- the type is the normal form of what this direct supertype gives, and isn't too large
abbrev pub IsGivenBy : Table → Ty → Ty → Type 0
IsGivenBy table v t = (w : Ty) × IsAbove table v w × (t ≡ normal w) × (size_of t ≤ NODE_LIMIT)

-- the type is the normal form of what one of these direct supertypes gives, and isn't too large
abbrev pub IsGiven : Table → List Ty → Ty → Type 0
IsGiven table supers t = (v : Ty) × Contains supers v × IsGivenBy table v t

-- the type is the normal form of one of these superinterfaces with the arguments put in for the parameters, and isn't too large
abbrev pub IsPut : List VarId → Types → List Superinterface → Ty → Type 0
IsPut params args list t =
    (s : Superinterface) × Contains list s × (t ≡ normal (put (by_params params args) (interface_of s))) × (size_of t ≤ NODE_LIMIT)

-- beside each class that is less far from Object stand its superinterfaces
abbrev pub AreKnownBelow : ℕ → Table → List ClassEntry → Type 0
AreKnownBelow depth table entries =
    All (λ entry. entry.row.depth < depth → AreSuperinterfaces table entry.row.id entry.superinterfaces.items) entries

-- beside each class that is less far from Object stand its superinterfaces, and beside those of the first entries that are as far
pub record AreKnownTo (depth i : ℕ) (table : Table) (entries : List ClassEntry) : Type 0 where
  pub below : AreKnownBelow depth table entries
  pub passed : All (λ (entry : ClassEntry). entry.row.depth ≡ depth → AreSuperinterfaces table entry.row.id entry.superinterfaces.items) (take i entries)
