-- A type that is formed as far as it isn't too large.
use Rattle.std.specs.Prelude.{ℕ, ◌≡◌, ◌<◌, ◌≤◌, List, Option, Some, None}
use Rattle.dart_types.specs.Ty.{Ty, Types, interface, types_of}
use Rattle.dart_types.specs.declared.ids.ClassId.{ClassId}
use Rattle.dart_types.specs.Sizes.{size_of, sizes_of, held}
use Rattle.dart_types.specs.declared.refusal.TheConstants.{NODE_LIMIT}
use Rattle.type_bounds.specs.Counts.{Counts}
use Rattle.type_bounds.specs.declared.parts.Part.{Part}
use Rattle.type_bounds.specs.declared.parts.Parts.{Parts}

-- the type stands there, or it has more nodes than it may have
abbrev pub IsFormed : Option Ty → Ty → Type 0
IsFormed None t = NODE_LIMIT < size_of t
IsFormed (Some formed) t = (formed ≡ t) × (size_of t ≤ NODE_LIMIT)

-- the part is this type, as far as it is formed
abbrev pub IsPart : Part → Ty → Type 0
IsPart part t = Counts part.count t × IsFormed part.formed t

-- the types stand there, or they have more nodes than one type may have
abbrev pub AreFormed : Option (List Ty) → Types → Type 0
AreFormed None ts = NODE_LIMIT < sizes_of ts
AreFormed (Some formed) ts = (types_of formed ≡ ts) × (sizes_of ts ≤ NODE_LIMIT)

-- the parts are these types, as far as they are formed
abbrev pub AreParts : Parts → Types → Type 0
AreParts parts ts = (parts.nodes ≡ held (sizes_of ts)) × AreFormed parts.formed ts

-- the class with these arguments, unless it has more nodes than it may have
abbrev pub IsInterfaceWithin : ℕ → ClassId → List Ty → Option Ty → Type 0
IsInterfaceWithin nodes class args None = NODE_LIMIT < nodes
IsInterfaceWithin nodes class args (Some t) = (t ≡ interface class (types_of args)) × (nodes ≤ NODE_LIMIT)

-- the part is a type that is so, as far as it is formed
abbrev pub IsSomePart : (Ty → Type 0) → Part → Type 0
IsSomePart so part = (t : Ty) × so t × IsPart part t

-- the parts are types that are so, as far as they are formed
abbrev pub AreSomeParts : (Types → Type 0) → Parts → Type 0
AreSomeParts so parts = (ts : Types) × so ts × AreParts parts ts
