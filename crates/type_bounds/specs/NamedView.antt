-- Named parameters that are formed as far as they aren't too large.
use Rattle.std.specs.Prelude.{ℕ, Bool, ◌≡◌, ◌<◌, ◌≤◌, List, Option, Some, None, All}
use Rattle.dart_types.specs.Ty.{Ty, Types, Named, function, no_named, more_named}
use Rattle.dart_types.specs.Named.{named_of, names_of, IsNameBefore}
use Rattle.dart_types.specs.Sizes.{sizes_of_named, held}
use Rattle.dart_types.specs.declared.types.NamedType.{NamedType}
use Rattle.dart_types.specs.declared.refusal.TheConstants.{NODE_LIMIT}
use Rattle.type_bounds.specs.PartsView.{IsPart, AreParts}
use Rattle.type_bounds.specs.declared.named_parts.NamedParts.{NamedParts}
use Rattle.type_bounds.specs.declared.parts.Part.{Part}
use Rattle.type_bounds.specs.declared.parts.Parts.{Parts}

-- the parameters stand there, or they have more nodes than one type may have
abbrev pub AreNamedFormed : Option (List NamedType) → Named → Type 0
AreNamedFormed None ns = NODE_LIMIT < sizes_of_named ns
AreNamedFormed (Some formed) ns = (named_of formed ≡ ns) × (sizes_of_named ns ≤ NODE_LIMIT)

-- the parts are these parameters, as far as they are formed
abbrev pub AreNamedParts : NamedParts → Named → Type 0
AreNamedParts parts ns = (parts.nodes ≡ held (sizes_of_named ns)) × AreNamedFormed parts.formed ns

-- the names of the parameters, as far as they are formed, come before this one
abbrev pub AreBefore : Option (List NamedType) → List ℕ → Type 0
AreBefore None name = Unit {0}
AreBefore (Some formed) name = All (λ before. IsNameBefore before name) (names_of formed)

-- the second list behind the first
abbrev pub join_named : Named → Named → Named
join_named no_named ms = ms
join_named (more_named n r t ns) ms = more_named n r t (join_named ns ms)

-- these parts are those of the parameters before with one more behind them
abbrev pub HaveOneMore : NamedParts → List ℕ → Bool → Part → NamedParts → Type 0
HaveOneMore before name required part parts = (ns : Named) (t : Ty) → AreNamedParts before ns → IsPart part t → AreNamedParts parts (join_named ns (more_named name required t no_named))

-- the part is the function type of these parts
abbrev pub IsFunctionPart : (required optional : Parts) → NamedParts → (result part : Part) → Type 0
IsFunctionPart required optional named result part =
    (r o : Types) (n : Named) (e : Ty) → AreParts required r → AreParts optional o → AreNamedParts named n → IsPart result e → IsPart part (function r o n e)

-- the parts are named parameters that are so, as far as they are formed
abbrev pub AreSomeNamed : (Named → Type 0) → NamedParts → Type 0
AreSomeNamed so parts = (ns : Named) × so ns × AreNamedParts parts ns
