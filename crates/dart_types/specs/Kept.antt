-- The superinterfaces that a class keeps, for definitions that compute.
use Rattle.std.specs.Prelude.{ℕ, ◌+◌, Bool, not, nat_le, List, [], ◌∷◌, ◌++◌, map, filter}
use Rattle.std.specs.Option.{option_map_or}
use Rattle.std.specs.List.{list_any}
use Rattle.std.proofs.Common.{zero, suc}
use Rattle.dart_types.specs.Ty.{Ty, invalid, never, void, null, interface, function, variable, promoted, nullable}
use Rattle.dart_types.specs.Sizes.{size_of}
use Rattle.dart_types.specs.Normal.{normal}
use Rattle.dart_types.specs.Substitution.{put, by_params}
use Rattle.dart_types.specs.Tables.{Table, class_of, depth_of}
use Rattle.dart_types.specs.declared.ids.ClassId.{ClassId}
use Rattle.dart_types.specs.declared.refusal.TheConstants.{NODE_LIMIT}

-- whether the normal form of a type has no more nodes than a type may have
abbrev pub is_within_limit : Ty → Bool
is_within_limit v = nat_le (size_of (normal v)) NODE_LIMIT

-- what the class of a direct supertype keeps, with the arguments put in; `kept` tells what a class keeps
abbrev pub handed_by : Table → (ClassId → List Ty) → Ty → List Ty
handed_by table kept invalid = []
handed_by table kept never = []
handed_by table kept void = []
handed_by table kept null = []
handed_by table kept (interface d ts) = option_map_or (λ above. map (put (by_params above.params ts)) (kept d)) (class_of table d) []
handed_by table kept (function r o n e) = []
handed_by table kept (variable x) = []
handed_by table kept (promoted x t) = []
handed_by table kept (nullable t) = []

-- what a class with these direct supertypes inherits
abbrev pub inherited_by : Table → (ClassId → List Ty) → List Ty → List Ty
inherited_by table kept [] = []
inherited_by table kept (v ∷ vs) = v ∷ (handed_by table kept v ++ inherited_by table kept vs)

-- what a class keeps, by so many steps up at most
abbrev pub kept_within : Table → ℕ → ClassId → List Ty
kept_within table zero c = []
kept_within table (suc n) c = option_map_or (λ row. filter is_within_limit (inherited_by table (kept_within table n) row.supers)) (class_of table c) []

-- what a class keeps, over its parameters: no way up has more steps than the longest one to Object
abbrev pub kept_of : Table → ClassId → List Ty
kept_of table c = kept_within table (depth_of table c + 1) c

-- what a class inherits, over its parameters
abbrev pub inherited_of : Table → ClassId → List Ty
inherited_of table c = option_map_or (λ row. inherited_by table (kept_within table (depth_of table c)) row.supers) (class_of table c) []

-- whether a class forms a superinterface that is too large
unfoldable pub forms_too_large : Table → ClassId → Bool
forms_too_large table c = list_any (λ v. not (is_within_limit v)) (inherited_of table c)
