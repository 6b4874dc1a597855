-- What the rules of flow models ask of types and lists of types.
use Rattle.std.specs.Prelude.{nat_le, Bool, ◌&&◌, not, List, ◌++◌, filter}
use Rattle.std.specs.List.{list_any}
use Rattle.dart_types.specs.Ty.{Ty}
use Rattle.dart_types.specs.Same.{same_type}
use Rattle.dart_types.specs.Sizes.{size_of}
use Rattle.dart_types.specs.Tables.{Table}
use Rattle.dart_types.specs.SubTest.{sub}
use Rattle.dart_types.specs.declared.refusal.TheConstants.{NODE_LIMIT}

-- whether s is a subtype of t and another type
abbrev pub proper_sub : Table → Ty → Ty → Bool
proper_sub table s t = sub table s t && not (same_type s t)

-- whether no more nodes stand in a type than may, so that a rule forms it
abbrev pub is_formed : Ty → Bool
is_formed t = nat_le (size_of t) NODE_LIMIT

-- whether a type is one of these
abbrev pub is_in : List Ty → Ty → Bool
is_in types t = list_any (same_type t) types

-- the types of the first list that are in the second
abbrev pub common_of : List Ty → List Ty → List Ty
common_of ss ts = filter (is_in ts) ss

-- the first list, and then what the second has beside it
abbrev pub union_of : List Ty → List Ty → List Ty
union_of ss ts = ss ++ filter (λ t. not (is_in ss t)) ts
