-- Named parameters as the code keeps them.
use Rattle.std.specs.Prelude.{◌≡◌, ℕ, Bool, false, ◌||◌, List, [], ◌∷◌, AllPairs, map, bytes_eq, Option, Some, None, if◌then◌else◌, refl}
use Rattle.std.specs.Ordering.{nat_cmp}
use Rattle.std.specs.declared.cmp.Ordering.TheVariants.{Less}
use Rattle.std.specs.Cmp.Lexicographic.{slice_cmp}
use Rattle.std.specs.Coded.{Coded, code_by, coded×, coded_ℕ, coded_bool, coded_list}
use Rattle.dart_types.specs.Ty.{Ty, Named, no_named, more_named}
use Rattle.dart_types.specs.TyCode.{type_code}
use Rattle.dart_types.specs.declared.types.NamedType.{NamedType}

-- the named parameters of a list, in its order
abbrev pub named_of : List NamedType → Named
named_of [] = no_named
named_of (n ∷ ns) = more_named n.name n.required n.ty (named_of ns)

-- how a named parameter is stored
abbrev pub named_code : Coded NamedType
named_code =
    code_by (List ℕ × (Bool × Ty)) (coded× (coded_list coded_ℕ) (coded× coded_bool type_code)) (λ n. (n.name, (n.required, n.ty))) (λ p. record { name = p.0; required = p.1.0; ty = p.1.1 }) (λ _. refl)

-- a name comes before another, by the bytes of UTF-8, which is the order of their characters
abbrev pub IsNameBefore : List ℕ → List ℕ → Type 0
IsNameBefore name other = slice_cmp nat_cmp name other ≡ Less

-- the names of the parameters, in their order
abbrev pub names_of : List NamedType → List (List ℕ)
names_of named = map (λ n. n.name) named

-- each name comes before those behind it
abbrev pub AreInOrder : List (List ℕ) → Type 0
AreInOrder names = AllPairs IsNameBefore names

-- the list has a named parameter of this name
abbrev pub has_name : Named → List ℕ → Bool
has_name no_named m = false
has_name (more_named n r t rest) m = bytes_eq n m || has_name rest m

-- the type of the list's first parameter of this name, if it has one
abbrev pub type_named : Named → List ℕ → Option Ty
type_named no_named m = None
type_named (more_named n r t rest) m = if bytes_eq n m then Some t else type_named rest m
