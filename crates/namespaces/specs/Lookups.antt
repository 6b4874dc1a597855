-- What a name means at the top level of a library.
use Rattle.std.specs.Prelude.{ℕ, Bool, true, false, ◌==◌, ◌&&◌, ◌||◌, List, Option, Some, None, bytes_eq, fold, position, if◌then◌else◌}
use Rattle.std.specs.List.{list_any}
use Rattle.element_terms.specs.NameTexts.{is_private, means}
use Rattle.element_terms.specs.Combinators.{brings}
use Rattle.element_terms.specs.Declarations.{declares}
use Rattle.namespaces.specs.declared.elements.Exported.{Exported}
use Rattle.namespaces.specs.declared.found.Found.{Found}
use Rattle.namespaces.specs.declared.found.Found.TheVariants.{One, Nothing}
use Rattle.namespaces.specs.declared.found.Meanings.{Meanings}
use Rattle.namespaces.specs.declared.scopes.Import.{Import}
use Rattle.namespaces.specs.declared.scopes.Scope.{Scope}
use Rattle.namespaces.specs.Meanings.{chosen, no_meanings, with_element}

-- a pair brings its element under its name
abbrev pub with_pair : List ℕ → Meanings → Exported → Meanings
with_pair name m p = if bytes_eq p.name name then with_element m p.element else m

-- whether an import has this prefix, or none
abbrev pub same_prefix : Option (List ℕ) → Option (List ℕ) → Bool
same_prefix None None = true
same_prefix None (Some q) = false
same_prefix (Some p) None = false
same_prefix (Some p) (Some q) = bytes_eq p q

-- an import with the prefix brings what the imported library exports, as far as its combinators let it pass
abbrev pub with_import : Option (List ℕ) → List ℕ → Meanings → Import → Meanings
with_import prefix name m i = if same_prefix prefix i.prefix && brings i.combinators name then fold (with_pair name) m i.exported.value else m

abbrev pub meanings_of : List Import → Option (List ℕ) → List ℕ → Meanings
meanings_of imports prefix name = fold (with_import prefix name) no_meanings imports

-- `dart:core` is imported by every other library that has no import of it written
abbrev pub sees_core : Scope → Bool
sees_core scope = (scope.library.value.id.0 == 0) || list_any (λ i. i.library.0 == 0) scope.imports.items

abbrev pub with_core : Scope → List ℕ → Meanings → Meanings
with_core scope name m = if sees_core scope || is_private name then m else fold (with_pair name) m scope.core.value

-- a name is a prefix, or that of the setter that goes with one
abbrev pub names_prefix : Option (List ℕ) → List ℕ → Bool
names_prefix None name = false
names_prefix (Some p) name = means p name

abbrev pub is_prefix : List Import → List ℕ → Bool
is_prefix imports name = list_any (λ i. names_prefix i.prefix name) imports

-- the library's own declaration comes before what is imported
abbrev pub own_first : Scope → Option ℕ → Found → Found
own_first scope None imported = imported
own_first scope (Some place) imported = One (record { library = scope.library.value.id; place = place })

-- What a name means at the top level of a library. A prefix is a name that the library declares, and it means no element.
abbrev pub found_in : Scope → List ℕ → Found
found_in scope name = if is_prefix scope.imports.items name then Nothing else own_first scope (position (λ d. declares d name) scope.library.value.declared) (chosen (with_core scope name (meanings_of scope.imports.items None name)))

-- What a name means behind a prefix: what the imports with that prefix bring.
abbrev pub found_behind : Scope → List ℕ → List ℕ → Found
found_behind scope prefix name = chosen (meanings_of scope.imports.items (Some prefix) name)
