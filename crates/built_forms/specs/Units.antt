-- Which declarations of a unit are built: the function `main` of the first language. All others aren't.
use Rattle.std.specs.Prelude.{ℕ, ◌==◌, Bool, true, false, ◌&&◌, ◌||◌, List, [], ◌∷◌, ◌++◌, length, codes, bytes_eq, is_some, Option, Some, None, option_map, slice_index_or, if◌then◌else◌}
use Rattle.std.specs.Option.{option_or}
use Rattle.std.specs.List.{filter}
use Rattle.dart_tree.specs.Tree.{Tree, Trees, Part, no_more, more, present, void_type, parameter_list, plain_function, function_declaration, unit}
use Rattle.dart_tree.specs.Places.{place_of}
use Rattle.dart_tree.specs.declared.places.Span.{Span}
use Rattle.judgement.specs.declared.meaning.Meaning.{Meaning}
use Rattle.built_forms.specs.Meanings.{meanings_of}
use Rattle.built_forms.specs.Forms.{is_block, is_error}
use Rattle.built_forms.specs.DeclaredNames.{declared_in, brings_names}
use Rattle.built_forms.specs.CoreImports.{narrows_core}

-- a word is `main`
abbrev pub is_main : (words : List (List ℕ)) → (word : ℕ) → Bool
is_main words word = bytes_eq (slice_index_or words word []) (codes "main")

-- just one of the names that are declared is `main`
abbrev pub has_one_main : (words : List (List ℕ)) → (declared : List ℕ) → Bool
has_one_main words declared = length (filter (is_main words) declared) == 1

-- `void` is written
abbrev pub is_void : Part → Bool
is_void (present (void_type at)) = true
is_void _ = false

-- none are written
abbrev pub are_none : Trees → Bool
are_none no_more = true
are_none (more first rest) = false

-- `()`
abbrev pub takes_nothing : Tree → Bool
takes_nothing (parameter_list at parameters) = are_none parameters
takes_nothing _ = false

-- the body of `void main() { .. }`
abbrev pub main_of : (outside : List Meaning) → (words : List (List ℕ)) → (one : Bool) → Tree → Option Tree
main_of outside words one (plain_function at result name type_parameters parameters body) =
    if is_void result && (are_none type_parameters && (takes_nothing parameters && (one && (is_main words name.word && is_block outside body)))) then Some body else None
main_of outside words one _ = None

-- the function that an item is, if it is built, as where the item stands and its body: it has no annotations
abbrev pub function_of : (outside : List Meaning) → (words : List (List ℕ)) → (one : Bool) → Tree → Option (Span × Tree)
function_of outside words one (function_declaration at metadata function) = if are_none metadata then option_map (λ body. (at.span, body)) (main_of outside words one function) else None
function_of outside words one _ = None

-- that of the first of these items that is built
abbrev pub function_in : (outside : List Meaning) → (words : List (List ℕ)) → (one : Bool) → Trees → Option (Span × Tree)
function_in outside words one no_more = None
function_in outside words one (more first rest) = option_or (function_of outside words one first) (function_in outside words one rest)

-- where an item stands that isn't built; an error is none
abbrev pub unbuilt_item : (outside : List Meaning) → (words : List (List ℕ)) → (one : Bool) → Tree → List Span
unbuilt_item outside words one item = if is_error item || is_some (function_of outside words one item) then [] else (place_of item).span ∷ []

-- where these items stand that aren't built
abbrev pub unbuilt_in : (outside : List Meaning) → (words : List (List ℕ)) → (one : Bool) → Trees → List Span
unbuilt_in outside words one no_more = []
unbuilt_in outside words one (more first rest) = unbuilt_item outside words one first ++ unbuilt_in outside words one rest

-- the items of a unit
abbrev pub items_of : Tree → Trees
items_of (unit at items) = items
items_of _ = no_more

-- what words mean in a unit, outside of its functions
abbrev pub meanings_in : (words : List (List ℕ)) → Tree → List Meaning
meanings_in words tree = meanings_of (narrows_core words (items_of tree)) words (declared_in (items_of tree))

-- just one of the names that a unit declares is `main`
abbrev pub has_main : (words : List (List ℕ)) → Tree → Bool
has_main words tree = has_one_main words (declared_in (items_of tree))

-- the function `main` of a unit, if that is built, as where it stands and its body
abbrev pub built_main : (words : List (List ℕ)) → Tree → Option (Span × Tree)
built_main words tree = function_in (meanings_in words tree) words (has_main words tree) (items_of tree)

-- where the directives and declarations of a unit stand that aren't built
abbrev pub unbuilt : (words : List (List ℕ)) → Tree → List Span
unbuilt words tree = unbuilt_in (meanings_in words tree) words (has_main words tree) (items_of tree)

-- a directive of it may bring names that others declare
abbrev pub has_other_names : Tree → Bool
has_other_names tree = brings_names (items_of tree)
