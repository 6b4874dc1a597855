-- The names that exports of a library bring, by what they mean among these.
use Rattle.std.specs.Prelude.{◌≡◌, ◌||◌, ℕ, Bool, true, false, not, List, length, take, slice_get, slice_index_or, unwrap_or}
use Rattle.std.specs.Option.{option_map_or}
use Rattle.std.specs.Borrow.{Bor}
use Rattle.std.specs.BTreeMap.{BTreeMap, get_by}
use Rattle.std.specs.Cmp.Lexicographic.{slice_cmp}
use Rattle.std.specs.Ordering.{nat_cmp}
use Rattle.element_terms.specs.declared.libraries.LibraryElement.{LibraryElement}
use Rattle.namespaces.specs.declared.elements.ElementId.{ElementId}
use Rattle.namespaces.specs.declared.elements.Exported.{Exported}
use Rattle.namespaces.specs.declared.found.Found.{Found}
use Rattle.namespaces.specs.declared.found.Found.TheVariants.{One, Ambiguous, Nothing}
use Rattle.namespaces.specs.Ambiguities.{is_ambiguous}
use Rattle.namespaces.specs.Meanings.{same_element}

-- names, each with what it means
abbrev pub Names : Type 0
Names = BTreeMap (Bor (List ℕ)) Found

-- what a name means
abbrev pub found_of : Names → List ℕ → Found
found_of names name = unwrap_or (get_by (λ (k : Bor (List ℕ)). slice_cmp nat_cmp name k.now) names) Nothing

-- another element than this one is found
abbrev pub differs : Found → ElementId → Bool
differs Nothing e = false
differs (One f) e = not (same_element f e)
differs Ambiguous e = true

-- the name of a pair means another element than that of the pair
abbrev pub clashes : Names → Exported → Bool
clashes names p = differs (found_of names p.name) p.element

-- the pairs of which the test tells clash too
pub record AddsClashes (test : Exported → Bool) (old new : Names) : Type 0 where
  pub tells : (p : Exported) → clashes new p ≡ (clashes old p || test p)

-- it is told of each export of a library whether it is ambiguous, behind those before it
pub record TellsAmbiguous (libraries : List LibraryElement) (all : List (List Exported)) (library : LibraryElement) (told : List Bool) : Type 0 where
  pub size : length told ≡ length library.exports
  pub each : (export : ℕ) → slice_index_or told export false ≡ option_map_or (λ e. is_ambiguous libraries all library (take export library.exports) e) (slice_get library.exports export) false
