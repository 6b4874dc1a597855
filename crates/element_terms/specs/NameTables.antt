-- Tables of the names that declarations have.
use Rattle.std.specs.Prelude.{◌≡◌, ℕ, if◌then◌else◌, List, Some, position, bytes_eq, String}
use Rattle.std.specs.BTreeMap.{BTreeMap, get_by_text}
use Rattle.element_terms.specs.declared.declarations.Declared.{Declared}
use Rattle.element_terms.specs.Declarations.{declares}

-- the table has the place of the first declaration that has each name
pub record IsNameTable {A : Type 0} (declared : List Declared) (table : BTreeMap (String A) ℕ) : Type 0 where
  pub places : (name : List ℕ) → get_by_text table name ≡ position (λ d. declares d name) declared

-- the table has the place under the name
pub record PutsPlace {A : Type 0} (name : List ℕ) (place : ℕ) (old new : BTreeMap (String A) ℕ) : Type 0 where
  pub places : (q : List ℕ) → get_by_text new q ≡ (if bytes_eq name q then Some place else get_by_text old q)

-- the table has the place under each name of the declaration
pub record PutsPlaces {A : Type 0} (declared : Declared) (place : ℕ) (old new : BTreeMap (String A) ℕ) : Type 0 where
  pub places : (q : List ℕ) → get_by_text new q ≡ (if declares declared q then Some place else get_by_text old q)
