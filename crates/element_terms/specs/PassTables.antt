-- Tables of the names that combinators let pass.
use Rattle.std.specs.Prelude.{◌≡◌, ◌≤◌, ◌<◌, ◌+◌, ◌==◌, ◌&&◌, ℕ, Bool, if◌then◌else◌, List, length, unwrap_or, String}
use Rattle.std.specs.BTreeMap.{BTreeMap, get_by_text}
use Rattle.std.specs.List.{list_all}
use Rattle.element_terms.specs.declared.combinators.Combinator.{Combinator}
use Rattle.element_terms.specs.Combinators.{lets_pass}

-- the stage that a name has reached: the first, where no combinator lists it
abbrev pub stage_of : {A : Type 0} → BTreeMap (String A) ℕ → List ℕ → ℕ
stage_of stages name = unwrap_or (get_by_text stages name) 1

-- the names that the test tells of go from the one stage to the other
pub record Moves {A : Type 0} (test : List ℕ → Bool) (from to : ℕ) (old new : BTreeMap (String A) ℕ) : Type 0 where
  pub stages : (q : List ℕ) → stage_of new q ≡ (if test q && stage_of old q == from then to else stage_of old q)

-- at the last stage are those that were at the last stage before and that the combinator lets pass
pub record AddsCombinator {A : Type 0} (combinator : Combinator) (old : BTreeMap (String A) ℕ) (before : ℕ) (new : BTreeMap (String A) ℕ) (last : ℕ) : Type 0 where
  pub tells : (q : List ℕ) → (stage_of new q == last) ≡ (stage_of old q == before && lets_pass combinator q)
  pub below : (q : List ℕ) → stage_of new q ≤ last
  pub grows : before ≤ last
  pub slowly : last ≤ before + 1

-- the names at the last stage are those that each combinator lets pass
pub record IsPassTable {A : Type 0} (combinators : List Combinator) (stages : BTreeMap (String A) ℕ) (last : ℕ) : Type 0 where
  pub tells : (q : List ℕ) → (stage_of stages q == last) ≡ list_all (λ c. lets_pass c q) combinators
  pub below : (q : List ℕ) → stage_of stages q ≤ last
  pub some : 0 < last
  pub few : last ≤ length combinators + 1
