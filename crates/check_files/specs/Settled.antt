-- A file has one list of diagnostics, and the libraries that one reaches have one of findings.
use Rattle.std.specs.Prelude.{◌≡◌, ◌⊎◌, ◌<◌, ℕ, suc, List, [], ◌∷◌, map, ◌++◌, length, slice_get, slice_index_or, AllPairs, Contains, Option, Some, None}
use Rattle.std.proofs.Common.{inl, inr, refl, ap, sym, ◌∙◌, arith}
use Rattle.std.proofs.Math.Path.{fun_ext}
use Rattle.std.proofs.lemmas.List.Elements.{Contains-append_right}
use Rattle.std.proofs.lemmas.List.Kept.{AllPairs-from_increasing}
use Rattle.judgement.specs.declared.fault.Fault.{Fault}
use Rattle.directives.specs.declared.faults.LibraryFault.{LibraryFault}
use Rattle.element_terms.specs.declared.libraries.LibraryElement.{LibraryElement}
use Rattle.library_graph.specs.declared.edges.Edge.{Edge}
use Rattle.library_graph.specs.Cycles.{AreReached}
use Rattle.load_files.specs.Tables.{Table}
use Rattle.load_files.specs.declared.contents.FileContents.{FileContents}
use Rattle.load_files.specs.declared.packages.Package.{Package}
use Rattle.namespaces.specs.declared.elements.Exported.{Exported}
use Rattle.namespaces.specs.Namespaces.{AreNamespaces}
use Rattle.libraries.specs.declared.aims.Aim.{Aim}
use Rattle.libraries.specs.declared.files.SourceFile.{SourceFile}
use Rattle.libraries.specs.declared.heads.Head.{Head}
use Rattle.libraries.specs.declared.parts.Home.{Home}
use Rattle.libraries.specs.declared.parts.Home.TheVariants as home
use Rattle.libraries.specs.AmbiguousLemmas.{ambiguous_in_any_order_of}
use Rattle.libraries.specs.Checks.{aims_at, library_faults}
use Rattle.libraries.specs.Graph.{edges_from}
use Rattle.libraries.specs.Parts.{home_of}
use Rattle.std.specs.List.{flat_map}
use Rattle.check_files.specs.declared.findings.Finding.{Finding}
use Rattle.check_files.specs.Clear.{first_in, first_or_later, in_none}
use Rattle.check_files.specs.Findings.{fault_of, faults_in, found_in, sorted_findings}
use Rattle.check_files.specs.Links.{aims_of, heads_of, place_in}
use Rattle.check_files.specs.Reports.{AreDiagnostics, AreFoundFrom, ambiguous_in, faults_at, faults_at_place, faults_of_library, findings_in, findings_in_file, findings_in_library, table_elements}
use Rattle.check_files.specs.Sources.{all_own_faults, sources_of}

module _ (sources : List SourceFile) (heads : List Head) (all : List (List Aim)) (own : List (List Fault)) (elements : List LibraryElement) (a b : List (List Exported)) (exported : AreNamespaces elements a) (exported' : AreNamespaces elements b) where
  -- which exports are ambiguous doesn't depend on the order in which names are listed
  ambiguous_same : (aims : List Aim) (library : ℕ) (element : Option LibraryElement) → ambiguous_in heads elements a aims library element ≡ ambiguous_in heads elements b aims library element
  ambiguous_same aims library None = refl
  ambiguous_same aims library (Some element) =
      ap (λ (faults : List LibraryFault). map (found_in library) (map fault_of faults)) (ambiguous_in_any_order_of heads elements a b element aims exported exported')

  library_same : (library : ℕ) → findings_in_library sources heads all own elements a library ≡ findings_in_library sources heads all own elements b library
  library_same library =
      ap (λ (findings : List Finding). flat_map (findings_in_file own) (library_faults sources heads all library) ++ findings)
      (ambiguous_same (aims_at all library) library (slice_get elements library))

  findings_same : (libraries : List ℕ) → findings_in sources heads all own elements a libraries ≡ findings_in sources heads all own elements b libraries
  findings_same libraries =
      ap (λ (each : ℕ → List Finding). sorted_findings (flat_map each libraries))
      (fun_ext {f = findings_in_library sources heads all own elements a} {g = findings_in_library sources heads all own elements b} library_same)

  of_library_same : (place library : ℕ) → faults_of_library sources heads all own elements a place library ≡ faults_of_library sources heads all own elements b place library
  of_library_same place library = ap (λ (findings : List Finding). faults_in place (sorted_findings findings)) (library_same library)

  at_same : (contents : FileContents) (place : ℕ) (at : Home) → faults_at sources heads all own elements a contents place at ≡ faults_at sources heads all own elements b contents place at
  at_same contents place home.Homeless = refl
  at_same contents place home.Library = of_library_same place place
  at_same contents place (home.PartOf library) = of_library_same place library

  place_same : (contents : FileContents) (place : Option ℕ) → faults_at_place sources heads all own elements a contents place ≡ faults_at_place sources heads all own elements b contents place
  place_same contents None = refl
  place_same contents (Some place) = at_same contents place (home_of heads all place)

-- the diagnostics of a file among those of a table are one list
pub diagnostics_settled : (packages : List Package) (table : Table) (path : List ℕ) (contents : FileContents) (faults faults' : List Fault) → AreDiagnostics packages table path contents faults → AreDiagnostics packages table path contents faults' → faults ≡ faults'
diagnostics_settled packages table path contents faults faults' h h' =
    h.found
    ∙ place_same (sources_of table) (heads_of packages (sources_of table)) (aims_of packages (sources_of table)) (all_own_faults table) (table_elements packages table) h.spaces h'.spaces h.exported h'.exported contents (place_in path table)
    ∙ sym h'.found

-- Rising numbers.

-- each is below all that stand behind it
abbrev Rise : List ℕ → Type 0
Rise numbers = AllPairs (λ a b. a < b) numbers

rest_rises : (x : ℕ) (xs : List ℕ) → Rise (x ∷ xs) → Rise xs
rest_rises x xs rise i j d before within = rise (suc i) (suc j) d (omega (arith, before)) (omega (arith, within))

first_below : (x : ℕ) (xs : List ℕ) (a : ℕ) → Rise (x ∷ xs) → Contains xs a → x < a
first_below x xs a rise c =
    let below : x < slice_index_or xs c.0 a = rise 0 (suc c.0) a (omega arith) (omega (arith, c.1)) in
    omega (arith, below, c.2)

-- where the first of each stands in the other, the two are one
first_same : (x y : ℕ) (xs ys : List ℕ) → Rise (x ∷ xs) → Rise (y ∷ ys) → (y ≡ x) ⊎ Contains ys x → (x ≡ y) ⊎ Contains xs y → x ≡ y
first_same x y xs ys rise rise' (inl same) other = sym same
first_same x y xs ys rise rise' (inr later) (inl same) = same
first_same x y xs ys rise rise' (inr later) (inr later') =
    let above = first_below y ys x rise' later in
    let below = first_below x xs y rise later' in
    absurd (omega (arith, above, below))

-- what stands behind the first of the one stands behind that of the other
behind_same : (x y : ℕ) (xs ys : List ℕ) → x ≡ y → Rise (x ∷ xs) → (a : ℕ) → Contains xs a → (y ≡ a) ⊎ Contains ys a → Contains ys a
behind_same x y xs ys same rise a c (inl first) = (let below = first_below x xs a rise c in absurd (omega (arith, below, same, first)))
behind_same x y xs ys same rise a c (inr later) = later

-- rising numbers are one list where they are the same
numbers_same : (xs ys : List ℕ) → Rise xs → Rise ys → ((a : ℕ) → Contains xs a → Contains ys a) → ((a : ℕ) → Contains ys a → Contains xs a) → xs ≡ ys
numbers_same [] [] rise rise' to from = refl
numbers_same [] (y ∷ ys) rise rise' to from = absurd (in_none y (from y (first_in y ys)))
numbers_same (x ∷ xs) [] rise rise' to from = absurd (in_none x (to x (first_in x xs)))
numbers_same (x ∷ xs) (y ∷ ys) rise rise' to from =
    let same : x ≡ y = first_same x y xs ys rise rise' (first_or_later y ys x (to x (first_in x xs))) (first_or_later x xs y (from y (first_in y ys))) in
    let behind : xs ≡ ys = numbers_same xs ys (rest_rises x xs rise) (rest_rises y ys rise')
    (λ a c. behind_same x y xs ys same rise a c (first_or_later y ys a (to a (Contains-append_right (x ∷ []) xs a c))))
    (λ a c. behind_same y x ys xs (sym same) rise' a c (first_or_later x xs a (from a (Contains-append_right (y ∷ []) ys a c)))) in
    ap (λ (n : ℕ). n ∷ xs) same ∙ ap (λ (ns : List ℕ). y ∷ ns) behind

-- what a place reaches is one list
pub reached_settled : (edges : List Edge) (place : ℕ) (places places' : List ℕ) → AreReached edges place places → AreReached edges place places' → places ≡ places'
reached_settled edges place places places' h h' =
    numbers_same places places' (AllPairs-from_increasing places h.rising) (AllPairs-from_increasing places' h'.rising) (λ a c. h'.all a (h.reached a c)) (λ a c. h.all a (h'.reached a c))

-- what is found in all libraries that the library at a place reaches is one list
pub findings_settled : (packages : List Package) (table : Table) (place : ℕ) (findings findings' : List Finding) → AreFoundFrom packages table place findings → AreFoundFrom packages table place findings' → findings ≡ findings'
findings_settled packages table place findings findings' h h' =
    let heads = heads_of packages (sources_of table) in
    let all = aims_of packages (sources_of table) in
    let elements = table_elements packages table in
    let libraries = reached_settled (edges_from heads (length (sources_of table)) 0 all) place h.found.libraries h'.found.libraries h.found.reached h'.found.reached in
    h.found.found
    ∙ findings_same (sources_of table) heads all (all_own_faults table) elements h.spaces h'.spaces h.exported h'.exported h.found.libraries
    ∙ ap (findings_in (sources_of table) heads all (all_own_faults table) elements h'.spaces) libraries
    ∙ sym h'.found.found
