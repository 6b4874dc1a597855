-- What the rules say of the text of a file by itself where nothing is found in its library: that its directives aren't built, and nothing else.
use Rattle.std.specs.Prelude.{◌≡◌, ◌↔◌, ◌⊎◌, ℕ, zero, suc, ◌<◌, Bool, true, false, not, ◌||◌, List, [], ◌∷◌, ◌++◌, Contains, fold, length, map, nat_eq, if◌then◌else◌, slice_get, slice_index_or, Option, Some, None}
use Rattle.std.specs.List.{filter, flat_map, list_any}
use Rattle.std.specs.BTreeSet.{insert_key}
use Rattle.std.specs.Option.{option_to_list}
use Rattle.std.specs.Ordering.{match_ordering}
use Rattle.std.specs.declared.cmp.Ordering.{Ordering}
use Rattle.std.specs.declared.cmp.Ordering.TheVariants.{Less, Equal, Greater}
use Rattle.std.proofs.Common.{inl, inr, refl, sym, ap, subst, ◌∙◌, arith}
use Rattle.std.proofs.lemmas.Bool.{and_parts, eqb-true}
use Rattle.std.proofs.lemmas.Grind.{flat_map-append}
use Rattle.std.proofs.lemmas.List.{length-map}
use Rattle.std.proofs.lemmas.List.Elements.{Contains-append_left, Contains-append_right, Contains-append_cases, Contains-push, Contains-push_cases}
use Rattle.std.proofs.lemmas.List.Folds.{list_any-append}
use denote.Enum.Bare.{same_true}
use Rattle.dart_tree.specs.Tree.{Tree, Trees, no_more, more, unit, library_directive, import_directive, export_directive, part_directive, part_of_directive, part_of_library_directive}
use Rattle.dart_scan.specs.Scanned.{words_of}
use Rattle.judgement.specs.declared.code.DiagnosticCode.TheVariants as code
use Rattle.judgement.specs.contracts.code.DiagnosticCode as codes
use Rattle.judgement.specs.declared.fault.Fault.{Fault}
use Rattle.judgement.specs.declared.meaning.Meaning.{Meaning}
use Rattle.built_forms.specs.Units.{has_main, meanings_in, unbuilt, unbuilt_in, unbuilt_item}
use Rattle.check_library.specs.Diagnostics.{declared_faults, diagnostics, faults_in, lexical_faults, not_built, segment_faults}
use Rattle.check_library.specs.Order.{fault_cmp, sorted_faults}
use Rattle.check_library.specs.Units.{unit_of_text}
use Rattle.directives.specs.declared.directive.Directive.{Directive}
use Rattle.directives.specs.Directives.{directive_of, directives_in}
use Rattle.directives.specs.Outlines.{outline_of}
use Rattle.element_terms.specs.declared.libraries.LibraryElement.{LibraryElement}
use Rattle.load_files.specs.Tables.{Table}
use Rattle.load_files.specs.declared.contents.FileContents.{FileContents}
use Rattle.load_files.specs.declared.contents.FileContents.TheVariants.{Text, NotUtf8, TooLong}
use Rattle.load_files.specs.declared.packages.Package.{Package}
use Rattle.namespaces.specs.declared.elements.Exported.{Exported}
use Rattle.library_graph.specs.Paths.{stays}
use Rattle.libraries.specs.declared.aims.Aim.{Aim}
use Rattle.libraries.specs.declared.check.FileFaults.{FileFaults}
use Rattle.libraries.specs.declared.duplicates.Taken.{Taken}
use Rattle.libraries.specs.declared.files.SourceFile.{SourceFile}
use Rattle.libraries.specs.declared.heads.Head.{Head}
use Rattle.libraries.specs.Checks.{aims_at, directives_at, faults_of_unit, faults_of_units, library_faults, taken_by_unit}
use Rattle.libraries.specs.Duplicates.{no_names, with_prefixes}
use Rattle.libraries.specs.Parts.{part_at, units_of, with_part, with_place_if}
use Rattle.check_files.specs.declared.findings.Finding.{Finding}
use Rattle.check_files.specs.Contents.{read_as}
use Rattle.check_files.specs.Findings.{finding_cmp, found_in, sorted_findings}
use Rattle.check_files.specs.Lines.{text_at, text_of, texts_of}
use Rattle.check_files.specs.Links.{aims_of, heads_of}
use Rattle.check_files.specs.Reports.{AreFoundFrom, findings_in_file, findings_in_library, own_at, table_elements}
use Rattle.check_files.specs.Sources.{all_own_faults, but_directives, is_not_built, is_of_directive, outline_of_text, own_faults, source_of, sources_of, starts_of, with_start}

-- it is said of one of these directives that it isn't built
pub record IsOfDirective (directives : List Directive) (fault : Fault) : Type 0 where
  pub code_is : fault.code ≡ code.NotBuilt
  pub directive : Directive
  pub stands : Contains directives directive
  pub starts : fault.span.start ≡ directive.span.start

-- all that is said of a text is said of its directives, and something is exactly where it has any
pub record LeavesDirectives (text : List ℕ) : Type 0 where
  pub each : (fault : Fault) → Contains (diagnostics text) fault → IsOfDirective (outline_of_text text).directives fault
  pub none : (diagnostics text ≡ []) ↔ ((outline_of_text text).directives ≡ [])

-- Lists without elements.

module _ {X : Type 0} where
  front_none : (xs ys : List X) → xs ++ ys ≡ [] → xs ≡ []
  front_none [] ys h = refl
  front_none (x ∷ xs) ys h = absurd (cc h)

  back_none : (xs ys : List X) → xs ++ ys ≡ [] → ys ≡ []
  back_none [] ys h = h
  back_none (x ∷ xs) ys h = absurd (cc h)

  pub first_or_later : (x : X) (xs : List X) (q : X) → Contains (x ∷ xs) q → (x ≡ q) ⊎ Contains xs q
  first_or_later x xs q c = elim (Contains-append_cases (x ∷ []) xs q c) [
    | inl first ↦ elim (Contains-push_cases [] x q first) [
      | inl nothing ↦ absurd (omega (arith, nothing.1))
      | inr same ↦ inl same
    ]
    | inr later ↦ inr later
  ]

  pub in_none : (q : X) → Contains [] q → ⊥
  in_none q c = omega (arith, c.1)

  pub first_in : (x : X) (xs : List X) → Contains (x ∷ xs) x
  first_in x xs = Contains-append_left (x ∷ []) xs x (Contains-push [] x)

  -- of what a test lets pass nothing is left
  none_passes : (test : X → Bool) (xs : List X) (q : X) → filter test xs ≡ [] → Contains xs q → test q ≡ false
  none_passes test [] q h c = absurd (in_none q c)
  none_passes test (x ∷ xs) q h c = at (test x) refl h (first_or_later x xs q c) (none_passes test xs q)
    where
      at : (b : Bool) → test x ≡ b → (if b then x ∷ filter test xs else filter test xs) ≡ [] → (x ≡ q) ⊎ Contains xs q → (filter test xs ≡ [] → Contains xs q → test q ≡ false) → test q ≡ false
      at true is h c next = absurd (cc h)
      at false is h (inl same) next = ap test (sym same) ∙ is
      at false is h (inr later) next = next h later

  -- a key that is put at its place is there
  put_some : (cmp : X → X → Ordering) (xs : List X) (x : X) → insert_key cmp xs x ≡ [] → ⊥
  put_some cmp [] x h = cc h
  put_some cmp (y ∷ ys) x h = at (cmp x y) h
    where
      at : (o : Ordering) → match_ordering o (x ∷ y ∷ ys) (y ∷ ys) (y ∷ insert_key cmp ys x) ≡ [] → ⊥
      at Less h = cc h
      at Equal h = cc h
      at Greater h = cc h

images_none : {X Y : Type 0} (f : X → Y) (xs : List X) → map f xs ≡ [] → xs ≡ []
images_none f [] h = refl
images_none f (x ∷ xs) h = absurd (cc h)

each_none : {X Y : Type 0} (f : X → List Y) (xs : List X) (q : X) → Contains xs q → flat_map f xs ≡ [] → f q ≡ []
each_none f [] q c h = absurd (in_none q c)
each_none f (x ∷ xs) q c h = elim (first_or_later x xs q c) [
  | inl same ↦ ap f (sym same) ∙ front_none (f x) (flat_map f xs) h
  | inr later ↦ each_none f xs q later (back_none (f x) (flat_map f xs) h)
]

image_at : {X Y : Type 0} (f : X → Y) (xs : List X) (i : ℕ) (d : Y) (x : X) → slice_get xs i ≡ Some x → slice_index_or (map f xs) i d ≡ f x
image_at f [] i d x h = absurd (cc h)
image_at f (y ∷ ys) zero d x h = ap f (cc h)
image_at f (y ∷ ys) (suc i) d x h = image_at f ys i d x h

image_there : {X Y : Type 0} (f : X → Y) (xs : List X) (i : ℕ) (x : X) → slice_get xs i ≡ Some x → slice_get (map f xs) i ≡ Some (f x)
image_there f [] i x h = absurd (cc h)
image_there f (y ∷ ys) zero x h = ap (λ z. Some (f z)) (cc h)
image_there f (y ∷ ys) (suc i) x h = image_there f ys i x h

-- an element stands at each place before the end
element_at : {X : Type 0} (xs : List X) (i : ℕ) → i < length xs → (x : X) × (slice_get xs i ≡ Some x)
element_at [] i h = absurd (omega (arith, h))
element_at (x ∷ xs) zero h = (x, refl)
element_at (x ∷ xs) (suc i) h = element_at xs i (omega (arith, h))

findings_none : (findings : List Finding) → sorted_findings findings ≡ [] → findings ≡ []
findings_none [] h = refl
findings_none (finding ∷ findings) h = absurd (put_some finding_cmp (sorted_findings findings) finding h)

faults_none : (faults : List Fault) → sorted_faults faults ≡ [] → faults ≡ []
faults_none [] h = refl
faults_none (fault ∷ faults) h = absurd (put_some fault_cmp (sorted_faults faults) fault h)

-- Where nothing is found in a library, nothing is wrong with the text of its own file, its directives aside.

module _ (heads : List Head) (library : ℕ) where
  kept_with : (places : List ℕ) (part : Option ℕ) (place : ℕ) → Contains places place → Contains (with_place_if places part) place
  kept_with places None place c = c
  kept_with places (Some part) place c = at (list_any (nat_eq part) places)
    where
      at : (b : Bool) → Contains (if b then places else places ++ part ∷ []) place
      at true = c
      at false = Contains-append_left places (part ∷ []) place c

  kept_among : (aims : List Aim) (places : List ℕ) (place : ℕ) → Contains places place → Contains (fold (with_part heads library) places aims) place
  kept_among [] places place c = c
  kept_among (aim ∷ aims) places place c = kept_among aims (with_part heads library places aim) place (kept_with places (part_at heads library aim) place c)

-- a library has its own file
own_unit : (heads : List Head) (library : ℕ) (aims : List Aim) → Contains (units_of heads library aims) library
own_unit heads library aims = kept_among heads library aims (library ∷ []) library (first_in library [])

module _ (sources : List SourceFile) (heads : List Head) (all : List (List Aim)) (own : List (List Fault)) where
  unit_clear : (library : ℕ) (units : List ℕ) (taken : Taken) (place : ℕ) (source : SourceFile) → Contains units place → slice_get sources place ≡ Some source → flat_map (findings_in_file own) (faults_of_units sources heads all library taken units) ≡ [] → own_at own place ≡ []
  unit_clear library [] taken place source c there h = absurd (in_none place c)
  unit_clear library (u ∷ units) taken place source c there h = elim (first_or_later u units place c) [
    | inl same ↦ ap (own_at own) (sym same) ∙ here (slice_get sources u) (ap (slice_get sources) same ∙ there) (front_none _ _ split)
    | inr later ↦ unit_clear library units (taken_by_unit taken (slice_get sources u)) place source later there (back_none _ _ split)
  ]
    where
      one : Option SourceFile → List FileFaults
      one found = faults_of_unit heads (aims_at all u) library u taken found

      others : List FileFaults
      others = faults_of_units sources heads all library (taken_by_unit taken (slice_get sources u)) units

      split : flat_map (findings_in_file own) (one (slice_get sources u)) ++ flat_map (findings_in_file own) others ≡ []
      split = sym (flat_map-append (findings_in_file own) (one (slice_get sources u)) others) ∙ h

      here : (found : Option SourceFile) → found ≡ Some source → flat_map (findings_in_file own) (one found) ≡ [] → own_at own u ≡ []
      here None is h = absurd (cc is)
      here (Some file) is h = images_none (found_in u) (own_at own u) (front_none _ _ (front_none _ _ h))

  library_clear : (elements : List LibraryElement) (spaces : List (List Exported)) (library : ℕ) (source : SourceFile) → slice_get sources library ≡ Some source → findings_in_library sources heads all own elements spaces library ≡ [] → own_at own library ≡ []
  unfolding library_faults
  library_clear elements spaces library source there h =
      unit_clear library (units_of heads library (aims_at all library)) (with_prefixes no_names (directives_at (slice_get sources library))) library source (own_unit heads library (aims_at all library)) there (front_none _ _ h)

own_clear : (packages : List Package) (table : Table) (place : ℕ) (file : List ℕ × FileContents) → slice_get table place ≡ Some file → AreFoundFrom packages table (suc place) [] → own_faults file.1 ≡ []
own_clear packages table place file there found =
    let none = findings_none _ (sym found.found.found) in
    let clear = each_none (findings_in_library (sources_of table) (heads_of packages (sources_of table)) (aims_of packages (sources_of table)) (all_own_faults table) (table_elements packages table) found.spaces) found.found.libraries (suc place) (found.found.reached.all (suc place) stays) none in
    sym (image_at (λ (f : List ℕ × FileContents). own_faults f.1) table place [] file there)
    ∙ library_clear (sources_of table) (heads_of packages (sources_of table)) (aims_of packages (sources_of table)) (all_own_faults table) (table_elements packages table) found.spaces (suc place) (source_of file) (image_there source_of table place file there) clear

-- What is said of directives.

-- a start is that of a directive
start_found : (ds : List Directive) (starts : List ℕ) (start : ℕ) → list_any (nat_eq start) (fold with_start starts ds) ≡ true → (list_any (nat_eq start) starts ≡ true) ⊎ ((d : Directive) × Contains ds d × (start ≡ d.span.start))
start_found [] starts start h = inl h
start_found (d ∷ ds) starts start h = elim (start_found ds (with_start starts d) start h) [
  | inr (e, stands, is) ↦ inr (e, Contains-append_right (d ∷ []) ds e stands, is)
  | inl before ↦ at (list_any (nat_eq d.span.start) starts) before
]
  where
    last : (a b : Bool) → (list_any (nat_eq start) starts ≡ a) → nat_eq start d.span.start ≡ b → list_any (nat_eq start) (starts ++ d.span.start ∷ []) ≡ true → (list_any (nat_eq start) starts ≡ true) ⊎ ((e : Directive) × Contains (d ∷ ds) e × (start ≡ e.span.start))
    last true b is is_too h = inl is
    last false true is is_too h = inr (d, first_in d ds, eqb-true start d.span.start is_too)
    last false false is is_too h =
        let bad : true ≡ false = sym h ∙ (list_any-append (nat_eq start) starts (d.span.start ∷ []) ∙ (ap (λ (a : Bool). a || (nat_eq start d.span.start || false)) is ∙ ap (λ (b : Bool). b || false) is_too)) in
        absurd (cc bad)

    at : (b : Bool) → list_any (nat_eq start) (if b then starts else starts ++ d.span.start ∷ []) ≡ true → (list_any (nat_eq start) starts ≡ true) ⊎ ((e : Directive) × Contains (d ∷ ds) e × (start ≡ e.span.start))
    at true h = inl h
    at false h = last (list_any (nat_eq start) starts) (nat_eq start d.span.start) refl refl h

said_of : (ds : List Directive) (fault : Fault) → is_of_directive (starts_of ds) fault ≡ true → IsOfDirective ds fault
said_of ds fault h =
    let both : (is_not_built fault.code ≡ true) × (list_any (nat_eq fault.span.start) (starts_of ds) ≡ true) = and_parts (is_not_built fault.code) (list_any (nat_eq fault.span.start) (starts_of ds)) h in
    elim (start_found ds [] fault.span.start both.1) [
      | inl none ↦ absurd (cc none)
      | inr (d, stands, is) ↦ record { code_is = same_true codes.the_type tt fault.code code.NotBuilt both.0; directive = d; stands = stands; starts = is }
    ]

not_false : (b : Bool) → not b ≡ false → b ≡ true
not_false true h = refl
not_false false h = sym h

each_said : (ds : List Directive) (faults : List Fault) → but_directives ds faults ≡ [] → (fault : Fault) → Contains faults fault → IsOfDirective ds fault
each_said ds faults h fault c = said_of ds fault (not_false _ (none_passes (λ f. not (is_of_directive (starts_of ds) f)) faults fault h c))

none_without : (faults : List Fault) → ((fault : Fault) → Contains faults fault → IsOfDirective [] fault) → faults ≡ []
none_without [] each = refl
none_without (fault ∷ faults) each = let of = each fault (first_in fault faults) in absurd (in_none of.directive of.stands)

-- a directive isn't built
directive_unbuilt : (outside : List Meaning) (words : List (List ℕ)) (one : Bool) (item : Tree) → unbuilt_item outside words one item ≡ [] → directive_of words item ≡ None
directive_unbuilt outside words one (library_directive at names) h = absurd (cc h)
directive_unbuilt outside words one (import_directive at uri prefix combinators) h = absurd (cc h)
directive_unbuilt outside words one (export_directive at uri combinators) h = absurd (cc h)
directive_unbuilt outside words one (part_directive at uri) h = absurd (cc h)
directive_unbuilt outside words one (part_of_directive at uri) h = absurd (cc h)
directive_unbuilt outside words one (part_of_library_directive at names) h = absurd (cc h)
directive_unbuilt outside words one _ h = refl

items_without : (outside : List Meaning) (words : List (List ℕ)) (one : Bool) (items : Trees) → unbuilt_in outside words one items ≡ [] → directives_in words items ≡ []
items_without outside words one no_more h = refl
items_without outside words one (more first rest) h =
    ap (λ (d : Option Directive). option_to_list d ++ directives_in words rest) (directive_unbuilt outside words one first (front_none _ _ h))
    ∙ items_without outside words one rest (back_none _ _ h)

unit_without : (words : List (List ℕ)) (tree : Tree) → unbuilt words tree ≡ [] → (outline_of words tree).directives ≡ []
unit_without words (unit at items) h = items_without (meanings_in words (unit at items)) words (has_main words (unit at items)) items h
unit_without words _ h = refl

text_without : (text : List ℕ) → diagnostics text ≡ [] → (outline_of_text text).directives ≡ []
unfolding diagnostics
text_without text h =
    let declared = back_none (segment_faults text) (declared_faults text) (back_none (lexical_faults text) _ (faults_none (faults_in text) h)) in
    unit_without (words_of text) (unit_of_text text) (images_none not_built _ (front_none _ _ declared))

-- where nothing is wrong with what a file contains, its directives aside
left_of : (contents : FileContents) → own_faults contents ≡ [] → LeavesDirectives (read_as contents)
left_of (Text text) h =
    let each = each_said (outline_of_text text).directives (diagnostics text) h in
    record {
      each = each;
      none = (text_without text, λ none. none_without (diagnostics text) (subst (λ (ds : List Directive). (fault : Fault) → Contains (diagnostics text) fault → IsOfDirective ds fault) none each));
    }
left_of (NotUtf8 bytes) h = absurd (cc h)
left_of (TooLong bytes) h = absurd (cc h)

-- where nothing is found in the library of a file
pub clear_leaves_directives : (packages : List Package) (table : Table) (place : ℕ) → 0 < place → place < length (sources_of table) → AreFoundFrom packages table place [] → LeavesDirectives (text_at (texts_of table) place).1
clear_leaves_directives packages table zero first within found = absurd (omega (arith, first))
clear_leaves_directives packages table (suc place) first within found =
    let file = element_at table place (omega (arith, within, length-map table source_of)) in
    subst LeavesDirectives (sym (ap (λ (t : List ℕ × List ℕ). t.1) (image_at text_of table place _ file.0 file.1)))
    (left_of file.0.1 (own_clear packages table place file.0 file.1 found))
