-- Texts in which nothing is wrong: what crates above prove of them.
use Rattle.std.specs.Prelude.{◌≡◌, ℕ, Bool, true, false, ◌&&◌, List, [], ◌∷◌, ◌++◌, map, Option, Some, None, option_map, if◌then◌else◌}
use Rattle.std.proofs.Common.{◌∙◌, refl, ap, subst}
use Rattle.std.specs.List.{list_any}
use Rattle.std.specs.Option.{option_map_or}
use Rattle.std.specs.Ordering.{match_ordering}
use Rattle.std.specs.declared.cmp.Ordering.TheVariants.{Less, Equal, Greater}
use Rattle.std.specs.BTreeSet.{insert_key}
use Rattle.dart_tree.specs.Tree.{Tree}
use Rattle.dart_tree.specs.declared.places.Span.{Span}
use Rattle.judgement.specs.declared.fault.Fault.{Fault}
use Rattle.judgement.specs.declared.meaning.Meaning.{Meaning}
use Rattle.built_forms.specs.Units.{unbuilt, function_in, has_main, has_other_names, items_of}
use Rattle.dart_scan.specs.Scanned.{words_of}
use Rattle.check_library.specs.Units.{unit_of_text, outside_of, main_of, body_of, judged_body}
use Rattle.check_library.specs.Checked.{IsCheckOf, main_of_checked}
use Rattle.check_library.specs.declared.library.Checked.{Checked}
use Rattle.check_library.specs.Diagnostics.{lexical_faults, segment_faults, not_built, is_undefined_code, judged_faults, declared_faults, faults_in}
use Rattle.check_library.specs.Order.{fault_cmp, sorted_faults}

-- where a diagnostic was put at its place, there is one
some_inserted : (faults : List Fault) (fault : Fault) → insert_key fault_cmp faults fault ≡ [] → fault ∷ faults ≡ []
some_inserted [] fault none = none
some_inserted (first ∷ rest) fault none =
    elim (fault_cmp fault first) as (λ r. match_ordering r (fault ∷ first ∷ rest) (first ∷ rest) (first ∷ insert_key fault_cmp rest fault) ≡ [] → fault ∷ first ∷ rest ≡ []) [
      | Less ↦ λ none. cc
      | Equal ↦ λ none. cc
      | Greater ↦ λ none. cc
    ] none

-- an empty report is one of no diagnostics
pub none_found : (faults : List Fault) → sorted_faults faults ≡ [] → faults ≡ []
none_found [] none = refl
none_found (fault ∷ faults) none =
    let some : fault ∷ sorted_faults faults ≡ [] = some_inserted (sorted_faults faults) fault none in
    cc

right_of_none : (xs ys : List Fault) → xs ++ ys ≡ [] → ys ≡ []
right_of_none [] ys none = none
right_of_none (x ∷ xs) ys none = absurd (cc)

-- a function that is settled without a diagnostic has none
settled-none : (undefined : Bool) (span : Span) (faults : List Fault) → (if undefined then not_built span ∷ [] else faults) ≡ [] → faults ≡ []
settled-none true span faults none = absurd (cc)
settled-none false span faults none = none

-- a function that stands somewhere is settled so, where it has this body
main-none : (text : List ℕ) (body : Tree) (found : Option (Span × Tree)) → option_map_or (judged_faults text) found [] ≡ [] → option_map (λ main. main.1) found ≡ Some body → (judged_body text body).faults ≡ []
main-none text body None none is = absurd (cc)
main-none text body (Some main) none is =
    let here : (judged_body text main.1).faults ≡ [] =
    settled-none (has_other_names (unit_of_text text) && list_any (λ fault. is_undefined_code fault.code) (judged_body text main.1).faults) main.0 (judged_body text main.1).faults none in
    let same : main.1 ≡ body = cc in
    subst (λ (b : Tree). (judged_body text b).faults ≡ []) same here

-- where nothing is wrong with a text, the rules find nothing wrong with what of it is judged
pub body_faultless : (text : List ℕ) (body : Tree) → faults_in text ≡ [] → body_of text ≡ Some body → (judged_body text body).faults ≡ []
body_faultless text body none is =
    let behind : segment_faults text ++ declared_faults text ≡ [] = right_of_none (lexical_faults text) (segment_faults text ++ declared_faults text) none in
    let declared : declared_faults text ≡ [] = right_of_none (segment_faults text) (declared_faults text) behind in
    let judged : option_map_or (judged_faults text) (main_of text) [] ≡ [] = right_of_none (map not_built (unbuilt (words_of text) (unit_of_text text))) _ declared in
    main-none text body (main_of text) judged is

-- the function `main` of a library that was checked is that of its text
pub main_of_check : (text : List ℕ) (checked : Checked) → IsCheckOf text checked → main_of_checked checked ≡ main_of text
main_of_check text checked check =
    ap (λ (outside : List Meaning). function_in outside checked.unit.words checked.forms.has_main (items_of checked.unit.tree)) check.outside
    ∙ ap (λ (words : List (List ℕ)). function_in (outside_of text) words checked.forms.has_main (items_of checked.unit.tree)) check.words
    ∙ ap (λ (one : Bool). function_in (outside_of text) (words_of text) one (items_of checked.unit.tree)) check.one
    ∙ ap (λ (tree : Tree). function_in (outside_of text) (words_of text) (has_main (words_of text) (unit_of_text text)) (items_of tree)) check.tree
