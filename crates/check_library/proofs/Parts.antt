-- What the check of a text puts together.
use Rattle.std.proofs.Common.{◌≡◌, ◌∙◌, ℕ, Bool, List, [], ◌++◌, map, Option, None, Some, option_map, refl, ap, append_assoc}
use Rattle.std.specs.Option.{option_map_or}
use Rattle.dart_scan.specs.Scanned.{words_of}
use Rattle.dart_tree.specs.Tree.{Tree}
use Rattle.dart_tree.specs.declared.places.Span.{Span}
use Rattle.dart_types.specs.Tables.{Table}
use Rattle.judgement.specs.NodeFacts.{NodeFacts}
use Rattle.judgement.specs.declared.fault.Fault.{Fault}
use Rattle.judgement.specs.declared.meaning.Meaning.{Meaning}
use Rattle.built_forms.specs.Units.{built_main, has_other_names, unbuilt}
use Rattle.core_rows.specs.CoreTable.{core_table}
use Rattle.check_library.specs.Units.{unit_of_text, outside_of, main_of, judged_by, judged_body}
use Rattle.check_library.specs.Diagnostics.{lexical_faults, segment_faults, not_built, settled, judged_faults, diagnostics}
use Rattle.check_library.specs.Order.{sorted_faults}
use Rattle.check_library.specs.Checked.{typed_tree}

-- what is said of the body of a function that is found is said of the body that is
nodes_of_body : (said : Tree → List NodeFacts) (found : Option (Span × Tree)) → option_map_or (λ main. said main.1) found [] ≡ option_map_or said (option_map (λ main. main.1) found) []
nodes_of_body said None = refl
nodes_of_body said (Some main) = refl

module _ (text : List ℕ) (table : Table) (words : List (List ℕ)) (outside : List Meaning) (tree : Tree) (same_table : table ≡ core_table) (same_words : words ≡ words_of text) (same_outside : outside ≡ outside_of text) (same_tree : tree ≡ unit_of_text text) where
  -- the typed tree of a text is that of its unit, with its words and what they mean
  pub typed_of_text : option_map_or (λ (main : Span × Tree). (judged_by table words outside main.1).nodes) (built_main words tree) [] ≡ typed_tree text
  typed_of_text =
      ap (λ (t : Table). option_map_or (λ (main : Span × Tree). (judged_by t words outside main.1).nodes) (built_main words tree) []) same_table
      ∙ ap (λ (ws : List (List ℕ)). option_map_or (λ (main : Span × Tree). (judged_by core_table ws outside main.1).nodes) (built_main ws tree) []) same_words
      ∙ ap (λ (o : List Meaning). option_map_or (λ (main : Span × Tree). (judged_by core_table (words_of text) o main.1).nodes) (built_main (words_of text) tree) []) same_outside
      ∙ ap (λ (t : Tree). option_map_or (λ (main : Span × Tree). (judged_body text main.1).nodes) (built_main (words_of text) t) []) same_tree
      ∙ nodes_of_body (λ body. (judged_body text body).nodes) (main_of text)

  -- what is wrong with its function `main` is that of its unit
  pub judged_of_text : (names : Bool) → names ≡ has_other_names tree → option_map_or (λ (main : Span × Tree). settled names main.0 (judged_by table words outside main.1).faults) (built_main words tree) [] ≡ option_map_or (judged_faults text) (main_of text) []
  judged_of_text names same_names =
      ap (λ (n : Bool). option_map_or (λ (main : Span × Tree). settled n main.0 (judged_by table words outside main.1).faults) (built_main words tree) []) same_names
      ∙ ap (λ (t : Table). option_map_or (λ (main : Span × Tree). settled (has_other_names tree) main.0 (judged_by t words outside main.1).faults) (built_main words tree) []) same_table
      ∙ ap (λ (ws : List (List ℕ)). option_map_or (λ (main : Span × Tree). settled (has_other_names tree) main.0 (judged_by core_table ws outside main.1).faults) (built_main ws tree) []) same_words
      ∙ ap (λ (o : List Meaning). option_map_or (λ (main : Span × Tree). settled (has_other_names tree) main.0 (judged_by core_table (words_of text) o main.1).faults) (built_main (words_of text) tree) []) same_outside
      ∙ ap (λ (t : Tree). option_map_or (λ (main : Span × Tree). settled (has_other_names t) main.0 (judged_body text main.1).faults) (built_main (words_of text) t) []) same_tree

-- what is wrong with a text, put together from its parts and in order, is its diagnostics
pub reported : (text : List ℕ) (trees : List Fault) (spans : List Span) (built judged all sorted : List Fault) → trees ≡ lexical_faults text ++ segment_faults text → spans ≡ unbuilt (words_of text) (unit_of_text text) → built ≡ trees ++ map not_built spans → judged ≡ option_map_or (judged_faults text) (main_of text) [] → all ≡ built ++ judged → sorted ≡ sorted_faults all → sorted ≡ diagnostics text
unfolding diagnostics
reported text trees spans built judged all sorted trees_are spans_are built_is judged_is all_is sorted_is =
    let unbuilt_are : List Fault = map not_built (unbuilt (words_of text) (unit_of_text text)) in
    let main_is : List Fault = option_map_or (judged_faults text) (main_of text) [] in
    sorted_is
    ∙ ap sorted_faults (
    all_is
    ∙ ap (λ (xs : List Fault). xs ++ judged) (built_is ∙ ap (λ (xs : List Fault). xs ++ map not_built spans) trees_are ∙ ap (λ (ss : List Span). (lexical_faults text ++ segment_faults text) ++ map not_built ss) spans_are)
    ∙ ap (λ (xs : List Fault). ((lexical_faults text ++ segment_faults text) ++ unbuilt_are) ++ xs) judged_is
    ∙ append_assoc (lexical_faults text ++ segment_faults text) unbuilt_are main_is
    ∙ append_assoc (lexical_faults text) (segment_faults text) (unbuilt_are ++ main_is)
    )
