-- What the check of a text gives.
use Rattle.std.specs.Prelude.{◌≡◌, ◌+◌, ◌*◌, ◌≤◌, ℕ, List, [], Option, length}
use Rattle.std.specs.Option.{option_map_or}
use Rattle.dart_tree.specs.Tree.{Tree}
use Rattle.dart_tree.specs.Numbers.{nodes_in}
use Rattle.dart_tree.specs.declared.places.Span.{Span}
use Rattle.dart_scan.specs.Scanned.{tokens_of, words_of}
use Rattle.dart_text.specs.Edits.{max_text}
use Rattle.judgement.specs.NodeFacts.{NodeFacts}
use Rattle.built_forms.specs.Units.{function_in, has_main, items_of}
use Rattle.core_rows.specs.CoreTable.{core_table}
use Rattle.check_library.specs.Units.{unit_of_text, outside_of, body_of, judged_body}
use Rattle.check_library.specs.Diagnostics.{faults_in, diagnostics}
use Rattle.check_library.specs.declared.library.Checked.{Checked}

-- the typed tree of a text: none where nothing of it is judged
abbrev pub typed_tree : List ℕ → List NodeFacts
typed_tree text = option_map_or (λ body. (judged_body text body).nodes) (body_of text) []

-- the function `main` of a library that was checked, if that is built, as where it stands and its body
abbrev pub main_of_checked : Checked → Option (Span × Tree)
main_of_checked checked = function_in checked.forms.outside.items checked.unit.words checked.forms.has_main (items_of checked.unit.tree)

-- this is what the check of a text gives: its unit, with at most sixteen nodes for each token and one for the whole, what its words mean, the classes that it was judged with, what is said of each node of its function `main`, and its diagnostics; it has no more tokens than a text may have bytes
pub record IsCheckOf (text : List ℕ) (checked : Checked) : Type 0 where
  pub short : length (tokens_of text) ≤ max_text
  pub tree : checked.unit.tree ≡ unit_of_text text
  pub words : checked.unit.words ≡ words_of text
  pub outside : checked.forms.outside.items ≡ outside_of text
  pub one : checked.forms.has_main ≡ has_main (words_of text) (unit_of_text text)
  pub rows : checked.rows.table ≡ core_table
  pub few : nodes_in (unit_of_text text) ≤ 16 * length (tokens_of text) + 1
  pub typed : checked.typed.items ≡ typed_tree text
  pub diagnostics : checked.diagnostics ≡ diagnostics text

-- a library that was checked, and in whose text nothing is wrong
pub record IsFaultless (checked : Checked) : Type 0 where
  pub text : List ℕ
  pub check : IsCheckOf text checked
  pub none : faults_in text ≡ []
