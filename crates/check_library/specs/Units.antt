-- The unit of a text, and what of it is checked so far.
use Rattle.std.specs.Prelude.{ℕ, false, List, [], Option, option_map}
use Rattle.dart_scan.specs.Scanned.{tokens_of, words_of}
use Rattle.grammar.specs.Tokens.{grammar_tokens}
use Rattle.grammar.specs.Whole.{unit_of}
use Rattle.dart_tree.specs.Tree.{Tree}
use Rattle.dart_tree.specs.Numbers.{numbered}
use Rattle.dart_tree.specs.declared.places.Span.{Span}
use Rattle.dart_types.specs.Tables.{Table}
use Rattle.flow_model.specs.Flow.{start_of}
use Rattle.core_rows.specs.CoreTable.{core_table}
use Rattle.judgement.specs.declared.meaning.Meaning.{Meaning}
use Rattle.judgement.specs.Given.{Outcome}
use Rattle.judgement.specs.Judgement.{run}
use Rattle.judgement.specs.Surroundings.{of_body}
use Rattle.built_forms.specs.Units.{built_main, meanings_in}

-- the unit of a text, its nodes numbered in reading order
unfoldable pub unit_of_text : List ℕ → Tree
unit_of_text text = numbered 0 (unit_of false (grammar_tokens (tokens_of text)))

-- what the words of a text mean outside of its functions
abbrev pub outside_of : List ℕ → List Meaning
outside_of text = meanings_in (words_of text) (unit_of_text text)

-- the function `main` of a text, if it is of forms that are built, as where it stands and its body
abbrev pub main_of : List ℕ → Option (Span × Tree)
main_of text = built_main (words_of text) (unit_of_text text)

-- what of a text is judged and may be run: the body of that function
abbrev pub body_of : List ℕ → Option Tree
body_of text = option_map (λ main. main.1) (main_of text)

-- what the rules say of the body of a function without parameters, before which nothing is known
abbrev pub judged_by : Table → (words : List (List ℕ)) → (outside : List Meaning) → (body : Tree) → Outcome
judged_by table words outside body = run (of_body table words outside) body (start_of [])

-- what they say of a body that stands in a text, over the classes of `dart:core`
abbrev pub judged_body : (text : List ℕ) → (body : Tree) → Outcome
judged_body text body = judged_by core_table (words_of text) (outside_of text) body
