-- The body of a library that was checked, in whose text nothing is wrong.
use Rattle.std.proofs.Common.{◌≡◌, ℕ, ◌+◌, ◌*◌, ◌^◌, ◌<◌, ◌≤◌, false, true, List, [], Option, Some, None, refl, sym, ap, ◌∙◌, subst, arith}
use Rattle.std.specs.Option.{option_map_or}
use Rattle.std.specs.Prelude.{option_map}
use Rattle.dart_scan.specs.Scanned.{tokens_of, words_of}
use Rattle.dart_text.specs.Edits.{max_text}
use Rattle.dart_tree.specs.Tree.{Tree, Trees, block}
use Rattle.dart_tree.specs.Numbers.{nodes_in, numbered}
use Rattle.dart_tree.specs.Places.{place_of}
use Rattle.dart_tree.specs.declared.places.Place.{Place}
use Rattle.dart_tree.specs.declared.places.Span.{Span}
use Rattle.dart_types.specs.Tables.{Table}
use Rattle.judgement.specs.Given.{Outcome}
use Rattle.judgement.specs.declared.meaning.Meaning.{Meaning}
use Rattle.built_forms.specs.Forms.{is_statement}
use Rattle.built_forms.specs.Laws.{BodiesAreBlocks, IsBuiltBlock}
use Rattle.check_library.specs.Checked.{IsCheckOf, main_of_checked}
use Rattle.check_library.specs.Faultless.{body_faultless, main_of_check}
use Rattle.check_library.specs.Diagnostics.{faults_in}
use Rattle.check_library.specs.Units.{body_of, judged_body, judged_by, main_of, outside_of, unit_of_text}
use Rattle.check_library.specs.declared.library.Checked.{Checked}
use Rattle.grammar.specs.Tokens.{grammar_tokens}
use Rattle.grammar.specs.Whole.{unit_of}
use Rattle.elaborate.proofs.Bodies.{IsNumbered, body_numbered}

-- what is found of a pair
pub record Found (o : Option (Span × Tree)) (body : Tree) : Type 0 where
  pub main : Span × Tree
  pub is : o ≡ Some main
  pub body_is : main.1 ≡ body

pub found_pair : (o : Option (Span × Tree)) (body : Tree) → option_map (λ (main : Span × Tree). main.1) o ≡ Some body → Found o body
found_pair None body is = absurd cc
found_pair (Some main) body is = record { main = main; is = refl; body_is = cc }

module _ (text : List ℕ) (checked : Checked) (check : IsCheckOf text checked) (body : Tree) (is : option_map (λ (main : Span × Tree). main.1) (main_of_checked checked) ≡ Some body) where
  found : Found (main_of text) body
  found = found_pair (main_of text) body (ap (option_map (λ (main : Span × Tree). main.1)) (sym (main_of_check text checked check)) ∙ is)

  pub body_is : body_of text ≡ Some body
  body_is = ap (option_map (λ (main : Span × Tree). main.1)) (sym (main_of_check text checked check)) ∙ is

  -- it is a block of forms that are built
  pub is_block_of : BodiesAreBlocks → IsBuiltBlock (outside_of text) body
  is_block_of blocks =
      subst (IsBuiltBlock (outside_of text)) found.body_is (blocks (words_of text) (unit_of_text text) found.main.0 found.main.1 found.is)

  -- its nodes are numbered, and fewer than those of the unit
  pub is_numbered : ((first before : ℕ) (t : Tree) → numbered first (numbered before t) ≡ numbered first t) → IsNumbered body (nodes_in (unit_of_text text))
  unfolding unit_of_text
  is_numbered anew =
      subst (λ (t : Tree). IsNumbered t (nodes_in (unit_of_text text))) found.body_is
      (body_numbered (outside_of text) (words_of text) _ (unit_of_text text) found.main (anew 0 0 (unit_of false (grammar_tokens (tokens_of text)))) found.is)

  -- this is said of its nodes
  pub typed_is : checked.typed.items ≡ (judged_body text body).nodes
  typed_is = check.typed ∙ ap (λ (o : Option Tree). option_map_or (λ (t : Tree). (judged_body text t).nodes) o []) body_is

  -- the rules are those of what was checked
  pub judged_is : judged_body text body ≡ judged_by checked.rows.table checked.unit.words checked.forms.outside.items body
  judged_is =
      ap (λ (table : Table). judged_by table (words_of text) (outside_of text) body) (sym check.rows)
      ∙ ap (λ (words : List (List ℕ)). judged_by checked.rows.table words (outside_of text) body) (sym check.words)
      ∙ ap (λ (outside : List Meaning). judged_by checked.rows.table checked.unit.words outside body) (sym check.outside)

  pub faultless_is : faults_in text ≡ [] → (judged_by checked.rows.table checked.unit.words checked.forms.outside.items body).faults ≡ []
  faultless_is none = sym (ap (λ (o : Outcome). o.faults) judged_is) ∙ body_faultless text body none body_is

  pub nodes_are : checked.typed.items ≡ (judged_by checked.rows.table checked.unit.words checked.forms.outside.items body).nodes
  nodes_are = typed_is ∙ ap (λ (o : Outcome). o.nodes) judged_is

-- a block that is numbered is numbered from its own number on
pub numbered_at : (n : ℕ) (at : Place) (statements : Trees) → numbered n (block at statements) ≡ block at statements → numbered at.node.0 (block at statements) ≡ block at statements
numbered_at n at statements is = subst (λ m. numbered m (block at statements) ≡ block at statements) (ap (λ (t : Tree). (place_of t).node.0) is) is

-- a block of built forms is a statement of one
pub statement_built : (outside : List Meaning) (body : Tree) → IsBuiltBlock outside body → is_statement outside body ≡ true
statement_built outside body built = subst (λ (t : Tree). is_statement outside t ≡ true) (sym built.body_is) built.are_built

-- no other form of a body is a block
pub no_block : (outside : List Meaning) (body t : Tree) → IsBuiltBlock outside body → t ≡ body → ((at : Place) (statements : Trees) → t ≡ block at statements → ⊥) → ⊥
no_block outside body t built is other = other built.at built.statements (is ∙ built.body_is)

-- the points of a function are few beside the tokens of its text
pub points_few : (count nodes unit tokens : ℕ) → count ≤ 2 * nodes + 2 → nodes + 3 ≤ unit → unit ≤ 16 * tokens + 1 → count ≤ 64 * tokens
points_few count nodes unit tokens few fewer more = omega arith

-- the nodes and the points of a text of at most so many tokens have numbers
pub fits : (nodes unit tokens : ℕ) → nodes + 3 ≤ unit → unit ≤ 16 * tokens + 1 → tokens ≤ max_text → nodes < 2 ^ 30
fits nodes unit tokens fewer more short = omega arith

pub count_fits : (count nodes unit tokens : ℕ) → count ≤ 2 * nodes + 2 → nodes + 3 ≤ unit → unit ≤ 16 * tokens + 1 → tokens ≤ max_text → count ≤ 2 ^ 32
count_fits count nodes unit tokens few fewer more short = omega arith
