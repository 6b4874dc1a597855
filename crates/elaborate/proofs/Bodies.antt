-- The body of the function of a unit whose nodes are numbered has its nodes numbered too, and fewer than the unit.
use Rattle.std.proofs.Common.{◌≡◌, ℕ, ◌+◌, ◌≤◌, Bool, true, false, cond, ◌&&◌, List, Option, Some, None, ap, subst, arith}
use Rattle.std.specs.Option.{option_or}
use Rattle.std.specs.Prelude.{option_map}
use Rattle.dart_tree.specs.Tree.{Tree, Trees, more, no_more, function_declaration, plain_function, unit}
use Rattle.dart_tree.specs.Numbers.{all_numbered, nodes_in, nodes_in_all, nodes_in_part, numbered}
use Rattle.dart_tree.specs.declared.places.Place.{Place}
use Rattle.dart_tree.specs.declared.places.Span.{Span}
use Rattle.judgement.specs.declared.meaning.Meaning.{Meaning}
use Rattle.built_forms.specs.Forms.{is_block}
use Rattle.built_forms.specs.Units.{are_none, function_in, function_of, is_main, is_void, items_of, main_of, takes_nothing}

-- a tree whose nodes are numbered, and of which there are fewer than in another
pub record IsNumbered (t : Tree) (count : ℕ) : Type 0 where
  pub first : ℕ
  pub is : numbered first t ≡ t
  pub fewer : nodes_in t + 3 ≤ count

-- what is found where a test holds
some_of : {A : Type 0} (b : Bool) (x y : A) → cond b (Some x) None ≡ Some y → x ≡ y
some_of true x y is = cc
some_of false x y is = absurd cc

none_of : {A : Type 0} (b : Bool) (o : Option A) (y : A) → cond b o None ≡ Some y → o ≡ Some y
none_of true o y is = is
none_of false o y is = absurd cc

body_of_pair : (at : Place) (o : Option Tree) (found : Span × Tree) → option_map (λ (body : Tree). (at.span, body)) o ≡ Some found → o ≡ Some found.1
body_of_pair at None found is = absurd cc
body_of_pair at (Some body) found is = let same : (at.span, body) ≡ found = cc in ap (λ (pair : Span × Tree). Some pair.1) same

module _ (outside : List Meaning) (words : List (List ℕ)) (one : Bool) where
  main_numbered : (t body : Tree) (n : ℕ) → numbered n t ≡ t → main_of outside words one t ≡ Some body → IsNumbered body (nodes_in t + 1)
  main_numbered (plain_function at result name type_parameters parameters inner) body n is found =
      let same : inner ≡ body = some_of (is_void result && (are_none type_parameters && (takes_nothing parameters && (one && (is_main words name.word && is_block outside inner))))) inner body found in
      let here : IsNumbered inner (nodes_in (plain_function at result name type_parameters parameters inner) + 1) = record { first = n + 1 + nodes_in_part result + 1 + nodes_in_all type_parameters + nodes_in parameters; is = cc; fewer = omega arith } in
      subst (λ (b : Tree). IsNumbered b (nodes_in (plain_function at result name type_parameters parameters inner) + 1)) same here
  main_numbered _ body n is found = absurd cc

  item_numbered : (t : Tree) (found : Span × Tree) (n : ℕ) → numbered n t ≡ t → function_of outside words one t ≡ Some found → IsNumbered found.1 (nodes_in t)
  item_numbered (function_declaration at metadata function) found n is here =
      let inner : numbered (n + 1 + nodes_in_all metadata) function ≡ function = cc in
      let main : main_of outside words one function ≡ Some found.1 =
      body_of_pair at (main_of outside words one function) found (none_of (are_none metadata) (option_map (λ (body : Tree). (at.span, body)) (main_of outside words one function)) found here) in
      let one_is = main_numbered function found.1 (n + 1 + nodes_in_all metadata) inner main in
      record { first = one_is.first; is = one_is.is; fewer = let fewer = one_is.fewer in omega arith }
  item_numbered _ found n is here = absurd cc

  first_of : (o p : Option (Span × Tree)) (found : Span × Tree) (count behind_count : ℕ) → option_or o p ≡ Some found → (o ≡ Some found → IsNumbered found.1 count) → (p ≡ Some found → IsNumbered found.1 behind_count) → IsNumbered found.1 (count + behind_count)
  first_of (Some x) p found count behind_count is here behind = let own = here is in record { first = own.first; is = own.is; fewer = let fewer = own.fewer in omega arith }
  first_of None p found count behind_count is here behind = let own = behind is in record { first = own.first; is = own.is; fewer = let fewer = own.fewer in omega arith }

  items_numbered : (ts : Trees) (found : Span × Tree) (n : ℕ) → all_numbered n ts ≡ ts → function_in outside words one ts ≡ Some found → IsNumbered found.1 (nodes_in_all ts)
  items_numbered no_more found n is here = absurd cc
  items_numbered (more first rest) found n is here =
      let one_is : numbered n first ≡ first = cc in
      let rest_is : all_numbered (n + nodes_in first) rest ≡ rest = cc in
      first_of (function_of outside words one first) (function_in outside words one rest) found (nodes_in first) (nodes_in_all rest) here
      (λ own. item_numbered first found n one_is own) (λ own. items_numbered rest found (n + nodes_in first) rest_is own)

  -- the body of the function that a unit holds
  pub body_numbered : (t : Tree) (found : Span × Tree) → numbered 0 t ≡ t → function_in outside words one (items_of t) ≡ Some found → IsNumbered found.1 (nodes_in t)
  body_numbered (unit at items) found is here =
      let inner : all_numbered 1 items ≡ items = cc in
      let own = items_numbered items found 1 inner here in
      record { first = own.first; is = own.is; fewer = let fewer = own.fewer in omega arith }
  body_numbered _ found is here = absurd cc
