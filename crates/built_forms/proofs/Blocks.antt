-- The body of a function that is built.
use Rattle.std.proofs.Common.{◌≡◌, ◌⊎◌, inl, inr, ℕ, Bool, true, false, ◌&&◌, List, Option, Some, None, option_map, is_some, if◌then◌else◌, refl, sym, ap, subst}
use Rattle.std.proofs.lemmas.Bool.{true≢false}
use Rattle.std.specs.Option.{option_or, option_map_or}
use Rattle.dart_tree.specs.Tree.{Tree, Trees, no_more, more, block, plain_function, function_declaration}
use Rattle.dart_tree.specs.declared.places.Span.{Span}
use Rattle.judgement.specs.declared.meaning.Meaning.{Meaning}
use Rattle.built_forms.specs.Forms.{is_block}
use Rattle.built_forms.specs.Units.{is_main, is_void, are_none, takes_nothing, main_of, function_of, function_in, has_main, items_of, meanings_in}
use Rattle.built_forms.specs.Laws.{BodiesAreBuilt, BodiesAreBlocks, IsBuiltBlock}

-- none is not some
none_is_none : {A B : Type 0} {x : A} → ◌≡◌ {A = Option A} None (Some x) → B
none_is_none is = absurd (true≢false (ap is_some (sym is)))

-- what is there is the first or the second
one_of : {A : Type 0} (a b : Option A) (x : A) → option_or a b ≡ Some x → (a ≡ Some x) ⊎ (b ≡ Some x)
one_of None b x is = inr is
one_of (Some y) b x is = inl is

-- the second of two tests holds where both do
second_holds : (a b : Bool) → (a && b) ≡ true → b ≡ true
second_holds true b is = is
second_holds false b is = absurd (true≢false (sym is))

-- what is found under a test is that, and the test holds
found_where : (test : Bool) (found body : Tree) → (if test then Some found else None) ≡ Some body → (test ≡ true) × (found ≡ body)
found_where true found body is = (refl, ap (λ (o : Option Tree). option_map_or (λ t. t) o body) is)
found_where false found body is = none_is_none is

-- behind a test a function is found with where it stands
found_at : (test : Bool) (at span : Span) (main : Option Tree) (body : Tree) → (if test then option_map {U = Span × Tree} (λ b. (at, b)) main else None) ≡ Some (span, body) → main ≡ Some body
found_at true at span None body is = none_is_none is
found_at true at span (Some b) body is = ap (λ (o : Option (Span × Tree)). option_map (λ p. p.1) o) is
found_at false at span main body is = none_is_none is

module _ (outside : List Meaning) (words : List (List ℕ)) (one : Bool) where
  -- a function `main` that is built has a body that is built
  main_is_built : (function body : Tree) → main_of outside words one function ≡ Some body → is_block outside body ≡ true
  main_is_built (plain_function at result name type_parameters parameters inner) body is =
      let found = found_where (is_void result && (are_none type_parameters && (takes_nothing parameters && (one && (is_main words name.word && is_block outside inner))))) inner body is in
      subst (λ (t : Tree). is_block outside t ≡ true) found.1
      (second_holds (is_main words name.word) _
      (second_holds one _
      (second_holds (takes_nothing parameters) _
      (second_holds (are_none type_parameters) _
      (second_holds (is_void result) _ found.0)))))
  main_is_built _ body is = none_is_none is

  -- so has an item that is one
  function_is_built : (item : Tree) (span : Span) (body : Tree) → function_of outside words one item ≡ Some (span, body) → is_block outside body ≡ true
  function_is_built (function_declaration at metadata function) span body is =
      main_is_built function body (found_at (are_none metadata) at.span span (main_of outside words one function) body is)
  function_is_built _ span body is = none_is_none is

  -- and the first of several items that is one
  all_are_built : (items : Trees) (span : Span) (body : Tree) → function_in outside words one items ≡ Some (span, body) → is_block outside body ≡ true
  all_are_built no_more span body is = none_is_none is
  all_are_built (more first rest) span body is =
      elim (one_of (function_of outside words one first) (function_in outside words one rest) (span, body) is) [
        | inl here ↦ function_is_built first span body here
        | inr behind ↦ all_are_built rest span body behind
      ]

-- and the function `main` of a unit
pub bodies_are_built : BodiesAreBuilt
bodies_are_built words tree span body is = all_are_built (meanings_in words tree) words (has_main words tree) (items_of tree) span body is

-- what is a block that is built is a block of statements that are
block_of : (outside : List Meaning) (body : Tree) → is_block outside body ≡ true → IsBuiltBlock outside body
block_of outside (block at statements) is = record { at = at; statements = statements; body_is = refl; are_built = is }
block_of outside _ is = absurd (true≢false (sym is))

-- such a block is the body of the function `main`
pub bodies_are_blocks : BodiesAreBlocks
bodies_are_blocks words tree span body is = block_of (meanings_in words tree) body (bodies_are_built words tree span body is)
