-- What the locals of a scope hide: nothing.
use Rattle.std.proofs.Common.{◌≡◌, ℕ, Bool, true, false, cond, nat_eq, List, [], ◌∷◌, Option, Some, None, refl, sym, ap, ◌∙◌}
use Rattle.std.specs.Prelude.{◌||◌, All}
use Rattle.std.specs.Cmp.{nat_cmp_total, unsigned_tied}
use Rattle.std.specs.Ordering.{nat_cmp}
use Rattle.std.specs.FinMap.{get, get-empty, get-insert}
use Rattle.std.proofs.lemmas.Bool.{and_parts, eqb-true}
use Rattle.std.proofs.lemmas.List.Elements.{All-nil, All-cons, All-head, All-tail, All-append}
use Rattle.dart_tree.specs.Tree.{Tree, Trees, no_more, more, variable, variable_list, block, variable_statement}
use Rattle.dart_tree.specs.declared.names.Name.{Name}
use Rattle.dart_types.specs.Tables.{Table}
use Rattle.flow_model.specs.declared.locals.LocalId.{LocalId}
use Rattle.judgement.specs.declared.meaning.Meaning.{Meaning}
use Rattle.judgement.specs.Surroundings.{Names, Surroundings, of_body}
use Rattle.judgement.specs.DeclaredNames.{local_of, name_of_variable, names_declared, names_in, names_of_list, names_of_variables, names_within, within}
use Rattle.built_forms.specs.Forms.{is_free, is_variable, may_initialize, is_one_variable, has_type, is_declaration, is_error, is_statement, is_block, are_statements}
use Rattle.built_forms.specs.Meanings.{meaning_at}
use Rattle.rule_laws.specs.Plain.{HidesNothing}

module _ (outside : List Meaning) where
  -- names of words that mean nothing outside of the body
  abbrev IsFree : Name → Type 0
  IsFree x = is_free (meaning_at outside x.word) ≡ true

  -- the words of locals are such
  abbrev AreFree : Names → Type 0
  AreFree names = (word : ℕ) (var : LocalId) → get names word ≡ Some var → is_free (meaning_at outside word) ≡ true

  -- the step of the next lemma
  free_at : (names : Names) (x : Name) (word : ℕ) (var : LocalId) (b : Bool) → (b ≡ true → word ≡ x.word) → IsFree x → AreFree names → cond b (Some (local_of x)) (get names word) ≡ Some var → is_free (meaning_at outside word) ≡ true
  free_at names x word var true same own others is = ap (λ (w : ℕ). is_free (meaning_at outside w)) (same refl) ∙ own
  free_at names x word var false same own others is = others word var is

  -- more such names
  free_within : (names : Names) (xs : List Name) → AreFree names → All IsFree xs → AreFree (names_within names xs)
  free_within names [] around all word var is = around word var is
  free_within names (x ∷ xs) around all word var is =
      let inner = names_within names xs in
      free_at inner x word var (nat_eq word x.word) (λ h. eqb-true word x.word h) (All-head IsFree x xs all) (free_within names xs around (All-tail IsFree x xs all))
      (ap (λ (same : Bool). cond same (Some (local_of x)) (get inner word)) (sym (unsigned_tied word x.word)) ∙ (sym (get-insert nat_cmp_total inner x.word (local_of x) word) ∙ is))

  -- The names that statements declare.

  -- a variable
  free_variable : (tree : Tree) → is_variable outside tree ≡ true → All IsFree (name_of_variable tree)
  free_variable (variable at name initializer) h =
      All-cons IsFree name [] (and_parts (is_free (meaning_at outside name.word)) (may_initialize outside initializer) h).0 (All-nil IsFree)
  free_variable _ h = cc

  -- one variable
  free_variables : (trees : Trees) → is_one_variable outside trees ≡ true → All IsFree (names_of_variables trees)
  free_variables (more first no_more) h = All-append IsFree (name_of_variable first) [] (free_variable first h) (All-nil IsFree)
  free_variables _ h = cc

  -- a declaration
  free_list : (tree : Tree) → is_declaration outside tree ≡ true → All IsFree (names_of_list tree)
  free_list (variable_list at false written variables) h =
      free_variables variables (and_parts (has_type outside written) (is_one_variable outside variables) h).1
  free_list _ h = cc

  -- a statement, or what derives nothing
  free_declared : (tree : Tree) → (is_error tree || is_statement outside tree) ≡ true → All IsFree (names_declared tree)
  free_declared (variable_statement at variables) h = free_list variables h
  free_declared _ h = All-nil IsFree

  -- statements
  free_in : (trees : Trees) → are_statements outside trees ≡ true → All IsFree (names_in trees)
  free_in no_more h = All-nil IsFree
  free_in (more first rest) h =
      let parts = and_parts (is_error first || is_statement outside first) (are_statements outside rest) h in
      All-append IsFree (names_declared first) (names_in rest) (free_declared first parts.0) (free_in rest parts.1)

-- a statement is one, or derives nothing
pub or_statement : (a b : Bool) → b ≡ true → (a || b) ≡ true
or_statement true b h = refl
or_statement false b h = h

-- a block is a statement
pub block_is_statement : (outside : List Meaning) (tree : Tree) → is_block outside tree ≡ true → is_statement outside tree ≡ true
block_is_statement outside (block at statements) h = h
block_is_statement outside _ h = cc

-- a scope of the names that a statement itself declares hides nothing
pub statement_hides_nothing : (s : Surroundings) (tree : Tree) → (is_error tree || is_statement s.outside tree) ≡ true → HidesNothing s → HidesNothing (within s (names_declared tree))
statement_hides_nothing s tree h free = free_within s.outside s.names (names_declared tree) free (free_declared s.outside tree h)

-- nor does one of the names that statements declare
pub statements_hide_nothing : (s : Surroundings) (trees : Trees) → are_statements s.outside trees ≡ true → HidesNothing s → HidesNothing (within s (names_in trees))
statements_hide_nothing s trees h free = free_within s.outside s.names (names_in trees) free (free_in s.outside trees h)

-- the step of the next lemma
none_hidden : (found : Option LocalId) (var : LocalId) → found ≡ None → found ≡ Some var → ⊥
none_hidden found var none is = cc

-- at the start of a body no local is in scope
pub nothing_hidden : (table : Table) (words : List (List ℕ)) (outside : List Meaning) → HidesNothing (of_body table words outside)
nothing_hidden table words outside word var is =
    absurd (none_hidden (get (of_body table words outside).names word) var (get-empty nat_cmp word) is)
