-- What stands in front of a name is read once: which declarations may come behind it.
use Rattle.std.proofs.Common.{◌≡◌, ℕ, zero, suc, Bool, true, false, ◌&&◌, ◌||◌, List, [], ◌∷◌, Option, Some, None, refl, sym, ap, ◌∙◌}
use denote.Enum.Bare.{same_true}
use Rattle.readings.specs.Readings.{Reading, next, made, tokens_read}
use Rattle.readings.specs.Descent.{Descent, bind, or_else, take_token, take_maybe, take_make, take_before, ◌▸◌}
use Rattle.dart_tokens.specs.declared.token.Kind.{Kind}
use Rattle.dart_tokens.specs.declared.token.Kind.TheVariants as kind
use Rattle.dart_tokens.specs.contracts.token.Kind as kinds
use Rattle.dart_tree.specs.Tree.{Tree}
use Rattle.dart_tokens.specs.declared.grouped_token.GroupedToken.{GroupedToken as Token}
use Rattle.grammar.specs.Tokens.{is, is_either, is_name, heads, heads_name, first_then}
use Rattle.grammar.specs.Statements.{variable_of, variables_of, variable_statement_of, plain_function_of, function_statement_of}
use Rattle.grammar.specs.Descents.{Lower, lower, take_separated, take_plain_type, take_type_name, take_tail, take_tail_before, take_type, take_type_parameters, take_declared, take_variable, take_variables, take_variable_statement, take_local_rest, take_local_function, take_function_statement}

-- What may be left out.

-- the reading of what is there
abbrev there : {A : Type 0} → Option (Reading Token (Option A)) → Option (Reading Token A)
there None = None
there (Some (None, us)) = None
there (Some (Some a, us)) = Some (a, us)

some_out : {A : Type 0} (ts us : List Token) (a : A) (o : Option (Reading Token A)) → or_else (bind o (λ x. Some (made (λ read b. Some b) ts x))) (Some (None, ts)) ≡ Some (Some a, us) → o ≡ Some (a, us)
some_out ts us a None e = ap there e
some_out ts us a (Some (b, vs)) e = ap there e

none_out : {A : Type 0} (ts us : List Token) (o : Option (Reading Token A)) → or_else (bind o (λ x. Some (made (λ read b. Some b) ts x))) (Some (None, ts)) ≡ Some (None, us) → o ≡ None
none_out ts us None e = ap there e
none_out ts us (Some (b, vs)) e = ap there e

never_out : {A B : Type 0} (ts : List Token) (o : Option (Reading Token A)) (p : Option B) → or_else (bind o (λ x. Some (made (λ read b. Some b) ts x))) (Some (None, ts)) ≡ None → p ≡ None
never_out ts None p e = absurd (cc)
never_out ts (Some x) p e = absurd (cc)

-- it is there
pub maybe_some : {A : Type 0} (g : Descent Token A) (ts us : List Token) (a : A) → take_maybe g ts ≡ Some (Some a, us) → g ts ≡ Some (a, us)
maybe_some g ts us a e = some_out ts us a (g ts) e

-- it is left out
pub maybe_none : {A : Type 0} (g : Descent Token A) (ts us : List Token) → take_maybe g ts ≡ Some (None, us) → g ts ≡ None
maybe_none g ts us e = none_out ts us (g ts) e

-- one of both
pub maybe_never : {A B : Type 0} (g : Descent Token A) (ts : List Token) (p : Option B) → take_maybe g ts ≡ None → p ≡ None
maybe_never g ts p e = never_out ts (g ts) p e

-- Parts without a reading.

no_make : {A B : Type 0} (f : List Token → A → B) (g : Descent Token A) (ts : List Token) → g ts ≡ None → take_make f g ts ≡ None
no_make f g ts e = rw e refl

no_first : {A B : Type 0} (g : Descent Token A) (h : Descent Token B) (ts : List Token) → g ts ≡ None → (g ▸ h) ts ≡ None
no_first g h ts e = rw e refl

no_second : {A B : Type 0} (g : Descent Token A) (h : Descent Token B) (ts us : List Token) (a : A) → g ts ≡ Some (a, us) → h us ≡ None → (g ▸ h) ts ≡ None
no_second g h ts us a e d = rw (e, d) refl

-- Tests.

first_false : (a b : Bool) → (a || b) ≡ false → a ≡ false
first_false true b e = absurd (cc)
first_false false b e = refl

second_false : (a b : Bool) → (a || b) ≡ false → b ≡ false
second_false true b e = absurd (cc)
second_false false b e = e

first_true : (a b : Bool) → (a && b) ≡ true → a ≡ true
first_true true b e = refl
first_true false b e = absurd (cc)

second_true : (a b : Bool) → (a && b) ≡ true → b ≡ true
second_true true b e = e
second_true false b e = absurd (cc)

-- the token has one of two kinds
of_either : {P : Type 0} (j k : Kind) (t : Token) → is_either j k t ≡ true → (t.kind ≡ j → P) → (t.kind ≡ k → P) → P
of_either {P = P} j k t e f g = by (is j t) refl
  where
    by : (b : Bool) → is j t ≡ b → P
    by true d = f (same_true kinds.the_type tt t.kind j d)
    by false d = let at : is k t ≡ true = sym (ap (λ b. b || is k t) d) ∙ e in g (same_true kinds.the_type tt t.kind k at)

-- no `final` and no `var`
no_final : (ts : List Token) → next (is_either kind.Final kind.Var) ts ≡ false → heads kind.Final ts ≡ false
no_final [] e = refl
no_final (t ∷ ts) e = first_false (is kind.Final t) (is kind.Var t) e

no_var : (ts : List Token) → next (is_either kind.Final kind.Var) ts ≡ false → heads kind.Var ts ≡ false
no_var [] e = refl
no_var (t ∷ ts) e = second_false (is kind.Final t) (is kind.Var t) e

-- What stands before the names of variables, where it is no word.

-- a type
pub typed_declared : (l : Lower) (ts us : List Token) (written : Tree) → next (is_either kind.Final kind.Var) ts ≡ false → take_maybe (take_before heads_name l.named) ts ≡ Some (Some written, us) →
    take_declared l ts ≡ Some ((false, Some written), us)
unfolding take_declared
typed_declared l ts us written e d = rw (no_final ts e, no_var ts e, maybe_some (take_before heads_name l.named) ts us written d) refl

-- nothing
untyped_declared : (l : Lower) (ts us : List Token) → next (is_either kind.Final kind.Var) ts ≡ false → take_maybe (take_before heads_name l.named) ts ≡ Some (None, us) → take_declared l ts ≡ None
unfolding take_declared
untyped_declared l ts us e d = rw (no_final ts e, no_var ts e, maybe_none (take_before heads_name l.named) ts us d) refl

-- no variables where nothing stands before their names
pub undeclared_variables : (l : Lower) (ts : List Token) → take_declared l ts ≡ None → take_variables l ts ≡ None
unfolding take_variables
undeclared_variables l ts e = no_make variables_of (take_declared l ▸ take_separated (take_variable l)) ts (no_first (take_declared l) (take_separated (take_variable l)) ts e)

pub untyped_variables : (l : Lower) (ts us : List Token) → next (is_either kind.Final kind.Var) ts ≡ false → take_maybe (take_before heads_name l.named) ts ≡ Some (None, us) → take_variable_statement l ts ≡ None
unfolding take_variable_statement
untyped_variables l ts us e d =
    no_make variable_statement_of (take_variables l ▸ take_token (is kind.Semicolon)) ts
    (no_first (take_variables l) (take_token (is kind.Semicolon)) ts (undeclared_variables l ts (untyped_declared l ts us e d)))

-- No variables where a function's parameters stand behind the name.

one_variable : (l : Lower) (t u : Token) (us : List Token) → is_name t ≡ true → is kind.Equals u ≡ false → is kind.Comma u ≡ false →
    take_separated (take_variable l) (t ∷ (u ∷ us)) ≡ Some (variable_of (tokens_read (t ∷ (u ∷ us)) (u ∷ us)) (t, None) ∷ [], u ∷ us)
unfolding take_variable
one_variable l t u us e d c = rw (e, d, c) refl

-- the kinds that a function's parameters begin with end no variables
record Unended (u : Token) : Type 0 where
  equals : is kind.Equals u ≡ false
  comma : is kind.Comma u ≡ false
  semicolon : is kind.Semicolon u ≡ false

unended : (u : Token) → is_either kind.OpenParenthesis kind.Less u ≡ true → Unended u
unended u e =
    of_either kind.OpenParenthesis kind.Less u e (λ d. record { equals = rw d refl; comma = rw d refl; semicolon = rw d refl })
    (λ d. record { equals = rw d refl; comma = rw d refl; semicolon = rw d refl })

called_typed : (l : Lower) (ts : List Token) (t u : Token) (us : List Token) (written : Tree) → take_declared l ts ≡ Some ((false, Some written), t ∷ (u ∷ us)) → is_name t ≡ true → Unended u → take_variable_statement l ts ≡ None
unfolding take_variable_statement take_variables
called_typed l ts t u us written e d stop =
    let one : take_separated (take_variable l) (t ∷ (u ∷ us)) ≡ Some (variable_of (tokens_read (t ∷ (u ∷ us)) (u ∷ us)) (t, None) ∷ [], u ∷ us) = one_variable l t u us d stop.equals stop.comma in
    rw (e, one, stop.semicolon) refl

pub called_variables : (l : Lower) (ts us : List Token) (written : Option Tree) → next (is_either kind.Final kind.Var) ts ≡ false → take_maybe (take_before heads_name l.named) ts ≡ Some (written, us) →
    first_then is_name (next (is_either kind.OpenParenthesis kind.Less)) us ≡ true → take_variable_statement l ts ≡ None
called_variables l ts us None e d c = untyped_variables l ts us e d
called_variables l ts [] (Some written) e d c = absurd (cc)
called_variables l ts (t ∷ []) (Some written) e d c = absurd (let at : false ≡ true = second_true (is_name t) false c in cc)
called_variables l ts (t ∷ (u ∷ us)) (Some written) e d c =
    called_typed l ts t u us written (typed_declared l ts (t ∷ (u ∷ us)) written e d) (first_true (is_name t) (is_either kind.OpenParenthesis kind.Less u) c)
    (unended u (second_true (is_name t) (is_either kind.OpenParenthesis kind.Less u) c))

-- No function where none of its parameters stand behind the name.

no_rest : (l : Lower) (us : List Token) → next (is_either kind.OpenParenthesis kind.Less) us ≡ false → (take_maybe (take_type_parameters l) ▸ take_local_rest l) us ≡ None
unfolding take_type_parameters take_local_rest
no_rest l [] e = refl
no_rest l (u ∷ us) e =
    let plain : take_maybe (take_type_parameters l) (u ∷ us) ≡ Some (None, u ∷ us) = rw (second_false (is kind.OpenParenthesis u) (is kind.Less u) e) refl in
    no_second (take_maybe (take_type_parameters l)) (take_local_rest l) (u ∷ us) (u ∷ us) None plain (rw (first_false (is kind.OpenParenthesis u) (is kind.Less u) e) refl)

no_name : (l : Lower) (us : List Token) → first_then is_name (next (is_either kind.OpenParenthesis kind.Less)) us ≡ false → (take_token is_name ▸ take_maybe (take_type_parameters l) ▸ take_local_rest l) us ≡ None
no_name l [] e = refl
no_name l (t ∷ us) e = by (is_name t) refl
  where
    by : (b : Bool) → is_name t ≡ b → (take_token is_name ▸ take_maybe (take_type_parameters l) ▸ take_local_rest l) (t ∷ us) ≡ None
    by true d =
        let rest : next (is_either kind.OpenParenthesis kind.Less) us ≡ false = sym (ap (λ b. b && next (is_either kind.OpenParenthesis kind.Less) us) d) ∙ e in
        no_second (take_token is_name) (take_maybe (take_type_parameters l) ▸ take_local_rest l) (t ∷ us) us t (rw d refl) (no_rest l us rest)
    by false d = rw d refl

pub uncalled_function : (l : Lower) (ts us : List Token) (written : Option Tree) → take_maybe (take_before heads_name l.named) ts ≡ Some (written, us) →
    first_then is_name (next (is_either kind.OpenParenthesis kind.Less)) us ≡ false → take_function_statement l ts ≡ None
unfolding take_function_statement take_local_function
uncalled_function l ts us written e d =
    no_make function_statement_of (take_local_function l) ts
    (no_make plain_function_of (take_maybe (take_before heads_name l.named) ▸ take_token is_name ▸ take_maybe (take_type_parameters l) ▸ take_local_rest l) ts
    (no_second (take_maybe (take_before heads_name l.named)) (take_token is_name ▸ take_maybe (take_type_parameters l) ▸ take_local_rest l) ts us written e (no_name l us d)))

-- No function behind `final` or `var`.

word_type : (n : ℕ) (t : Token) (ts : List Token) → is_either kind.Final kind.Var t ≡ true → take_before heads_name (lower n).named (t ∷ ts) ≡ None
unfolding lower take_type take_tail_before take_tail take_plain_type take_type_name
word_type zero t ts e = refl
word_type (suc n) t ts e = of_either kind.Final kind.Var t e (λ d. rw d refl) (λ d. rw d refl)

pub word_function : (n : ℕ) (ts : List Token) → next (is_either kind.Final kind.Var) ts ≡ true → take_function_statement (lower n) ts ≡ None
word_function n [] e = absurd (cc)
word_function n (t ∷ ts) e =
    let none : take_maybe (take_before heads_name (lower n).named) (t ∷ ts) ≡ Some (None, t ∷ ts) = rw (word_type n t ts e) refl in
    let unnamed : first_then is_name (next (is_either kind.OpenParenthesis kind.Less)) (t ∷ ts) ≡ false = of_either kind.Final kind.Var t e (λ d. rw d refl) (λ d. rw d refl) in
    uncalled_function (lower n) (t ∷ ts) (t ∷ ts) None none unnamed
