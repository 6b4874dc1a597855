-- Which of the two comes next, a function or variables, by the tokens behind the type in front of a name.
use Rattle.std.proofs.Common.{◌≡◌, ℕ, zero, suc, Bool, true, false, ◌&&◌, ◌||◌, List, [], ◌∷◌, Option, Some, None, is_some, refl, ap, ◌∙◌}
use Rattle.std.specs.Option.{option_map}
use denote.Enum.Bare.{sameb, same_true}
use Rattle.readings.specs.Readings.{Reading, Test, next, made, behind}
use Rattle.readings.specs.Descent.{Descent, bind, or_else, take_token, take_given, take_turn, take_before, ◌▸◌}
use Rattle.dart_tokens.specs.declared.token.Kind.{Kind}
use Rattle.dart_tokens.specs.declared.token.Kind.TheVariants as kind
use Rattle.dart_tokens.specs.contracts.token.Kind as kinds
use Rattle.dart_tokens.specs.Kinds.{is_identifier, may_name_a_type}
use Rattle.dart_tree.specs.Tree.{Tree}
use Rattle.dart_tokens.specs.declared.grouped_token.GroupedToken.{GroupedToken as Token}
use Rattle.grammar.specs.Tokens.{is, is_either, is_name, is_type_name, heads, heads_name}
use Rattle.grammar.specs.Types.{heads_field}
use Rattle.grammar.specs.Statements.{typed_of, variables_of}
use Rattle.grammar.specs.Descents.{Lower, lower, take_separated, take_declared, take_variable, take_variables, take_parameter_list, take_type_parameters, take_type_name, take_plain_type, take_tail, take_tail_before, take_type}
use Rattle.grammar.specs.DeclarationDescents.{take_signature, take_function}
use Rattle.parse_members.specs.declared.parts.FunctionOrVariables.TheVariants as plain
use Rattle.parse_members.specs.Behind.{take_named}
use Rattle.parse_members.specs.Next.{goes_on_variable, heads_variable}
use Rattle.parse_members.specs.Plain.{plain_function_of, plain_variables_of, take_plain}
use Rattle.parse_members.proofs.Tests.{first_false, second_false}

-- Tests.

and_false : (a b : Bool) → b ≡ false → (a && b) ≡ false
and_false true b e = e
and_false false b e = refl

and_first : (a b : Bool) → (a && b) ≡ true → a ≡ true
and_first true b e = refl
and_first false b e = absurd (cc)

and_second : (a b : Bool) → (a && b) ≡ true → b ≡ true
and_second true b e = e
and_second false b e = absurd (cc)

both_second : (a b : Bool) → a ≡ true → (a && b) ≡ false → b ≡ false
both_second true b d e = e
both_second false b d e = absurd (cc)

-- a token of a kind that is a name
named_kind : (k : Kind) (t : Token) → is_identifier k ≡ true → is_name t ≡ false → is k t ≡ false
named_kind k t so e = by (is k t) refl
  where
    by : (b : Bool) → is k t ≡ b → b ≡ false
    by true d = absurd (let at : is_name t ≡ true = ap is_identifier (same_true kinds.the_type tt t.kind k d) ∙ so in cc)
    by false d = refl

-- what a test of kinds tells of a token of a kind
of_kind : (k : Kind) (f : Kind → Bool) (b : Bool) (t : Token) → f k ≡ b → is k t ≡ true → f t.kind ≡ b
of_kind k f b t so e = ap f (same_true kinds.the_type tt t.kind k e) ∙ so

-- Variables, where the name of one comes next.

-- no name, no type parameters and no parameters
record Stops (u : Token) : Type 0 where
  plain : is_name u ≡ false
  less : is kind.Less u ≡ false
  parenthesis : is kind.OpenParenthesis u ≡ false

stops_at : (k : Kind) (u : Token) → is_identifier k ≡ false → sameb kinds.the_type k kind.Less ≡ false → sameb kinds.the_type k kind.OpenParenthesis ≡ false → is k u ≡ true → Stops u
stops_at k u plain less parenthesis e = record {
  plain = of_kind k is_identifier false u plain e;
  less = of_kind k (λ j. sameb kinds.the_type j kind.Less) false u less e;
  parenthesis = of_kind k (λ j. sameb kinds.the_type j kind.OpenParenthesis) false u parenthesis e;
}

stops : (u : Token) → goes_on_variable u ≡ true → Stops u
stops u e = by (is kind.Equals u) (is kind.Comma u) (is kind.Semicolon u) refl refl refl e
  where
    by : (a b c : Bool) → is kind.Equals u ≡ a → is kind.Comma u ≡ b → is kind.Semicolon u ≡ c → (a || b || c) ≡ true → Stops u
    by true b c x y z d = stops_at kind.Equals u refl refl refl x
    by false true c x y z d = stops_at kind.Comma u refl refl refl y
    by false false true x y z d = stops_at kind.Semicolon u refl refl refl z
    by false false false x y z d = absurd (cc)

no_signature : (body : Descent Token Tree) (l : Lower) (us : List Token) → heads_variable us ≡ true → take_signature body l us ≡ None
unfolding take_signature take_parameter_list take_type_parameters
no_signature body l [] e = absurd (cc)
no_signature body l (t ∷ []) e = absurd (let no : (is_name t && false) ≡ false = and_false (is_name t) false refl in cc)
no_signature body l (t ∷ (u ∷ us)) e =
    let name : is_name t ≡ true = and_first (is_name t) (goes_on_variable u) e in
    let stop : Stops u = stops u (and_second (is_name t) (goes_on_variable u) e) in
    let getter : (is kind.Get t && is_name u) ≡ false = and_false (is kind.Get t) (is_name u) stop.plain in
    let setter : (is kind.Set t && is_name u) ≡ false = and_false (is kind.Set t) (is_name u) stop.plain in
    rw (getter, setter, name, stop.less, stop.parenthesis) refl

-- Functions, where no name of a variable comes next.

-- the names of variables and a `;`
names_end : (l : Lower) (us : List Token) → heads_variable us ≡ false → bind (take_separated (take_variable l) us) (λ x. take_token (is kind.Semicolon) x.1) ≡ None
unfolding take_variable
names_end l [] e = refl
names_end l (t ∷ []) e = by (is_name t) refl
  where
    by : (b : Bool) → is_name t ≡ b → bind (take_separated (take_variable l) (t ∷ [])) (λ x. take_token (is kind.Semicolon) x.1) ≡ None
    by true d = rw d refl
    by false d = rw d refl
names_end l (t ∷ (u ∷ us)) e = by (is_name t) refl
  where
    by : (b : Bool) → is_name t ≡ b → bind (take_separated (take_variable l) (t ∷ (u ∷ us))) (λ x. take_token (is kind.Semicolon) x.1) ≡ None
    by true d =
        let o : goes_on_variable u ≡ false = both_second (is_name t) (goes_on_variable u) d e in
        let more : (is kind.Equals u || is kind.Comma u) ≡ false = first_false (is kind.Equals u || is kind.Comma u) (is kind.Semicolon u) o in
        let equals : is kind.Equals u ≡ false = first_false (is kind.Equals u) (is kind.Comma u) more in
        let comma : is kind.Comma u ≡ false = second_false (is kind.Equals u) (is kind.Comma u) more in
        let semicolon : is kind.Semicolon u ≡ false = second_false (is kind.Equals u || is kind.Comma u) (is kind.Semicolon u) o in
        rw (d, equals, comma, semicolon) refl
    by false d = rw d refl

names_ended : (ts : List Token) (before : Bool × Option Tree) (o : Option (Reading Token (List Tree))) → bind o (λ x. take_token (is kind.Semicolon) x.1) ≡ None →
    bind (bind (bind o (λ y. Some (behind before y))) (λ x. Some (made variables_of ts x))) (λ x. bind (take_token (is kind.Semicolon) x.1) (λ y. Some (behind x.0 y))) ≡ None
names_ended ts before None e = refl
names_ended ts before (Some x) e = rw e refl

-- The type in front of a name.

named_is : (ts us : List Token) (written : Option Tree) (o : Option (Reading Token Tree)) → or_else (bind o (λ x. Some (made (λ read a. Some a) ts x))) (Some (None, ts)) ≡ Some (written, us) → o ≡ option_map (λ a. (a, us)) written
named_is ts us written None e = ap (λ (r : Option (Reading Token (Option Tree))). bind r (λ p. option_map (λ a. (a, p.1)) p.0)) e
named_is ts us written (Some x) e = ap (λ (r : Option (Reading Token (Option Tree))). bind r (λ p. option_map (λ a. (a, p.1)) p.0)) e

typed_is : (ts us : List Token) (written : Option Tree) → bind (option_map (λ a. (a, us)) written) (λ x. Some (made (λ read a. typed_of a) ts x)) ≡ option_map (λ a. (typed_of a, us)) written
typed_is ts us None = refl
typed_is ts us (Some a) = refl

-- what stands before variables is this type, where it isn't `final` or `var`
declared_is : (l : Lower) (ts us : List Token) (written : Option Tree) → take_named l ts ≡ Some (written, us) → next (is_either kind.Final kind.Var) ts ≡ false → take_declared l ts ≡ option_map (λ a. (typed_of a, us)) written
unfolding take_declared
declared_is l [] us written e d = rw (named_is [] us written (take_before heads_name l.named []) e) (typed_is [] us written)
declared_is l (t ∷ ts) us written e d =
    let final : is kind.Final t ≡ false = first_false (is kind.Final t) (is kind.Var t) d in
    let var : is kind.Var t ≡ false = second_false (is kind.Final t) (is kind.Var t) d in
    rw (final, var, named_is (t ∷ ts) us written (take_before heads_name l.named (t ∷ ts)) e) (typed_is (t ∷ ts) us written)

pub declared_typed : (l : Lower) (ts us : List Token) (written : Option Tree) → take_named l ts ≡ Some (written, us) → is_some written ≡ true → next (is_either kind.Final kind.Var) ts ≡ false → take_declared l ts ≡ Some ((false, written), us)
declared_typed l ts us None e d o = absurd (cc)
declared_typed l ts us (Some written) e d o = declared_is l ts us (Some written) e o

-- variables and a `;`, behind what stands before their names
pub variables_found : (l : Lower) (ts us vs ws : List Token) (before : Bool × Option Tree) (variables : Tree) (semicolon : Token) → take_declared l ts ≡ Some (before, us) → bind ((take_given before ▸ take_separated (take_variable l)) us) (λ x. Some (made variables_of ts x)) ≡ Some (variables, vs) →
    take_token (is kind.Semicolon) vs ≡ Some (semicolon, ws) → take_turn plain_variables_of (take_variables l ▸ take_token (is kind.Semicolon)) ts ≡ Some (plain.Variables variables, ws)
unfolding take_variables
variables_found l ts us vs ws before variables semicolon e d o = rw (e, d, o) refl

-- The two of them.

no_function : (body : Descent Token Tree) (l : Lower) (ts us : List Token) (written : Option Tree) → take_named l ts ≡ Some (written, us) → heads_variable us ≡ true → take_function body l ts ≡ None
unfolding take_function
no_function body l ts us written e d = rw (e, no_signature body l us d) refl

no_variables : (l : Lower) (ts us : List Token) (written : Option Tree) → take_named l ts ≡ Some (written, us) → next (is_either kind.Final kind.Var) ts ≡ false → heads_variable us ≡ false → (take_variables l ▸ take_token (is kind.Semicolon)) ts ≡ None
unfolding take_variables
no_variables l ts us None e d o = rw (declared_is l ts us None e d) refl
no_variables l ts us (Some a) e d o = rw (declared_is l ts us (Some a) e d) (names_ended ts (false, Some a) (take_separated (take_variable l) us) (names_end l us o))

no_typed : (l : Lower) (ts us : List Token) (written : Option Tree) → take_named l ts ≡ Some (written, us) → is_some written ≡ false → next (is_either kind.Final kind.Var) ts ≡ false → (take_variables l ▸ take_token (is kind.Semicolon)) ts ≡ None
unfolding take_variables
no_typed l ts us None e d o = rw (declared_is l ts us None e o) refl
no_typed l ts us (Some written) e d o = absurd (cc)

-- `final` and `var`, where no type and no function comes next.

no_tail : (l : Lower) (question ends : Test Token) (t : Token) (ts : List Token) → is_name t ≡ false → take_tail_before l question ends (t ∷ ts) ≡ None
unfolding take_tail_before take_tail
no_tail l question ends t ts plain = let tail : is kind.Function t ≡ false = named_kind kind.Function t refl plain in rw tail refl

no_plain_type : (l : Lower) (question : Test Token) (t : Token) (ts : List Token) → is_name t ≡ false → is_type_name t ≡ false → is kind.Void t ≡ false → take_plain_type l question (t ∷ ts) ≡ None
unfolding take_plain_type take_type_name
no_plain_type l question t ts plain named void = rw (void, plain, named) refl

untyped : (n : ℕ) (t : Token) (ts : List Token) → is_name t ≡ false → is_type_name t ≡ false → is kind.Void t ≡ false → take_before heads_name (lower n).named (t ∷ ts) ≡ None
unfolding lower take_type
untyped zero t ts plain named void = refl
untyped (suc n) t ts plain named void = rw (no_tail (lower n) (heads kind.Question) heads_field t ts plain, no_plain_type (lower n) (heads kind.Question) t ts plain named void) refl

unnamed_function : (body : Descent Token Tree) (n : ℕ) (t : Token) (ts : List Token) → is_name t ≡ false → is_type_name t ≡ false → is kind.Void t ≡ false → take_function body (lower n) (t ∷ ts) ≡ None
unfolding take_function take_signature
unnamed_function body n t ts plain named void =
    let getter : is kind.Get t ≡ false = named_kind kind.Get t refl plain in
    let setter : is kind.Set t ≡ false = named_kind kind.Set t refl plain in
    rw (untyped n t ts plain named void, getter, setter, plain) refl

word_function : (k : Kind) (body : Descent Token Tree) (n : ℕ) (t : Token) (ts : List Token) → is_identifier k ≡ false → may_name_a_type k ≡ false → sameb kinds.the_type k kind.Void ≡ false → is k t ≡ true → take_function body (lower n) (t ∷ ts) ≡ None
word_function k body n t ts plain named void e =
    unnamed_function body n t ts (of_kind k is_identifier false t plain e) (of_kind k may_name_a_type false t named e) (of_kind k (λ j. sameb kinds.the_type j kind.Void) false t void e)

no_word_function : (body : Descent Token Tree) (n : ℕ) (ts : List Token) → next (is_either kind.Final kind.Var) ts ≡ true → take_function body (lower n) ts ≡ None
no_word_function body n [] e = absurd (cc)
no_word_function body n (t ∷ ts) e = by (is kind.Final t) (is kind.Var t) refl refl e
  where
    by : (a b : Bool) → is kind.Final t ≡ a → is kind.Var t ≡ b → (a || b) ≡ true → take_function body (lower n) (t ∷ ts) ≡ None
    by true b x y d = word_function kind.Final body n t ts refl refl refl x
    by false true x y d = word_function kind.Var body n t ts refl refl refl y
    by false false x y d = absurd (cc)

-- One of two, where the other isn't there.

only_function : (body : Descent Token Tree) (l : Lower) (ts : List Token) → (take_variables l ▸ take_token (is kind.Semicolon)) ts ≡ None → take_plain body l ts ≡ take_turn plain_function_of (take_function body l) ts
unfolding take_plain
only_function body l ts e = by (take_function body l ts)
  where
    by : (o : Option (Reading Token Tree)) → or_else (bind o (λ x. Some (made (λ read a. plain_function_of a) ts x))) (bind ((take_variables l ▸ take_token (is kind.Semicolon)) ts) (λ x. Some (made (λ read a. plain_variables_of a) ts x))) ≡ bind o (λ x. Some (made (λ read a. plain_function_of a) ts x))
    by None = rw e refl
    by (Some x) = refl

only_variables : (body : Descent Token Tree) (l : Lower) (ts : List Token) → take_function body l ts ≡ None → take_plain body l ts ≡ take_turn plain_variables_of (take_variables l ▸ take_token (is kind.Semicolon)) ts
unfolding take_plain
only_variables body l ts e = rw e refl

-- variables behind `final` or `var`
pub plain_word : (body : Descent Token Tree) (n : ℕ) (ts : List Token) → next (is_either kind.Final kind.Var) ts ≡ true → take_plain body (lower n) ts ≡ take_turn plain_variables_of (take_variables (lower n) ▸ take_token (is kind.Semicolon)) ts
plain_word body n ts e = only_variables body (lower n) ts (no_word_function body n ts e)

-- a function, behind its type
pub plain_function : (body : Descent Token Tree) (l : Lower) (ts us : List Token) (written : Option Tree) → take_named l ts ≡ Some (written, us) → next (is_either kind.Final kind.Var) ts ≡ false → heads_variable us ≡ false → take_plain body l ts ≡ take_turn plain_function_of (take_function body l) ts
plain_function body l ts us written e d o = only_function body l ts (no_variables l ts us written e d o)

-- variables, behind their type
pub plain_variables : (body : Descent Token Tree) (l : Lower) (ts us : List Token) (written : Option Tree) → take_named l ts ≡ Some (written, us) → heads_variable us ≡ true → take_plain body l ts ≡ take_turn plain_variables_of (take_variables l ▸ take_token (is kind.Semicolon)) ts
plain_variables body l ts us written e d = only_variables body l ts (no_function body l ts us written e d)

-- variables without a type
pub plain_untyped : (body : Descent Token Tree) (l : Lower) (ts us : List Token) (written : Option Tree) → take_named l ts ≡ Some (written, us) → heads_variable us ≡ true → is_some written ≡ false → next (is_either kind.Final kind.Var) ts ≡ false → take_plain body l ts ≡ None
plain_untyped body l ts us written e d o p = plain_variables body l ts us written e d ∙ rw (no_typed l ts us written e o p) refl
