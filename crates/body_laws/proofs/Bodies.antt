-- What is read of bodies, functions and variables in texts that are alike but for their bodies hides alike.
use Rattle.std.proofs.Common.{◌≡◌, ℕ, zero, suc, Bool, true, false, List, [], ◌∷◌, Option, Some, None, length, drop, refl, sym, ◌∙◌}
use Rattle.dart_tokens.specs.declared.token.Kind.TheVariants as kind
use Rattle.dart_tree.specs.Tree.{Tree, trees_of}
use Rattle.dart_tree.specs.Heights.{heights}
use Rattle.readings.specs.Readings.{either}
use Rattle.readings.specs.Descent.{Descent, take_token, take_turn, take_items_at}
use Rattle.dart_tokens.specs.declared.grouped_token.GroupedToken.{GroupedToken as Token}
use Rattle.grammar.specs.declared.level.Setting.TheVariants as setting
use Rattle.grammar.specs.Tokens.{is, heads, heads_name, anything}
use Rattle.grammar.specs.Types.{heads_field}
use Rattle.grammar.specs.Expressions.{heads_nullable}
use Rattle.grammar.specs.Statements.{error_of, block_of, final_of, var_of, typed_of, variable_of, variables_of, arrow_body_of}
use Rattle.grammar.specs.Declarations.{native_of, empty_of, Signature, getting, setting_of, plain, getting_of, set_of, plain_of, heads_getter, heads_setter, function_with, function_of}
use Rattle.grammar.specs.Descents.{Lower, lower, take_unread, take_block, take_declared, take_variable, take_variables, take_local_body, take_expression}
use Rattle.grammar.specs.DeclarationDescents.{take_body, take_signature, take_function}
use Rattle.interface_part.specs.Hidden.{hidden_in_function, hidden_in_variable, hidden_in_variables}
use Rattle.body_laws.specs.Bodies.{Moves, Twins, is_plain}
use Rattle.body_laws.proofs.Follow.{Kin, inner as within, Both, Pair, Alls, Follows, Unseen, follows_none, follows_seq, follows_then, follows_make, follows_turn, follows_where, follows_loose, follows_maybe, follows_block, follows_before}
use Rattle.body_laws.proofs.Tests.{blind_heads, blind_heads_name, blind_field, blind_anything, blind_nullable, blind_body, blind_getter, blind_setter}
use Rattle.body_laws.proofs.Same.{Same, BodySame, Hides, over, hidden_moved, all_hide}
use Rattle.body_laws.proofs.Expressions.{Followed, Any, mark, named, follows_separated, type_parameters_follow, parameter_list_follows, type_follows, plain_types_follow, plain_type_follows, simple_follows, unary_follows, operand_follows, section_head_follows, section_follows, expression_follows}

-- Bodies.

no_height : (n : ℕ) (ts : List Token) → heights (trees_of (take_items_at n (λ us. None) length error_of ts)) ≡ 0
no_height zero ts = refl
no_height (suc n) [] = refl
no_height (suc n) (t ∷ ts) = rw (no_height n (drop (suc (length ts)) ts)) refl

-- as high as another
abbrev High : List Tree → List Tree → Type 0
High xs ys = heights (trees_of xs) ≡ heights (trees_of ys)

unread_unseen : Unseen High take_unread
unread_unseen = record { each = λ ts us. no_height (length ts) ts ∙ sym (no_height (length us) us) }

block_follows : (r : Kin) → Follows r false true false (BodySame r.moves) take_block
unfolding take_block
block_follows r =
    follows_make (BodySame r.moves) block_of (follows_block unread_unseen)
    (λ read other x y q p. record { same = record { stands = over r.moves read other q; high = rw p.1 refl; last = refl }; hides = λ b. hidden_moved r.moves b (block_of read x) (block_of other y) (over r.moves read other q) })

pub local_body_follows : (r : Kin) (l : Lower) → Followed l → Follows r false true false (BodySame r.moves) (take_local_body l)
unfolding take_local_body
local_body_follows r l a =
    follows_where (heads kind.OpenBrace) (blind_heads r kind.OpenBrace) (a.block r)
    (follows_make (BodySame r.moves) arrow_body_of (follows_then (mark r kind.Arrow refl refl) (follows_seq (a.expression r setting.Plain) (mark r kind.Semicolon refl refl)))
    (λ read other x y q p. record { same = record { stands = over r.moves read other q; high = p.1.0.high; last = refl }; hides = λ b. hidden_moved r.moves b (arrow_body_of read x) (arrow_body_of other y) (over r.moves read other q) }))

pub empty_follows : (r : Kin) → Follows r false true true (BodySame r.moves) (take_turn empty_of (take_token (is kind.Semicolon)))
empty_follows r =
    follows_turn (BodySame r.moves) empty_of (mark r kind.Semicolon refl refl) (λ x y p. record { same = record { stands = (p.start, p.end); high = refl; last = refl }; hides = λ b. refl })

pub body_follows : (r : Kin) (in_core without_body : Bool) (l : Lower) → Followed l → Follows r false true false (BodySame r.moves) (take_body in_core without_body l)
unfolding take_body
body_follows r in_core without_body l a =
    follows_where (either (heads kind.OpenBrace) (heads kind.Arrow)) (blind_body r) (local_body_follows r l a)
    (follows_where (heads kind.Native) (blind_heads r kind.Native)
    (follows_where (λ ts. in_core) (λ p ts us s. refl)
    (follows_make (BodySame r.moves) native_of (follows_seq (mark r kind.Native refl refl) (mark r kind.Semicolon refl refl))
    (λ read other x y q p. record { same = record { stands = over r.moves read other q; high = refl; last = refl }; hides = λ b. hidden_moved r.moves b (native_of read x) (native_of other y) (over r.moves read other q) })) (follows_none r false true true (BodySame r.moves)))
    (follows_where (λ ts. without_body) (λ p ts us s. refl) (empty_follows r) (follows_none r false true true (BodySame r.moves))))

-- Functions.

abbrev pub FunctionHides : Moves → Tree → Tree → Type 0
FunctionHides m t u = (b : Bool) → Hides m (hidden_in_function b) t u

abbrev pub SignatureSame : Moves → Signature → Signature → Type 0
SignatureSame m (getting name body) (getting name_ body_) = BodySame m body body_
SignatureSame m (getting name body) other = ⊥
SignatureSame m (setting_of name parameters body) (setting_of name_ parameters_ body_) = BodySame m body body_
SignatureSame m (setting_of name parameters body) other = ⊥
SignatureSame m (plain name types parameters body) (plain name_ types_ parameters_ body_) = BodySame m body body_
SignatureSame m (plain name types parameters body) other = ⊥

function_hides : (m : Moves) (read other : List Token) (o p : Option Tree) (s t : Signature) → SignatureSame m s t → FunctionHides m (function_with read o s) (function_with other p t)
function_hides m read other o p (getting name body) (getting name_ body_) q = q.hides
function_hides m read other o p (getting name body) (setting_of name_ parameters_ body_) q = absurd q
function_hides m read other o p (getting name body) (plain name_ types_ parameters_ body_) q = absurd q
function_hides m read other o p (setting_of name parameters body) (getting name_ body_) q = absurd q
function_hides m read other o p (setting_of name parameters body) (setting_of name_ parameters_ body_) q = q.hides
function_hides m read other o p (setting_of name parameters body) (plain name_ types_ parameters_ body_) q = absurd q
function_hides m read other o p (plain name types parameters body) (getting name_ body_) q = absurd q
function_hides m read other o p (plain name types parameters body) (setting_of name_ parameters_ body_) q = absurd q
function_hides m read other o p (plain name types parameters body) (plain name_ types_ parameters_ body_) q = q.hides

signature_follows : (r : Kin) (body : Descent Token Tree) → Follows r false true false (BodySame r.moves) body → (l : Lower) → Followed l → Follows r false true false (SignatureSame r.moves) (take_signature body l)
unfolding take_signature
signature_follows r body b l a =
    follows_where heads_getter (blind_getter r) (follows_turn (SignatureSame r.moves) getting_of (follows_seq (mark r kind.Get refl refl) (follows_seq (named r) b)) (λ x y p. p.1.1))
    (follows_where heads_setter (blind_setter r) (follows_turn (SignatureSame r.moves) set_of (follows_seq (mark r kind.Set refl refl) (follows_seq (named r) (follows_seq (parameter_list_follows r l a) b))) (λ x y p. p.1.1.1))
    (follows_turn (SignatureSame r.moves) plain_of (follows_seq (named r) (follows_seq (follows_maybe (type_parameters_follow r l a)) (follows_seq (parameter_list_follows r l a) b))) (λ x y p. p.1.1.1)))

pub function_follows : (r : Kin) (body : Descent Token Tree) → Follows r false true false (BodySame r.moves) body → (l : Lower) → Followed l → Follows r false true false (FunctionHides r.moves) (take_function body l)
unfolding take_function
function_follows r body b l a =
    follows_make (FunctionHides r.moves) function_of (follows_seq (follows_maybe (follows_before heads_name (blind_heads_name r) (a.named r))) (signature_follows r body b l a))
    (λ read other x y q p. function_hides r.moves read other x.0 y.0 x.1 y.1 p.1)

-- Variables.

declared_follows : (r : Kin) (l : Lower) → Followed l → Follows r false true false (Pair Any (Both (Same r.moves))) (take_declared l)
unfolding take_declared
declared_follows r l a =
    follows_where (heads kind.Final) (blind_heads r kind.Final) (follows_turn (Pair Any (Both (Same r.moves))) final_of (follows_seq (mark r kind.Final refl refl) (follows_maybe (follows_before heads_name (blind_heads_name r) (a.named r)))) (λ x y p. (tt, p.1)))
    (follows_where (heads kind.Var) (blind_heads r kind.Var) (follows_turn (Pair Any (Both (Same r.moves))) var_of (mark r kind.Var refl refl) (λ x y p. (tt, tt)))
    (follows_turn (Pair Any (Both (Same r.moves))) typed_of (follows_before heads_name (blind_heads_name r) (a.named r)) (λ x y p. (tt, p))))

abbrev pub VariableHides : Moves → Tree → Tree → Type 0
VariableHides m t u = (b : Bool) → Hides m (hidden_in_variable b) t u

variable_hides : (m : Moves) (read other : List Token) (t u : Token) (o p : Option (Token × Tree)) → Both (Pair (Twins m) (Same m)) o p → VariableHides m (variable_of read (t, o)) (variable_of other (u, p))
variable_hides m read other t u None None h b = refl
variable_hides m read other t u None (Some y) h b = absurd h
variable_hides m read other t u (Some x) None h b = absurd h
variable_hides m read other t u (Some x) (Some y) h b = hidden_moved m b x.1 y.1 h.1.stands

variable_follows : (r : Kin) (l : Lower) → Followed l → Follows r false true false (VariableHides r.moves) (take_variable l)
unfolding take_variable
variable_follows r l a =
    follows_make (VariableHides r.moves) variable_of (follows_seq (named r) (follows_maybe (follows_then (mark r kind.Equals refl refl) (a.expression r setting.Plain))))
    (λ read other x y q p. variable_hides r.moves read other x.0 y.0 x.1 y.1 p.1)

abbrev pub VariablesHide : Moves → Tree → Tree → Type 0
VariablesHide m t u = (b : Bool) → Hides m (hidden_in_variables b) t u

each_hides : (m : Moves) (b : Bool) (xs ys : List Tree) → Alls (VariableHides m) xs ys → Alls (Hides m (hidden_in_variable b)) xs ys
each_hides m b [] [] p = tt
each_hides m b [] (y ∷ ys) p = absurd p
each_hides m b (x ∷ xs) [] p = absurd p
each_hides m b (x ∷ xs) (y ∷ ys) p = (p.0 b, each_hides m b xs ys p.1)

variables_hide : (m : Moves) (read other : List Token) (c d : Bool) (o p : Option Tree) (xs ys : List Tree) → Both (Same m) o p → Alls (VariableHides m) xs ys → VariablesHide m (variables_of read ((c, o), xs)) (variables_of other ((d, p), ys))
variables_hide m read other c d None None xs ys h k b = refl
variables_hide m read other c d None (Some y) xs ys h k b = absurd h
variables_hide m read other c d (Some x) None xs ys h k b = absurd h
variables_hide m read other c d (Some x) (Some y) xs ys h k b = all_hide m (hidden_in_variable b) xs ys (each_hides m b xs ys k)

pub variables_follow : (r : Kin) (l : Lower) → Followed l → Follows r false true false (VariablesHide r.moves) (take_variables l)
unfolding take_variables
variables_follow r l a =
    follows_make (VariablesHide r.moves) variables_of (follows_seq (declared_follows r l a) (follows_separated (variable_follows r l a)))
    (λ read other x y q p. variables_hide r.moves read other x.0.0 y.0.0 x.0.1 y.0.1 x.1 y.1 p.0.1 p.1)

-- whatever room there is
pub followed : (n : ℕ) → Followed (lower n)
unfolding lower
followed zero = record {
  written = λ r. follows_none r false true false (Same r.moves);
  tested = λ r m. follows_none r false true false (Same r.moves);
  constructed = λ r. follows_none r false true false (Same r.moves);
  named = λ r. follows_none r false true false (Same r.moves);
  expression = λ r m. follows_none r true true false (Same r.moves);
  operand = λ r m above. follows_none r true true false (Same r.moves);
  unary = λ r m. follows_none r true true false (Same r.moves);
  section = λ r m. section_head_follows r (λ ts. None) (follows_none (within r) true true false (Same r.moves));
  simple = λ r. follows_none r false true true (Same r.moves);
  block = λ r. follows_none r false true false (BodySame r.moves);
}
followed (suc n) =
    let a = followed n in
    record {
      written = λ r. type_follows r n (lower n) a (heads kind.Question) anything (blind_heads r kind.Question) (blind_anything r);
      tested = λ r m. type_follows r n (lower n) a (heads_nullable m) anything (blind_nullable r m) (blind_anything r);
      constructed = λ r. follows_loose (plain_type_follows r (lower n) a (heads kind.Question) (blind_heads r kind.Question));
      named = λ r. type_follows r n (lower n) a (heads kind.Question) heads_field (blind_heads r kind.Question) (blind_field r);
      expression = λ r m. expression_follows r n m (lower n) a;
      operand = λ r m above. operand_follows r n m (lower n) a above;
      unary = λ r m. unary_follows r n m (lower n) a;
      section = λ r m. section_follows r n m (lower n) a (take_expression n setting.Plain (lower n)) (expression_follows (within r) n setting.Plain (lower n) a);
      simple = λ r. simple_follows r;
      block = λ r. block_follows r;
    }

-- where no function type stands, no body comes next behind a type
pub written_clear : (r : Kin) → is_plain r.freedom ≡ true → (n : ℕ) → Follows r false true true (Same r.moves) ((lower n).written)
unfolding lower
written_clear r e zero = follows_none r false true true (Same r.moves)
written_clear r e (suc n) = plain_types_follow r e n (lower n) (followed n) (heads kind.Question) anything (blind_heads r kind.Question) (blind_anything r)
