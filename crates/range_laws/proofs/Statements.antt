-- What is read of statements in texts that agree is the same, with ranges aside, and all that is read in whatever room.
use Rattle.std.proofs.Common.{◌≡◌, ℕ, zero, suc, ◌-◌, Bool, List, [], ◌∷◌, Option, Some, None, option_map, length, map, take, drop, refl, sym, ◌∙◌, subst}
use Rattle.readings.specs.Descent.{all_items, take_items_at, ◌⊘◌}
use Rattle.dart_tree.specs.Bare.{all_bare_with, part_bare_with}
use Rattle.dart_tree.specs.Heights.{heights}
use Rattle.dart_tree.specs.Tree.{if_statement}
use Rattle.dart_tree.specs.declared.places.Place.{Place}
use Rattle.grammar.specs.Tokens.{place_over}
use Rattle.grammar.specs.Types.{listed_or_none}
use Rattle.grammar.specs.Statements.{ends_open, ends_with_default}
use Rattle.range_laws.specs.Agreeing.{Twins}
use Rattle.range_laws.proofs.Follow.{Readers, Alike, agree_length, nothing_left, Both, Pair, Alls, Follows, follows_none, follows_seq, follows_make, follows_turn, follows_or, follows_where, follows_maybe, follows_many, follows_chain, follows_inside, follows_within, follows_before, follows_only}
use Rattle.range_laws.proofs.Tests.{blind_is, blind_heads, blind_heads_name, blind_field, blind_label, blind_anything, blind_nullable, blind_closure, same_case_size}
use Rattle.range_laws.proofs.Same.{Same, ListSame, all_same, part_same, behind_same, behind_related, listed_related}
use Rattle.range_laws.proofs.Expressions.{Followed, Equal, mark, named, some_same, option_bare, follows_separated, type_parameters_follow, parameter_list_follows, type_follows, plain_type_follows, simple_follows, unary_follows, operand_follows, section_head_follows, section_follows, expression_follows}
use Rattle.dart_tokens.specs.declared.token.Kind.TheVariants as kind
use Rattle.dart_tree.specs.Tree.{Tree, trees_of, part_of}
use Rattle.dart_tokens.specs.declared.grouped_token.GroupedToken.{GroupedToken as Token}
use Rattle.grammar.specs.declared.level.Setting.TheVariants as setting
use Rattle.grammar.specs.Tokens.{is, heads, heads_name, anything}
use Rattle.grammar.specs.Types.{inner, heads_field}
use Rattle.grammar.specs.Expressions.{heads_nullable, heads_label, heads_closure, one_time}
use Rattle.grammar.specs.Statements.{error_of, block_of, final_of, var_of, typed_of, variable_of, variables_of, ended, variable_statement_of, arrow_body_of, plain_function_of, function_statement_of, expression_statement_of, return_of, break_of, continue_of, rethrow_of, labeled_of, If, without_else, is_nearest, with_else, if_of, while_of, do_of, Header, counted, assigned, declaring, each_with, each_of, counted_of, for_with, for_of, label_of, labels_of, default_of, case_of, case_size, cases_end_with_default, switch_of, caught, catch_of, clause_with, on_of, clause_of, has_clause, try_of}
use Rattle.grammar.specs.Descents.{Lower, lower, take_unread, take_block, take_declared, take_variable, take_variables, take_variable_statement, take_local_body, take_local_rest, take_local_function, take_function_statement, take_expression_statement, take_return, take_break, take_continue, take_rethrow, take_labeled, take_condition, take_if, take_while, take_do, take_each, take_start, take_counted, take_for, take_label, take_labels, take_case, take_cases, take_switch, take_catch, take_clause, take_try, take_other_statement, take_statement, take_expression}

-- Statements.

pub error_same : (r : Readers) (read other : List Token) → Same r (error_of read) (error_of other)
error_same r read other = record { shown = λ n. refl; high = refl; open_end = refl; last = refl }

-- Lists that aren't read yet.

no_height : (n : ℕ) (ts : List Token) → heights (trees_of (take_items_at n (λ us. None) length error_of ts)) ≡ 0
no_height zero ts = refl
no_height (suc n) [] = refl
no_height (suc n) (t ∷ ts) = rw (no_height n (drop (suc (length ts)) ts)) refl

unread_same : (r : Readers) (ts us : List Token) → Alike r ts us → ListSame r (all_items (λ vs. None) length error_of ts) (all_items (λ vs. None) length error_of us)
unread_same r [] [] s = record { shown = λ n. refl; high = refl }
unread_same r [] (u ∷ us) s = absurd s.agree
unread_same r (t ∷ ts) [] s = absurd s.agree
unread_same r (t ∷ ts) (u ∷ us) s = record {
  shown = λ n.
      subst (λ (k : ℕ). all_bare_with (λ word. word) (r.one n (place_over (take (suc (suc (length ts))) (t ∷ ts)))) ≡ all_bare_with (λ word. word) (r.other n (place_over (take (suc (suc k)) (u ∷ us)))))
      (agree_length ts us s.agree.1.1) (s.parts 0 (suc (suc (length ts))) n);
  high = no_height (suc (length ts)) (t ∷ ts) ∙ sym (no_height (suc (length us)) (u ∷ us));
}

unread_follows : (r : Readers) → Follows r (ListSame r) take_unread
unread_follows r = record { each = λ ts us s. (unread_same r ts us s, nothing_left r ts us s) }

pub block_follows : (r : Readers) → Follows r (Same r) take_block
unfolding take_block
block_follows r =
    follows_make (Same r) block_of (follows_inside (is kind.OpenBrace) (blind_is kind.OpenBrace) (unread_follows r))
    (λ read other x y p. record { shown = λ n. rw (p.1.shown (n - 1)) refl; high = rw p.1.high refl; open_end = refl; last = refl })

-- Variables and functions.

declared_follows : (r : Readers) (l : Lower) → Followed r l → Follows r (Pair Equal (Both (Same r))) (take_declared l)
unfolding take_declared
declared_follows r l a =
    follows_where (heads kind.Final) (blind_heads r kind.Final) (follows_turn (Pair Equal (Both (Same r))) final_of (follows_seq (mark r kind.Final) (follows_maybe (follows_before heads_name (blind_heads_name r) a.named))) (λ x y p. (refl, p.1)))
    (follows_where (heads kind.Var) (blind_heads r kind.Var) (follows_turn (Pair Equal (Both (Same r))) var_of (mark r kind.Var) (λ x y p. (refl, tt)))
    (follows_turn (Pair Equal (Both (Same r))) typed_of (follows_before heads_name (blind_heads_name r) a.named) (λ x y p. (refl, p))))

variable_follows : (r : Readers) (l : Lower) → Followed r l → Follows r (Same r) (take_variable l)
unfolding take_variable
variable_follows r l a =
    follows_make (Same r) variable_of (follows_seq (named r) (follows_maybe (follows_seq (mark r kind.Equals) (a.expression setting.Plain))))
    (λ read other x y p. let value = behind_same r x.1 y.1 p.1 in record { shown = λ n. rw (p.0.word, value.shown n) refl; high = value.high; open_end = refl; last = refl })

pub variables_follow : (r : Readers) (l : Lower) → Followed r l → Follows r (Same r) (take_variables l)
unfolding take_variables
variables_follow r l a =
    follows_make (Same r) variables_of (follows_seq (declared_follows r l a) (follows_separated (variable_follows r l a)))
    (λ read other x y p.
    let written = part_same r x.0.1 y.0.1 p.0.1 in
    let all = all_same r x.1 y.1 p.1 in
    record { shown = λ n. rw (p.0.0, written.shown n, all.shown n) refl; high = rw (written.high, all.high) refl; open_end = refl; last = refl })

pub local_body_follows : (r : Readers) (l : Lower) → Followed r l → Follows r (Same r) (take_local_body l)
unfolding take_local_body
local_body_follows r l a =
    follows_where (heads kind.OpenBrace) (blind_heads r kind.OpenBrace) a.block
    (follows_make (Same r) arrow_body_of (follows_seq (mark r kind.Arrow) (follows_seq (a.expression setting.Plain) (mark r kind.Semicolon)))
    (λ read other x y p. record { shown = λ n. rw (p.1.0.shown n) refl; high = p.1.0.high; open_end = refl; last = refl }))

function_statement_follows : (r : Readers) (l : Lower) → Followed r l → Follows r (Same r) (take_function_statement l)
unfolding take_function_statement take_local_function take_local_rest
function_statement_follows r l a =
    follows_make (Same r) function_statement_of
    (follows_make (Same r) plain_function_of
    (follows_seq (follows_maybe (follows_before heads_name (blind_heads_name r) a.named))
    (follows_seq (named r)
    (follows_seq (follows_maybe (type_parameters_follow r l a))
    (follows_where (heads_closure setting.Plain) (blind_closure r setting.Plain) (follows_seq (parameter_list_follows r l a) (local_body_follows r l a)) (follows_none r (Pair (Same r) (Same r)))))))
    (λ read other x y p.
    let result = part_same r x.0 y.0 p.0 in
    let types = all_same r (listed_or_none x.1.1.0) (listed_or_none y.1.1.0) (listed_related (Same r) x.1.1.0 y.1.1.0 p.1.1.0) in
    record {
      shown = λ n. rw (result.shown n, p.1.0.word, types.shown n, p.1.1.1.0.shown n, p.1.1.1.1.shown n) refl;
      high = rw (result.high, types.high, p.1.1.1.0.high, p.1.1.1.1.high) refl;
      open_end = refl;
      last = refl;
    }))
    (λ read other x y p. record { shown = λ n. rw (p.shown (n - 1)) refl; high = rw p.high refl; open_end = refl; last = refl })

variable_statement_follows : (r : Readers) (l : Lower) → Followed r l → Follows r (Same r) (take_variable_statement l)
unfolding take_variable_statement
variable_statement_follows r l a =
    follows_make (Same r) variable_statement_of (follows_seq (variables_follow r l a) (mark r kind.Semicolon)) (λ read other x y p. record { shown = λ n. rw (p.0.shown (n - 1)) refl; high = rw p.0.high refl; open_end = refl; last = refl })

expression_statement_follows : (r : Readers) (l : Lower) → Followed r l → Follows r (Same r) (take_expression_statement l)
unfolding take_expression_statement
expression_statement_follows r l a =
    follows_make (Same r) expression_statement_of (follows_seq (follows_maybe (a.expression setting.Plain)) (mark r kind.Semicolon))
    (λ read other x y p. let value = part_same r x.0 y.0 p.0 in record { shown = λ n. rw (value.shown (n - 1)) refl; high = rw value.high refl; open_end = refl; last = refl })

condition_follows : (r : Readers) (l : Lower) → Followed r l → Follows r (Same r) (take_condition l)
unfolding take_condition
condition_follows r l a = follows_turn (Same r) inner (follows_inside (is kind.OpenParenthesis) (blind_is kind.OpenParenthesis) (a.expression setting.Plain)) (λ x y p. p.1)

-- Branches and loops.

abbrev IfSame : Readers → If → If → Type 0
IfSame r = Pair (Pair Twins (Pair (Same r) (Same r))) (Both (Same r))

if_ends : (r : Readers) (at place : Place) (c d b e : Tree) (o p : Option Tree) → Both (Same r) o p → ends_open (if_statement at c b (part_of o)) ≡ ends_open (if_statement place d e (part_of p))
if_ends r at place c d b e None None h = refl
if_ends r at place c d b e None (Some y) h = absurd h
if_ends r at place c d b e (Some x) None h = absurd h
if_ends r at place c d b e (Some x) (Some y) h = h.open_end

if_follows : (r : Readers) (l : Lower) → Followed r l → Follows r (Same r) (take_if l)
unfolding take_if
if_follows r l a =
    follows_make (Same r) if_of
    (follows_chain one_time is_nearest with_else (λ x y ts us p s. refl) (follows_turn (IfSame r) without_else (follows_seq (mark r kind.If) (follows_seq (condition_follows r l a) a.statement)) (λ x y p. (p, tt)))
    (follows_seq (mark r kind.Else) a.statement) (λ x y p. rw p.0.1.1.open_end refl) (λ read other x y z w p q. (p.0, q.1)))
    (λ read other x y p.
    let otherwise = part_same r x.1 y.1 p.1 in
    record {
      shown = λ n. rw (p.0.1.0.shown (n - 1), p.0.1.1.shown (n - 1), otherwise.shown (n - 1)) refl;
      high = rw (p.0.1.0.high, p.0.1.1.high, otherwise.high) refl;
      open_end = if_ends r (place_over read) (place_over other) x.0.1.0 y.0.1.0 x.0.1.1 y.0.1.1 x.1 y.1 p.1;
      last = refl;
    })

while_follows : (r : Readers) (l : Lower) → Followed r l → Follows r (Same r) (take_while l)
unfolding take_while
while_follows r l a =
    follows_make (Same r) while_of (follows_seq (mark r kind.While) (follows_seq (condition_follows r l a) a.statement))
    (λ read other x y p. record { shown = λ n. rw (p.1.0.shown (n - 1), p.1.1.shown (n - 1)) refl; high = rw (p.1.0.high, p.1.1.high) refl; open_end = p.1.1.open_end; last = refl })

do_follows : (r : Readers) (l : Lower) → Followed r l → Follows r (Same r) (take_do l)
unfolding take_do
do_follows r l a =
    follows_make (Same r) do_of
    (follows_seq (mark r kind.Do) (follows_seq a.statement (follows_seq (mark r kind.While) (follows_seq (condition_follows r l a) (mark r kind.Semicolon)))))
    (λ read other x y p. record { shown = λ n. rw (p.1.0.shown (n - 1), p.1.1.1.0.shown (n - 1)) refl; high = rw (p.1.0.high, p.1.1.1.0.high) refl; open_end = refl; last = refl })

abbrev pub HeaderSame : Readers → Header → Header → Type 0
HeaderSame r (counted one two all) (counted one_ two_ all_) = Both (Same r) one one_ × (Both (Same r) two two_ × Alls (Same r) all all_)
HeaderSame r (counted one two all) (assigned name_ iterable_) = ⊥
HeaderSame r (counted one two all) (declaring final_ written_ name_ iterable_) = ⊥
HeaderSame r (assigned name iterable) (counted one_ two_ all_) = ⊥
HeaderSame r (assigned name iterable) (assigned name_ iterable_) = Twins name name_ × Same r iterable iterable_
HeaderSame r (assigned name iterable) (declaring final_ written_ name_ iterable_) = ⊥
HeaderSame r (declaring final written name iterable) (counted one_ two_ all_) = ⊥
HeaderSame r (declaring final written name iterable) (assigned name_ iterable_) = ⊥
HeaderSame r (declaring final written name iterable) (declaring final_ written_ name_ iterable_) = (final ≡ final_) × (Both (Same r) written written_ × (Twins name name_ × Same r iterable iterable_))

for_same : (r : Readers) (read other : List Token) (x y : Tree) → Same r x y → (s t : Header) → HeaderSame r s t → Same r (for_with read s x) (for_with other t y)
for_same r read other x y p (counted one two all) (counted one_ two_ all_) q =
    let start = part_same r one one_ q.0 in
    let condition = part_same r two two_ q.1.0 in
    let updates = all_same r all all_ q.1.1 in
    record { shown = λ n. rw (start.shown (n - 1), condition.shown (n - 1), updates.shown (n - 1), p.shown (n - 1)) refl; high = rw (start.high, condition.high, updates.high, p.high) refl; open_end = p.open_end; last = refl }
for_same r read other x y p (counted one two all) (assigned name_ iterable_) q = absurd q
for_same r read other x y p (counted one two all) (declaring final_ written_ name_ iterable_) q = absurd q
for_same r read other x y p (assigned name iterable) (counted one_ two_ all_) q = absurd q
for_same r read other x y p (assigned name iterable) (assigned name_ iterable_) q = record { shown = λ n. rw (q.0.word, q.1.shown (n - 1), p.shown (n - 1)) refl; high = rw (q.1.high, p.high) refl; open_end = p.open_end; last = refl }
for_same r read other x y p (assigned name iterable) (declaring final_ written_ name_ iterable_) q = absurd q
for_same r read other x y p (declaring final written name iterable) (counted one_ two_ all_) q = absurd q
for_same r read other x y p (declaring final written name iterable) (assigned name_ iterable_) q = absurd q
for_same r read other x y p (declaring final written name iterable) (declaring final_ written_ name_ iterable_) q =
    let part = part_same r written written_ q.1.0 in
    record { shown = λ n. rw (q.0, part.shown (n - 1), q.1.1.0.word, q.1.1.1.shown (n - 1), p.shown (n - 1)) refl; high = rw (part.high, q.1.1.1.high, p.high) refl; open_end = p.open_end; last = refl }

each_same : (r : Readers) (o p : Option (Bool × Option Tree)) → Both (Pair Equal (Both (Same r))) o p → (t u : Token) → Twins t u → (x y : Tree) → Same r x y → HeaderSame r (each_with o t x) (each_with p u y)
each_same r None None b t u h x y k = (h, k)
each_same r None (Some (final, written)) b t u h x y k = absurd b
each_same r (Some (final, written)) None b t u h x y k = absurd b
each_same r (Some (final, written)) (Some (other, type)) b t u h x y k = (b.0, (b.1, (h, k)))

header_follows : (r : Readers) (l : Lower) → Followed r l → Follows r (HeaderSame r) (take_each l ⊘ take_counted l)
unfolding take_each take_counted take_start
header_follows r l a =
    follows_or
    (follows_turn (HeaderSame r) each_of
    (follows_seq (follows_maybe (declared_follows r l a)) (follows_seq (named r) (follows_seq (mark r kind.In) (a.expression setting.Plain)))) (λ x y p. each_same r x.0 y.0 p.0 x.1.0 y.1.0 p.1.0 x.1.1.1 y.1.1.1 p.1.1.1))
    (follows_turn (HeaderSame r) counted_of
    (follows_seq
    (follows_or (follows_turn (Both (Same r)) (λ x. Some (ended x)) (follows_seq (variables_follow r l a) (mark r kind.Semicolon)) (λ x y p. p.0))
    (follows_turn (Both (Same r)) ended (follows_seq (follows_maybe (a.expression setting.Plain)) (mark r kind.Semicolon)) (λ x y p. p.0)))
    (follows_seq (follows_maybe (a.expression setting.Plain)) (follows_seq (mark r kind.Semicolon) (follows_maybe (follows_separated (a.expression setting.Listed))))))
    (λ x y p. (p.0, (p.1.0, listed_related (Same r) x.1.1.1 y.1.1.1 p.1.1.1))))

for_follows : (r : Readers) (l : Lower) → Followed r l → Follows r (Same r) (take_for l)
unfolding take_for
for_follows r l a =
    follows_make (Same r) for_of (follows_seq (mark r kind.For) (follows_seq (follows_inside (is kind.OpenParenthesis) (blind_is kind.OpenParenthesis) (header_follows r l a)) a.statement))
    (λ read other x y p. for_same r read other x.1.1 y.1.1 p.1.1 x.1.0.1 y.1.0.1 p.1.0.1)

-- Switches.

label_follows : (r : Readers) (l : Lower) → Followed r l → Follows r (Same r) (take_label l)
unfolding take_label
label_follows r l a = follows_turn (Same r) label_of (follows_seq (mark r kind.Case) (follows_seq (a.expression setting.Plain) (mark r kind.Colon))) (λ x y p. p.1.0)

labels_follow : (r : Readers) (l : Lower) → Followed r l → Follows r (Pair (Alls (Same r)) Equal) (take_labels l)
unfolding take_labels
labels_follow r l a =
    follows_where (heads kind.Case) (blind_heads r kind.Case)
    (follows_turn (Pair (Alls (Same r)) Equal) labels_of
    (follows_seq (follows_seq (label_follows r l a) (follows_many (label_follows r l a))) (follows_maybe (follows_seq (mark r kind.Default) (mark r kind.Colon)))) (λ x y p. (p.0, some_same (Pair Twins Twins) x.1 y.1 p.1)))
    (follows_turn (Pair (Alls (Same r)) Equal) default_of (follows_seq (mark r kind.Default) (mark r kind.Colon)) (λ x y p. (tt, refl)))

case_follows : (r : Readers) (l : Lower) → Followed r l → Follows r (Pair (Same r) Equal) (take_case l)
unfolding take_case
case_follows r l a =
    follows_make (Pair (Same r) Equal) case_of (follows_seq (labels_follow r l a) (follows_within case_size (same_case_size r) (unread_follows r)))
    (λ read other x y p.
    let values = all_same r x.0.0 y.0.0 p.0.0 in
    (record { shown = λ n. rw (values.shown n, p.0.1, p.1.shown n) refl; high = rw (values.high, p.1.high) refl; open_end = refl; last = refl }, p.0.1))

cases_same : (r : Readers) (xs ys : List (Tree × Bool)) → Alls (Pair (Same r) Equal) xs ys → Alls (Same r) (map (λ c. c.0) xs) (map (λ c. c.0) ys)
cases_same r [] [] p = tt
cases_same r [] (y ∷ ys) p = absurd p
cases_same r (x ∷ xs) [] p = absurd p
cases_same r (x ∷ xs) (y ∷ ys) p = (p.0.0, cases_same r xs ys p.1)

defaults_same : (r : Readers) (xs ys : List (Tree × Bool)) → Alls (Pair (Same r) Equal) xs ys → ends_with_default xs ≡ ends_with_default ys
defaults_same r [] [] p = refl
defaults_same r [] (y ∷ ys) p = absurd p
defaults_same r (x ∷ xs) [] p = absurd p
defaults_same r (x ∷ []) (y ∷ []) p = refl
defaults_same r (x ∷ []) (y ∷ (w ∷ ys)) p = absurd p.1
defaults_same r (x ∷ (v ∷ xs)) (y ∷ []) p = absurd p.1
defaults_same r (x ∷ (v ∷ xs)) (y ∷ (w ∷ ys)) p = rw (p.0.1, defaults_same r (v ∷ xs) (w ∷ ys) p.1) refl

switch_follows : (r : Readers) (l : Lower) → Followed r l → Follows r (Same r) (take_switch l)
unfolding take_switch take_cases
switch_follows r l a =
    follows_make (Same r) switch_of
    (follows_seq (mark r kind.Switch)
    (follows_seq (condition_follows r l a)
    (follows_only cases_end_with_default (λ x y p. defaults_same r x.1 y.1 p.1) (follows_inside (is kind.OpenBrace) (blind_is kind.OpenBrace) (follows_many (case_follows r l a))))))
    (λ read other x y p.
    let cases = all_same r (map (λ c. c.0) x.1.1.1) (map (λ c. c.0) y.1.1.1) (cases_same r x.1.1.1 y.1.1.1 p.1.1.1) in
    record { shown = λ n. rw (p.1.0.shown (n - 1), cases.shown (n - 1)) refl; high = rw (p.1.0.high, cases.high) refl; open_end = refl; last = refl })

-- Exceptions.

catch_follows : (r : Readers) → Follows r (Pair Twins (Both Twins)) take_catch
unfolding take_catch
catch_follows r =
    follows_turn (Pair Twins (Both Twins)) catch_of
    (follows_seq (mark r kind.Catch) (follows_inside (is kind.OpenParenthesis) (blind_is kind.OpenParenthesis) (follows_seq (named r) (follows_maybe (follows_seq (mark r kind.Comma) (named r))))))
    (λ x y p. (p.1.1.0, behind_related Twins x.1.1.1 y.1.1.1 p.1.1.1))

caught_same : (o p : Option Token) → Both Twins o p → part_bare_with (λ word. word) (part_of (option_map caught o)) ≡ part_bare_with (λ word. word) (part_of (option_map caught p))
caught_same None None b = refl
caught_same None (Some y) b = absurd b
caught_same (Some x) None b = absurd b
caught_same (Some x) (Some y) b = rw b.word refl

clause_same : (r : Readers) (read other : List Token) (o p : Option Tree) → Both (Same r) o p → (c d : Option (Token × Option Token)) → Both (Pair Twins (Both Twins)) c d → (x y : Tree) → Same r x y → Same r (clause_with read o c x) (clause_with other p d y)
clause_same r read other o p b None None q x y h =
    let written = part_same r o p b in record { shown = λ n. rw (written.shown n, h.shown n) refl; high = rw (written.high, h.high) refl; open_end = refl; last = refl }
clause_same r read other o p b None (Some (u, trace)) q x y h = absurd q
clause_same r read other o p b (Some (t, trace)) None q x y h = absurd q
clause_same r read other o p b (Some (t, trace)) (Some (u, stack)) q x y h =
    let written = part_same r o p b in
    record { shown = λ n. rw (written.shown n, q.0.word, caught_same trace stack q.1, h.shown n) refl; high = rw (written.high, h.high) refl; open_end = refl; last = refl }

clause_follows : (r : Readers) (l : Lower) → Followed r l → Follows r (Same r) (take_clause l)
unfolding take_clause
clause_follows r l a =
    follows_where (heads kind.On) (blind_heads r kind.On)
    (follows_make (Same r) on_of (follows_seq (mark r kind.On) (follows_seq a.written (follows_seq (follows_maybe (catch_follows r)) a.block)))
    (λ read other x y p. clause_same r read other (Some x.1.0) (Some y.1.0) p.1.0 x.1.1.0 y.1.1.0 p.1.1.0 x.1.1.1 y.1.1.1 p.1.1.1))
    (follows_make (Same r) clause_of (follows_seq (catch_follows r) a.block) (λ read other x y p. clause_same r read other None None tt (Some x.0) (Some y.0) p.0 x.1 y.1 p.1))

clauses_same : (r : Readers) (t u : Token) (b c : Tree) (xs ys : List Tree) (o p : Option (Token × Tree)) → Alls (Same r) xs ys → Both (Pair Twins (Same r)) o p → has_clause ((t, (b, xs)), o) ≡ has_clause ((u, (c, ys)), p)
clauses_same r t u b c [] [] o p h k = some_same (Pair Twins (Same r)) o p k
clauses_same r t u b c [] (y ∷ ys) o p h k = absurd h
clauses_same r t u b c (x ∷ xs) [] o p h k = absurd h
clauses_same r t u b c (x ∷ xs) (y ∷ ys) o p h k = refl

try_follows : (r : Readers) (l : Lower) → Followed r l → Follows r (Same r) (take_try l)
unfolding take_try
try_follows r l a =
    follows_make (Same r) try_of
    (follows_only has_clause (λ x y p. clauses_same r x.0.0 y.0.0 x.0.1.0 y.0.1.0 x.0.1.1 y.0.1.1 x.1 y.1 p.0.1.1 p.1)
    (follows_seq (follows_seq (mark r kind.Try) (follows_seq a.block (follows_many (clause_follows r l a)))) (follows_maybe (follows_seq (mark r kind.Finally) a.block))))
    (λ read other x y p.
    let clauses = all_same r x.0.1.1 y.0.1.1 p.0.1.1 in
    let final = behind_same r x.1 y.1 p.1 in
    record { shown = λ n. rw (p.0.1.0.shown (n - 1), clauses.shown (n - 1), final.shown (n - 1)) refl; high = rw (p.0.1.0.high, clauses.high, final.high) refl; open_end = refl; last = refl })

-- All statements.

other_statement_follows : (r : Readers) (l : Lower) → Followed r l → Follows r (Same r) (take_other_statement l)
unfolding take_other_statement take_labeled
other_statement_follows r l a =
    follows_where heads_label (blind_label r)
    (follows_make (Same r) labeled_of (follows_seq (named r) (follows_seq (mark r kind.Colon) a.statement))
    (λ read other x y p. record { shown = λ n. rw (p.0.word, p.1.1.shown (n - 1)) refl; high = rw p.1.1.high refl; open_end = p.1.1.open_end; last = refl }))
    (follows_or (function_statement_follows r l a) (follows_or (variable_statement_follows r l a) (expression_statement_follows r l a)))

return_follows : (r : Readers) (l : Lower) → Followed r l → Follows r (Same r) (take_return l)
unfolding take_return
return_follows r l a =
    follows_make (Same r) return_of (follows_seq (mark r kind.Return) (follows_seq (follows_maybe (a.expression setting.Plain)) (mark r kind.Semicolon)))
    (λ read other x y p. let value = part_same r x.1.0 y.1.0 p.1.0 in record { shown = λ n. rw (value.shown (n - 1)) refl; high = rw value.high refl; open_end = refl; last = refl })

break_follows : (r : Readers) → Follows r (Same r) take_break
unfolding take_break
break_follows r =
    follows_make (Same r) break_of (follows_seq (mark r kind.Break) (follows_seq (follows_maybe (named r)) (mark r kind.Semicolon)))
    (λ read other x y p. record { shown = λ n. rw (option_bare x.1.0 y.1.0 p.1.0) refl; high = refl; open_end = refl; last = refl })

continue_follows : (r : Readers) → Follows r (Same r) take_continue
unfolding take_continue
continue_follows r =
    follows_make (Same r) continue_of (follows_seq (mark r kind.Continue) (follows_seq (follows_maybe (named r)) (mark r kind.Semicolon)))
    (λ read other x y p. record { shown = λ n. rw (option_bare x.1.0 y.1.0 p.1.0) refl; high = refl; open_end = refl; last = refl })

rethrow_follows : (r : Readers) → Follows r (Same r) take_rethrow
unfolding take_rethrow
rethrow_follows r = follows_make (Same r) rethrow_of (follows_seq (mark r kind.Rethrow) (mark r kind.Semicolon)) (λ read other x y p. record { shown = λ n. refl; high = refl; open_end = refl; last = refl })

statement_follows : (r : Readers) (l : Lower) → Followed r l → Follows r (Same r) (take_statement l)
unfolding take_statement
statement_follows r l a =
    follows_where (heads kind.OpenBrace) (blind_heads r kind.OpenBrace) (block_follows r)
    (follows_where (heads kind.If) (blind_heads r kind.If) (if_follows r l a)
    (follows_where (heads kind.While) (blind_heads r kind.While) (while_follows r l a)
    (follows_where (heads kind.Do) (blind_heads r kind.Do) (do_follows r l a)
    (follows_where (heads kind.For) (blind_heads r kind.For) (for_follows r l a)
    (follows_where (heads kind.Switch) (blind_heads r kind.Switch) (switch_follows r l a)
    (follows_where (heads kind.Try) (blind_heads r kind.Try) (try_follows r l a)
    (follows_where (heads kind.Return) (blind_heads r kind.Return) (return_follows r l a)
    (follows_where (heads kind.Break) (blind_heads r kind.Break) (break_follows r)
    (follows_where (heads kind.Continue) (blind_heads r kind.Continue) (continue_follows r)
    (follows_where (heads kind.Rethrow) (blind_heads r kind.Rethrow) (rethrow_follows r) (other_statement_follows r l a)))))))))))

-- whatever room there is
pub followed : (r : Readers) (n : ℕ) → Followed r (lower n)
unfolding lower
followed r zero = record {
  written = follows_none r (Same r);
  tested = λ m. follows_none r (Same r);
  constructed = follows_none r (Same r);
  named = follows_none r (Same r);
  expression = λ m. follows_none r (Same r);
  operand = λ m above. follows_none r (Same r);
  unary = λ m. follows_none r (Same r);
  section = λ m. section_head_follows r (λ ts. None) (follows_none r (Same r));
  simple = follows_none r (Same r);
  block = follows_none r (Same r);
  statement = follows_none r (Same r);
}
followed r (suc n) =
    let a = followed r n in
    record {
      written = type_follows r n (lower n) a (heads kind.Question) anything (blind_heads r kind.Question) (blind_anything r);
      tested = λ m. type_follows r n (lower n) a (heads_nullable m) anything (blind_nullable r m) (blind_anything r);
      constructed = plain_type_follows r (lower n) a (heads kind.Question) (blind_heads r kind.Question);
      named = type_follows r n (lower n) a (heads kind.Question) heads_field (blind_heads r kind.Question) (blind_field r);
      expression = λ m. expression_follows r n m (lower n) a;
      operand = λ m above. operand_follows r n m (lower n) a above;
      unary = λ m. unary_follows r n m (lower n) a;
      section = λ m. section_follows r n m (lower n) a (take_expression n setting.Plain (lower n)) (expression_follows r n setting.Plain (lower n) a);
      simple = simple_follows r;
      block = block_follows r;
      statement = statement_follows r (lower n) a;
    }
