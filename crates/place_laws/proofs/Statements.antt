-- Statements stand in order on their tokens, and so does all that is read in whatever room.
use Rattle.std.proofs.Common.{◌≡◌, ℕ, zero, suc, ◌-◌, ◌++◌, Bool, true, false, List, [], ◌∷◌, Option, Some, None, length, map, refl, ap, sym, ◌∙◌, subst, arith, append-nil}
use Rattle.std.proofs.lemmas.List.{append_assoc, take_all}
use Rattle.readings.specs.Descent.{all_items, ◌⊘◌}
use Rattle.dart_tokens.specs.declared.token.Kind.TheVariants as kind
use Rattle.dart_tree.specs.Tree.{Tree, trees_of}
use Rattle.dart_tree.specs.Nodes.{list_of}
use Rattle.unread_lists.specs.WithLists.{list_read, all_with_lists}
use Rattle.dart_tokens.specs.declared.grouped_token.GroupedToken.{GroupedToken as Token}
use Rattle.grammar.specs.declared.level.Setting.TheVariants as setting
use Rattle.grammar.specs.Tokens.{is, is_name, heads, heads_name, anything, place_over}
use Rattle.grammar.specs.Types.{inner, heads_field}
use Rattle.grammar.specs.Expressions.{heads_nullable, heads_label, heads_closure, one_time}
use Rattle.grammar.specs.Statements.{error_of, block_of, final_of, var_of, typed_of, variable_of, variables_of, ended, variable_statement_of, arrow_body_of, plain_function_of, function_statement_of, expression_statement_of, return_of, break_of, continue_of, rethrow_of, labeled_of, If, without_else, is_nearest, with_else, if_of, while_of, do_of, Header, counted, assigned, declaring, each_with, each_of, counted_of, for_of, label_of, labels_of, default_of, case_of, case_size, cases_end_with_default, switch_of, catch_of, on_of, clause_of, has_clause, try_of}
use Rattle.grammar.specs.Descents.{Lower, lower, take_unread, take_block, take_declared, take_variable, take_variables, take_variable_statement, take_local_body, take_local_rest, take_local_function, take_function_statement, take_expression_statement, take_return, take_break, take_continue, take_rethrow, take_labeled, take_condition, take_if, take_while, take_do, take_each, take_start, take_counted, take_for, take_label, take_labels, take_case, take_cases, take_switch, take_catch, take_clause, take_try, take_other_statement, take_statement, take_expression}
use Rattle.place_laws.proofs.Rows.{row_without}
use Rattle.place_laws.proofs.TextParts.{reach, PartOf}
use Rattle.place_laws.proofs.Lays.{Text, Lays, Joined, Makes, IsBare, RowOn, one, unshown, both, if_there, total, none_on, lays_token, lays_none, lays_turn, lays_node, lays_make, lays_seq, lays_end, lays_or, lays_where, lays_maybe, lays_many, lays_onward, lays_inside, lays_within, lays_before, lays_only}
use Rattle.place_laws.proofs.Expressions.{Ordered, all_read, part_read, behind_read, listed_total, listed_read, lays_separated, lays_perhaps, type_parameters_laid, parameter_list_laid, type_laid, plain_type_laid, simple_laid, unary_laid, operand_laid, section_head_laid, section_laid, expression_laid}

-- Lists of statements.

pub error_bare : (c : Text) → IsBare c error_of
error_bare c read n = (refl, refl)

-- what an unread list shows: the statements that are read where it stands
abbrev pub unread_shown : Text → List Tree → ℕ → List Tree
unread_shown c ts n = list_of (list_read c.lists n (trees_of ts))

unread_row : (c : Text) (ts : List Token) → PartOf c.tokens ts → RowOn c ts (unread_shown c (all_items (λ ts. None) length error_of ts))
unread_row c [] p = none_on c [] p
unread_row c (t ∷ ts) p =
    subst (λ (us : List Token). RowOn c (t ∷ ts) (λ n. list_of (c.lists n (place_over us)))) (sym (take_all (suc (length (t ∷ ts))) (t ∷ ts) (omega arith))) (c.lie (t ∷ ts) p)

unread_laid : (c : Text) → Lays c (unread_shown c) false take_unread
unread_laid c = record { each = λ ts p. record { read = ts; is = sym (append-nil ts); filled = tt; row = unread_row c ts p } }

block_laid : (c : Text) → Lays c (one c) true take_block
unfolding take_block
block_laid c = lays_make block_of (lays_inside (is kind.OpenBrace) (unread_laid c)) (λ read x n. (refl, (n - 1, refl)))

-- Variables and functions.

declared_laid : (c : Text) (l : Lower) → Ordered c l → Lays c (both unshown (if_there (one c))) true (take_declared l)
unfolding take_declared
declared_laid c l a =
    lays_where (heads kind.Final) (lays_turn (both unshown (if_there (one c))) final_of (lays_seq (lays_token c (is kind.Final)) (lays_maybe (lays_before heads_name a.named))) (λ x n. refl))
    (lays_where (heads kind.Var) (lays_turn (both unshown (if_there (one c))) var_of (lays_token c (is kind.Var)) (λ x n. refl))
    (lays_turn (both unshown (if_there (one c))) typed_of (lays_before heads_name a.named) (λ x n. refl)))

variable_laid : (c : Text) (l : Lower) → Ordered c l → Lays c (one c) true (take_variable l)
unfolding take_variable
variable_laid c l a =
    lays_make variable_of (lays_seq (lays_token c is_name) (lays_maybe (lays_seq (lays_token c (is kind.Equals)) (a.expression setting.Plain)))) (λ read x n. (refl, (n, behind_read c n x.1)))

pub variables_laid : (c : Text) (l : Lower) → Ordered c l → Lays c (one c) true (take_variables l)
unfolding take_variables
variables_laid c l a =
    lays_make variables_of (lays_seq (declared_laid c l a) (lays_separated (variable_laid c l a))) (λ read x n. (refl, (n, rw (part_read c n x.0.1, all_read c n x.1) refl)))

pub local_body_laid : (c : Text) (l : Lower) → Ordered c l → Lays c (one c) true (take_local_body l)
unfolding take_local_body
local_body_laid c l a =
    lays_where (heads kind.OpenBrace) a.block
    (lays_make arrow_body_of (lays_seq (lays_token c (is kind.Arrow)) (lays_end (a.expression setting.Plain) (lays_token c (is kind.Semicolon)))) (λ read x n. (refl, (n, refl))))

function_statement_laid : (c : Text) (l : Lower) → Ordered c l → Lays c (one c) true (take_function_statement l)
unfolding take_function_statement take_local_function take_local_rest
function_statement_laid c l a =
    lays_make function_statement_of
    (lays_make plain_function_of
    (lays_seq (lays_maybe (lays_before heads_name a.named))
    (lays_seq (lays_token c is_name)
    (lays_seq (lays_maybe (type_parameters_laid c l a))
    (lays_where (heads_closure setting.Plain) (lays_seq (parameter_list_laid c l a) (local_body_laid c l a)) (lays_none c (both (one c) (one c)) true)))))
    (λ read x n. (refl, (n, rw (part_read c n x.0, listed_read c n x.1.1.0) refl)))) (λ read x n. (refl, (n - 1, refl)))

variable_statement_laid : (c : Text) (l : Lower) → Ordered c l → Lays c (one c) true (take_variable_statement l)
unfolding take_variable_statement
variable_statement_laid c l a = lays_make variable_statement_of (lays_end (variables_laid c l a) (lays_token c (is kind.Semicolon))) (λ read x n. (refl, (n - 1, refl)))

expression_statement_laid : (c : Text) (l : Lower) → Ordered c l → Lays c (one c) true (take_expression_statement l)
unfolding take_expression_statement
expression_statement_laid c l a =
    lays_make expression_statement_of (lays_end (lays_maybe (a.expression setting.Plain)) (lays_token c (is kind.Semicolon))) (λ read x n. (refl, (n - 1, part_read c (n - 1) x.0)))

-- Branches and loops.

condition_laid : (c : Text) (l : Lower) → Ordered c l → Lays c (one c) true (take_condition l)
unfolding take_condition
condition_laid c l a = lays_turn (one c) inner (lays_inside (is kind.OpenParenthesis) (a.expression setting.Plain)) (λ x n. refl)

abbrev if_shown : Text → If → ℕ → List Tree
if_shown c = both (both unshown (both (one c) (one c))) (if_there (one c))

else_joined : (c : Text) → Joined c (if_shown c) (both unshown (one c)) with_else
else_joined c read left right p f r from n b =
    row_without c.tokens from (reach from read) (both unshown (both (one c) (one c)) left.0 n) (if_there (one c) left.1 n) (one c right.1 n) (r from n b)

if_laid : (c : Text) (l : Lower) → Ordered c l → Lays c (one c) true (take_if l)
unfolding take_if
if_laid c l a =
    lays_make if_of
    (lays_onward one_time is_nearest with_else (lays_turn (if_shown c) without_else (lays_seq (lays_token c (is kind.If)) (lays_seq (condition_laid c l a) a.statement)) (λ x n. refl))
    (lays_seq (lays_token c (is kind.Else)) a.statement) (else_joined c)) (λ read x n. (refl, (n - 1, rw (part_read c (n - 1) x.1) refl)))

while_laid : (c : Text) (l : Lower) → Ordered c l → Lays c (one c) true (take_while l)
unfolding take_while
while_laid c l a = lays_make while_of (lays_seq (lays_token c (is kind.While)) (lays_seq (condition_laid c l a) a.statement)) (λ read x n. (refl, (n - 1, refl)))

do_laid : (c : Text) (l : Lower) → Ordered c l → Lays c (one c) true (take_do l)
unfolding take_do
do_laid c l a =
    lays_make do_of
    (lays_seq (lays_token c (is kind.Do)) (lays_seq a.statement (lays_seq (lays_token c (is kind.While)) (lays_end (condition_laid c l a) (lays_token c (is kind.Semicolon)))))) (λ read x n. (refl, (n - 1, refl)))

abbrev pub header_shown : Text → Header → ℕ → List Tree
header_shown c (counted initializer condition updates) n = if_there (one c) initializer n ++ (if_there (one c) condition n ++ total (one c) updates n)
header_shown c (assigned name iterable) n = one c iterable n
header_shown c (declaring final written name iterable) n = if_there (one c) written n ++ one c iterable n

each_shown : (c : Text) (n : ℕ) (o : Option (Bool × Option Tree)) (name : Token) (iterable : Tree) → header_shown c (each_with o name iterable) n ≡ if_there (both unshown (if_there (one c))) o n ++ one c iterable n
each_shown c n None name iterable = refl
each_shown c n (Some (final, written)) name iterable = refl

apart : (xs ys zs us : List Tree) → xs ++ (ys ++ (zs ++ us)) ≡ (xs ++ (ys ++ zs)) ++ us
apart xs ys zs us = sym (append_assoc xs (ys ++ zs) us ∙ ap (λ (ts : List Tree). xs ++ ts) (append_assoc ys zs us))

for_makes : (c : Text) → Makes c (both unshown (both (λ (z : Token × Header). header_shown c z.1) (one c))) for_of
for_makes c read (word, ((opening, counted initializer condition updates), body)) n = (
  refl,
  (
    n - 1,
    rw (part_read c (n - 1) initializer, part_read c (n - 1) condition, all_read c (n - 1) updates)
        (apart (if_there (one c) initializer (n - 1)) (if_there (one c) condition (n - 1)) (total (one c) updates (n - 1)) (one c body (n - 1))),
  ),
)
for_makes c read (word, ((opening, assigned name iterable), body)) n = (refl, (n - 1, refl))
for_makes c read (word, ((opening, declaring final written name iterable), body)) n =
    (refl, (n - 1, rw (part_read c (n - 1) written) (sym (append_assoc (if_there (one c) written (n - 1)) (one c iterable (n - 1)) (one c body (n - 1))))))

header_laid : (c : Text) (l : Lower) → Ordered c l → Lays c (header_shown c) true (take_each l ⊘ take_counted l)
unfolding take_each take_counted take_start
header_laid c l a =
    lays_or
    (lays_turn (header_shown c) each_of
    (lays_seq (lays_maybe (declared_laid c l a)) (lays_seq (lays_token c is_name) (lays_seq (lays_token c (is kind.In)) (a.expression setting.Plain)))) (λ x n. each_shown c n x.0 x.1.0 x.1.1.1))
    (lays_turn (header_shown c) counted_of
    (lays_seq
    (lays_or (lays_turn (if_there (one c)) (λ x. Some (ended x)) (lays_end (variables_laid c l a) (lays_token c (is kind.Semicolon))) (λ x n. refl))
    (lays_turn (if_there (one c)) ended (lays_end (lays_maybe (a.expression setting.Plain)) (lays_token c (is kind.Semicolon))) (λ x n. refl)))
    (lays_seq (lays_maybe (a.expression setting.Plain)) (lays_seq (lays_token c (is kind.Semicolon)) (lays_maybe (lays_separated (a.expression setting.Listed))))))
    (λ x n. rw (listed_total c n x.1.1.1) refl))

for_laid : (c : Text) (l : Lower) → Ordered c l → Lays c (one c) true (take_for l)
unfolding take_for
for_laid c l a = lays_make for_of (lays_seq (lays_token c (is kind.For)) (lays_seq (lays_inside (is kind.OpenParenthesis) (header_laid c l a)) a.statement)) (for_makes c)

-- Switches.

label_laid : (c : Text) (l : Lower) → Ordered c l → Lays c (one c) true (take_label l)
unfolding take_label
label_laid c l a = lays_turn (one c) label_of (lays_seq (lays_token c (is kind.Case)) (lays_end (a.expression setting.Plain) (lays_token c (is kind.Colon)))) (λ x n. refl)

abbrev labels_shown : Text → List Tree × Bool → ℕ → List Tree
labels_shown c x n = total (one c) x.0 n

labels_laid : (c : Text) (l : Lower) → Ordered c l → Lays c (labels_shown c) true (take_labels l)
unfolding take_labels
labels_laid c l a =
    lays_where (heads kind.Case)
    (lays_turn (labels_shown c) labels_of
    (lays_end (lays_seq (label_laid c l a) (lays_many (label_laid c l a))) (lays_perhaps (lays_seq (lays_token c (is kind.Default)) (lays_token c (is kind.Colon))))) (λ x n. refl))
    (lays_turn (labels_shown c) default_of (lays_seq (lays_token c (is kind.Default)) (lays_token c (is kind.Colon))) (λ x n. refl))

abbrev case_shown : Text → Tree × Bool → ℕ → List Tree
case_shown c x = one c x.0

case_laid : (c : Text) (l : Lower) → Ordered c l → Lays c (case_shown c) true (take_case l)
unfolding take_case
case_laid c l a =
    lays_node (λ (y : Tree × Bool). y.0) case_of (lays_seq (labels_laid c l a) (lays_within case_size (unread_laid c))) (λ read x n. (refl, (n, rw (all_read c n x.0.0) refl)))

cases_read : (c : Text) (n : ℕ) (xs : List (Tree × Bool)) → list_of (all_with_lists c.lists n (trees_of (map (λ y. y.0) xs))) ≡ total (case_shown c) xs n
cases_read c n [] = refl
cases_read c n (x ∷ xs) = rw (cases_read c n xs) refl

switch_laid : (c : Text) (l : Lower) → Ordered c l → Lays c (one c) true (take_switch l)
unfolding take_switch take_cases
switch_laid c l a =
    lays_make switch_of
    (lays_seq (lays_token c (is kind.Switch)) (lays_seq (condition_laid c l a) (lays_only cases_end_with_default (lays_inside (is kind.OpenBrace) (lays_many (case_laid c l a))))))
    (λ read x n. (refl, (n - 1, rw (cases_read c (n - 1) x.1.1.1) refl)))

-- Exceptions.

catch_laid : (c : Text) → Lays c unshown true take_catch
unfolding take_catch
catch_laid c =
    lays_turn unshown catch_of
    (lays_seq (lays_token c (is kind.Catch)) (lays_inside (is kind.OpenParenthesis) (lays_seq (lays_token c is_name) (lays_perhaps (lays_seq (lays_token c (is kind.Comma)) (lays_token c is_name))))))
    (λ x n. refl)

on_makes : (c : Text) → Makes c (both unshown (both (one c) (both unshown (one c)))) on_of
on_makes c read (word, (written, (None, body))) n = (refl, (n, refl))
on_makes c read (word, (written, (Some (exception, trace), body))) n = (refl, (n, refl))

clause_laid : (c : Text) (l : Lower) → Ordered c l → Lays c (one c) true (take_clause l)
unfolding take_clause
clause_laid c l a =
    lays_where (heads kind.On) (lays_make on_of (lays_seq (lays_token c (is kind.On)) (lays_seq a.written (lays_seq (lays_perhaps (catch_laid c)) a.block))) (on_makes c))
    (lays_make clause_of (lays_seq (catch_laid c) a.block) (λ read x n. (refl, (n, refl))))

try_laid : (c : Text) (l : Lower) → Ordered c l → Lays c (one c) true (take_try l)
unfolding take_try
try_laid c l a =
    lays_make try_of
    (lays_only has_clause
    (lays_seq (lays_seq (lays_token c (is kind.Try)) (lays_seq a.block (lays_many (clause_laid c l a)))) (lays_maybe (lays_seq (lays_token c (is kind.Finally)) a.block))))
    (λ read x n. (refl, (n - 1, rw (all_read c (n - 1) x.0.1.1, behind_read c (n - 1) x.1) refl)))

-- Statements.

other_statement_laid : (c : Text) (l : Lower) → Ordered c l → Lays c (one c) true (take_other_statement l)
unfolding take_other_statement take_labeled
other_statement_laid c l a =
    lays_where heads_label (lays_make labeled_of (lays_seq (lays_token c is_name) (lays_seq (lays_token c (is kind.Colon)) a.statement)) (λ read x n. (refl, (n - 1, refl))))
    (lays_or (function_statement_laid c l a) (lays_or (variable_statement_laid c l a) (expression_statement_laid c l a)))

return_laid : (c : Text) (l : Lower) → Ordered c l → Lays c (one c) true (take_return l)
unfolding take_return
return_laid c l a =
    lays_make return_of (lays_seq (lays_token c (is kind.Return)) (lays_end (lays_maybe (a.expression setting.Plain)) (lays_token c (is kind.Semicolon)))) (λ read x n. (refl, (n - 1, part_read c (n - 1) x.1.0)))

break_laid : (c : Text) → Lays c (one c) true take_break
unfolding take_break
break_laid c = lays_make break_of (lays_seq (lays_token c (is kind.Break)) (lays_seq (lays_perhaps (lays_token c is_name)) (lays_token c (is kind.Semicolon)))) (λ read x n. (refl, (n, refl)))

continue_laid : (c : Text) → Lays c (one c) true take_continue
unfolding take_continue
continue_laid c = lays_make continue_of (lays_seq (lays_token c (is kind.Continue)) (lays_seq (lays_perhaps (lays_token c is_name)) (lays_token c (is kind.Semicolon)))) (λ read x n. (refl, (n, refl)))

rethrow_laid : (c : Text) → Lays c (one c) true take_rethrow
unfolding take_rethrow
rethrow_laid c = lays_make rethrow_of (lays_seq (lays_token c (is kind.Rethrow)) (lays_token c (is kind.Semicolon))) (λ read x n. (refl, (n, refl)))

pub statement_laid : (c : Text) (l : Lower) → Ordered c l → Lays c (one c) true (take_statement l)
unfolding take_statement
statement_laid c l a =
    lays_where (heads kind.OpenBrace) (block_laid c)
    (lays_where (heads kind.If) (if_laid c l a)
    (lays_where (heads kind.While) (while_laid c l a)
    (lays_where (heads kind.Do) (do_laid c l a)
    (lays_where (heads kind.For) (for_laid c l a)
    (lays_where (heads kind.Switch) (switch_laid c l a)
    (lays_where (heads kind.Try) (try_laid c l a)
    (lays_where (heads kind.Return) (return_laid c l a)
    (lays_where (heads kind.Break) (break_laid c) (lays_where (heads kind.Continue) (continue_laid c) (lays_where (heads kind.Rethrow) (rethrow_laid c) (other_statement_laid c l a)))))))))))

-- whatever room there is
pub ordered : (c : Text) (n : ℕ) → Ordered c (lower n)
unfolding lower
ordered c zero = record {
  written = lays_none c (one c) true;
  tested = λ m. lays_none c (one c) true;
  constructed = lays_none c (one c) true;
  named = lays_none c (one c) true;
  expression = λ m. lays_none c (one c) true;
  operand = λ m above. lays_none c (one c) true;
  unary = λ m. lays_none c (one c) true;
  section = λ m. section_head_laid c (λ ts. None) (lays_none c (one c) true);
  simple = lays_none c (one c) true;
  block = lays_none c (one c) true;
  statement = lays_none c (one c) true;
}
ordered c (suc n) =
    let a = ordered c n in
    record {
      written = type_laid c n (lower n) a (heads kind.Question) anything;
      tested = λ m. type_laid c n (lower n) a (heads_nullable m) anything;
      constructed = plain_type_laid c (lower n) a (heads kind.Question);
      named = type_laid c n (lower n) a (heads kind.Question) heads_field;
      expression = λ m. expression_laid c n m (lower n) a;
      operand = λ m above. operand_laid c n m (lower n) a above;
      unary = λ m. unary_laid c n m (lower n) a;
      section = λ m. section_laid c n m (lower n) a (take_expression n setting.Plain (lower n)) (expression_laid c n setting.Plain (lower n) a);
      simple = simple_laid c;
      block = block_laid c;
      statement = statement_laid c (lower n) a;
    }
