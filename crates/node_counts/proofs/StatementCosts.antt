-- What is read of statements is paid for by its tokens, and all that is read in whatever room.
use Rattle.std.proofs.Common.{ℕ, zero, suc, ◌+◌, ◌≤◌, Bool, List, [], ◌∷◌, Option, Some, None, option_map, length, map, take, arith}
use Rattle.readings.specs.Descent.{all_items, ◌⊘◌}
use Rattle.dart_tokens.specs.declared.token.Kind.TheVariants as kind
use Rattle.dart_tree.specs.Tree.{Tree, trees_of, part_of}
use Rattle.dart_tree.specs.Numbers.{nodes_in_part}
use Rattle.dart_tree.specs.declared.places.Place.{Place}
use Rattle.dart_tokens.specs.declared.grouped_token.GroupedToken.{GroupedToken as Token}
use Rattle.grammar.specs.declared.level.Setting.TheVariants as setting
use Rattle.grammar.specs.Tokens.{is, is_name, heads, heads_name, anything}
use Rattle.grammar.specs.Types.{inner, heads_field}
use Rattle.grammar.specs.Expressions.{heads_nullable, heads_label, heads_closure, one_time}
use Rattle.grammar.specs.Statements.{error_of, block_of, final_of, var_of, typed_of, variable_of, variables_of, ended, variable_statement_of, arrow_body_of, plain_function_of, function_statement_of, expression_statement_of, return_of, break_of, continue_of, rethrow_of, labeled_of, If, without_else, is_nearest, with_else, if_of, while_of, do_of, Header, counted, assigned, declaring, each_with, each_of, counted_of, for_with, for_of, label_of, labels_of, default_of, case_of, case_size, cases_end_with_default, switch_of, caught, catch_of, clause_with, on_of, clause_of, has_clause, try_of}
use Rattle.grammar.specs.Descents.{Lower, lower, take_unread, take_block, take_declared, take_variable, take_variables, take_variable_statement, take_local_body, take_local_rest, take_local_function, take_function_statement, take_expression_statement, take_return, take_break, take_continue, take_rethrow, take_labeled, take_condition, take_if, take_while, take_do, take_each, take_start, take_counted, take_for, take_label, take_labels, take_case, take_cases, take_switch, take_catch, take_clause, take_try, take_other_statement, take_statement, take_expression}
use Rattle.node_counts.proofs.Weights.{weight, weight_of_all, list_weight}
use Rattle.node_counts.proofs.Pays.{free, both, if_there, total, Pays, pays_token, pays_none, pays_seq, pays_make, pays_turn, pays_or, pays_where, pays_maybe, pays_many, pays_chain, pays_inside, pays_within, pays_before, pays_only, Sound, worth, worth_apart, sound_behind}
use Rattle.node_counts.proofs.Costs.{Affordable, all_weight, part_weight, behind_weight, listed_total, listed_weight, pays_separated, type_parameters_pay, parameter_list_pays, type_pays, plain_type_pays, simple_pays, unary_pays, operand_pays, section_head_pays, section_pays, expression_pays}

-- Statements.

-- an error has one node, and a token at least
pub error_pays : (c : Place → ℕ) (t : Token) (ts : List Token) (n : ℕ) → Sound c (t ∷ ts) → weight c (error_of (take (suc n) (t ∷ ts))) ≤ worth (take (suc n) (t ∷ ts))
error_pays c t ts n s = omega arith

-- what an unread list costs
abbrev pub list_cost : (Place → ℕ) → List Tree → ℕ
list_cost c ts = list_weight c (trees_of ts)

sound_none : (c : Place → ℕ) (ts : List Token) → Sound c ts → Sound c []
sound_none c [] s = s
sound_none c (t ∷ ts) s = sound_none c ts (sound_behind c t ts s)

unread_cost : (c : Place → ℕ) (ts : List Token) → Sound c ts → list_cost c (all_items (λ ts. None) length error_of ts) ≤ worth ts
unread_cost c [] s = omega arith
unread_cost c (t ∷ ts) s = omega (arith, s.costs 0 (suc (length (t ∷ ts))), worth_apart (suc (length (t ∷ ts))) (suc (length (t ∷ ts))) (t ∷ ts) (omega arith))

pub unread_pays : (c : Place → ℕ) → Pays c (list_cost c) 0 take_unread
unread_pays c = record { each = λ ts s. (sound_none c ts s, omega (arith, unread_cost c ts s)) }

pub block_pays : (c : Place → ℕ) → Pays c (weight c) 4 take_block
unfolding take_block
block_pays c = pays_make (weight c) 4 block_of (pays_inside (is kind.OpenBrace) (unread_pays c)) (λ read x. omega arith)

declared_pays : (c : Place → ℕ) (l : Lower) → Affordable c l → Pays c (both free (if_there (weight c))) 4 (take_declared l)
unfolding take_declared
declared_pays c l a =
    pays_where (heads kind.Final) (pays_turn (both free (if_there (weight c))) 4 final_of (pays_seq (pays_token c (is kind.Final)) (pays_maybe (pays_before heads_name a.named))) (λ x. omega arith))
    (pays_where (heads kind.Var) (pays_turn (both free (if_there (weight c))) 4 var_of (pays_token c (is kind.Var)) (λ x. omega arith))
    (pays_turn (both free (if_there (weight c))) 4 typed_of (pays_before heads_name a.named) (λ x. omega arith)))

variable_pays : (c : Place → ℕ) (l : Lower) → Affordable c l → Pays c (weight c) 8 (take_variable l)
unfolding take_variable
variable_pays c l a =
    pays_make (weight c) 8 variable_of (pays_seq (pays_token c is_name) (pays_maybe (pays_seq (pays_token c (is kind.Equals)) (a.expression setting.Plain)))) (λ read x. omega (arith, behind_weight c x.1))

pub variables_pay : (c : Place → ℕ) (l : Lower) → Affordable c l → Pays c (weight c) 4 (take_variables l)
unfolding take_variables
variables_pay c l a =
    pays_make (weight c) 4 variables_of (pays_seq (declared_pays c l a) (pays_separated (variable_pays c l a))) (λ read x. omega (arith, part_weight c x.0.1, all_weight c x.1))

pub local_body_pays : (c : Place → ℕ) (l : Lower) → Affordable c l → Pays c (weight c) 4 (take_local_body l)
unfolding take_local_body
local_body_pays c l a =
    pays_where (heads kind.OpenBrace) a.block
    (pays_make (weight c) 4 arrow_body_of (pays_seq (pays_token c (is kind.Arrow)) (pays_seq (a.expression setting.Plain) (pays_token c (is kind.Semicolon)))) (λ read x. omega arith))

function_statement_pays : (c : Place → ℕ) (l : Lower) → Affordable c l → Pays c (weight c) 4 (take_function_statement l)
unfolding take_function_statement take_local_function take_local_rest
function_statement_pays c l a =
    pays_make (weight c) 4 function_statement_of
    (pays_make (weight c) 8 plain_function_of
    (pays_seq (pays_maybe (pays_before heads_name a.named))
    (pays_seq (pays_token c is_name)
    (pays_seq (pays_maybe (type_parameters_pay c l a))
    (pays_where (heads_closure setting.Plain) (pays_seq (parameter_list_pays c l a) (local_body_pays c l a)) (pays_none c (both (weight c) (weight c)) 8)))))
    (λ read x. omega (arith, part_weight c x.0, listed_weight c x.1.1.0))) (λ read x. omega arith)

variable_statement_pays : (c : Place → ℕ) (l : Lower) → Affordable c l → Pays c (weight c) 4 (take_variable_statement l)
unfolding take_variable_statement
variable_statement_pays c l a = pays_make (weight c) 4 variable_statement_of (pays_seq (variables_pay c l a) (pays_token c (is kind.Semicolon))) (λ read x. omega arith)

expression_statement_pays : (c : Place → ℕ) (l : Lower) → Affordable c l → Pays c (weight c) 4 (take_expression_statement l)
unfolding take_expression_statement
expression_statement_pays c l a =
    pays_make (weight c) 4 expression_statement_of (pays_seq (pays_maybe (a.expression setting.Plain)) (pays_token c (is kind.Semicolon))) (λ read x. omega (arith, part_weight c x.0))

condition_pays : (c : Place → ℕ) (l : Lower) → Affordable c l → Pays c (weight c) 16 (take_condition l)
unfolding take_condition
condition_pays c l a = pays_turn (weight c) 16 inner (pays_inside (is kind.OpenParenthesis) (a.expression setting.Plain)) (λ x. omega arith)

if_pays : (c : Place → ℕ) (l : Lower) → Affordable c l → Pays c (weight c) 4 (take_if l)
unfolding take_if
if_pays c l a =
    let w : If → ℕ = both (both free (both (weight c) (weight c))) (if_there (weight c)) in
    pays_make (weight c) 4 if_of
    (pays_chain one_time is_nearest with_else (pays_turn w 16 without_else (pays_seq (pays_token c (is kind.If)) (pays_seq (condition_pays c l a) a.statement)) (λ x. omega arith))
    (pays_seq (pays_token c (is kind.Else)) a.statement) (λ read left side. omega arith)) (λ read x. omega (arith, part_weight c x.1))

while_pays : (c : Place → ℕ) (l : Lower) → Affordable c l → Pays c (weight c) 4 (take_while l)
unfolding take_while
while_pays c l a = pays_make (weight c) 4 while_of (pays_seq (pays_token c (is kind.While)) (pays_seq (condition_pays c l a) a.statement)) (λ read x. omega arith)

do_pays : (c : Place → ℕ) (l : Lower) → Affordable c l → Pays c (weight c) 4 (take_do l)
unfolding take_do
do_pays c l a =
    pays_make (weight c) 4 do_of
    (pays_seq (pays_token c (is kind.Do)) (pays_seq a.statement (pays_seq (pays_token c (is kind.While)) (pays_seq (condition_pays c l a) (pays_token c (is kind.Semicolon)))))) (λ read x. omega arith)

abbrev pub header_weight : (Place → ℕ) → Header → ℕ
header_weight c (counted initializer condition updates) = if_there (weight c) initializer + (if_there (weight c) condition + total (weight c) updates)
header_weight c (assigned name iterable) = weight c iterable
header_weight c (declaring final written name iterable) = if_there (weight c) written + weight c iterable

each_weight : (c : Place → ℕ) (o : Option (Bool × Option Tree)) (name : Token) (iterable : Tree) → header_weight c (each_with o name iterable) ≤ if_there (both free (if_there (weight c))) o + weight c iterable
each_weight c None name iterable = omega arith
each_weight c (Some (final, written)) name iterable = omega arith

for_weight : (c : Place → ℕ) (read : List Token) (h : Header) (body : Tree) → weight c (for_with read h body) ≤ 2 + (header_weight c h + weight c body)
for_weight c read (counted initializer condition updates) body = omega (arith, part_weight c initializer, part_weight c condition, all_weight c updates)
for_weight c read (assigned name iterable) body = omega arith
for_weight c read (declaring final written name iterable) body = omega (arith, part_weight c written)

header_pays : (c : Place → ℕ) (l : Lower) → Affordable c l → Pays c (header_weight c) 8 (take_each l ⊘ take_counted l)
unfolding take_each take_counted take_start
header_pays c l a =
    pays_or
    (pays_turn (header_weight c) 8 each_of
    (pays_seq (pays_maybe (declared_pays c l a)) (pays_seq (pays_token c is_name) (pays_seq (pays_token c (is kind.In)) (a.expression setting.Plain)))) (λ x. omega (arith, each_weight c x.0 x.1.0 x.1.1.1)))
    (pays_turn (header_weight c) 8 counted_of
    (pays_seq
    (pays_or (pays_turn (if_there (weight c)) 8 (λ x. Some (ended x)) (pays_seq (variables_pay c l a) (pays_token c (is kind.Semicolon))) (λ x. omega arith))
    (pays_turn (if_there (weight c)) 8 ended (pays_seq (pays_maybe (a.expression setting.Plain)) (pays_token c (is kind.Semicolon))) (λ x. omega arith)))
    (pays_seq (pays_maybe (a.expression setting.Plain)) (pays_seq (pays_token c (is kind.Semicolon)) (pays_maybe (pays_separated (a.expression setting.Listed))))))
    (λ x. omega (arith, listed_total c x.1.1.1)))

for_pays : (c : Place → ℕ) (l : Lower) → Affordable c l → Pays c (weight c) 4 (take_for l)
unfolding take_for
for_pays c l a =
    pays_make (weight c) 4 for_of (pays_seq (pays_token c (is kind.For)) (pays_seq (pays_inside (is kind.OpenParenthesis) (header_pays c l a)) a.statement))
    (λ read x. omega (arith, for_weight c read x.1.0.1 x.1.1))

label_pays : (c : Place → ℕ) (l : Lower) → Affordable c l → Pays c (weight c) 8 (take_label l)
unfolding take_label
label_pays c l a = pays_turn (weight c) 8 label_of (pays_seq (pays_token c (is kind.Case)) (pays_seq (a.expression setting.Plain) (pays_token c (is kind.Colon)))) (λ x. omega arith)

labels_pay : (c : Place → ℕ) (l : Lower) → Affordable c l → Pays c (both (total (weight c)) free) 8 (take_labels l)
unfolding take_labels
labels_pay c l a =
    pays_where (heads kind.Case)
    (pays_turn (both (total (weight c)) free) 8 labels_of
    (pays_seq (pays_seq (label_pays c l a) (pays_many (label_pays c l a))) (pays_maybe (pays_seq (pays_token c (is kind.Default)) (pays_token c (is kind.Colon))))) (λ x. omega arith))
    (pays_turn (both (total (weight c)) free) 8 default_of (pays_seq (pays_token c (is kind.Default)) (pays_token c (is kind.Colon))) (λ x. omega arith))

case_pays : (c : Place → ℕ) (l : Lower) → Affordable c l → Pays c (both (weight c) free) 4 (take_case l)
unfolding take_case
case_pays c l a = pays_make (both (weight c) free) 4 case_of (pays_seq (labels_pay c l a) (pays_within case_size (unread_pays c))) (λ read x. omega (arith, all_weight c x.0.0))

cases_weight : (c : Place → ℕ) (xs : List (Tree × Bool)) → weight_of_all c (trees_of (map (λ y. y.0) xs)) ≤ total (both (weight c) free) xs
cases_weight c [] = omega arith
cases_weight c (x ∷ xs) = omega (arith, cases_weight c xs)

switch_pays : (c : Place → ℕ) (l : Lower) → Affordable c l → Pays c (weight c) 4 (take_switch l)
unfolding take_switch take_cases
switch_pays c l a =
    pays_make (weight c) 4 switch_of
    (pays_seq (pays_token c (is kind.Switch)) (pays_seq (condition_pays c l a) (pays_only cases_end_with_default (pays_inside (is kind.OpenBrace) (pays_many (case_pays c l a))))))
    (λ read x. omega (arith, cases_weight c x.1.1.1))

catch_pays : (c : Place → ℕ) → Pays c free 16 take_catch
unfolding take_catch
catch_pays c =
    pays_turn free 16 catch_of
    (pays_seq (pays_token c (is kind.Catch)) (pays_inside (is kind.OpenParenthesis) (pays_seq (pays_token c is_name) (pays_maybe (pays_seq (pays_token c (is kind.Comma)) (pays_token c is_name))))))
    (λ x. omega arith)

caught_node : (o : Option Token) → nodes_in_part (part_of (option_map caught o)) ≤ 1
caught_node None = omega arith
caught_node (Some t) = omega arith

clause_weight : (c : Place → ℕ) (read : List Token) (written : Option Tree) (o : Option (Token × Option Token)) (body : Tree) → weight c (clause_with read written o body) ≤ 3 + (if_there (weight c) written + weight c body)
clause_weight c read written None body = omega (arith, part_weight c written)
clause_weight c read written (Some (exception, trace)) body = omega (arith, part_weight c written, caught_node trace)

clause_pays : (c : Place → ℕ) (l : Lower) → Affordable c l → Pays c (weight c) 4 (take_clause l)
unfolding take_clause
clause_pays c l a =
    pays_where (heads kind.On)
    (pays_make (weight c) 4 on_of (pays_seq (pays_token c (is kind.On)) (pays_seq a.written (pays_seq (pays_maybe (catch_pays c)) a.block)))
    (λ read x. omega (arith, clause_weight c read (Some x.1.0) x.1.1.0 x.1.1.1)))
    (pays_make (weight c) 4 clause_of (pays_seq (catch_pays c) a.block) (λ read x. omega (arith, clause_weight c read None (Some x.0) x.1)))

try_pays : (c : Place → ℕ) (l : Lower) → Affordable c l → Pays c (weight c) 4 (take_try l)
unfolding take_try
try_pays c l a =
    pays_make (weight c) 4 try_of
    (pays_only has_clause
    (pays_seq (pays_seq (pays_token c (is kind.Try)) (pays_seq a.block (pays_many (clause_pays c l a)))) (pays_maybe (pays_seq (pays_token c (is kind.Finally)) a.block))))
    (λ read x. omega (arith, all_weight c x.0.1.1, behind_weight c x.1))

other_statement_pays : (c : Place → ℕ) (l : Lower) → Affordable c l → Pays c (weight c) 4 (take_other_statement l)
unfolding take_other_statement take_labeled
other_statement_pays c l a =
    pays_where heads_label (pays_make (weight c) 4 labeled_of (pays_seq (pays_token c is_name) (pays_seq (pays_token c (is kind.Colon)) a.statement)) (λ read x. omega arith))
    (pays_or (function_statement_pays c l a) (pays_or (variable_statement_pays c l a) (expression_statement_pays c l a)))

return_pays : (c : Place → ℕ) (l : Lower) → Affordable c l → Pays c (weight c) 4 (take_return l)
unfolding take_return
return_pays c l a =
    pays_make (weight c) 4 return_of (pays_seq (pays_token c (is kind.Return)) (pays_seq (pays_maybe (a.expression setting.Plain)) (pays_token c (is kind.Semicolon)))) (λ read x. omega (arith, part_weight c x.1.0))

break_pays : (c : Place → ℕ) → Pays c (weight c) 4 take_break
unfolding take_break
break_pays c = pays_make (weight c) 4 break_of (pays_seq (pays_token c (is kind.Break)) (pays_seq (pays_maybe (pays_token c is_name)) (pays_token c (is kind.Semicolon)))) (λ read x. omega arith)

continue_pays : (c : Place → ℕ) → Pays c (weight c) 4 take_continue
unfolding take_continue
continue_pays c =
    pays_make (weight c) 4 continue_of (pays_seq (pays_token c (is kind.Continue)) (pays_seq (pays_maybe (pays_token c is_name)) (pays_token c (is kind.Semicolon)))) (λ read x. omega arith)

rethrow_pays : (c : Place → ℕ) → Pays c (weight c) 4 take_rethrow
unfolding take_rethrow
rethrow_pays c = pays_make (weight c) 4 rethrow_of (pays_seq (pays_token c (is kind.Rethrow)) (pays_token c (is kind.Semicolon))) (λ read x. omega arith)

pub statement_pays : (c : Place → ℕ) (l : Lower) → Affordable c l → Pays c (weight c) 4 (take_statement l)
unfolding take_statement
statement_pays c l a =
    pays_where (heads kind.OpenBrace) (block_pays c)
    (pays_where (heads kind.If) (if_pays c l a)
    (pays_where (heads kind.While) (while_pays c l a)
    (pays_where (heads kind.Do) (do_pays c l a)
    (pays_where (heads kind.For) (for_pays c l a)
    (pays_where (heads kind.Switch) (switch_pays c l a)
    (pays_where (heads kind.Try) (try_pays c l a)
    (pays_where (heads kind.Return) (return_pays c l a)
    (pays_where (heads kind.Break) (break_pays c)
    (pays_where (heads kind.Continue) (continue_pays c) (pays_where (heads kind.Rethrow) (rethrow_pays c) (other_statement_pays c l a)))))))))))

-- whatever room there is
pub affordable : (c : Place → ℕ) (n : ℕ) → Affordable c (lower n)
unfolding lower
affordable c zero = record {
  written = pays_none c (weight c) 4;
  tested = λ m. pays_none c (weight c) 4;
  constructed = pays_none c (weight c) 4;
  named = pays_none c (weight c) 4;
  expression = λ m. pays_none c (weight c) 4;
  operand = λ m above. pays_none c (weight c) 4;
  unary = λ m. pays_none c (weight c) 4;
  section = λ m. section_head_pays c (λ ts. None) (pays_none c (weight c) 4);
  simple = pays_none c (weight c) 4;
  block = pays_none c (weight c) 4;
  statement = pays_none c (weight c) 4;
}
affordable c (suc n) =
    let a = affordable c n in
    record {
      written = type_pays c n (lower n) a (heads kind.Question) anything;
      tested = λ m. type_pays c n (lower n) a (heads_nullable m) anything;
      constructed = plain_type_pays c (lower n) a (heads kind.Question);
      named = type_pays c n (lower n) a (heads kind.Question) heads_field;
      expression = λ m. expression_pays c n m (lower n) a;
      operand = λ m above. operand_pays c n m (lower n) a above;
      unary = λ m. unary_pays c n m (lower n) a;
      section = λ m. section_pays c n m (lower n) a (take_expression n setting.Plain (lower n)) (expression_pays c n setting.Plain (lower n) a);
      simple = simple_pays c;
      block = block_pays c;
      statement = statement_pays c (lower n) a;
    }
