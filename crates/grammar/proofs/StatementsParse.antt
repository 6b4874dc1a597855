-- The parser's way finds what the rules of statements read.
use Rattle.std.proofs.Common.{Bool, ◌||◌, Some, length, refl}
use Rattle.readings.specs.Readings.{Test, next, nothing, either, token, ◌▹◌}
use Rattle.readings.specs.Descent.{take_token, ◌▸◌}
use Rattle.readings.specs.Leading.{Parses, Sole}
use Rattle.readings.specs.Combinators.{parses_none, parses_within, parses_token, parses_make, parses_turn, parses_seq, parses_sole, sole_longest}
use Rattle.readings.specs.Choices.{parses_switch, parses_where}
use Rattle.readings.specs.Repetition.{parses_last, parses_offered, offers_maybe, offers_many}
use Rattle.readings.specs.Commits.{parses_prefer, offers_exactly, sole_before, sole_only, offers_within_items}
use Rattle.readings.specs.Chains.{parses_chain}
use Rattle.readings.specs.Groups.{sole_inside}
use Rattle.readings.specs.Elements.{sole_inside_offered}
use Rattle.readings.specs.Items.{sole_braced}
use Rattle.dart_tokens.specs.declared.token.Kind.TheVariants as kind
use Rattle.dart_tree.specs.Tree.{Tree}
use Rattle.dart_tokens.specs.declared.grouped_token.GroupedToken.{GroupedToken as Token}
use Rattle.grammar.specs.declared.level.Setting.TheVariants as setting
use Rattle.grammar.specs.Tokens.{is, is_name, heads, heads_name, width, past}
use Rattle.grammar.specs.Types.{Below, inner}
use Rattle.grammar.specs.Expressions.{heads_closure, begins_expression, heads_label, one_time}
use Rattle.grammar.specs.Statements.{error_of, block_of, block_rule, final_of, var_of, typed_of, declared_rule, variable_of, variable_rule, variables_of, variables_rule, ended, variable_statement_of, variable_statement_rule, arrow_body_of, local_body_rule, plain_function_of, local_rest_rule, local_function_rule, function_statement_of, function_statement_rule, expression_statement_of, expression_statement_rule, return_of, return_rule, break_of, break_rule, continue_of, continue_rule, rethrow_of, rethrow_rule, labeled_of, without_else, is_nearest, with_else, labeled_rule, condition_rule, if_of, if_rule, while_of, while_rule, do_of, do_rule, each_of, each_rule, start_rule, counted_of, counted_rule, for_of, for_rule, label_of, label_rule, labels_of, default_of, labels_rule, case_of, case_size, case_rule, cases_end_with_default, cases_rule, switch_of, switch_rule, catch_of, catch_rule, on_of, clause_of, clause_rule, has_clause, try_of, try_rule, other_statement_rule, statement_rule}
use Rattle.grammar.specs.Descents.{Lower, take_block, take_declared, take_variable, take_variables, take_variable_statement, take_local_body, take_local_rest, take_local_function, take_function_statement, take_expression_statement, take_return, take_break, take_continue, take_rethrow, take_labeled, take_condition, take_if, take_while, take_do, take_each, take_start, take_counted, take_for, take_label, take_labels, take_case, take_cases, take_switch, take_catch, take_clause, take_try, take_other_statement, take_statement}
use Rattle.grammar.proofs.KindTests.{far, settled, still}
use Rattle.grammar.proofs.TypesParse.{AllParse, begins_type, begins_statement, separated_parses, value_parses, offers_type, type_parameters_parses, parameter_list_parses}

pub block_parses : Parses nothing (heads kind.OpenBrace) block_rule take_block
unfolding block_rule take_block
block_parses = parses_make block_of (parses_sole (sole_braced (is kind.OpenBrace) width past length error_of (parses_none {T = Token} {A = Tree} nothing nothing)))

-- Variables.

abbrev pub begins_declared : Token → Bool
begins_declared t = is kind.Final t || is kind.Var t || begins_type t

declared_parses : (d : Below) (l : Lower) → AllParse d l → Parses nothing (next begins_declared) (declared_rule d) (take_declared l)
unfolding declared_rule take_declared
declared_parses d l a =
    settled nothing (next begins_declared)
    (parses_switch (parses_turn final_of (parses_last (parses_token (is kind.Final)) (offers_type d l a heads_name) (still _)))
    (parses_switch (parses_turn var_of (parses_token (is kind.Var))) (parses_turn typed_of (parses_sole (sole_before heads_name a.named))) (far _ _ refl (λ t ts. refl))) (far _ _ refl (λ t ts. refl)))
    refl (λ t ts. refl) refl (λ t ts. refl)

variable_parses : (d : Below) (l : Lower) → AllParse d l → Parses (heads kind.Equals) heads_name (variable_rule d) (take_variable l)
unfolding variable_rule take_variable
variable_parses d l a =
    settled (heads kind.Equals) heads_name (parses_make variable_of (parses_last (parses_token is_name) (offers_maybe (value_parses setting.Plain d l a)) (still _))) refl (λ t ts. refl) refl (λ t ts. refl)

pub variables_parse : (d : Below) (l : Lower) → AllParse d l → Parses (either (heads kind.Equals) (heads kind.Comma)) (next begins_declared) (variables_rule d) (take_variables l)
unfolding variables_rule take_variables
variables_parse d l a = parses_make variables_of (parses_seq (declared_parses d l a) (separated_parses (variable_parses d l a) (far _ _ refl (λ t ts. refl))) (still _))

-- variables, and a `;` behind them
pub variables_end : (d : Below) (l : Lower) → AllParse d l → Parses nothing (next begins_declared) (variables_rule d ▹ token (is kind.Semicolon)) (take_variables l ▸ take_token (is kind.Semicolon))
variables_end d l a = parses_seq (variables_parse d l a) (parses_token (is kind.Semicolon)) (far _ _ refl (λ t ts. refl))

variable_statement_parses : (d : Below) (l : Lower) → AllParse d l → Parses nothing (next begins_declared) (variable_statement_rule d) (take_variable_statement l)
unfolding variable_statement_rule take_variable_statement
variable_statement_parses d l a = parses_make variable_statement_of (variables_end d l a)

-- Functions.

pub local_body_parses : (d : Below) (l : Lower) → AllParse d l → Parses nothing (either (heads kind.OpenBrace) (heads kind.Arrow)) (local_body_rule d) (take_local_body l)
unfolding local_body_rule take_local_body
local_body_parses d l a =
    settled nothing (either (heads kind.OpenBrace) (heads kind.Arrow))
    (parses_switch (parses_sole a.block)
    (parses_make arrow_body_of (parses_seq (parses_token (is kind.Arrow)) (parses_seq (parses_sole (a.expression setting.Plain)) (parses_token (is kind.Semicolon)) (still _)) (still _))) (far _ _ refl (λ t ts. refl)))
    refl (λ t ts. refl) refl (λ t ts. refl)

local_rest_parses : (d : Below) (l : Lower) → AllParse d l → Parses nothing (heads kind.OpenParenthesis) (local_rest_rule d) (take_local_rest l)
unfolding local_rest_rule take_local_rest
local_rest_parses d l a =
    settled nothing (heads kind.OpenParenthesis)
    (parses_where (heads_closure setting.Plain) (parses_seq (parameter_list_parses d l a) (local_body_parses d l a) (still _)) (parses_none nothing nothing))
    refl (λ t ts. refl) refl (λ t ts. refl)

local_function_parses : (d : Below) (l : Lower) → AllParse d l → Parses nothing (next begins_type) (local_function_rule d) (take_local_function l)
unfolding local_function_rule take_local_function
local_function_parses d l a =
    settled nothing (next begins_type)
    (parses_make plain_function_of
    (parses_offered (offers_type d l a heads_name)
    (parses_seq (parses_token is_name) (parses_offered (offers_maybe (type_parameters_parses d l a)) (local_rest_parses d l a) (far _ _ refl (λ t ts. refl))) (still _)) (still _)))
    refl (λ t ts. refl) refl (λ t ts. refl)

function_statement_parses : (d : Below) (l : Lower) → AllParse d l → Parses nothing (next begins_type) (function_statement_rule d) (take_function_statement l)
unfolding function_statement_rule take_function_statement
function_statement_parses d l a = parses_make function_statement_of (local_function_parses d l a)

-- Simple statements.

expression_statement_parses : (d : Below) (l : Lower) → AllParse d l → Parses nothing (either (next begins_expression) (heads kind.Semicolon)) (expression_statement_rule d) (take_expression_statement l)
unfolding expression_statement_rule take_expression_statement
expression_statement_parses d l a =
    settled nothing (either (next begins_expression) (heads kind.Semicolon))
    (parses_make expression_statement_of (parses_offered (offers_maybe (parses_sole (a.expression setting.Plain))) (parses_token (is kind.Semicolon)) (far _ _ refl (λ t ts. refl))))
    refl (λ t ts. refl) refl (λ t ts. refl)

return_parses : (d : Below) (l : Lower) → AllParse d l → Parses nothing (heads kind.Return) (return_rule d) (take_return l)
unfolding return_rule take_return
return_parses d l a =
    parses_make return_of
    (parses_seq (parses_token (is kind.Return)) (parses_offered (offers_maybe (parses_sole (a.expression setting.Plain))) (parses_token (is kind.Semicolon)) (far _ _ refl (λ t ts. refl))) (still _))

break_parses : Parses nothing (heads kind.Break) break_rule take_break
unfolding break_rule take_break
break_parses =
    parses_make break_of (parses_seq (parses_token (is kind.Break)) (parses_offered (offers_maybe (parses_token is_name)) (parses_token (is kind.Semicolon)) (far _ _ refl (λ t ts. refl))) (still _))

continue_parses : Parses nothing (heads kind.Continue) continue_rule take_continue
unfolding continue_rule take_continue
continue_parses =
    parses_make continue_of (parses_seq (parses_token (is kind.Continue)) (parses_offered (offers_maybe (parses_token is_name)) (parses_token (is kind.Semicolon)) (far _ _ refl (λ t ts. refl))) (still _))

rethrow_parses : Parses nothing (heads kind.Rethrow) rethrow_rule take_rethrow
unfolding rethrow_rule take_rethrow
rethrow_parses = parses_make rethrow_of (parses_seq (parses_token (is kind.Rethrow)) (parses_token (is kind.Semicolon)) (still _))

labeled_parses : (d : Below) (l : Lower) → AllParse d l → Parses nothing heads_name (labeled_rule d) (take_labeled l)
unfolding labeled_rule take_labeled
labeled_parses d l a = parses_make labeled_of (parses_seq (parses_token is_name) (parses_seq (parses_token (is kind.Colon)) (parses_sole a.statement) (still _)) (still _))

-- Branches and loops.

condition_parses : (d : Below) (l : Lower) → AllParse d l → Parses nothing (heads kind.OpenParenthesis) (condition_rule d) (take_condition l)
unfolding condition_rule take_condition
condition_parses d l a = parses_turn inner (parses_sole (sole_inside (is kind.OpenParenthesis) width past (parses_sole (a.expression setting.Plain))))

if_parses : (d : Below) (l : Lower) → AllParse d l → Parses (heads kind.Else) (heads kind.If) (if_rule d) (take_if l)
unfolding if_rule take_if
if_parses d l a =
    parses_make if_of
    (parses_chain one_time is_nearest with_else
    (sole_longest (parses_turn without_else (parses_seq (parses_token (is kind.If)) (parses_seq (condition_parses d l a) (parses_sole a.statement) (still _)) (still _))))
    (sole_longest (parses_seq (parses_token (is kind.Else)) (parses_sole a.statement) (still _))))

while_parses : (d : Below) (l : Lower) → AllParse d l → Parses nothing (heads kind.While) (while_rule d) (take_while l)
unfolding while_rule take_while
while_parses d l a = parses_make while_of (parses_seq (parses_token (is kind.While)) (parses_seq (condition_parses d l a) (parses_sole a.statement) (still _)) (still _))

do_parses : (d : Below) (l : Lower) → AllParse d l → Parses nothing (heads kind.Do) (do_rule d) (take_do l)
unfolding do_rule take_do
do_parses d l a =
    parses_make do_of
    (parses_seq (parses_token (is kind.Do))
    (parses_seq (parses_sole a.statement)
    (parses_seq (parses_token (is kind.While)) (parses_seq (condition_parses d l a) (parses_token (is kind.Semicolon)) (still _)) (still _)) (still _)) (still _))

each_parses : (d : Below) (l : Lower) → AllParse d l → Parses nothing (next begins_declared) (each_rule d) (take_each l)
unfolding each_rule take_each
each_parses d l a =
    settled nothing (next begins_declared)
    (parses_turn each_of
    (parses_offered (offers_exactly (parses_sole (sole_longest (declared_parses d l a))))
    (parses_seq (parses_token is_name) (parses_seq (parses_token (is kind.In)) (parses_sole (a.expression setting.Plain)) (still _)) (still _)) (still _)))
    refl (λ t ts. refl) refl (λ t ts. refl)

abbrev begins_start : Test Token
begins_start = either (next begins_declared) (either (next begins_expression) (heads kind.Semicolon))

start_parses : (d : Below) (l : Lower) → AllParse d l → Parses nothing begins_start (start_rule d) (take_start l)
unfolding start_rule take_start
start_parses d l a =
    settled nothing begins_start
    (parses_prefer (parses_turn (λ x. Some (ended x)) (variables_end d l a))
    (parses_turn ended (parses_offered (offers_maybe (parses_sole (a.expression setting.Plain))) (parses_token (is kind.Semicolon)) (far _ _ refl (λ t ts. refl)))))
    refl (λ t ts. refl) refl (λ t ts. refl)

counted_parses : (d : Below) (l : Lower) → AllParse d l → Parses (either (next begins_expression) (heads kind.Comma)) begins_start (counted_rule d) (take_counted l)
unfolding counted_rule take_counted
counted_parses d l a =
    settled (either (next begins_expression) (heads kind.Comma)) begins_start
    (parses_turn counted_of
    (parses_seq (start_parses d l a)
    (parses_offered (offers_maybe (parses_sole (a.expression setting.Plain)))
    (parses_last (parses_token (is kind.Semicolon)) (offers_maybe (separated_parses (parses_sole (a.expression setting.Listed)) (still _))) (still _)) (far _ _ refl (λ t ts. refl))) (still _)))
    refl (λ t ts. refl) refl (λ t ts. refl)

for_parses : (d : Below) (l : Lower) → AllParse d l → Parses nothing (heads kind.For) (for_rule d) (take_for l)
unfolding for_rule take_for
for_parses d l a =
    parses_make for_of
    (parses_seq (parses_token (is kind.For))
    (parses_seq (parses_sole (sole_inside (is kind.OpenParenthesis) width past (parses_prefer (each_parses d l a) (counted_parses d l a)))) (parses_sole a.statement) (still _)) (still _))

-- Switches.

label_parses : (d : Below) (l : Lower) → AllParse d l → Parses nothing (heads kind.Case) (label_rule d) (take_label l)
unfolding label_rule take_label
label_parses d l a =
    parses_turn label_of (parses_seq (parses_token (is kind.Case)) (parses_seq (parses_sole (a.expression setting.Plain)) (parses_token (is kind.Colon)) (still _)) (still _))

default_parses : Parses nothing (heads kind.Default) (token (is kind.Default) ▹ token (is kind.Colon)) (take_token (is kind.Default) ▸ take_token (is kind.Colon))
default_parses = parses_seq (parses_token (is kind.Default)) (parses_token (is kind.Colon)) (still _)

labels_sole : (d : Below) (l : Lower) → AllParse d l → Sole (either (heads kind.Case) (heads kind.Default)) (labels_rule d) (take_labels l)
unfolding labels_rule take_labels
labels_sole d l a =
    sole_longest
    (parses_switch
    (parses_turn labels_of (parses_last (parses_last (label_parses d l a) (offers_many (label_parses d l a) (still _)) (still _)) (offers_maybe default_parses) (far _ _ refl (λ t ts. refl))))
    (parses_turn default_of default_parses) (far _ _ refl (λ t ts. refl)))

case_parses : (d : Below) (l : Lower) → AllParse d l → Parses nothing (either (heads kind.Case) (heads kind.Default)) (case_rule d) (take_case l)
unfolding case_rule take_case
case_parses d l a =
    parses_within nothing (either (heads kind.Case) (heads kind.Default)) (λ ts e. e) (λ ts e. e)
    (parses_make case_of (parses_last (parses_sole (labels_sole d l a)) (offers_within_items case_size length error_of (parses_none {T = Token} {A = Tree} nothing nothing)) (still _)))

cases_sole : (d : Below) (l : Lower) → AllParse d l → Sole (heads kind.OpenBrace) (cases_rule d) (take_cases l)
unfolding cases_rule take_cases
cases_sole d l a = sole_only cases_end_with_default (sole_inside_offered (is kind.OpenBrace) width past (offers_many (case_parses d l a) (still _)))

switch_parses : (d : Below) (l : Lower) → AllParse d l → Parses nothing (heads kind.Switch) (switch_rule d) (take_switch l)
unfolding switch_rule take_switch
switch_parses d l a = parses_make switch_of (parses_seq (parses_token (is kind.Switch)) (parses_seq (condition_parses d l a) (parses_sole (cases_sole d l a)) (still _)) (still _))

-- Exceptions.

catch_parses : Parses nothing (heads kind.Catch) catch_rule take_catch
unfolding catch_rule take_catch
catch_parses =
    parses_turn catch_of
    (parses_seq (parses_token (is kind.Catch))
    (parses_sole (sole_inside (is kind.OpenParenthesis) width past
    (parses_last (parses_token is_name) (offers_maybe (parses_seq (parses_token (is kind.Comma)) (parses_token is_name) (still _))) (still _)))) (still _))

clause_parses : (d : Below) (l : Lower) → AllParse d l → Parses nothing (either (heads kind.On) (heads kind.Catch)) (clause_rule d) (take_clause l)
unfolding clause_rule take_clause
clause_parses d l a =
    settled nothing (either (heads kind.On) (heads kind.Catch))
    (parses_switch
    (parses_make on_of
    (parses_seq (parses_token (is kind.On))
    (parses_seq (parses_sole a.written) (parses_offered (offers_maybe catch_parses) (parses_sole a.block) (far _ _ refl (λ t ts. refl))) (still _)) (still _)))
    (parses_make clause_of (parses_seq catch_parses (parses_sole a.block) (still _))) (far _ _ refl (λ t ts. refl)))
    refl (λ t ts. refl) refl (λ t ts. refl)

try_parses : (d : Below) (l : Lower) → AllParse d l → Parses nothing (heads kind.Try) (try_rule d) (take_try l)
unfolding try_rule take_try
try_parses d l a =
    parses_make try_of
    (parses_sole (sole_only has_clause
    (sole_longest
    (parses_last
    (parses_seq (parses_token (is kind.Try)) (parses_last (parses_sole a.block) (offers_many (clause_parses d l a) (still _)) (still _)) (still _))
    (offers_maybe (parses_seq (parses_token (is kind.Finally)) (parses_sole a.block) (still _))) (far _ _ refl (λ t ts. refl))))))

-- Statements.

abbrev begins_other : Token → Bool
begins_other t = begins_declared t || begins_expression t || is kind.Semicolon t

other_statement_parses : (d : Below) (l : Lower) → AllParse d l → Parses nothing (next begins_other) (other_statement_rule d) (take_other_statement l)
unfolding other_statement_rule take_other_statement
other_statement_parses d l a =
    settled nothing (next begins_other)
    (parses_where heads_label (labeled_parses d l a) (parses_prefer (function_statement_parses d l a) (parses_prefer (variable_statement_parses d l a) (expression_statement_parses d l a))))
    refl (λ t ts. refl) refl (λ t ts. refl)

pub statement_sole : (d : Below) (l : Lower) → AllParse d l → Sole (next begins_statement) (statement_rule d) (take_statement l)
unfolding statement_rule take_statement
statement_sole d l a =
    sole_longest
    (settled (heads kind.Else) (next begins_statement)
    (parses_where (heads kind.OpenBrace) block_parses
    (parses_switch (if_parses d l a)
    (parses_switch (while_parses d l a)
    (parses_switch (do_parses d l a)
    (parses_switch (for_parses d l a)
    (parses_switch (switch_parses d l a)
    (parses_switch (try_parses d l a)
    (parses_switch (return_parses d l a)
    (parses_switch break_parses (parses_switch continue_parses (parses_switch rethrow_parses (other_statement_parses d l a)
    (far _ _ refl (λ t ts. refl))) (far _ _ refl (λ t ts. refl))) (far _ _ refl (λ t ts. refl))) (far _ _ refl (λ t ts. refl))) (far _ _ refl (λ t ts. refl)))
    (far _ _ refl (λ t ts. refl))) (far _ _ refl (λ t ts. refl))) (far _ _ refl (λ t ts. refl))) (far _ _ refl (λ t ts. refl))) (far _ _ refl (λ t ts. refl))))
    refl (λ t ts. refl) refl (λ t ts. refl))
