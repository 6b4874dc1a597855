-- Statements, and what declarations among them share with others.
use Rattle.std.specs.Prelude.{ℕ, zero, suc, ◌+◌, ◌-◌, Bool, true, false, not, ◌&&◌, List, [], ◌∷◌, length, map, drop, Option, Some, None, is_some, option_map, if◌then◌else◌}
use Rattle.readings.specs.Readings.{Rule, token, ◌▹◌, ◌∣◌, make, turn, maybe, many, chain, longest_of, where_next, prefer, exactly, before, only, inside, within, items}
use Rattle.dart_tokens.specs.declared.token.Kind.TheVariants as kind
use Rattle.dart_tree.specs.Tree.{Tree, trees_of, part_of, absent, present, plain_function, variable_list, variable, block, variable_statement, function_statement, expression_statement, if_statement, while_statement, do_statement, for_statement, for_in_statement, for_in_assignment, switch_statement, switch_case, try_statement, catch_clause, return_statement, break_statement, continue_statement, rethrow_statement, labeled_statement, listed_name, expression_body, error_node}
use Rattle.dart_tokens.specs.declared.grouped_token.GroupedToken.{GroupedToken as Token}
use Rattle.grammar.specs.declared.level.Setting.TheVariants as setting
use Rattle.grammar.specs.Tokens.{is, is_either, is_name, heads, heads_name, width, past, place_over, place_of, name_at, identifier_at}
use Rattle.grammar.specs.Types.{Below, separated_rule, behind_token, inner, listed_or_none, type_parameters_rule, parameter_list_rule}
use Rattle.grammar.specs.Expressions.{heads_label, heads_closure, one_time}

-- Segments of tokens from which nothing derives.

-- how many tokens the longest segment has that holds no `;` and no `{` outside its groups, with the first such `;` or group: at most n steps
abbrev pub segment_at : ℕ → List Token → ℕ
segment_at zero ts = 0
segment_at (suc n) [] = 0
segment_at (suc n) (t ∷ ts) = if is kind.Semicolon t then 1 else if is kind.OpenBrace t then suc (past t) else suc (past t) + segment_at n (drop (past t) ts)

-- how many tokens a segment has behind its first
abbrev pub segment : List Token → ℕ
segment ts = segment_at (length ts) ts - 1

abbrev pub error_of : List Token → Tree
error_of read = error_node (place_over read)

-- Lists of statements. They are read when the item that holds them stands, each by itself: what a list holds decides nothing of what holds it.

-- a list of statements that isn't read yet: one error over its tokens, if there are any
abbrev pub unread : Rule Token (List Tree)
unread = items (λ ts. []) length error_of

-- Blocks.

abbrev pub block_of : List Token → Token × List Tree → Tree
block_of read (opening, statements) = block (place_over read) (trees_of statements)

-- block: '{' statement* '}', whose statements aren't read yet
unfoldable pub block_rule : Rule Token Tree
block_rule = make block_of (inside (is kind.OpenBrace) width past unread)

-- Variables.

-- what stands before the names of variables: whether they are final, and their type, if one is written
abbrev pub final_of : Token × Option Tree → Bool × Option Tree
final_of (word, written) = (true, written)

abbrev pub var_of : Token → Bool × Option Tree
var_of word = (false, None)

abbrev pub typed_of : Tree → Bool × Option Tree
typed_of written = (false, Some written)

-- declared: 'final' type? | 'var' | type. A type is read exactly where a name comes behind it.
unfoldable pub declared_rule : Below → Rule Token (Bool × Option Tree)
declared_rule d =
    turn final_of (token (is kind.Final) ▹ exactly (before heads_name d.named)) ∣ turn var_of (token (is kind.Var)) ∣ turn typed_of (before heads_name d.named)

abbrev pub variable_of : List Token → Token × Option (Token × Tree) → Tree
variable_of read (name, initial) = variable (place_over read) (name_at name) (part_of (behind_token initial))

-- variable: identifier ('=' expression)?
unfoldable pub variable_rule : Below → Rule Token Tree
variable_rule d = make variable_of (token is_name ▹ maybe (token (is kind.Equals) ▹ d.expression setting.Plain))

abbrev pub variables_of : List Token → (Bool × Option Tree) × List Tree → Tree
variables_of read ((final, written), variables) = variable_list (place_over read) final (part_of written) (trees_of variables)

-- variables: declared variable (',' variable)*
unfoldable pub variables_rule : Below → Rule Token Tree
variables_rule d = make variables_of (declared_rule d ▹ separated_rule (variable_rule d))

-- what stands before a `;`
abbrev pub ended : {A : Type 0} → A × Token → A
ended (a, semicolon) = a

abbrev pub variable_statement_of : List Token → Tree × Token → Tree
variable_statement_of read (variables, semicolon) = variable_statement (place_over read) variables

-- variables ';'
unfoldable pub variable_statement_rule : Below → Rule Token Tree
variable_statement_rule d = make variable_statement_of (variables_rule d ▹ token (is kind.Semicolon))

-- Functions.

abbrev pub arrow_body_of : List Token → Token × (Tree × Token) → Tree
arrow_body_of read (arrow, (value, semicolon)) = expression_body (place_over read) value

-- body of a function among statements: block | '=>' expression ';'
unfoldable pub local_body_rule : Below → Rule Token Tree
local_body_rule d = d.block ∣ make arrow_body_of (token (is kind.Arrow) ▹ d.expression setting.Plain ▹ token (is kind.Semicolon))

abbrev pub plain_function_of : List Token → Option Tree × (Token × (Option (List Tree) × (Tree × Tree))) → Tree
plain_function_of read (result, (name, (type_parameters, (parameters, body)))) =
    plain_function (place_over read) (part_of result) (name_at name) (trees_of (listed_or_none type_parameters)) parameters body

-- parameters and body of a function among statements: read where a body comes behind the parameters
unfoldable pub local_rest_rule : Below → Rule Token (Tree × Tree)
local_rest_rule d = where_next (heads_closure setting.Plain) (parameter_list_rule d ▹ local_body_rule d) (λ ts. [])

-- function among statements: type? identifier type-parameters? parameters body
unfoldable pub local_function_rule : Below → Rule Token Tree
local_function_rule d = make plain_function_of (exactly (before heads_name d.named) ▹ token is_name ▹ maybe (type_parameters_rule d) ▹ local_rest_rule d)

abbrev pub function_statement_of : List Token → Tree → Tree
function_statement_of read function = function_statement (place_over read) function

unfoldable pub function_statement_rule : Below → Rule Token Tree
function_statement_rule d = make function_statement_of (local_function_rule d)

-- Simple statements.

abbrev pub expression_statement_of : List Token → Option Tree × Token → Tree
expression_statement_of read (value, semicolon) = expression_statement (place_over read) (part_of value)

-- expression? ';'
unfoldable pub expression_statement_rule : Below → Rule Token Tree
expression_statement_rule d = make expression_statement_of (maybe (d.expression setting.Plain) ▹ token (is kind.Semicolon))

abbrev pub return_of : List Token → Token × (Option Tree × Token) → Tree
return_of read (word, (value, semicolon)) = return_statement (place_over read) (part_of value)

-- 'return' expression? ';'
unfoldable pub return_rule : Below → Rule Token Tree
return_rule d = make return_of (token (is kind.Return) ▹ maybe (d.expression setting.Plain) ▹ token (is kind.Semicolon))

abbrev pub break_of : List Token → Token × (Option Token × Token) → Tree
break_of read (word, (label, semicolon)) = break_statement (place_over read) (option_map identifier_at label)

-- 'break' identifier? ';'
unfoldable pub break_rule : Rule Token Tree
break_rule = make break_of (token (is kind.Break) ▹ maybe (token is_name) ▹ token (is kind.Semicolon))

abbrev pub continue_of : List Token → Token × (Option Token × Token) → Tree
continue_of read (word, (label, semicolon)) = continue_statement (place_over read) (option_map identifier_at label)

-- 'continue' identifier? ';'
unfoldable pub continue_rule : Rule Token Tree
continue_rule = make continue_of (token (is kind.Continue) ▹ maybe (token is_name) ▹ token (is kind.Semicolon))

abbrev pub rethrow_of : List Token → Token × Token → Tree
rethrow_of read (word, semicolon) = rethrow_statement (place_over read)

-- 'rethrow' ';'
unfoldable pub rethrow_rule : Rule Token Tree
rethrow_rule = make rethrow_of (token (is kind.Rethrow) ▹ token (is kind.Semicolon))

abbrev pub labeled_of : List Token → Token × (Token × Tree) → Tree
labeled_of read (label, (colon, body)) = labeled_statement (place_over read) (name_at label) body

-- identifier ':' statement
unfoldable pub labeled_rule : Below → Rule Token Tree
labeled_rule d = make labeled_of (token is_name ▹ token (is kind.Colon) ▹ d.statement)

-- Branches and loops.

-- '(' expression ')'
unfoldable pub condition_rule : Below → Rule Token Tree
condition_rule d = turn inner (inside (is kind.OpenParenthesis) width past (d.expression setting.Plain))

-- a statement ends with an `if` that has no `else`
abbrev pub ends_open : Tree → Bool
ends_open (if_statement at condition then_branch absent) = true
ends_open (if_statement at condition then_branch (present else_branch)) = ends_open else_branch
ends_open (while_statement at condition body) = ends_open body
ends_open (for_statement at initializer condition updates body) = ends_open body
ends_open (for_in_statement at is_final written name iterable body) = ends_open body
ends_open (for_in_assignment at name iterable body) = ends_open body
ends_open (labeled_statement at label body) = ends_open body
ends_open t = false

-- 'if', a condition and a branch, and the other branch, if there is one
abbrev pub If : Type 0
If = (Token × (Tree × Tree)) × Option Tree

abbrev pub without_else : Token × (Tree × Tree) → If
without_else x = (x, None)

-- an `else` behind the branch doesn't go to an `if` in it
abbrev pub is_nearest : If → Bool
is_nearest ((word, (condition, branch)), otherwise) = not (ends_open branch)

abbrev pub with_else : List Token → If → Token × Tree → If
with_else read (x, _) (word, branch) = (x, Some branch)

abbrev pub if_of : List Token → If → Tree
if_of read ((word, (condition, branch)), otherwise) = if_statement (place_over read) condition branch (part_of otherwise)

-- 'if' '(' expression ')' statement ('else' statement)?, where an `else` goes to the nearest `if` before it
unfoldable pub if_rule : Below → Rule Token Tree
if_rule d =
    make if_of
    (chain one_time is_nearest with_else (longest_of (turn without_else (token (is kind.If) ▹ condition_rule d ▹ d.statement)))
    (longest_of (token (is kind.Else) ▹ d.statement)))

abbrev pub while_of : List Token → Token × (Tree × Tree) → Tree
while_of read (word, (condition, body)) = while_statement (place_over read) condition body

-- 'while' '(' expression ')' statement
unfoldable pub while_rule : Below → Rule Token Tree
while_rule d = make while_of (token (is kind.While) ▹ condition_rule d ▹ d.statement)

abbrev pub do_of : List Token → Token × (Tree × (Token × (Tree × Token))) → Tree
do_of read (word, (body, (while_word, (condition, semicolon)))) = do_statement (place_over read) body condition

-- 'do' statement 'while' '(' expression ')' ';'
unfoldable pub do_rule : Below → Rule Token Tree
do_rule d = make do_of (token (is kind.Do) ▹ d.statement ▹ token (is kind.While) ▹ condition_rule d ▹ token (is kind.Semicolon))

-- what stands between the parentheses of a `for`
pub data Header : Type 0 where
  counted : (initializer : Option Tree) (condition : Option Tree) (updates : List Tree) → Header
  assigned : (name : Token) (iterable : Tree) → Header
  declaring : (final : Bool) (written : Option Tree) (name : Token) (iterable : Tree) → Header

abbrev pub each_with : Option (Bool × Option Tree) → Token → Tree → Header
each_with None name iterable = assigned name iterable
each_with (Some (final, written)) name iterable = declaring final written name iterable

abbrev pub each_of : Option (Bool × Option Tree) × (Token × (Token × Tree)) → Header
each_of (declared, (name, (word, iterable))) = each_with declared name iterable

-- ('final' type? | 'var' | type)? identifier 'in' expression
unfoldable pub each_rule : Below → Rule Token Header
each_rule d = turn each_of (exactly (longest_of (declared_rule d)) ▹ token is_name ▹ token (is kind.In) ▹ d.expression setting.Plain)

-- how a loop that counts begins: variables ';' | expression? ';'. Where variables can be read, they are.
unfoldable pub start_rule : Below → Rule Token (Option Tree)
start_rule d =
    prefer (turn (λ x. Some (ended x)) (variables_rule d ▹ token (is kind.Semicolon))) (turn ended (maybe (d.expression setting.Plain) ▹ token (is kind.Semicolon)))

abbrev pub counted_of : Option Tree × (Option Tree × (Token × Option (List Tree))) → Header
counted_of (initializer, (condition, (semicolon, updates))) = counted initializer condition (listed_or_none updates)

-- start expression? ';' (expression (',' expression)*)?
unfoldable pub counted_rule : Below → Rule Token Header
counted_rule d =
    turn counted_of (start_rule d ▹ maybe (d.expression setting.Plain) ▹ token (is kind.Semicolon) ▹ maybe (separated_rule (d.expression setting.Listed)))

abbrev pub for_with : List Token → Header → Tree → Tree
for_with read (counted initializer condition updates) body = for_statement (place_over read) (part_of initializer) (part_of condition) (trees_of updates) body
for_with read (assigned name iterable) body = for_in_assignment (place_over read) (name_at name) iterable body
for_with read (declaring final written name iterable) body = for_in_statement (place_over read) final (part_of written) (name_at name) iterable body

abbrev pub for_of : List Token → Token × ((Token × Header) × Tree) → Tree
for_of read (word, ((opening, header), body)) = for_with read header body

-- 'for' '(' header ')' statement
unfoldable pub for_rule : Below → Rule Token Tree
for_rule d = make for_of (token (is kind.For) ▹ inside (is kind.OpenParenthesis) width past (prefer (each_rule d) (counted_rule d)) ▹ d.statement)

-- Switches.

-- the label of a case or of the default comes next
abbrev pub is_case : Token → Bool
is_case t = is_either kind.Case kind.Default t

-- how many tokens come before the next `case` or `default` outside groups: at most n steps
abbrev pub case_size_at : ℕ → List Token → ℕ
case_size_at zero ts = 0
case_size_at (suc n) [] = 0
case_size_at (suc n) (t ∷ ts) = if is_case t then 0 else suc (past t) + case_size_at n (drop (past t) ts)

-- how many tokens the statements of a case have
abbrev pub case_size : List Token → ℕ
case_size ts = case_size_at (length ts) ts

-- the value of a label
abbrev pub label_of : Token × (Tree × Token) → Tree
label_of (word, (value, colon)) = value

-- 'case' expression ':'
unfoldable pub label_rule : Below → Rule Token Tree
label_rule d = turn label_of (token (is kind.Case) ▹ d.expression setting.Plain ▹ token (is kind.Colon))

-- the values of a case, and whether it is the default
abbrev pub labels_of : (Tree × List Tree) × Option (Token × Token) → List Tree × Bool
labels_of ((first, rest), fallback) = (first ∷ rest, is_some fallback)

abbrev pub default_of : Token × Token → List Tree × Bool
default_of (word, colon) = ([], true)

-- labels: ('case' expression ':')+ ('default' ':')? | 'default' ':'. As many are read as there are.
unfoldable pub labels_rule : Below → Rule Token (List Tree × Bool)
labels_rule d =
    longest_of
    (turn labels_of ((label_rule d ▹ many (label_rule d)) ▹ maybe (token (is kind.Default) ▹ token (is kind.Colon)))
    ∣ turn default_of (token (is kind.Default) ▹ token (is kind.Colon)))

-- a case, and whether it is the default
abbrev pub case_of : List Token → (List Tree × Bool) × List Tree → Tree × Bool
case_of read ((values, fallback), statements) = (switch_case (place_over read) (trees_of values) fallback (trees_of statements), fallback)

-- case: labels statement*, whose statements aren't read yet
unfoldable pub case_rule : Below → Rule Token (Tree × Bool)
case_rule d = make case_of (labels_rule d ▹ within case_size unread)

-- no case but the last is the default
abbrev pub ends_with_default : List (Tree × Bool) → Bool
ends_with_default [] = true
ends_with_default (x ∷ []) = true
ends_with_default (x ∷ (y ∷ rest)) = not x.1 && ends_with_default (y ∷ rest)

abbrev pub cases_end_with_default : Token × List (Tree × Bool) → Bool
cases_end_with_default (opening, cases) = ends_with_default cases

-- '{' case* '}', of which no case but the last is the default
unfoldable pub cases_rule : Below → Rule Token (Token × List (Tree × Bool))
cases_rule d = only cases_end_with_default (inside (is kind.OpenBrace) width past (many (case_rule d)))

abbrev pub switch_of : List Token → Token × (Tree × (Token × List (Tree × Bool))) → Tree
switch_of read (word, (value, (opening, cases))) = switch_statement (place_over read) value (trees_of (map (λ c. c.0) cases))

-- 'switch' '(' expression ')' cases
unfoldable pub switch_rule : Below → Rule Token Tree
switch_rule d = make switch_of (token (is kind.Switch) ▹ condition_rule d ▹ cases_rule d)

-- Exceptions.

-- a name that a clause catches
abbrev pub caught : Token → Tree
caught t = listed_name (place_of t) t.word

abbrev pub catch_of : Token × (Token × (Token × Option (Token × Token))) → Token × Option Token
catch_of (word, (opening, (exception, trace))) = (exception, behind_token trace)

-- catch: 'catch' '(' identifier (',' identifier)? ')'
unfoldable pub catch_rule : Rule Token (Token × Option Token)
catch_rule =
    turn catch_of (token (is kind.Catch) ▹ inside (is kind.OpenParenthesis) width past (token is_name ▹ maybe (token (is kind.Comma) ▹ token is_name)))

abbrev pub clause_with : List Token → Option Tree → Option (Token × Option Token) → Tree → Tree
clause_with read written None body = catch_clause (place_over read) (part_of written) (part_of None) (part_of None) body
clause_with read written (Some (exception, trace)) body =
    catch_clause (place_over read) (part_of written) (part_of (Some (caught exception))) (part_of (option_map caught trace)) body

abbrev pub on_of : List Token → Token × (Tree × (Option (Token × Option Token) × Tree)) → Tree
on_of read (word, (written, (catch, body))) = clause_with read (Some written) catch body

abbrev pub clause_of : List Token → (Token × Option Token) × Tree → Tree
clause_of read (catch, body) = clause_with read None (Some catch) body

-- clause: 'on' type catch? block | catch block
unfoldable pub clause_rule : Below → Rule Token Tree
clause_rule d = make on_of (token (is kind.On) ▹ d.written ▹ maybe catch_rule ▹ d.block) ∣ make clause_of (catch_rule ▹ d.block)

-- there is a clause or a `finally`
abbrev pub has_clause : (Token × (Tree × List Tree)) × Option (Token × Tree) → Bool
has_clause ((word, (body, [])), final) = is_some final
has_clause ((word, (body, (clause ∷ clauses))), final) = true

abbrev pub try_of : List Token → (Token × (Tree × List Tree)) × Option (Token × Tree) → Tree
try_of read ((word, (body, clauses)), final) = try_statement (place_over read) body (trees_of clauses) (part_of (behind_token final))

-- 'try' block clause* ('finally' block)?, with a clause or a `finally`
unfoldable pub try_rule : Below → Rule Token Tree
try_rule d =
    make try_of (only has_clause (longest_of ((token (is kind.Try) ▹ d.block ▹ many (clause_rule d)) ▹ maybe (token (is kind.Finally) ▹ d.block))))

-- Statements.

-- What begins with a name or a type, or is an expression: a label has a `:` behind its name; else a function where one can be read, else variables where these can be read, else an expression.
unfoldable pub other_statement_rule : Below → Rule Token Tree
other_statement_rule d =
    where_next heads_label (labeled_rule d) (prefer (function_statement_rule d) (prefer (variable_statement_rule d) (expression_statement_rule d)))

-- A statement reads its longest. One that begins with `{` is a block.
unfoldable pub statement_rule : Below → Rule Token Tree
statement_rule d =
    longest_of
    (where_next (heads kind.OpenBrace) (block_rule)
    (if_rule d ∣ while_rule d ∣ do_rule d ∣ for_rule d ∣ switch_rule d ∣ try_rule d ∣ return_rule d ∣ break_rule ∣ continue_rule ∣ rethrow_rule ∣ other_statement_rule d))
