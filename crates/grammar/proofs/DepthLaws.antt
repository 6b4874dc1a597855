-- No statement, declaration or text that is read is higher than the room that it was read in.
use Rattle.std.proofs.Common.{ℕ, zero, suc, ◌≤◌, Bool, true, false, List, [], length, map, Option, Some, None, arith}
use Rattle.readings.specs.Readings.{Rule, token, turn, ◌▹◌, maybe, many, chain, longest_of}
use Rattle.readings.specs.Leading.{Each}
use Rattle.readings.specs.Lists.{each_map}
use Rattle.readings.specs.Values.{Gives, Maybe, gives_any, gives_none, gives_seq, gives_or, gives_make, gives_turn, gives_maybe, gives_many, gives_chain, gives_longest, gives_inside, gives_within, gives_where, gives_prefer, gives_exactly, gives_before, gives_only, gives_items, all_items_are}
use Rattle.dart_tokens.specs.declared.token.Kind.TheVariants as kind
use Rattle.dart_tree.specs.Tree.{Tree}
use Rattle.dart_tree.specs.Heights.{height}
use Rattle.dart_tokens.specs.declared.grouped_token.GroupedToken.{GroupedToken as Token}
use Rattle.grammar.specs.declared.level.Setting.TheVariants as setting
use Rattle.grammar.specs.Tokens.{is, is_name, is_type_name, heads, heads_name, anything, width, past}
use Rattle.grammar.specs.Operators.{table}
use Rattle.grammar.specs.Types.{Below, inner, behind_token, listed_or_none, annotation_rule, heads_field}
use Rattle.grammar.specs.Expressions.{heads_label, heads_closure, heads_nullable, one_time}
use Rattle.grammar.specs.Below.{below}
use Rattle.grammar.specs.Statements.{Header, counted, assigned, declaring, each_with, for_with, clause_with, If, without_else, is_nearest, with_else, segment, error_of, block_of, block_rule, final_of, var_of, typed_of, declared_rule, variable_of, variable_rule, variables_of, variables_rule, ended, variable_statement_of, variable_statement_rule, arrow_body_of, local_body_rule, plain_function_of, local_rest_rule, local_function_rule, function_statement_of, function_statement_rule, expression_statement_of, expression_statement_rule, return_of, return_rule, break_of, break_rule, continue_of, continue_rule, rethrow_of, rethrow_rule, labeled_of, labeled_rule, condition_rule, if_of, if_rule, while_of, while_rule, do_of, do_rule, each_of, each_rule, start_rule, counted_of, counted_rule, for_of, for_rule, label_of, label_rule, labels_of, default_of, labels_rule, case_of, case_size, case_rule, cases_end_with_default, cases_rule, switch_of, switch_rule, catch_rule, on_of, clause_of, clause_rule, has_clause, try_of, try_rule, other_statement_rule, statement_rule}
use Rattle.grammar.specs.Declarations.{Signature, getting, setting_of, plain, function_with, constructed, made_by_factory, method, fields, operated_by, member_with, of_class, of_mixin, of_type, of_function, of_variables, declaration_with, Member, Declaration, native_of, empty_of, body_rule, getting_of, set_of, plain_of, heads_getter, heads_setter, signature_rule, function_of, function_rule, constructor_name_rule, field_initializer_of, super_of, redirection_of, initializer_rule, constructor_of, constructor_rule, factory_of, factory_rule, operator_rule, operator_member_of, operator_member_rule, heads_static, method_of, fields_of, plain_member_rule, behind_word, static_member_rule, member_of, member_rule, members_rule, types_behind, class_of, class_with_rule, class_word, class_rule, mixin_of, mixin_rule, alias_of, alias_rule, declared_function_of, declared_variables_of, plain_declaration_rule, heads_class, heads_word, declaration_of, declaration_rule, library_names_rule, library_of, library_rule, combinator_rule, import_of, import_rule, export_of, export_rule, part_directive_of, part_rule, part_of_uri_of, part_of_library_of, part_of_rule, directive_rule, item_rule, unit_below}
use Rattle.grammar.proofs.Depths.{Low, Lows, up, first_node, hi, ls, pt, bt, lo, tok, separated_low, type_parameters_low, parameter_list_low, plain_type_low, type_low, string_low, arguments_low, simple_low, unary_low, operand_low, section_head_low, section_low, expression_low}

-- an error has no height
pub error_low : (n : ℕ) (read : List Token) → Low n (error_of read)
error_low n read = omega arith

block_low : (n : ℕ) → Gives (Low (suc n)) block_rule
unfolding block_rule
block_low n = gives_make block_of (λ read x h. up (ls {n = n} x.1 h)) (gives_inside (is kind.OpenBrace) width past (gives_items length error_of (error_low n) (gives_none (Low n))))

-- what stands before the names of variables
abbrev DeclaredLow : ℕ → Bool × Option Tree → Type 0
DeclaredLow n x = Maybe (Low n) x.1

declared_low : (n : ℕ) (d : Below) → Lows n d → Gives (DeclaredLow n) (declared_rule d)
unfolding declared_rule
declared_low n d a =
    gives_or (gives_turn {R = DeclaredLow n} final_of (λ x h. h.1) (gives_seq (tok (is kind.Final)) (gives_exactly (gives_before heads_name a.named))))
    (gives_or (gives_turn {R = DeclaredLow n} var_of (λ x h. tt) (tok (is kind.Var))) (gives_turn {R = DeclaredLow n} typed_of (λ x h. h) (gives_before heads_name a.named)))

variable_low : (n : ℕ) (d : Below) → Lows n d → Gives (Low n) (variable_rule d)
unfolding variable_rule
variable_low n d a = gives_make variable_of (λ read x h. bt {n = n} x.1 h.1) (gives_seq (tok is_name) (gives_maybe (gives_seq (tok (is kind.Equals)) (a.expression setting.Plain))))

variables_low : (n : ℕ) (d : Below) → Lows n d → Gives (Low n) (variables_rule d)
unfolding variables_rule
variables_low n d a = gives_make variables_of (λ read x h. hi {n = n} (pt {n = n} x.0.1 h.0) (ls {n = n} x.1 h.1)) (gives_seq (declared_low n d a) (separated_low (variable_low n d a)))

local_body_low : (n : ℕ) (d : Below) → Lows n d → Gives (Low n) (local_body_rule d)
unfolding local_body_rule
local_body_low n d a =
    gives_or a.block (gives_make arrow_body_of (λ read x h. h.1.0) (gives_seq (tok (is kind.Arrow)) (gives_seq (a.expression setting.Plain) (tok (is kind.Semicolon)))))

local_function_low : (n : ℕ) (d : Below) → Lows n d → Gives (Low n) (local_function_rule d)
unfolding local_function_rule local_rest_rule
local_function_low n d a =
    gives_make plain_function_of (λ read x h. hi {n = n} (pt {n = n} x.0 h.0) (hi {n = n} (ls {n = n} (listed_or_none x.1.1.0) (lo n x.1.1.0 h.1.1.0)) (hi {n = n} h.1.1.1.0 h.1.1.1.1)))
    (gives_seq (gives_exactly (gives_before heads_name a.named))
    (gives_seq (tok is_name)
    (gives_seq (gives_maybe (type_parameters_low n d a)) (gives_where (heads_closure setting.Plain) (gives_seq (parameter_list_low n d a) (local_body_low n d a)) (gives_none (λ x. Low n x.0 × Low n x.1))))))

condition_low : (n : ℕ) (d : Below) → Lows n d → Gives (Low n) (condition_rule d)
unfolding condition_rule
condition_low n d a = gives_turn inner (λ x h. h) (gives_inside (is kind.OpenParenthesis) width past (a.expression setting.Plain))

abbrev HeaderLow : ℕ → Header → Type 0
HeaderLow n (counted initializer condition updates) = Maybe (Low n) initializer × (Maybe (Low n) condition × Each (Low n) updates)
HeaderLow n (assigned name iterable) = Low n iterable
HeaderLow n (declaring final written name iterable) = Maybe (Low n) written × Low n iterable

each_with_low : (n : ℕ) (o : Option (Bool × Option Tree)) (name : Token) (iterable : Tree) → Maybe (DeclaredLow n) o → Low n iterable → HeaderLow n (each_with o name iterable)
each_with_low n None name iterable h k = k
each_with_low n (Some x) name iterable h k = (h, k)

each_low : (n : ℕ) (d : Below) → Lows n d → Gives (HeaderLow n) (each_rule d)
unfolding each_rule
each_low n d a =
    gives_turn {R = HeaderLow n} each_of (λ x h. each_with_low n x.0 x.1.0 x.1.1.1 h.0 h.1.1.1)
    (gives_seq (gives_exactly (gives_longest (declared_low n d a))) (gives_seq (tok is_name) (gives_seq (tok (is kind.In)) (a.expression setting.Plain))))

counted_low : (n : ℕ) (d : Below) → Lows n d → Gives (HeaderLow n) (counted_rule d)
unfolding counted_rule start_rule
counted_low n d a =
    gives_turn {R = HeaderLow n} counted_of (λ x h. (h.0, (h.1.0, lo n x.1.1.1 h.1.1.1)))
    (gives_seq
    (gives_prefer (gives_turn {R = Maybe (Low n)} (λ x. Some (ended x)) (λ x h. h.0) (gives_seq (variables_low n d a) (tok (is kind.Semicolon))))
    (gives_turn {R = Maybe (Low n)} ended (λ x h. h.0) (gives_seq (gives_maybe (a.expression setting.Plain)) (tok (is kind.Semicolon)))))
    (gives_seq (gives_maybe (a.expression setting.Plain)) (gives_seq (tok (is kind.Semicolon)) (gives_maybe (separated_low (a.expression setting.Listed))))))

for_at : (n : ℕ) (read : List Token) (h : Header) (body : Tree) → HeaderLow n h → Low n body → Low (suc n) (for_with read h body)
for_at n read (counted initializer condition updates) body k b = up (hi {n = n} (pt {n = n} initializer k.0) (hi {n = n} (pt {n = n} condition k.1.0) (hi {n = n} (ls {n = n} updates k.1.1) b)))
for_at n read (assigned name iterable) body k b = up (hi {n = n} k b)
for_at n read (declaring final written name iterable) body k b = up (hi {n = n} (pt {n = n} written k.0) (hi {n = n} k.1 b))

for_low : (n : ℕ) (d : Below) → Lows n d → Gives (Low (suc n)) (for_rule d)
unfolding for_rule
for_low n d a =
    gives_make for_of (λ read x h. for_at n read x.1.0.1 x.1.1 h.1.0 h.1.1)
    (gives_seq (tok (is kind.For)) (gives_seq (gives_inside (is kind.OpenParenthesis) width past (gives_prefer (each_low n d a) (counted_low n d a))) a.statement))

-- the values of a case
abbrev LabelsLow : ℕ → List Tree × Bool → Type 0
LabelsLow n x = Each (Low n) x.0

-- a case
abbrev CaseLow : ℕ → Tree × Bool → Type 0
CaseLow n x = Low n x.0

label_low : (n : ℕ) (d : Below) → Lows n d → Gives (Low n) (label_rule d)
unfolding label_rule
label_low n d a = gives_turn label_of (λ x h. h.1.0) (gives_seq (tok (is kind.Case)) (gives_seq (a.expression setting.Plain) (tok (is kind.Colon))))

case_low : (n : ℕ) (d : Below) → Lows n d → Gives (CaseLow n) (case_rule d)
unfolding case_rule labels_rule
case_low n d a =
    gives_make {R = CaseLow n} case_of (λ read x h. hi {n = n} (ls {n = n} x.0.0 h.0) (ls {n = n} x.1 h.1))
    (gives_seq
    (gives_longest
    (gives_or
    (gives_turn {R = LabelsLow n} labels_of (λ x h. (h.0.0, h.0.1)) (gives_seq (gives_seq (label_low n d a) (gives_many (label_low n d a))) (gives_any (maybe (token (is kind.Default) ▹ token (is kind.Colon))))))
    (gives_turn {R = LabelsLow n} default_of (λ x h. tt) (gives_any (token (is kind.Default) ▹ token (is kind.Colon))))))
    (gives_within case_size (gives_items length error_of (error_low n) (gives_none (Low n)))))

switch_low : (n : ℕ) (d : Below) → Lows n d → Gives (Low (suc n)) (switch_rule d)
unfolding switch_rule cases_rule
switch_low n d a =
    gives_make switch_of (λ read x h. up (hi {n = n} h.1.0 (ls {n = n} (map (λ (c : Tree × Bool). c.0) x.1.1.1) (each_map (Low n) (λ (c : Tree × Bool). c.0) x.1.1.1 h.1.1))))
    (gives_seq (tok (is kind.Switch)) (gives_seq (condition_low n d a) (gives_only cases_end_with_default (gives_inside (is kind.OpenBrace) width past (gives_many (case_low n d a))))))

clause_at : (n : ℕ) (read : List Token) (written : Option Tree) (o : Option (Token × Option Token)) (body : Tree) → Maybe (Low n) written → Low n body → Low n (clause_with read written o body)
clause_at n read written None body h k = hi {n = n} (pt {n = n} written h) k
clause_at n read written (Some x) body h k = hi {n = n} (pt {n = n} written h) k

clause_low : (n : ℕ) (d : Below) → Lows n d → Gives (Low n) (clause_rule d)
unfolding clause_rule
clause_low n d a =
    gives_or
    (gives_make on_of (λ read x h. clause_at n read (Some x.1.0) x.1.1.0 x.1.1.1 h.1.0 h.1.1.1)
    (gives_seq (tok (is kind.On)) (gives_seq a.written (gives_seq (gives_any (maybe catch_rule)) a.block))))
    (gives_make clause_of (λ read x h. clause_at n read None (Some x.0) x.1 tt h.1) (gives_seq (gives_any catch_rule) a.block))

try_low : (n : ℕ) (d : Below) → Lows n d → Gives (Low (suc n)) (try_rule d)
unfolding try_rule
try_low n d a =
    gives_make try_of (λ read x h. up (hi {n = n} h.0.1.0 (hi {n = n} (ls {n = n} x.0.1.1 h.0.1.1) (bt {n = n} x.1 h.1))))
    (gives_only has_clause
    (gives_longest (gives_seq (gives_seq (tok (is kind.Try)) (gives_seq a.block (gives_many (clause_low n d a)))) (gives_maybe (gives_seq (tok (is kind.Finally)) a.block)))))

abbrev IfLow : ℕ → If → Type 0
IfLow n x = (Unit {0} × (Low n x.0.1.0 × Low n x.0.1.1)) × Maybe (Low n) x.1

if_low : (n : ℕ) (d : Below) → Lows n d →
    Gives (IfLow n) (chain one_time is_nearest with_else (longest_of (turn without_else (token (is kind.If) ▹ condition_rule d ▹ d.statement))) (longest_of (token (is kind.Else) ▹ d.statement)))
if_low n d a =
    gives_chain one_time is_nearest with_else
    (gives_longest (gives_turn {R = IfLow n} without_else (λ x h. (h, tt)) (gives_seq (tok (is kind.If)) (gives_seq (condition_low n d a) a.statement))))
    (gives_longest (gives_seq (tok (is kind.Else)) a.statement)) (λ read left side e h k. (h.0, k.1))

statement_low : (n : ℕ) (d : Below) → Lows n d → Gives (Low (suc n)) (statement_rule d)
unfolding statement_rule if_rule while_rule do_rule return_rule break_rule continue_rule rethrow_rule other_statement_rule labeled_rule function_statement_rule variable_statement_rule expression_statement_rule
statement_low n d a =
    gives_longest
    (gives_where (heads kind.OpenBrace) (block_low n)
    (gives_or
    (gives_make if_of (λ read x h. up (hi {n = n} h.0.1.0 (hi {n = n} h.0.1.1 (pt {n = n} x.1 h.1)))) (if_low n d a))
    (gives_or (gives_make while_of (λ read x h. up (hi {n = n} h.1.0 h.1.1)) (gives_seq (tok (is kind.While)) (gives_seq (condition_low n d a) a.statement)))
    (gives_or
    (gives_make do_of (λ read x h. up (hi {n = n} h.1.0 h.1.1.1.0))
    (gives_seq (tok (is kind.Do)) (gives_seq a.statement (gives_seq (tok (is kind.While)) (gives_seq (condition_low n d a) (tok (is kind.Semicolon)))))))
    (gives_or (for_low n d a)
    (gives_or (switch_low n d a)
    (gives_or (try_low n d a)
    (gives_or
    (gives_make return_of (λ read x h. up (pt {n = n} x.1.0 h.1.0)) (gives_seq (tok (is kind.Return)) (gives_seq (gives_maybe (a.expression setting.Plain)) (tok (is kind.Semicolon)))))
    (gives_or (gives_make break_of (λ read x h. first_node n) (gives_any (token (is kind.Break) ▹ maybe (token is_name) ▹ token (is kind.Semicolon))))
    (gives_or (gives_make continue_of (λ read x h. first_node n) (gives_any (token (is kind.Continue) ▹ maybe (token is_name) ▹ token (is kind.Semicolon))))
    (gives_or (gives_make rethrow_of (λ read x h. first_node n) (gives_any (token (is kind.Rethrow) ▹ token (is kind.Semicolon))))
    (gives_where heads_label (gives_make labeled_of (λ read x h. up h.1.1) (gives_seq (tok is_name) (gives_seq (tok (is kind.Colon)) a.statement)))
    (gives_prefer (gives_make function_statement_of (λ read x h. up h) (local_function_low n d a))
    (gives_prefer (gives_make variable_statement_of (λ read x h. up h.0) (gives_seq (variables_low n d a) (tok (is kind.Semicolon))))
    (gives_make expression_statement_of (λ read x h. up (pt {n = n} x.0 h.0)) (gives_seq (gives_maybe (a.expression setting.Plain)) (tok (is kind.Semicolon))))))))))))))))))

pub lows : (n : ℕ) → Lows n (below n)
unfolding below
lows zero = record {
  written = gives_none (Low 0);
  tested = λ m. gives_none (Low 0);
  constructed = gives_none (Low 0);
  named = gives_none (Low 0);
  expression = λ m. gives_none (Low 0);
  operand = λ m above. gives_none (Low 0);
  unary = λ m. gives_none (Low 0);
  section = λ m. gives_longest (section_head_low 0 (λ ts. []) (gives_none (Low 0)));
  simple = gives_none (Low 0);
  block = gives_none (Low 0);
  statement = gives_none (Low 0);
}
lows (suc n) =
    let a = lows n in
    record {
      written = gives_longest (type_low n (below n) a (heads kind.Question) anything);
      tested = λ m. gives_longest (type_low n (below n) a (heads_nullable m) anything);
      constructed = gives_longest (plain_type_low n (below n) a (heads kind.Question));
      named = gives_longest (type_low n (below n) a (heads kind.Question) heads_field);
      expression = λ m. expression_low n m (below n) a;
      operand = λ m above. operand_low n m (below n) a above;
      unary = λ m. gives_longest (unary_low n m (below n) a);
      section = λ m. gives_longest (section_low n m (below n) a _ (expression_low n setting.Plain (below n) a));
      simple = gives_longest (simple_low n);
      block = gives_longest (block_low n);
      statement = statement_low n (below n) a;
    }

-- Declarations.

body_low : (n : ℕ) (in_core without_body : Bool) (d : Below) → Lows n d → Gives (Low n) (body_rule in_core without_body d)
unfolding body_rule
body_low n in_core without_body d a =
    gives_or (local_body_low n d a)
    (gives_or (gives_where (λ ts. in_core) (gives_make native_of (λ read x h. omega arith) (gives_any (token (is kind.Native) ▹ token (is kind.Semicolon)))) (gives_none (Low n)))
    (gives_where (λ ts. without_body) (gives_turn empty_of (λ x h. omega arith) (tok (is kind.Semicolon))) (gives_none (Low n))))

abbrev SignatureLow : ℕ → Signature → Type 0
SignatureLow n (getting name body) = Low n body
SignatureLow n (setting_of name parameters body) = Low n parameters × Low n body
SignatureLow n (plain name type_parameters parameters body) = Each (Low n) type_parameters × (Low n parameters × Low n body)

function_at : (n : ℕ) (read : List Token) (result : Option Tree) (s : Signature) → Maybe (Low n) result → SignatureLow n s → Low n (function_with read result s)
function_at n read result (getting name body) h k = hi {n = n} (pt {n = n} result h) k
function_at n read result (setting_of name parameters body) h k = hi {n = n} (pt {n = n} result h) (hi {n = n} k.0 k.1)
function_at n read result (plain name type_parameters parameters body) h k = hi {n = n} (pt {n = n} result h) (hi {n = n} (ls {n = n} type_parameters k.0) (hi {n = n} k.1.0 k.1.1))

function_low : (n : ℕ) (body : Rule Token Tree) (d : Below) → Gives (Low n) body → Lows n d → Gives (Low n) (function_rule body d)
unfolding function_rule signature_rule
function_low n body d b a =
    gives_make function_of (λ read x h. function_at n read x.0 x.1 h.0 h.1)
    (gives_seq (gives_exactly (gives_before heads_name a.named))
    (gives_where heads_getter (gives_turn {R = SignatureLow n} getting_of (λ x h. h.1.1) (gives_seq (tok (is kind.Get)) (gives_seq (tok is_name) b)))
    (gives_where heads_setter
    (gives_turn {R = SignatureLow n} set_of (λ x h. (h.1.1.0, h.1.1.1)) (gives_seq (tok (is kind.Set)) (gives_seq (tok is_name) (gives_seq (parameter_list_low n d a) b))))
    (gives_turn {R = SignatureLow n} plain_of (λ x h. (lo n x.1.0 h.1.0, (h.1.1.0, h.1.1.1))) (gives_seq (tok is_name) (gives_seq (gives_maybe (type_parameters_low n d a)) (gives_seq (parameter_list_low n d a) b)))))))

abbrev MemberLow : ℕ → Member → Type 0
MemberLow n (constructed name parameters initializers body) = Low n parameters × (Each (Low n) initializers × Low n body)
MemberLow n (made_by_factory name parameters body) = Low n parameters × Low n body
MemberLow n (method is_static function) = Low n function
MemberLow n (fields is_static variables) = Low n variables
MemberLow n (operated_by result name parameters body) = Maybe (Low n) result × (Low n parameters × Low n body)

member_at : (n : ℕ) (read : List Token) (metadata : List Tree) (m : Member) → MemberLow n m → Low (suc n) (member_with read metadata m)
member_at n read metadata (constructed name parameters initializers body) k = up (hi {n = n} k.0 (hi {n = n} (ls {n = n} initializers k.1.0) k.1.1))
member_at n read metadata (made_by_factory name parameters body) k = up (hi {n = n} k.0 k.1)
member_at n read metadata (method is_static function) k = up k
member_at n read metadata (fields is_static variables) k = up k
member_at n read metadata (operated_by result name parameters body) k = up (hi {n = n} (pt {n = n} result k.0) (hi {n = n} k.1.0 k.1.1))

initializer_low : (n : ℕ) (d : Below) → Lows n d → Gives (Low n) (initializer_rule d)
unfolding initializer_rule
initializer_low n d a =
    gives_prefer
    (gives_make field_initializer_of (λ read x h. h.1.1.1)
    (gives_seq (gives_any (maybe (token (is kind.This) ▹ token (is kind.Period)))) (gives_seq (tok is_name) (gives_seq (tok (is kind.Equals)) (a.operand setting.Initializer table)))))
    (gives_or (gives_make super_of (λ read x h. h.1.1) (gives_seq (tok (is kind.Super)) (gives_seq (gives_any (maybe (token (is kind.Period) ▹ token is_name))) (arguments_low n d a))))
    (gives_make redirection_of (λ read x h. h.1.1) (gives_seq (tok (is kind.This)) (gives_seq (gives_any (maybe (token (is kind.Period) ▹ token is_name))) (arguments_low n d a)))))

bl : (n : ℕ) (o : Option (Token × List Tree)) → Maybe (λ (y : Token × List Tree). Unit {0} × Each (Low n) y.1) o → Each (Low n) (listed_or_none (behind_token o))
bl n None h = tt
bl n (Some y) h = h.1

bm : (n : ℕ) (o : Option (Token × Tree)) → Maybe (λ (y : Token × Tree). Unit {0} × Low n y.1) o → Maybe (Low n) (behind_token o)
bm n None h = tt
bm n (Some y) h = h.1

plain_member_low : (n : ℕ) (in_core is_static without_body : Bool) (d : Below) → Lows n d → Gives (MemberLow n) (plain_member_rule in_core is_static without_body d)
unfolding plain_member_rule
plain_member_low n in_core is_static without_body d a =
    gives_prefer (gives_turn {R = MemberLow n} (method_of is_static) (λ x h. h) (function_low n (body_rule in_core without_body d) d (body_low n in_core without_body d a) a))
    (gives_turn {R = MemberLow n} (fields_of is_static) (λ x h. h.0) (gives_seq (variables_low n d a) (tok (is kind.Semicolon))))

member_low : (n : ℕ) (in_core : Bool) (class : Option ℕ) (d : Below) → Lows n d → Gives (Low (suc n)) (member_rule in_core class d)
unfolding member_rule constructor_rule factory_rule operator_member_rule static_member_rule
member_low n in_core class d a =
    gives_longest
    (gives_make member_of (λ read x h. member_at n read x.0 x.1 h.1)
    (gives_seq (gives_any (many annotation_rule))
    (gives_prefer
    (gives_turn {R = MemberLow n} constructor_of (λ x h. (h.1.0, (bl n x.1.1.0 h.1.1.0, h.1.1.1)))
    (gives_seq (gives_any (constructor_name_rule class))
    (gives_seq (parameter_list_low n d a)
    (gives_seq (gives_maybe (gives_seq (tok (is kind.Colon)) (separated_low (initializer_low n d a)))) (gives_or a.block (gives_turn empty_of (λ x h. omega arith) (tok (is kind.Semicolon))))))))
    (gives_prefer
    (gives_turn {R = MemberLow n} factory_of (λ x h. (h.1.1.0, h.1.1.1))
    (gives_seq (tok (is kind.Factory)) (gives_seq (gives_any (constructor_name_rule class)) (gives_seq (parameter_list_low n d a) (body_low n in_core false d a)))))
    (gives_prefer
    (gives_turn {R = MemberLow n} operator_member_of (λ x h. (h.0, (h.1.1.1.0, h.1.1.1.1)))
    (gives_seq (gives_exactly (gives_before heads_name a.named))
    (gives_seq (tok (is kind.Operator)) (gives_seq (gives_any operator_rule) (gives_seq (parameter_list_low n d a) (body_low n in_core true d a))))))
    (gives_where heads_static (gives_turn {R = MemberLow n} behind_word (λ x h. h.1) (gives_seq (tok (is kind.Static)) (plain_member_low n in_core true false d a))) (plain_member_low n in_core false true d a)))))))

members_low : (n : ℕ) (in_core : Bool) (class : Option ℕ) (d : Below) → Lows n d → Gives (λ x. Each (Low (suc n)) x.1) (members_rule in_core class d)
members_low n in_core class d a = gives_inside (is kind.OpenBrace) width past (gives_items segment error_of (error_low (suc n)) (member_low n in_core class d a))

-- what lies in a declaration, and members one deeper
abbrev DeclarationLow : ℕ → Declaration → Type 0
DeclarationLow n (of_class is_abstract name type_parameters superclass mixins interfaces members) =
    Each (Low n) type_parameters × (Maybe (Low n) superclass × (Each (Low n) mixins × (Each (Low n) interfaces × Each (Low n) members)))
DeclarationLow n (of_mixin name type_parameters constraints interfaces members) = Each (Low n) type_parameters × (Each (Low n) constraints × (Each (Low n) interfaces × Each (Low n) members))
DeclarationLow n (of_type name written) = Low n written
DeclarationLow n (of_function function) = Low n function
DeclarationLow n (of_variables variables) = Low n variables

declaration_at : (n : ℕ) (read : List Token) (metadata : List Tree) (x : Declaration) → DeclarationLow n x → Low (suc n) (declaration_with read metadata x)
declaration_at n read metadata (of_class is_abstract name type_parameters superclass mixins interfaces members) k =
    up (hi {n = n} (ls {n = n} type_parameters k.0) (hi {n = n} (pt {n = n} superclass k.1.0) (hi {n = n} (ls {n = n} mixins k.1.1.0) (hi {n = n} (ls {n = n} interfaces k.1.1.1.0) (ls {n = n} members k.1.1.1.1)))))
declaration_at n read metadata (of_mixin name type_parameters constraints interfaces members) k =
    up (hi {n = n} (ls {n = n} type_parameters k.0) (hi {n = n} (ls {n = n} constraints k.1.0) (hi {n = n} (ls {n = n} interfaces k.1.1.0) (ls {n = n} members k.1.1.1))))
declaration_at n read metadata (of_type name written) k = up k
declaration_at n read metadata (of_function function) k = up k
declaration_at n read metadata (of_variables variables) k = up k

types_low : (n : ℕ) (word : Token → Bool) (d : Below) → Lows n d → Gives (λ x. Unit {0} × Each (Low n) x.1) (types_behind word d)
types_low n word d a = gives_seq (tok word) (separated_low a.written)

class_with_low : (n : ℕ) (in_core : Bool) (class : Option ℕ) (d e : Below) → Lows (suc n) d → Lows n e → Gives (DeclarationLow (suc n)) (class_with_rule in_core class d e)
unfolding class_with_rule
class_with_low n in_core class d e a b =
    gives_turn {R = DeclarationLow (suc n)} class_of
    (λ x h. (lo (suc n) x.1.1.1.0 h.1.1.1.0, (bm (suc n) x.1.1.1.1.0 h.1.1.1.1.0, (bl (suc n) x.1.1.1.1.1.0 h.1.1.1.1.1.0, (bl (suc n) x.1.1.1.1.1.1.0 h.1.1.1.1.1.1.0, h.1.1.1.1.1.1.1)))))
    (gives_seq (gives_any (maybe (token (is kind.Abstract))))
    (gives_seq (tok (is kind.Class))
    (gives_seq (tok is_type_name)
    (gives_seq (gives_maybe (type_parameters_low (suc n) d a))
    (gives_seq (gives_maybe (gives_seq (tok (is kind.Extends)) a.written))
    (gives_seq (gives_maybe (types_low (suc n) (is kind.With) d a)) (gives_seq (gives_maybe (types_low (suc n) (is kind.Implements) d a)) (members_low n in_core class e b))))))))

mixin_low : (n : ℕ) (in_core : Bool) (d e : Below) → Lows (suc n) d → Lows n e → Gives (DeclarationLow (suc n)) (mixin_rule in_core d e)
unfolding mixin_rule
mixin_low n in_core d e a b =
    gives_turn {R = DeclarationLow (suc n)} mixin_of
    (λ x h. (lo (suc n) x.1.1.0 h.1.1.0, (bl (suc n) x.1.1.1.0 h.1.1.1.0, (bl (suc n) x.1.1.1.1.0 h.1.1.1.1.0, h.1.1.1.1.1))))
    (gives_seq (tok (is kind.Mixin))
    (gives_seq (tok is_type_name)
    (gives_seq (gives_maybe (type_parameters_low (suc n) d a))
    (gives_seq (gives_maybe (types_low (suc n) (is kind.On) d a)) (gives_seq (gives_maybe (types_low (suc n) (is kind.Implements) d a)) (members_low n in_core None e b))))))

class_low : (n : ℕ) (in_core : Bool) (d e : Below) → Lows (suc n) d → Lows n e → Gives (DeclarationLow (suc n)) (class_rule in_core d e)
unfolding class_rule
class_low n in_core d e a b = record { each = λ ts. (class_with_low n in_core (class_word ts) d e a b).each ts }

declaration_low : (n : ℕ) (in_core : Bool) (d e : Below) → Lows (suc n) d → Lows n e → Gives (Low (suc (suc n))) (declaration_rule in_core d e)
unfolding declaration_rule alias_rule plain_declaration_rule
declaration_low n in_core d e a b =
    gives_make declaration_of (λ read x h. declaration_at (suc n) read x.0 x.1 h.1)
    (gives_seq (gives_any (many annotation_rule))
    (gives_where heads_class (class_low n in_core d e a b)
    (gives_where (heads_word (is kind.Mixin)) (mixin_low n in_core d e a b)
    (gives_where (heads_word (is kind.Typedef))
    (gives_turn {R = DeclarationLow (suc n)} alias_of (λ x h. h.1.1.1.0)
    (gives_seq (tok (is kind.Typedef)) (gives_seq (tok is_type_name) (gives_seq (tok (is kind.Equals)) (gives_seq a.written (tok (is kind.Semicolon)))))))
    (gives_prefer (gives_turn {R = DeclarationLow (suc n)} declared_function_of (λ x h. h) (function_low (suc n) (body_rule in_core false d) d (body_low (suc n) in_core false d a) a))
    (gives_turn {R = DeclarationLow (suc n)} declared_variables_of (λ x h. h.0) (gives_seq (variables_low (suc n) d a) (tok (is kind.Semicolon)))))))))

directive_low : (n : ℕ) (d : Below) → Lows n d → Gives (Low (suc n)) (directive_rule d)
unfolding directive_rule library_rule import_rule export_rule part_rule part_of_rule
directive_low n d a =
    gives_or (gives_make library_of (λ read x h. first_node n) (gives_any (token (is kind.Library) ▹ library_names_rule ▹ token (is kind.Semicolon))))
    (gives_or
    (gives_make import_of (λ read x h. up h.1.0)
    (gives_seq (tok (is kind.Import)) (gives_seq (string_low n d a) (gives_any (maybe (token (is kind.As) ▹ token is_name) ▹ many (longest_of combinator_rule) ▹ token (is kind.Semicolon))))))
    (gives_or
    (gives_make export_of (λ read x h. up h.1.0) (gives_seq (tok (is kind.Export)) (gives_seq (string_low n d a) (gives_any (many (longest_of combinator_rule) ▹ token (is kind.Semicolon))))))
    (gives_prefer (gives_make part_directive_of (λ read x h. up h.1.0) (gives_seq (tok (is kind.Part)) (gives_seq (string_low n d a) (tok (is kind.Semicolon)))))
    (gives_prefer
    (gives_make part_of_uri_of (λ read x h. up h.1.1.0) (gives_seq (tok (is kind.Part)) (gives_seq (tok (is kind.Of)) (gives_seq (string_low n d a) (tok (is kind.Semicolon))))))
    (gives_make part_of_library_of (λ read x h. first_node n) (gives_any (token (is kind.Part) ▹ token (is kind.Of) ▹ library_names_rule ▹ token (is kind.Semicolon))))))))

item_low : (n : ℕ) (in_core : Bool) (d e : Below) → Lows (suc n) d → Lows n e → Gives (Low (suc (suc n))) (item_rule in_core d e)
unfolding item_rule
item_low n in_core d e a b = gives_longest (gives_prefer (directive_low (suc n) d a) (declaration_low n in_core d e a b))

-- a text is no higher than its items and the unit itself
pub unit_low : (n : ℕ) (in_core : Bool) (d e : Below) → Lows (suc n) d → Lows n e → (ts : List Token) → height (unit_below in_core d e ts) ≤ suc (suc (suc n))
unit_low n in_core d e a b ts = up (ls {n = suc (suc n)} _ (all_items_are segment error_of (error_low (suc (suc n))) (item_low n in_core d e a b) ts))
