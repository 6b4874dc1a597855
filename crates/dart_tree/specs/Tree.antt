-- Syntax trees, as the rules of the language see them.
use Rattle.std.specs.Prelude.{ℕ, Bool, List, [], ◌∷◌, Option, Some, None}
use Rattle.dart_tokens.specs.declared.token.Kind.{Kind}
use Rattle.dart_tree.specs.declared.names.ConstructorName.{ConstructorName}
use Rattle.dart_tree.specs.declared.names.Identifier.{Identifier}
use Rattle.dart_tree.specs.declared.names.Name.{Name}
use Rattle.dart_tree.specs.declared.names.ParameterKind.{ParameterKind}
use Rattle.dart_tree.specs.declared.operators.AssignmentOperator.{AssignmentOperator}
use Rattle.dart_tree.specs.declared.operators.BinaryOperator.{BinaryOperator}
use Rattle.dart_tree.specs.declared.operators.OperatorName.{OperatorName}
use Rattle.dart_tree.specs.declared.operators.PostfixOperator.{PostfixOperator}
use Rattle.dart_tree.specs.declared.operators.UnaryOperator.{UnaryOperator}
use Rattle.dart_tree.specs.declared.places.Place.{Place}
use Rattle.dart_tree.specs.declared.places.Span.{Span}

mutual
  -- a node with where it stands and the nodes in it, in the order in which they are written
  pub data Tree : Type 0 where
    -- `void`
    void_type : (at : Place) → Tree
    -- `T`, `p.T`, `T<A>`, `T?`: behind an import prefix or not, with type arguments or not
    named_type : (at : Place) (prefix : Option Identifier) (name : Identifier) (arguments : Part) (nullable : Bool) → Tree
    -- `R Function<X>(A a, [B b])`, `?` behind it or not: the required parameters, and then those between brackets or braces
    function_type : (at : Place) (result : Part) (type_parameters : Trees) (parameters : Trees) (optional : Trees) (nullable : Bool) → Tree
    -- `<A, B>`
    type_argument_list : (at : Place) (types : Trees) → Tree
    -- `X` or `X extends B`
    type_parameter : (at : Place) (name : Name) (bound : Part) → Tree
    -- `A` or `A a`, a required parameter of a function type: its name declares nothing
    parameter_type : (at : Place) (written : Tree) (name : Option Identifier) → Tree
    -- `12`, `0x1F`
    integer_literal : (at : Place) (word : ℕ) → Tree
    -- `'a' "b"`: one string or more, side by side
    string_literal : (at : Place) (strings : Trees) → Tree
    -- `true`, `false`
    boolean_literal : (at : Place) (value : Bool) → Tree
    -- `null`
    null_literal : (at : Place) → Tree
    -- `this`
    this_expression : (at : Place) → Tree
    -- `super`
    super_expression : (at : Place) → Tree
    -- `x`
    identifier : (at : Place) (word : ℕ) → Tree
    -- `(e)`
    parenthesis : (at : Place) (inner : Tree) → Tree
    -- `new T(a)`, `new T.n(a)`
    new_expression : (at : Place) (written : Tree) (name : Option Identifier) (arguments : Tree) → Tree
    -- `[a, b]`, `<T>[a, b]`
    list_literal : (at : Place) (type_arguments : Part) (elements : Trees) → Tree
    -- `{k: v}`, `<K, V>{k: v}`
    set_or_map_literal : (at : Place) (type_arguments : Part) (entries : Trees) → Tree
    -- `(x) => e`, `(x) { .. }`
    function_expression : (at : Place) (parameters : Tree) (body : Tree) → Tree
    -- `f<T>` before `(` or `.`
    generic_identifier : (at : Place) (name : Identifier) (type_arguments : Tree) → Tree
    -- `r.m`, `r?.m`
    property_access : (at : Place) (receiver : Tree) (null_aware : Bool) (name : Identifier) → Tree
    -- `r[i]`, `r?[i]`; the range is that of the opening bracket
    index_expression : (at : Place) (receiver : Tree) (null_aware : Bool) (bracket : Span) (index : Tree) → Tree
    -- `e!`
    null_check : (at : Place) (operand : Tree) → Tree
    -- `f(a)`, `f<T>(a)`
    call : (at : Place) (callee : Tree) (type_arguments : Part) (arguments : Tree) → Tree
    -- `-e`, `++e`
    unary_expression : (at : Place) (operator : UnaryOperator) (operand : Tree) → Tree
    -- `e++`
    postfix_expression : (at : Place) (operator : PostfixOperator) (operand : Tree) → Tree
    -- `a + b`, `a && b`
    binary_expression : (at : Place) (operator : BinaryOperator) (left : Tree) (right : Tree) → Tree
    -- `e is T`, `e is! T`
    type_test : (at : Place) (operand : Tree) (negated : Bool) (written : Tree) → Tree
    -- `e as T`
    type_cast : (at : Place) (operand : Tree) (written : Tree) → Tree
    -- `c ? a : b`
    conditional : (at : Place) (condition : Tree) (then_value : Tree) (else_value : Tree) → Tree
    -- `t = e`, `t += e`
    assignment : (at : Place) (operator : AssignmentOperator) (target : Tree) (value : Tree) → Tree
    -- `throw e`
    throw_expression : (at : Place) (value : Tree) → Tree
    -- `r..s`, `r?..s`: one section over what stands before it
    cascade : (at : Place) (receiver : Tree) (null_aware : Bool) (section : Tree) → Tree
    -- the `m` of `r..m`, with which a section begins: no node of its own depth
    cascaded_name : (at : Place) (name : Identifier) → Tree
    -- the `[i]` of `r..[i]`, with which a section begins
    cascaded_index : (at : Place) (bracket : Span) (index : Tree) → Tree
    -- `'a'`: a string without interpolations, or one that never ends
    simple_string : (at : Place) (kind : Kind) (word : ℕ) → Tree
    -- `'a$b${c}d'`: texts, and the interpolations between them
    interpolated_string : (at : Place) (elements : Trees) → Tree
    -- `'a`, or what else of a string stands before, between or behind its interpolations
    string_text : (at : Place) (kind : Kind) (word : ℕ) → Tree
    -- `$b`, `${c}`
    string_interpolation : (at : Place) (value : Tree) → Tree
    -- `k: v`, or `v` alone
    map_entry : (at : Place) (key : Tree) (value : Part) → Tree
    -- `(a, n: b)`
    argument_list : (at : Place) (arguments : Trees) → Tree
    -- `a`, `n: a`
    argument : (at : Place) (name : Option Identifier) (value : Tree) → Tree
    -- `@n`
    annotation : (at : Place) (name : Identifier) → Tree
    -- `(a, [b])`, `(a, {b})`
    parameter_list : (at : Place) (parameters : Trees) → Tree
    -- `int x`, `required final int x = e`, `this.x`
    parameter : (at : Place) (metadata : Trees) (kind : ParameterKind) (is_required : Bool) (is_final : Bool) (written : Part) (is_field : Bool) (name : Name) (default_value : Part) → Tree
    -- `=> e`, with its `;` where there is one
    expression_body : (at : Place) (value : Tree) → Tree
    -- `;`
    empty_body : (at : Place) → Tree
    -- `native;`
    native_body : (at : Place) → Tree
    -- `T get x` and a body
    getter : (at : Place) (result : Part) (name : Name) (body : Tree) → Tree
    -- `T set x(a)` and a body
    setter : (at : Place) (result : Part) (name : Name) (parameters : Tree) (body : Tree) → Tree
    -- `T f<X>(a)` and a body
    plain_function : (at : Place) (result : Part) (name : Name) (type_parameters : Trees) (parameters : Tree) (body : Tree) → Tree
    -- `final int x = e, y`
    variable_list : (at : Place) (is_final : Bool) (written : Part) (variables : Trees) → Tree
    -- `x`, `x = e`
    variable : (at : Place) (name : Name) (initializer : Part) → Tree
    -- `{ .. }`, as a statement or as a body
    block : (at : Place) (statements : Trees) → Tree
    -- `int x = e;`
    variable_statement : (at : Place) (variables : Tree) → Tree
    -- a function declared among statements
    function_statement : (at : Place) (function : Tree) → Tree
    -- `e;`, or `;` alone
    expression_statement : (at : Place) (value : Part) → Tree
    -- `if (c) s`, `if (c) s else t`
    if_statement : (at : Place) (condition : Tree) (then_branch : Tree) (else_branch : Part) → Tree
    -- `while (c) s`
    while_statement : (at : Place) (condition : Tree) (body : Tree) → Tree
    -- `do s while (c);`
    do_statement : (at : Place) (body : Tree) (condition : Tree) → Tree
    -- `for (i; c; u, v) s`, where `i` declares variables or is an expression
    for_statement : (at : Place) (initializer : Part) (condition : Part) (updates : Trees) (body : Tree) → Tree
    -- `for (final int x in e) s`: the variable is declared
    for_in_statement : (at : Place) (is_final : Bool) (written : Part) (name : Name) (iterable : Tree) (body : Tree) → Tree
    -- `for (x in e) s`: a variable declared elsewhere
    for_in_assignment : (at : Place) (name : Name) (iterable : Tree) (body : Tree) → Tree
    -- `switch (e) { .. }`
    switch_statement : (at : Place) (value : Tree) (cases : Trees) → Tree
    -- `case a: case b: default: ..`
    switch_case : (at : Place) (labels : Trees) (is_default : Bool) (statements : Trees) → Tree
    -- `try { .. } on T catch (e) { .. } finally { .. }`
    try_statement : (at : Place) (body : Tree) (handlers : Trees) (finally_block : Part) → Tree
    -- `on T catch (e, s) { .. }`
    catch_clause : (at : Place) (written : Part) (exception : Part) (stack_trace : Part) (body : Tree) → Tree
    -- `return e;`, `return;`
    return_statement : (at : Place) (value : Part) → Tree
    -- `break l;`, `break;`
    break_statement : (at : Place) (label : Option Identifier) → Tree
    -- `continue l;`, `continue;`
    continue_statement : (at : Place) (label : Option Identifier) → Tree
    -- `rethrow;`
    rethrow_statement : (at : Place) → Tree
    -- `l: s`
    labeled_statement : (at : Place) (label : Name) (body : Tree) → Tree
    -- `C.n(a) : x = e, super(b) { .. }`
    constructor_declaration : (at : Place) (metadata : Trees) (name : ConstructorName) (parameters : Tree) (initializers : Trees) (body : Tree) → Tree
    -- `factory C.n(a) { .. }`
    factory_declaration : (at : Place) (metadata : Trees) (name : ConstructorName) (parameters : Tree) (body : Tree) → Tree
    -- a function of a class, `static` or not
    method_declaration : (at : Place) (metadata : Trees) (is_static : Bool) (function : Tree) → Tree
    -- `static final int x = e, y;`
    field_declaration : (at : Place) (metadata : Trees) (is_static : Bool) (variables : Tree) → Tree
    -- `T operator +(a)` and a body
    operator_declaration : (at : Place) (metadata : Trees) (result : Part) (name : OperatorName) (parameters : Tree) (body : Tree) → Tree
    -- `x = e`, `this.x = e`
    field_initializer : (at : Place) (name : Identifier) (value : Tree) → Tree
    -- `super(a)`, `super.n(a)`
    super_initializer : (at : Place) (name : Option Identifier) (arguments : Tree) → Tree
    -- `this(a)`, `this.n(a)`
    redirection : (at : Place) (name : Option Identifier) (arguments : Tree) → Tree
    -- `abstract class C<X> extends S with M implements I { .. }`
    class_declaration : (at : Place) (metadata : Trees) (is_abstract : Bool) (name : Name) (type_parameters : Trees) (superclass : Part) (mixins : Trees) (interfaces : Trees) (members : Trees) → Tree
    -- `mixin M<X> on C implements I { .. }`
    mixin_declaration : (at : Place) (metadata : Trees) (name : Name) (type_parameters : Trees) (constraints : Trees) (interfaces : Trees) (members : Trees) → Tree
    -- `typedef T = A;`
    type_alias : (at : Place) (metadata : Trees) (name : Name) (written : Tree) → Tree
    -- a function of a library
    function_declaration : (at : Place) (metadata : Trees) (function : Tree) → Tree
    -- `final int x = e, y;` of a library
    variable_declaration : (at : Place) (metadata : Trees) (variables : Tree) → Tree
    -- `library a.b;`
    library_directive : (at : Place) (names : Trees) → Tree
    -- `import 'u' as p show a hide b;`
    import_directive : (at : Place) (uri : Tree) (prefix : Part) (combinators : Trees) → Tree
    -- `export 'u' show a hide b;`
    export_directive : (at : Place) (uri : Tree) (combinators : Trees) → Tree
    -- `part 'u';`
    part_directive : (at : Place) (uri : Tree) → Tree
    -- `part of 'u';`
    part_of_directive : (at : Place) (uri : Tree) → Tree
    -- `part of a.b;`
    part_of_library_directive : (at : Place) (names : Trees) → Tree
    -- `show a, b`
    show_combinator : (at : Place) (names : Trees) → Tree
    -- `hide a, b`
    hide_combinator : (at : Place) (names : Trees) → Tree
    -- a name that may be left out, or one of several: of a combinator, a library, a prefix, what a clause catches
    listed_name : (at : Place) (word : ℕ) → Tree
    -- what derives nothing
    error_node : (at : Place) → Tree
    -- a whole text
    unit : (at : Place) (items : Trees) → Tree

  -- nodes in order
  pub data Trees : Type 0 where
    no_more : Trees
    more : (first : Tree) (rest : Trees) → Trees

  -- a node that may be left out
  pub data Part : Type 0 where
    absent : Part
    present : (tree : Tree) → Part

-- the nodes of a list, in its order
abbrev pub trees_of : List Tree → Trees
trees_of [] = no_more
trees_of (t ∷ ts) = more t (trees_of ts)

-- the node that an option holds, or none
abbrev pub part_of : Option Tree → Part
part_of None = absent
part_of (Some t) = present t
