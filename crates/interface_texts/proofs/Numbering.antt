-- What a tree hides does not depend on the numbers of its nodes.
use Rattle.std.proofs.Common.{◌≡◌, ℕ, ◌+◌, ◌++◌, Bool, true, false, List, [], ◌∷◌, map, refl, sym, ap, ◌∙◌}
use Rattle.std.specs.List.{flat_map}
use Rattle.dart_tree.specs.Tree.{Tree, Trees, no_more, more, present, empty_body, getter, setter, plain_function, variable_list, variable, constructor_declaration, factory_declaration, method_declaration, field_declaration, operator_declaration, class_declaration, mixin_declaration, function_declaration, variable_declaration, unit}
use Rattle.dart_tree.specs.Nodes.{list_of}
use Rattle.dart_tree.specs.Numbers.{nodes_in, numbered, all_numbered, span_at, spans_of}
use Rattle.dart_tree.specs.Places.{span_of}
use Rattle.dart_tree.specs.declared.places.Place.{Place}
use Rattle.dart_tree.specs.declared.places.Span.{Span}
use Rattle.tree_numbers.specs.PlaceLaws.{spans_of-numbered, place_of-first}
use Rattle.interface_part.specs.declared.hidden.Hidden.{Hidden}
use Rattle.interface_part.specs.Hidden.{hidden, hidden_body, hidden_in_function, hidden_in_variable, hidden_in_variables, hidden_in_member, hidden_in_item, hidden_in}

-- the first of ranges, or another
abbrev first_or : Span → List Span → Span
first_or span [] = span
first_or span (first ∷ rest) = first

first_span : (span : Span) (t : Tree) → first_or span (spans_of t) ≡ span_of t
first_span span t = ap (λ (at : List Place). first_or span (map span_at at)) (place_of-first t).1

-- a tree stands where it did
span_kept : (n : ℕ) (t : Tree) → span_of (numbered n t) ≡ span_of t
span_kept n t =
    sym (first_span (span_of t) (numbered n t)) ∙ ap (λ (spans : List Span). first_or (span_of t) spans) (spans_of-numbered n t) ∙ first_span (span_of t) t

hidden_kept : (n : ℕ) (in_mixin : Bool) (t : Tree) → hidden in_mixin (numbered n t) ≡ hidden in_mixin t
hidden_kept n in_mixin t = ap (λ (at : Span). record { span = at; in_mixin = in_mixin } ∷ []) (span_kept n t)

-- so of the trees of a list
all_kept : (f : Tree → List Hidden) → ((n : ℕ) (t : Tree) → f (numbered n t) ≡ f t) → (n : ℕ) (ts : Trees) → flat_map f (list_of (all_numbered n ts)) ≡ flat_map f (list_of ts)
all_kept f h n no_more = refl
all_kept f h n (more first rest) =
    ap (λ (front : List Hidden). front ++ flat_map f (list_of (all_numbered (n + nodes_in first) rest))) (h n first)
    ∙ ap (λ (behind : List Hidden). f first ++ behind) (all_kept f h (n + nodes_in first) rest)

body_kept : (in_mixin : Bool) (n : ℕ) (t : Tree) → hidden_body in_mixin (numbered n t) ≡ hidden_body in_mixin t
body_kept in_mixin n (empty_body at) = refl
body_kept in_mixin n t = hidden_kept n in_mixin t

function_kept : (in_mixin : Bool) (n : ℕ) (t : Tree) → hidden_in_function in_mixin (numbered n t) ≡ hidden_in_function in_mixin t
function_kept in_mixin n (getter at result name body) = body_kept in_mixin _ body
function_kept in_mixin n (setter at result name parameters body) = body_kept in_mixin _ body
function_kept in_mixin n (plain_function at result name type_parameters parameters body) = body_kept in_mixin _ body
function_kept in_mixin n t = refl

variable_kept : (in_mixin : Bool) (n : ℕ) (t : Tree) → hidden_in_variable in_mixin (numbered n t) ≡ hidden_in_variable in_mixin t
variable_kept in_mixin n (variable at name (present initializer)) = hidden_kept _ in_mixin initializer
variable_kept in_mixin n t = refl

variables_kept : (in_mixin : Bool) (n : ℕ) (t : Tree) → hidden_in_variables in_mixin (numbered n t) ≡ hidden_in_variables in_mixin t
variables_kept in_mixin n (variable_list at is_final (present written) variables) = all_kept (hidden_in_variable in_mixin) (variable_kept in_mixin) _ variables
variables_kept in_mixin n t = refl

member_kept : (in_mixin : Bool) (n : ℕ) (t : Tree) → hidden_in_member in_mixin (numbered n t) ≡ hidden_in_member in_mixin t
member_kept in_mixin n (constructor_declaration at metadata name parameters initializers body) = body_kept in_mixin _ body
member_kept in_mixin n (factory_declaration at metadata name parameters body) = body_kept in_mixin _ body
member_kept in_mixin n (method_declaration at metadata is_static function) = function_kept in_mixin _ function
member_kept in_mixin n (field_declaration at metadata is_static variables) = variables_kept in_mixin _ variables
member_kept in_mixin n (operator_declaration at metadata result name parameters body) = body_kept in_mixin _ body
member_kept in_mixin n t = refl

item_kept : (n : ℕ) (t : Tree) → hidden_in_item (numbered n t) ≡ hidden_in_item t
item_kept n (class_declaration at metadata is_abstract name type_parameters superclass mixins interfaces members) = all_kept (hidden_in_member false) (member_kept false) _ members
item_kept n (mixin_declaration at metadata name type_parameters constraints interfaces members) = all_kept (hidden_in_member true) (member_kept true) _ members
item_kept n (function_declaration at metadata function) = function_kept false _ function
item_kept n (variable_declaration at metadata variables) = variables_kept false _ variables
item_kept n t = refl

pub numbered_hides : (n : ℕ) (t : Tree) → hidden_in (numbered n t) ≡ hidden_in t
numbered_hides n (unit at items) = all_kept hidden_in_item item_kept _ items
numbered_hides n t = refl
