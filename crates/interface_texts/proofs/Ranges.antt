-- What a tree hides stands in order, where its nodes do.
use Rattle.std.proofs.Common.{ℕ, zero, suc, ◌<◌, ◌≤◌, ◌++◌, Bool, true, false, List, [], ◌∷◌, arith}
use Rattle.std.specs.List.{flat_map}
use Rattle.readings.specs.Leading.{Each}
use Rattle.dart_tree.specs.Tree.{Tree, present, empty_body, getter, setter, plain_function, variable_list, variable, constructor_declaration, factory_declaration, method_declaration, field_declaration, operator_declaration, class_declaration, mixin_declaration, function_declaration, variable_declaration, unit}
use Rattle.dart_tree.specs.Nodes.{list_of, list_of_part, parts_of}
use Rattle.dart_tree.specs.Places.{span_of}
use Rattle.place_laws.specs.Standing.{nodes_at, InOrder, PartsInOrder}
use Rattle.interface_part.specs.declared.hidden.Hidden.{Hidden}
use Rattle.interface_part.specs.Hidden.{hidden, hidden_body, hidden_in_function, hidden_in_variable, hidden_in_variables, hidden_in_member, hidden_in_item, hidden_in}
use Rattle.interface_part.specs.Order.{RangesInOrder}

-- Each node of a tree has its parts in order.

abbrev pub AllInOrder : Tree → Type 0
AllInOrder t = (level : ℕ) → Each PartsInOrder (nodes_at level t)

each_front : {A : Type 0} (P : A → Type 0) (xs ys : List A) → Each P (xs ++ ys) → Each P xs
each_front P [] ys h = tt
each_front P (x ∷ xs) ys h = (h.0, each_front P xs ys h.1)

each_back : {A : Type 0} (P : A → Type 0) (xs ys : List A) → Each P (xs ++ ys) → Each P ys
each_back P [] ys h = h
each_back P (x ∷ xs) ys h = each_back P xs ys h.1

each_part : (ts : List Tree) → ((level : ℕ) → Each PartsInOrder (flat_map (nodes_at level) ts)) → Each AllInOrder ts
each_part [] h = tt
each_part (t ∷ ts) h =
    (λ level. each_front PartsInOrder (nodes_at level t) (flat_map (nodes_at level) ts) (h level), each_part ts (λ level. each_back PartsInOrder (nodes_at level t) (flat_map (nodes_at level) ts) (h level)))

parts_in_order : (t : Tree) → AllInOrder t → Each AllInOrder (parts_of t)
parts_in_order t h = each_part (parts_of t) (λ level. h (suc level))

in_order_from : (before from to : ℕ) (ts : List Tree) → before ≤ from → InOrder from to ts → InOrder before to ts
in_order_from before from to [] h r = omega (arith, h, r)
in_order_from before from to (t ∷ ts) h r = (omega (arith, h, r.0), r.1, r.2)

in_order_back : (from to : ℕ) (ts us : List Tree) → InOrder from to (ts ++ us) → InOrder from to us
in_order_back from to [] us r = r
in_order_back from to (t ∷ ts) us r = in_order_from from (span_of t).end to us (omega (arith, r.0, r.1)) (in_order_back (span_of t).end to ts us r.2)

-- Ranges between two offsets, one behind the other.

abbrev Between : (from to : ℕ) → List Hidden → Type 0
Between from to [] = from ≤ to
Between from to (h ∷ hs) = (from ≤ h.span.start) × (h.span.start ≤ h.span.end) × Between h.span.end to hs

between_from : (before from to : ℕ) (hs : List Hidden) → before ≤ from → Between from to hs → Between before to hs
between_from before from to [] l r = omega (arith, l, r)
between_from before from to (h ∷ hs) l r = (omega (arith, l, r.0), r.1, r.2)

between_append : (from mid to : ℕ) (hs ks : List Hidden) → Between from mid hs → Between mid to ks → Between from to (hs ++ ks)
between_append from mid to [] ks r s = between_from from mid to ks r s
between_append from mid to (h ∷ hs) ks r s = (r.0, r.1, between_append h.span.end mid to hs ks r.2 s)

between_to : (from to behind : ℕ) (hs : List Hidden) → to ≤ behind → Between from to hs → Between from behind hs
between_to from to behind [] l r = omega (arith, l, r)
between_to from to behind (h ∷ hs) l r = (r.0, r.1, between_to h.span.end to behind hs l r.2)

between_order : (before from to : ℕ) (hs : List Hidden) → before ≤ from → Between from to hs → RangesInOrder before hs
between_order before from to [] l r = tt
between_order before from to (h ∷ hs) l r = (omega (arith, l, r.0), r.1, between_order h.span.end h.span.end to hs (same h.span.end) r.2) where
  same : (a : ℕ) → a ≤ a
  same a = omega arith

-- what a node hides stands within it
abbrev Within : (Tree → List Hidden) → Type 0
Within f = (t : Tree) → AllInOrder t → (span_of t).start < (span_of t).end → Between (span_of t).start (span_of t).end (f t)

-- what nodes in order hide is in order
all_within : (f : Tree → List Hidden) → Within f → (from to : ℕ) (ts : List Tree) → InOrder from to ts → Each AllInOrder ts → Between from to (flat_map f ts)
all_within f h from to [] r each = r
all_within f h from to (t ∷ ts) r each =
    between_append from (span_of t).end to (f t) (flat_map f ts) (between_from from (span_of t).start (span_of t).end (f t) r.0 (h t each.0 r.1)) (all_within f h (span_of t).end to ts r.2 each.1)

-- so of one node
one_within : (f : Tree → List Hidden) → Within f → (from to : ℕ) (t : Tree) → InOrder from to (t ∷ []) → AllInOrder t → Between from to (f t)
one_within f h from to t r all =
    between_to from (span_of t).end to (f t) r.2 (between_from from (span_of t).start (span_of t).end (f t) r.0 (h t all r.1))

none_within : (from to : ℕ) → from < to → from ≤ to
none_within from to h = omega (arith, h)

one_hidden : (in_mixin : Bool) → Within (hidden in_mixin)
one_hidden in_mixin t all some = omega (arith, some)

body_within : (in_mixin : Bool) → Within (hidden_body in_mixin)
body_within in_mixin (empty_body at) all some = none_within at.span.start at.span.end some
body_within in_mixin t all some = one_hidden in_mixin t all some

-- the last of the parts
last_within : (f : Tree → List Hidden) → Within f → (t last : Tree) (front : List Tree) → InOrder (span_of t).start (span_of t).end (front ++ last ∷ []) → Each AllInOrder (front ++ last ∷ []) → Between (span_of t).start (span_of t).end (f last)
last_within f h t last front r each =
    one_within f h (span_of t).start (span_of t).end last (in_order_back (span_of t).start (span_of t).end front (last ∷ []) r) (each_back AllInOrder front (last ∷ []) each).0

function_within : (in_mixin : Bool) → Within (hidden_in_function in_mixin)
function_within in_mixin (getter at result name body) all some =
    let t = getter at result name body in last_within (hidden_body in_mixin) (body_within in_mixin) t body (list_of_part result) (all zero).0 (parts_in_order t all)
function_within in_mixin (setter at result name parameters body) all some =
    let t = setter at result name parameters body in
    let front = list_of_part result in
    one_within (hidden_body in_mixin) (body_within in_mixin) at.span.start at.span.end body
    (in_order_back at.span.start at.span.end (parameters ∷ []) (body ∷ []) (in_order_back at.span.start at.span.end front (parameters ∷ body ∷ []) (all zero).0))
    (each_back AllInOrder front (parameters ∷ body ∷ []) (parts_in_order t all)).1.0
function_within in_mixin (plain_function at result name type_parameters parameters body) all some =
    let t = plain_function at result name type_parameters parameters body in
    let front = list_of_part result in
    let types = list_of type_parameters in
    let rest = parameters ∷ body ∷ [] in
    one_within (hidden_body in_mixin) (body_within in_mixin) at.span.start at.span.end body
    (in_order_back at.span.start at.span.end (parameters ∷ []) (body ∷ []) (in_order_back at.span.start at.span.end types rest (in_order_back at.span.start at.span.end front (types ++ rest) (all zero).0)))
    (each_back AllInOrder types rest (each_back AllInOrder front (types ++ rest) (parts_in_order t all))).1.0
function_within in_mixin t all some = none_within (span_of t).start (span_of t).end some

variable_within : (in_mixin : Bool) → Within (hidden_in_variable in_mixin)
variable_within in_mixin (variable at name (present initializer)) all some =
    one_within (hidden in_mixin) (one_hidden in_mixin) at.span.start at.span.end initializer (all zero).0 (parts_in_order (variable at name (present initializer)) all).0
variable_within in_mixin t all some = none_within (span_of t).start (span_of t).end some

variables_within : (in_mixin : Bool) → Within (hidden_in_variables in_mixin)
variables_within in_mixin (variable_list at is_final (present written) variables) all some =
    all_within (hidden_in_variable in_mixin) (variable_within in_mixin) at.span.start at.span.end (list_of variables)
    (in_order_back at.span.start at.span.end (written ∷ []) (list_of variables) (all zero).0) (parts_in_order (variable_list at is_final (present written) variables) all).1
variables_within in_mixin t all some = none_within (span_of t).start (span_of t).end some

member_within : (in_mixin : Bool) → Within (hidden_in_member in_mixin)
member_within in_mixin (constructor_declaration at metadata name parameters initializers body) all some =
    let t = constructor_declaration at metadata name parameters initializers body in
    last_within (hidden_body in_mixin) (body_within in_mixin) t body (parameters ∷ list_of initializers) (all zero).0 (parts_in_order t all)
member_within in_mixin (factory_declaration at metadata name parameters body) all some =
    let t = factory_declaration at metadata name parameters body in last_within (hidden_body in_mixin) (body_within in_mixin) t body (parameters ∷ []) (all zero).0 (parts_in_order t all)
member_within in_mixin (method_declaration at metadata is_static function) all some =
    let t = method_declaration at metadata is_static function in last_within (hidden_in_function in_mixin) (function_within in_mixin) t function [] (all zero).0 (parts_in_order t all)
member_within in_mixin (field_declaration at metadata is_static variables) all some =
    let t = field_declaration at metadata is_static variables in last_within (hidden_in_variables in_mixin) (variables_within in_mixin) t variables [] (all zero).0 (parts_in_order t all)
member_within in_mixin (operator_declaration at metadata result name parameters body) all some =
    let t = operator_declaration at metadata result name parameters body in
    let front = list_of_part result in
    one_within (hidden_body in_mixin) (body_within in_mixin) at.span.start at.span.end body
    (in_order_back at.span.start at.span.end (parameters ∷ []) (body ∷ []) (in_order_back at.span.start at.span.end front (parameters ∷ body ∷ []) (all zero).0))
    (each_back AllInOrder front (parameters ∷ body ∷ []) (parts_in_order t all)).1.0
member_within in_mixin t all some = none_within (span_of t).start (span_of t).end some

item_within : Within hidden_in_item
item_within (class_declaration at metadata is_abstract name type_parameters superclass mixins interfaces members) all some =
    let t = class_declaration at metadata is_abstract name type_parameters superclass mixins interfaces members in
    let five = list_of members in
    let four = list_of interfaces ++ five in
    let three = list_of mixins ++ four in
    let two = list_of_part superclass ++ three in
    let start = at.span.start in
    let end = at.span.end in
    all_within (hidden_in_member false) (member_within false) start end five
    (in_order_back start end (list_of interfaces) five (in_order_back start end (list_of mixins) four (in_order_back start end (list_of_part superclass) three (in_order_back start end (list_of type_parameters) two (all zero).0))))
    (each_back AllInOrder (list_of interfaces) five (each_back AllInOrder (list_of mixins) four (each_back AllInOrder (list_of_part superclass) three (each_back AllInOrder (list_of type_parameters) two (parts_in_order t all)))))
item_within (mixin_declaration at metadata name type_parameters constraints interfaces members) all some =
    let t = mixin_declaration at metadata name type_parameters constraints interfaces members in
    let four = list_of members in
    let three = list_of interfaces ++ four in
    let two = list_of constraints ++ three in
    let start = at.span.start in
    let end = at.span.end in
    all_within (hidden_in_member true) (member_within true) start end four
    (in_order_back start end (list_of interfaces) four (in_order_back start end (list_of constraints) three (in_order_back start end (list_of type_parameters) two (all zero).0)))
    (each_back AllInOrder (list_of interfaces) four (each_back AllInOrder (list_of constraints) three (each_back AllInOrder (list_of type_parameters) two (parts_in_order t all))))
item_within (function_declaration at metadata function) all some =
    let t = function_declaration at metadata function in last_within (hidden_in_function false) (function_within false) t function [] (all zero).0 (parts_in_order t all)
item_within (variable_declaration at metadata variables) all some =
    let t = variable_declaration at metadata variables in last_within (hidden_in_variables false) (variables_within false) t variables [] (all zero).0 (parts_in_order t all)
item_within t all some = none_within (span_of t).start (span_of t).end some

pub hidden_in_order : (t : Tree) → AllInOrder t → RangesInOrder 0 (hidden_in t)
hidden_in_order (unit at items) all =
    between_order 0 at.span.start at.span.end (flat_map hidden_in_item (list_of items)) (omega arith)
    (all_within hidden_in_item item_within at.span.start at.span.end (list_of items) (all zero).0 (parts_in_order (unit at items) all))
hidden_in_order t all = tt
