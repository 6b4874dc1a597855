-- Whole texts that are alike but for their bodies hide alike.
use Rattle.std.proofs.Common.{◌≡◌, ℕ, ◌++◌, Bool, true, false, List, [], ◌∷◌, map, refl, sym, ap, ◌∙◌}
use Rattle.std.specs.List.{flat_map}
use Rattle.dart_tree.specs.Tree.{Tree, Trees, no_more, more, present, empty_body, getter, setter, plain_function, variable_list, variable, constructor_declaration, factory_declaration, method_declaration, field_declaration, operator_declaration, class_declaration, mixin_declaration, function_declaration, variable_declaration, unit}
use Rattle.dart_tree.specs.Nodes.{list_of}
use Rattle.dart_tree.specs.declared.places.Place.{Place}
use Rattle.unread_lists.specs.WithLists.{with_lists, all_with_lists}
use Rattle.unread_lists.specs.KeptLaws.{place_of-with_lists}
use Rattle.dart_tokens.specs.declared.grouped_token.GroupedToken.{GroupedToken as Token}
use Rattle.grammar.specs.Statements.{segment, error_of}
use Rattle.grammar.specs.Descents.{lower}
use Rattle.grammar.specs.DeclarationDescents.{take_item, lower_unit}
use Rattle.grammar.specs.Whole.{statements_at, most_nodes, whole, unit_of}
use Rattle.readings.specs.Descent.{all_items}
use Rattle.interface_part.specs.declared.hidden.Hidden.{Hidden}
use Rattle.interface_part.specs.Hidden.{hidden, hidden_body, hidden_in_function, hidden_in_variable, hidden_in_variables, hidden_in_member, hidden_in_item, hidden_in}
use Rattle.body_laws.specs.Bodies.{Moves, Freedom, none, below, here, plain, suits_texts, Alike, moved}
use Rattle.body_laws.proofs.Follow.{Kin}
use Rattle.body_laws.proofs.Lists.{all_items_found}
use Rattle.body_laws.proofs.Same.{all_hide}
use Rattle.body_laws.proofs.Bodies.{followed, written_clear}
use Rattle.body_laws.proofs.Declarations.{ItemHides, Heads, item_follows, bound_heads, plain_heads}

-- The lists of statements that are read in bodies hide nothing.

abbrev Kept : (Tree → List Hidden) → Type 0
Kept f = (lists : ℕ → Place → Trees) (n : ℕ) (t : Tree) → f (with_lists lists n t) ≡ f t

hidden_kept : (b : Bool) → Kept (hidden b)
hidden_kept b lists n t = ap (λ (at : Place). record { span = at.span; in_mixin = b } ∷ []) (place_of-with_lists lists n t)

all_kept : (f : Tree → List Hidden) → Kept f → (lists : ℕ → Place → Trees) (n : ℕ) (ts : Trees) → flat_map f (list_of (all_with_lists lists n ts)) ≡ flat_map f (list_of ts)
all_kept f h lists n no_more = refl
all_kept f h lists n (more first rest) =
    ap (λ (front : List Hidden). front ++ flat_map f (list_of (all_with_lists lists n rest))) (h lists n first) ∙ ap (λ (behind : List Hidden). f first ++ behind) (all_kept f h lists n rest)

body_kept : (b : Bool) → Kept (hidden_body b)
body_kept b lists n (empty_body at) = refl
body_kept b lists n t = hidden_kept b lists n t

function_kept : (b : Bool) → Kept (hidden_in_function b)
function_kept b lists n (getter at result name body) = body_kept b lists _ body
function_kept b lists n (setter at result name parameters body) = body_kept b lists _ body
function_kept b lists n (plain_function at result name type_parameters parameters body) = body_kept b lists _ body
function_kept b lists n t = refl

variable_kept : (b : Bool) → Kept (hidden_in_variable b)
variable_kept b lists n (variable at name (present initializer)) = hidden_kept b lists _ initializer
variable_kept b lists n t = refl

variables_kept : (b : Bool) → Kept (hidden_in_variables b)
variables_kept b lists n (variable_list at is_final (present written) variables) = all_kept (hidden_in_variable b) (variable_kept b) lists _ variables
variables_kept b lists n t = refl

member_kept : (b : Bool) → Kept (hidden_in_member b)
member_kept b lists n (constructor_declaration at metadata name parameters initializers body) = body_kept b lists _ body
member_kept b lists n (factory_declaration at metadata name parameters body) = body_kept b lists _ body
member_kept b lists n (method_declaration at metadata is_static function) = function_kept b lists _ function
member_kept b lists n (field_declaration at metadata is_static variables) = variables_kept b lists _ variables
member_kept b lists n (operator_declaration at metadata result name parameters body) = body_kept b lists _ body
member_kept b lists n t = refl

item_kept : Kept hidden_in_item
item_kept lists n (class_declaration at metadata is_abstract name type_parameters superclass mixins interfaces members) = all_kept (hidden_in_member false) (member_kept false) lists _ members
item_kept lists n (mixin_declaration at metadata name type_parameters constraints interfaces members) = all_kept (hidden_in_member true) (member_kept true) lists _ members
item_kept lists n (function_declaration at metadata function) = function_kept false lists _ function
item_kept lists n (variable_declaration at metadata variables) = variables_kept false lists _ variables
item_kept lists n t = refl

unit_kept : Kept hidden_in
unit_kept lists n (unit at items) = all_kept hidden_in_item item_kept lists _ items
unit_kept lists n t = refl

-- Whole texts.

error_hides : (m : Moves) (read other : List Token) → ItemHides m (error_of read) (error_of other)
error_hides m read other = refl

units_hide : (m : Moves) (f : Freedom) (steps : ℕ) (in_core : Bool) (ts us : List Token) → Heads (record { moves = m; freedom = f }) in_core (lower 199) (lower 198) → Alike m f steps false ts us →
    hidden_in (lower_unit in_core (lower 199) (lower 198) us) ≡ map (moved m) (hidden_in (lower_unit in_core (lower 199) (lower 198) ts))
units_hide m f steps in_core ts us found a =
    let r : Kin = record { moves = m; freedom = f } in
    all_hide m hidden_in_item (all_items (take_item in_core (lower 199) (lower 198)) segment error_of ts) (all_items (take_item in_core (lower 199) (lower 198)) segment error_of us)
    (all_items_found r false (ItemHides m) (take_item in_core (lower 199) (lower 198)) (take_item in_core (lower 199) (lower 198)) error_of (item_follows r in_core (lower 199) (lower 198) found (followed 199) (followed 198)) (error_hides m) ts us (record { steps = steps; alike = a }))

-- the tree of a text is read as its way tells
abbrev pub ReadSo : Type 0
ReadSo = (in_core : Bool) (tokens : List Token) → unit_of in_core tokens ≡ whole tokens most_nodes (lower_unit in_core (lower 199) (lower 198) tokens)

whole_hide : ReadSo → (m : Moves) (in_core : Bool) (ts us : List Token) → hidden_in (lower_unit in_core (lower 199) (lower 198) us) ≡ map (moved m) (hidden_in (lower_unit in_core (lower 199) (lower 198) ts)) →
    hidden_in (unit_of in_core us) ≡ map (moved m) (hidden_in (unit_of in_core ts))
whole_hide is m in_core ts us e =
    let one : hidden_in (unit_of in_core ts) ≡ hidden_in (lower_unit in_core (lower 199) (lower 198) ts) =
    ap hidden_in (is in_core ts) ∙ unit_kept (statements_at most_nodes ts) most_nodes (lower_unit in_core (lower 199) (lower 198) ts) in
    let two : hidden_in (unit_of in_core us) ≡ hidden_in (lower_unit in_core (lower 199) (lower 198) us) =
    ap hidden_in (is in_core us) ∙ unit_kept (statements_at most_nodes us) most_nodes (lower_unit in_core (lower 199) (lower 198) us) in
    two ∙ e ∙ ap (λ (hs : List Hidden). map (moved m) hs) (sym one)

-- classes and mixins at the top level of a text
found_heads : (m : Moves) (f : Freedom) → suits_texts f ≡ true → (in_core : Bool) → Heads (record { moves = m; freedom = f }) in_core (lower 199) (lower 198)
found_heads m none s in_core = bound_heads (record { moves = m; freedom = none }) refl in_core (lower 199) (lower 198) (followed 199) (followed 198)
found_heads m below s in_core = bound_heads (record { moves = m; freedom = below }) refl in_core (lower 199) (lower 198) (followed 199) (followed 198)
found_heads m here s in_core = absurd (cc)
found_heads m plain s in_core =
    let r : Kin = record { moves = m; freedom = plain } in plain_heads r in_core (lower 199) (lower 198) (followed 199) (written_clear r refl 199) (followed 198)

pub texts_hide : ReadSo → (m : Moves) (f : Freedom) (steps : ℕ) (in_core : Bool) (ts us : List Token) → suits_texts f ≡ true → Alike m f steps false ts us → hidden_in (unit_of in_core us) ≡ map (moved m) (hidden_in (unit_of in_core ts))
texts_hide is m f steps in_core ts us s a = whole_hide is m in_core ts us (units_hide m f steps in_core ts us (found_heads m f s in_core) a)
