-- Directives that stand where they may not.
use Rattle.std.specs.Prelude.{Bool, true, false, ◌||◌, List, [], ◌∷◌, ◌++◌, if◌then◌else◌}
use Rattle.std.specs.List.{list_any}
use Rattle.dart_tree.specs.Tree.{Tree, Trees, no_more, more, class_declaration, mixin_declaration, type_alias, function_declaration, variable_declaration, library_directive, import_directive, export_directive, part_directive, part_of_directive, part_of_library_directive}
use Rattle.dart_tree.specs.Places.{span_of}
use Rattle.dart_tree.specs.declared.places.Span.{Span}
use Rattle.directives.specs.declared.order.Role.{Role}
use Rattle.directives.specs.declared.order.Role.TheVariants.{Error, Declaration, Library, Import, Part, PartOf}
use Rattle.directives.specs.declared.order.Seen.{Seen}

-- what an item is for the order of directives; what derives nothing counts as none of them
abbrev pub role_of : Tree → Role
role_of (class_declaration at metadata is_abstract name type_parameters superclass mixins interfaces members) = Declaration
role_of (mixin_declaration at metadata name type_parameters constraints interfaces members) = Declaration
role_of (type_alias at metadata name written) = Declaration
role_of (function_declaration at metadata function) = Declaration
role_of (variable_declaration at metadata variables) = Declaration
role_of (library_directive at names) = Library
role_of (import_directive at uri prefix combinators) = Import
role_of (export_directive at uri combinators) = Import
role_of (part_directive at uri) = Part
role_of (part_of_directive at uri) = PartOf
role_of (part_of_library_directive at names) = PartOf
role_of _ = Error

abbrev pub is_declaration : Role → Bool
is_declaration Declaration = true
is_declaration Error = false
is_declaration Library = false
is_declaration Import = false
is_declaration Part = false
is_declaration PartOf = false

abbrev pub is_directive : Role → Bool
is_directive Error = false
is_directive Declaration = false
is_directive Library = true
is_directive Import = true
is_directive Part = true
is_directive PartOf = true

abbrev pub is_part : Role → Bool
is_part Part = true
is_part Error = false
is_part Declaration = false
is_part Library = false
is_part Import = false
is_part PartOf = false

abbrev pub is_part_of : Role → Bool
is_part_of PartOf = true
is_part_of Error = false
is_part_of Declaration = false
is_part_of Library = false
is_part_of Import = false
is_part_of Part = false

-- what the items before one are for the order
abbrev pub seen_in : List Role → Seen
seen_in before = record { declaration = list_any is_declaration before; directive = list_any is_directive before; part = list_any is_part before; part_of = list_any is_part_of before }

-- what stands before the next item
abbrev pub seen_after : Seen → Role → Seen
seen_after seen role = record { declaration = seen.declaration || is_declaration role; directive = seen.directive || is_directive role; part = seen.part || is_part role; part_of = seen.part_of || is_part_of role }

-- an item is a directive that may not stand behind what stands before it: no directive follows a declaration, `library` is the first directive, no import or export follows a part, and in a unit with a `part of` that is the only directive, the first of several
abbrev pub is_misplaced : (beside : Bool) → Seen → Role → Bool
is_misplaced beside seen Error = false
is_misplaced beside seen Declaration = false
is_misplaced beside seen Library = beside || seen.declaration || seen.directive
is_misplaced beside seen Import = beside || seen.declaration || seen.part
is_misplaced beside seen Part = beside || seen.declaration
is_misplaced beside seen PartOf = seen.part_of || seen.declaration

-- where an item stands, if it may not stand there
abbrev pub misplaced_item : (beside : Bool) → Seen → Tree → List Span
misplaced_item beside seen item = if is_misplaced beside seen (role_of item) then span_of item ∷ [] else []

-- those among items behind which others stand before
abbrev pub misplaced_behind : (beside : Bool) → (before : List Role) → Trees → List Span
misplaced_behind beside before no_more = []
misplaced_behind beside before (more first rest) = misplaced_item beside (seen_in before) first ++ misplaced_behind beside (before ++ role_of first ∷ []) rest

-- the same, from what is known of those before
abbrev pub misplaced_from : (beside : Bool) → Seen → Trees → List Span
misplaced_from beside seen no_more = []
misplaced_from beside seen (more first rest) = misplaced_item beside seen first ++ misplaced_from beside (seen_after seen (role_of first)) rest

-- a `part of` is among items
abbrev pub has_part_of : Trees → Bool
has_part_of no_more = false
has_part_of (more first rest) = is_part_of (role_of first) || has_part_of rest

-- where the directives among the items of a unit stand that may not stand there
abbrev pub misplaced_in : Trees → List Span
misplaced_in items = misplaced_behind (has_part_of items) [] items
