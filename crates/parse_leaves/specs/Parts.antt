-- What the parser holds of a node before it is made.
use Rattle.std.specs.Prelude.{◌≡◌, ◌≤◌, ℕ, Bool, List, Option, Some, None}
use Rattle.dart_tree.specs.Tree.{Tree, part_of, trees_of}
use Rattle.dart_tree.specs.Heights.{higher, height, heights, height_of_part}
use Rattle.grammar.specs.Types.{Tail, tail}
use Rattle.grammar.specs.Expressions.{Contents, listed, entries, Selector, member, element, check, called, Side, operated, tested, cast, choices}
use Rattle.parse_leaves.specs.declared.parts.Tail.{Tail as ReadTail}
use Rattle.parse_leaves.specs.declared.parts.Contents.{Contents as ReadContents}
use Rattle.parse_leaves.specs.declared.parts.Contents.TheVariants as read_contents
use Rattle.parse_leaves.specs.declared.parts.Selector.{Selector as ReadSelector}
use Rattle.parse_leaves.specs.declared.parts.Selector.TheVariants as read_selector
use Rattle.parse_leaves.specs.declared.parts.Side.{Side as ReadSide}
use Rattle.parse_leaves.specs.declared.parts.Side.TheVariants as read_side
use Rattle.parse_leaves.specs.declared.parts.Header.{Header as ReadHeader}
use Rattle.parse_leaves.specs.declared.parts.Header.TheVariants as read_header
use Rattle.dart_tree.specs.declared.statements.ForInitializer.{ForInitializer}
use Rattle.dart_tree.specs.declared.statements.ForInitializer.TheVariants as for_initializer
use Rattle.grammar.specs.Statements.{Header, counted, assigned, declaring}

-- Types.

abbrev pub tail_of : ReadTail → Tail
tail_of t = tail t.type_parameters.items t.parameters.items t.optional.items t.nullable

abbrev pub tail_height : Tail → ℕ
tail_height (tail type_parameters parameters optional nullable) = higher (heights (trees_of type_parameters)) (higher (heights (trees_of parameters)) (heights (trees_of optional)))

-- the height of what may be left out is known, and it is within the room
abbrev pub IsPartDeep : ℕ → Option Tree → ℕ → Type 0
IsPartDeep room t h = (h ≡ height_of_part (part_of t)) × (h ≤ room)

-- Expressions.

abbrev pub contents_of : ReadContents → Contents
contents_of (read_contents.Listed all) = listed all.items
contents_of (read_contents.Entries all) = entries all.items

abbrev pub contents_height : Contents → ℕ
contents_height (listed all) = heights (trees_of all)
contents_height (entries all) = heights (trees_of all)

abbrev pub selector_of : ReadSelector → Selector
selector_of (read_selector.Member null_aware name) = member null_aware name
selector_of (read_selector.Element null_aware bracket index) = element null_aware bracket index
selector_of read_selector.Check = check
selector_of (read_selector.Called type_arguments arguments) = called type_arguments arguments

abbrev pub selector_height : Selector → ℕ
selector_height (member null_aware name) = 0
selector_height (element null_aware bracket index) = height index
selector_height check = 0
selector_height (called type_arguments arguments) = higher (height_of_part (part_of type_arguments)) (height arguments)

abbrev pub side_of : ReadSide → Side
side_of (read_side.Operated operator right) = operated operator right
side_of (read_side.Tested negated written) = tested negated written
side_of (read_side.Cast written) = cast written
side_of (read_side.Choices then_value else_value) = choices then_value else_value

abbrev pub side_height : Side → ℕ
side_height (operated operator right) = height right
side_height (tested negated written) = height written
side_height (cast written) = height written
side_height (choices then_value else_value) = higher (height then_value) (height else_value)

-- Statements.

abbrev pub initial_of : ForInitializer → Option Tree
initial_of for_initializer.Absent = None
initial_of (for_initializer.Variables variables) = Some variables
initial_of (for_initializer.Expression value) = Some value

abbrev pub header_of : ReadHeader → Header
header_of (read_header.Counted initializer condition updates) = counted (initial_of initializer) condition updates.items
header_of (read_header.Assigned name iterable) = assigned name iterable
header_of (read_header.Declaring is_final written name iterable) = declaring is_final written name iterable

-- the height of what stands before a name, if something does
abbrev pub declared_height : Option (Bool × Option Tree) → ℕ
declared_height None = 0
declared_height (Some found) = height_of_part (part_of found.1)

abbrev pub header_height : Header → ℕ
header_height (counted initializer condition updates) = higher (height_of_part (part_of initializer)) (higher (height_of_part (part_of condition)) (heights (trees_of updates)))
header_height (assigned name iterable) = height iterable
header_height (declaring final written name iterable) = higher (height_of_part (part_of written)) (height iterable)

-- Lists.

-- the height of two lists of nodes is known, and it is within the room
abbrev pub AreBothDeep : ℕ → List Tree → List Tree → ℕ → Type 0
AreBothDeep room ts us h = (h ≡ higher (heights (trees_of ts)) (heights (trees_of us))) × (h ≤ room)
