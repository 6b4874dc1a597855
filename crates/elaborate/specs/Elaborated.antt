-- The core program of a body.
use Rattle.std.specs.Prelude.{ℕ, ◌+◌, ◌-◌, max, true, List, [], ◌∷◌, map, nat_eq, Option, Some, None, if◌then◌else◌}
use Rattle.std.specs.List.{range_with_len}
use Rattle.std.specs.Option.{option_map_or}
use Rattle.dart_tree.specs.Tree.{Tree}
use Rattle.dart_tree.specs.Places.{place_of}
use Rattle.dart_types.specs.FormedTable.{FormedTable}
use Rattle.dart_types.specs.Ty.{Ty, void}
use Rattle.flow_model.specs.Flow.{declared_in, start_of}
use Rattle.flow_model.specs.declared.locals.LocalId.{LocalId}
use Rattle.judgement.specs.NodeFacts.{NodeFacts}
use Rattle.judgement.specs.declared.meaning.Meaning.{Meaning}
use Rattle.judgement.specs.Surroundings.{of_body}
use Rattle.judgement.specs.Judgement.{run}
use Rattle.rule_laws.specs.Keys.{numbers_said}
use Rattle.core_ir.specs.Program.{Program}
use Rattle.core_ir.specs.declared.points.FunctionId.{FunctionId}
use Rattle.core_ir.specs.declared.points.Term.TheVariants.{End}
use Rattle.core_ir.specs.PointFacts.{PointFacts}
use Rattle.core_emit.specs.Code.{Code, leaf, sequence}
use Rattle.core_emit.specs.declared.steps.Step.TheVariants as step
use Rattle.core_emit.specs.Emitted.{Made, emit, with_point}
use Rattle.elaborate.specs.Sources.{Sources, known_behind, local_meant}
use Rattle.elaborate.specs.Known.{facts}
use Rattle.elaborate.specs.Rows.{statement_code}

-- The types of slots: that of an expression at its node, and that of a local at the name that declares it.

-- the type that a local, if it is this one, is declared with
abbrev pub type_of_local : ℕ → NodeFacts → Option LocalId → Option Ty
type_of_local n said None = None
type_of_local n said (Some var) = if nat_eq var.0 n then declared_in said.after var else None

-- the type that what is said of a node gives the slot of the node with the number n: a node without a type declares what it names
abbrev pub type_by : ℕ → NodeFacts → Option Ty → Option Ty
type_by n said (Some ty) = if nat_eq said.node.0 n then Some ty else None
type_by n said None = type_of_local n said (local_meant said.element)

abbrev pub slot_type_by : ℕ → NodeFacts → Option Ty
slot_type_by n said = type_by n said said.ty

-- the type of the slot of the node with the number n: the first that is said; a node without a value has `void`
abbrev pub slot_type : List NodeFacts → ℕ → Ty
slot_type [] n = void
slot_type (said ∷ rest) n = option_map_or (λ ty. ty) (slot_type_by n said) (slot_type rest n)

-- the number past the greatest of some
abbrev pub past_all : List ℕ → ℕ
past_all [] = 0
past_all (n ∷ ns) = max (n + 1) (past_all ns)

-- how many slots a body has: one for each number from its first to the greatest that is said
abbrev pub slot_count : Sources → ℕ
slot_count x = past_all (numbers_said x.typed) - x.first

-- the types of so many
abbrev pub types_of_slots : Sources → (count : ℕ) → List Ty
types_of_slots x count = map (slot_type x.typed) (range_with_len x.first count)

abbrev pub slot_types : Sources → List Ty
slot_types x = types_of_slots x (slot_count x)

-- The function.

-- the only function
abbrev pub main_function : FunctionId
main_function = record { 0 = 0 }

-- where the function begins: nothing is known
abbrev pub entry_facts : PointFacts
entry_facts = record { reachable = true; listed = [] }

-- the code of a function with this body
abbrev pub function_code : Sources → (body : Tree) → Code
function_code x body = sequence (leaf None entry_facts step.GoOn) (statement_code x body)

-- where the function ends
abbrev pub end_of_function : Sources → (body : Tree) → Made
end_of_function x body = with_point main_function None (facts x (known_behind x (place_of body)) []) End []

-- its points
abbrev pub points_of : Sources → (body : Tree) → Made
points_of x body = emit main_function (function_code x body) (end_of_function x body).entry (end_of_function x body).points

-- the program of a body with these sources
abbrev pub program_of : FormedTable → Sources → (body : Tree) → Program
program_of rows x body = record {
  rows = rows;
  functions = record { slots = slot_types x; entry = (points_of x body).entry } ∷ [];
  points = (points_of x body).points;
  main = main_function;
}

-- what the code of a body is made from
abbrev pub sources_of : FormedTable → (words : List (List ℕ)) → (outside : List Meaning) → (body : Tree) → Sources
sources_of rows words outside body = record {
  words = words;
  first = (place_of body).node.0;
  typed = (run (of_body rows.table words outside) body (start_of [])).nodes;
}

-- the core program of a body
unfoldable pub elaborated : FormedTable → (words : List (List ℕ)) → (outside : List Meaning) → (body : Tree) → Program
elaborated rows words outside body = program_of rows (sources_of rows words outside body) body
