-- What code is made from: the lexemes of words, the first number of the nodes of a body, and what the rules say of its nodes.
use Rattle.std.specs.Prelude.{ℕ, ◌-◌, Bool, true, false, nat_eq, List, [], find, slice_index_or, Option, Some, None}
use Rattle.std.specs.Option.{option_map_or}
use Rattle.dart_tree.specs.Tree.{Tree, identifier, parenthesis}
use Rattle.dart_tree.specs.declared.places.Place.{Place}
use Rattle.flow_model.specs.Flow.{FlowModel}
use Rattle.flow_model.specs.declared.locals.LocalId.{LocalId}
use Rattle.judgement.specs.NodeFacts.{NodeFacts}
use Rattle.judgement.specs.declared.meaning.Meaning.{Meaning}
use Rattle.judgement.specs.declared.meaning.Meaning.TheVariants.{Nothing, Local, Print, Class, Other}
use Rattle.core_ir.specs.declared.points.SlotId.{SlotId}

pub record Sources : Type 0 where
  pub words : List (List ℕ)
  pub first : ℕ
  pub typed : List NodeFacts

-- whether this is said of the node with the number n
abbrev pub is_of_node : ℕ → NodeFacts → Bool
is_of_node n said = nat_eq said.node.0 n

-- what is said of the node at a place
abbrev pub said_at : Sources → Place → Option NodeFacts
said_at x at = find (is_of_node at.node.0) x.typed

-- a model of a point that isn't reached, at which no local is in scope: what is known around a node of which nothing is said
abbrev pub nowhere : FlowModel
nowhere = record { reachable = false; locals = [] }

-- what is known before the node at a place, and behind it
abbrev pub known_before : Sources → Place → FlowModel
known_before x at = option_map_or (λ said. said.before) (said_at x at) nowhere

abbrev pub known_behind : Sources → Place → FlowModel
known_behind x at = option_map_or (λ said. said.after) (said_at x at) nowhere

-- what the node at a place names
abbrev pub named_at : Sources → Place → Option Meaning
named_at x at = option_map_or (λ said. said.element) (said_at x at) None

-- the local that a meaning is, if it is one
abbrev pub local_meant : Option Meaning → Option LocalId
local_meant (Some (Local var)) = Some var
local_meant (Some Nothing) = None
local_meant (Some Print) = None
local_meant (Some (Class class)) = None
local_meant (Some Other) = None
local_meant None = None

-- the local that an expression names, in parentheses too
abbrev pub local_named : Sources → Tree → Option LocalId
local_named x (identifier at word) = local_meant (named_at x at)
local_named x (parenthesis at inner) = local_named x inner
local_named x _ = None

-- whether the node at a place names `print`
abbrev pub is_print : Option Meaning → Bool
is_print (Some Print) = true
is_print (Some Nothing) = false
is_print (Some (Local var)) = false
is_print (Some (Class class)) = false
is_print (Some Other) = false
is_print None = false

-- Slots: each node of the body has one, that of a local is the one of the name that declares it.

-- the slot of the node with the number n
abbrev pub slot_of : Sources → ℕ → SlotId
slot_of x n = record { 0 = n - x.first }

-- that of the node at a place
abbrev pub slot_at : Sources → Place → SlotId
slot_at x at = slot_of x at.node.0

-- that of a local
abbrev pub slot_of_local : Sources → LocalId → SlotId
slot_of_local x var = slot_of x var.0

-- the lexeme of a word
abbrev pub lexeme_of : Sources → ℕ → List ℕ
lexeme_of x word = slice_index_or x.words word []
