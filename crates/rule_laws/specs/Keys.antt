-- Which nodes the rules speak of: each once.
use Rattle.std.specs.Prelude.{◌≡◌, ◌≢◌, ℕ, ◌+◌, ◌<◌, ◌≤◌, List, [], ◌∷◌, ◌++◌, All, AllPairs, find, nat_eq, Option, Some, None}
use Rattle.dart_tree.specs.Tree.{Tree}
use Rattle.dart_tree.specs.Numbers.{nodes_in, numbered}
use Rattle.dart_types.specs.Ty.{Ty}
use Rattle.flow_model.specs.Flow.{FlowModel}
use Rattle.judgement.specs.declared.meaning.Meaning.{Meaning}
use Rattle.judgement.specs.declared.meaning.Meaning.TheVariants.{Nothing, Local, Print, Class, Other}
use Rattle.judgement.specs.NodeFacts.{NodeFacts}
use Rattle.judgement.specs.Surroundings.{Surroundings}
use Rattle.judgement.specs.Judgement.{run}

-- the number of the local that a meaning is, as a list
abbrev pub number_meant : Option Meaning → List ℕ
number_meant (Some (Local var)) = var.0 ∷ []
number_meant (Some Nothing) = []
number_meant (Some Print) = []
number_meant (Some (Class class)) = []
number_meant (Some Other) = []
number_meant None = []

-- what has no type declares what it names
abbrev pub local_declared : Option Ty → Option Meaning → List ℕ
local_declared None element = number_meant element
local_declared (Some ty) element = []

-- the number of the local that a node declares, as a list
abbrev pub declared_number : NodeFacts → List ℕ
declared_number said = local_declared said.ty said.element

-- the numbers that what is said of nodes speaks of: those of the nodes, and of the names that they declare
abbrev pub numbers_said : List NodeFacts → List ℕ
numbers_said [] = []
numbers_said (said ∷ rest) = (said.node.0 ∷ declared_number said) ++ numbers_said rest

-- they are from one number on and before another, and each stands once
pub record AreOnce (first last : ℕ) (numbers : List ℕ) : Type 0 where
  pub from_first : All (λ n. first ≤ n) numbers
  pub before_last : All (λ n. n < last) numbers
  pub once : AllPairs (λ a b. a ≢ b) numbers

-- of a tree whose nodes are numbered from one number on, each is spoken of once
abbrev pub SpeaksOnce : Surroundings → Tree → Type 0
SpeaksOnce s tree = (first : ℕ) (m : FlowModel) → numbered first tree ≡ tree → AreOnce first (first + nodes_in tree) (numbers_said (run s tree m).nodes)

-- What is said of nodes is found by their numbers: the first that is said of a number is all that is said of it, and a name that is declared is neither a node of which something is said, nor declared by another.
pub record IsFoundByNumber (nodes : List NodeFacts) : Type 0 where
  pub found : All (λ said. find (λ other. nat_eq other.node.0 said.node.0) nodes ≡ Some said) nodes
  pub names_apart : All (λ said. All (λ n. All (λ other. n ≢ other.node.0) nodes) (declared_number said)) nodes
  pub declared_once : AllPairs (λ said other. All (λ n. All (λ m. n ≢ m) (declared_number other)) (declared_number said)) nodes
