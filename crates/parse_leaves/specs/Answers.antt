-- What the parser's functions say of what they read.
use Rattle.std.specs.Prelude.{◌≡◌, ◌≤◌, ℕ, List, [], ◌∷◌, take, drop, if◌then◌else◌, Option, Some, None, Result, Ok, Err}
use Rattle.readings.specs.Readings.{Reading}
use Rattle.dart_tokens.specs.declared.token.Kind.{Kind}
use Rattle.dart_tree.specs.Tree.{Tree, trees_of}
use Rattle.dart_tokens.specs.declared.grouped_token.GroupedToken.{GroupedToken as Token}
use Rattle.dart_tree.specs.Heights.{height, heights}
use Rattle.grammar.specs.Tokens.{is, past}
use Rattle.parse_leaves.specs.declared.miss.Miss.{Miss}
use Rattle.parse_leaves.specs.declared.miss.Miss.TheVariants.{NoReading, Memory}

-- what is said where nothing was read: there is no reading; for want of memory nothing is said
abbrev pub Misses : {A : Type 0} → Miss → Option (Reading Token A) → Type 0
Misses Memory found = Unit {0}
Misses NoReading found = found ≡ None

-- the answer is the reading that is found
abbrev pub Gives : {X A : Type 0} → (X → Reading Token A) → Result X Miss → Option (Reading Token A) → Type 0
Gives view (Ok x) found = found ≡ Some (view x)
Gives view (Err miss) found = Misses miss found

-- the answer, if there is one, is what is found
abbrev pub Finds : {X A : Type 0} → (X → A) → Option X → Option A → Type 0
Finds view (Some x) found = found ≡ Some (view x)
Finds view None found = found ≡ None

-- the group that comes next: its opening bracket, what stands in it, and what comes behind it
abbrev pub group : Kind → List Token → Option (Token × (List Token × List Token))
group k [] = None
group k (t ∷ ts) = if is k t then Some (t, (take t.width ts, drop (past t) ts)) else None

-- the node's height is known, and it is within the room
abbrev pub IsDeep : ℕ → Tree → ℕ → Type 0
IsDeep room t h = (h ≡ height t) × (h ≤ room)

-- the same of a list of nodes
abbrev pub AreDeep : ℕ → List Tree → ℕ → Type 0
AreDeep room ts h = (h ≡ heights (trees_of ts)) × (h ≤ room)
