-- What is wrong with groups, by the tokens that the grammar reads and the brackets between them.
use Rattle.std.specs.Prelude.{ℕ, ◌+◌, ◌-◌, not, ◌&&◌, List, [], ◌∷◌, ◌++◌, take, drop, length, if◌then◌else◌, is_some}
use Rattle.dart_tokens.specs.declared.grouped_token.GroupedToken.{GroupedToken}
use Rattle.dart_tokens.specs.declared.tokens.UnopenedBracket.{UnopenedBracket}
use Rattle.dart_tokens.specs.declared.groups.GroupFault.{GroupFault}
use Rattle.dart_tokens.specs.declared.groups.GroupFaultKind.TheVariants.{UnclosedGroup, UnopenedGroup}
use Rattle.dart_tokens.specs.Groups.{opens, fault_at}

-- what is wrong with a token at a place: it opens a group that no token closes
abbrev pub fault_of_read : (place : ℕ) → GroupedToken → List GroupFault
fault_of_read place t = if is_some (opens t.kind) && not t.is_closed then fault_at place UnclosedGroup ∷ [] else []

-- of tokens one behind another, of which the first has this place
abbrev pub faults_of_read : (place : ℕ) → List GroupedToken → List GroupFault
faults_of_read place [] = []
faults_of_read place (t ∷ ts) = fault_of_read place t ++ faults_of_read (place + 1) ts

-- of tokens, of which the first has this place and so many are read before it, and of the brackets between them that close no group
abbrev pub faults_between : (place before : ℕ) → List GroupedToken → List UnopenedBracket → List GroupFault
faults_between place before read [] = faults_of_read place read
faults_between place before read (bracket ∷ more) =
    faults_of_read place (take (bracket.before - before) read)
    ++ fault_at (place + length (take (bracket.before - before) read)) UnopenedGroup
    ∷ faults_between (place + length (take (bracket.before - before) read) + 1) bracket.before (drop (bracket.before - before) read) more
