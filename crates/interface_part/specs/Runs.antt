-- What of a unit is seen: its lexemes before, between and behind the parts that a mark stands for.
use Rattle.std.specs.Prelude.{ℕ, List, [], ◌∷◌, ◌++◌, take, drop, if◌then◌else◌}
use Rattle.dart_tokens.specs.declared.token.Token.{Token}
use Rattle.dart_tree.specs.declared.unit.Unit.{Unit}
use Rattle.interface_part.specs.declared.hidden.Hidden.{Hidden}
use Rattle.interface_part.specs.Hidden.{hidden_in}
use Rattle.interface_part.specs.Parts.{Part}
use Rattle.interface_part.specs.Interface.{count_before, is_seen, lexemes}

-- the lexemes before the first mark, and those behind each mark, up to the next
abbrev pub Runs : Type 0
Runs = List Part × List (List Part)

-- runs with lexemes before them
abbrev pub behind_lexemes : List Part → Runs → Runs
behind_lexemes front runs = (front ++ runs.0, runs.1)

-- runs with a mark before them
abbrev pub behind_mark : Runs → Runs
behind_mark runs = ([], runs.0 ∷ runs.1)

-- what is seen of tokens, to the end of the text, among which these are hidden: what is hidden ends a run of lexemes, unless it is seen after all
abbrev pub runs_of : (words : List (List ℕ)) → List Hidden → List Token → Runs
runs_of words [] ts = (lexemes words ts, [])
runs_of words (h ∷ hs) ts =
    let first = count_before h.span.start ts in
    let behind = drop first ts in
    let inside = count_before h.span.end behind in
    let further = runs_of words hs (drop inside behind) in
    behind_lexemes (take first (lexemes words ts))
    (if is_seen h (take inside behind) then behind_lexemes (take inside (lexemes words behind)) further else behind_mark further)

-- what is seen of a unit
abbrev pub seen_of : Unit → Runs
seen_of u = runs_of u.words (hidden_in u.tree) u.tokens
