-- The tokens that the grammar reads of those of a text, and these again from what it reads.
use Rattle.std.specs.Prelude.{ℕ, suc, ◌+◌, ◌-◌, ◌==◌, Bool, false, not, ◌&&◌, List, [], ◌∷◌, ◌++◌, take, drop, map, if◌then◌else◌, Option, None, Some, is_some, slice_get}
use Rattle.std.specs.Option.{option_map_or}
use Rattle.dart_tokens.specs.declared.token.Kind.{Kind}
use Rattle.dart_tokens.specs.declared.token.Token.{Token}
use Rattle.dart_tokens.specs.declared.grouped_token.GroupedToken.{GroupedToken}
use Rattle.dart_tokens.specs.declared.tokens.UnopenedBracket.{UnopenedBracket}
use Rattle.dart_tokens.specs.Kinds.{opens, closes}
use Rattle.dart_tokens.specs.Groups.{partners_of}

-- how many tokens stand between one and what comes behind its group: those in the group, and the bracket that closes it, if one does
unfoldable pub past : GroupedToken → ℕ
past t = t.width + (if t.is_closed then 1 else 0)

-- a token closes no group
abbrev pub is_unopened : Kind → Option ℕ → Bool
is_unopened k partner = is_some (closes k) && not (is_some partner)

-- how many tokens of a text the grammar reads, with their partners beside them
abbrev pub kept : List Token → List (Option ℕ) → ℕ
kept [] partners = 0
kept (t ∷ ts) [] = suc (kept ts [])
kept (t ∷ ts) (p ∷ ps) = if is_unopened t.kind p then kept ts ps else suc (kept ts ps)

-- how many of the tokens behind one at a place come before another place
abbrev pub kept_before : (place end : ℕ) → List Token → List (Option ℕ) → ℕ
kept_before place end ts ps = kept (take (end - suc place) ts) (take (end - suc place) ps)

-- the token at a place closes the group that began at another
abbrev pub is_closed_by : List (Option ℕ) → (end place : ℕ) → Bool
is_closed_by all end place = option_map_or (λ p. option_map_or (λ b. b == place) p false) (slice_get all end) false

-- a token that opens a group, with the tokens behind it, and where the group ends
abbrev pub grouped : List (Option ℕ) → (place end : ℕ) → Token → List Token → List (Option ℕ) → GroupedToken
grouped all place end t ts ps =
    record {
      kind = t.kind;
      is_closed = is_closed_by all end place;
      start = t.start;
      end = t.end;
      word = t.word;
      width = kept_before place end ts ps;
    }

-- any other token
abbrev pub ungrouped : Token → GroupedToken
ungrouped t = record { kind = t.kind; is_closed = false; start = t.start; end = t.end; word = t.word; width = 0 }

-- a token of a text, by its partner
abbrev pub token_of : List (Option ℕ) → (place : ℕ) → Option ℕ → Token → List Token → List (Option ℕ) → GroupedToken
token_of all place None t ts ps = ungrouped t
token_of all place (Some partner) t ts ps = if is_some (opens t.kind) then grouped all place partner t ts ps else ungrouped t

-- the tokens from a place on, those that close no group left out
abbrev pub tokens_from : List (Option ℕ) → (place : ℕ) → List Token → List (Option ℕ) → List GroupedToken
tokens_from all place [] partners = []
tokens_from all place (t ∷ ts) [] = ungrouped t ∷ tokens_from all (suc place) ts []
tokens_from all place (t ∷ ts) (p ∷ ps) =
    if is_unopened t.kind p then tokens_from all (suc place) ts ps else token_of all place p t ts ps ∷ tokens_from all (suc place) ts ps

-- the tokens of a text as the grammar reads them
abbrev pub grammar_tokens : List Token → List GroupedToken
grammar_tokens tokens = tokens_from (partners_of tokens) 0 tokens (partners_of tokens)

-- a token that the grammar reads, without its group
abbrev pub without_group : GroupedToken → Token
without_group t = record { kind = t.kind; start = t.start; end = t.end; word = t.word }

-- the tokens of a text from one on before which the grammar reads so many: those that it reads, and between them the brackets that close no group
abbrev pub all_from : (before : ℕ) → List GroupedToken → List UnopenedBracket → List Token
all_from before read [] = map without_group read
all_from before read (bracket ∷ more) =
    map without_group (take (bracket.before - before) read) ++ bracket.token ∷ all_from bracket.before (drop (bracket.before - before) read) more

-- the tokens of a text: those that the grammar reads, and between them the brackets that close no group
abbrev pub all_tokens : List GroupedToken → List UnopenedBracket → List Token
all_tokens read unopened = all_from 0 read unopened
