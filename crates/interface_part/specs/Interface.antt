-- The interface part of a unit: its lexemes in order, with a mark in the place of each part that other libraries do not see.
use Rattle.std.specs.Prelude.{ℕ, ◌==◌, Bool, false, ◌&&◌, nat_lt, List, [], ◌∷◌, ◌++◌, length, take, drop, slice_index_or, if◌then◌else◌}
use Rattle.std.specs.List.{take_while, list_any}
use denote.Enum.Bare.{sameb}
use Rattle.dart_tokens.specs.declared.token.Kind.{Kind}
use Rattle.dart_tokens.specs.declared.token.Kind.TheVariants as kind
use Rattle.dart_tokens.specs.contracts.token.Kind as kinds
use Rattle.dart_tokens.specs.declared.token.Token.{Token}
use Rattle.dart_tree.specs.declared.unit.Unit.{Unit}
use Rattle.interface_part.specs.declared.hidden.Hidden.{Hidden}
use Rattle.interface_part.specs.Hidden.{hidden_in}
use Rattle.interface_part.specs.Parts.{Part, mark, lexeme}

-- the token is of the kind
abbrev pub is : Kind → Token → Bool
is k t = sameb kinds.the_type t.kind k

-- the next of these tokens begins where that one ends
abbrev pub adjoins : Token → List Token → Bool
adjoins t [] = false
adjoins t (next ∷ ts) = next.start == t.end

-- the letters of a token among the words of its text
abbrev pub letters_of : (words : List (List ℕ)) → Token → List ℕ
letters_of words t = slice_index_or words t.word []

-- a token as a lexeme, by the tokens behind it
abbrev pub lexeme_of : (words : List (List ℕ)) → Token → List Token → Part
lexeme_of words t behind = lexeme t.kind (letters_of words t) (is kind.Greater t && adjoins t behind)

-- the lexemes of tokens, to the end of the text
abbrev pub lexemes : (words : List (List ℕ)) → List Token → List Part
lexemes words [] = []
lexemes words (t ∷ ts) = lexeme_of words t ts ∷ lexemes words ts

-- how many tokens come before the first that begins at an offset of the text, or behind it
abbrev pub count_before : (offset : ℕ) → List Token → ℕ
count_before offset ts = length (take_while (λ t. nat_lt t.start offset) ts)

-- of what stands in a mixin, that is seen in which the word `super` stands
abbrev pub is_seen : Hidden → (within : List Token) → Bool
is_seen hidden within = hidden.in_mixin && list_any (is kind.Super) within

-- The parts of tokens, to the end of the text, among which these are hidden: the lexemes before each, and a mark for it, or its lexemes if it is seen after all.
abbrev pub parts_of : (words : List (List ℕ)) → List Hidden → List Token → List Part
parts_of words [] ts = lexemes words ts
parts_of words (h ∷ hs) ts =
    let first = count_before h.span.start ts in
    let behind = drop first ts in
    let inside = count_before h.span.end behind in
    take first (lexemes words ts)
    ++ ((if is_seen h (take inside behind) then take inside (lexemes words behind) else mark ∷ [])
    ++ parts_of words hs (drop inside behind))

-- the interface part of a unit
abbrev pub interface_of : Unit → List Part
interface_of u = parts_of u.words (hidden_in u.tree) u.tokens
