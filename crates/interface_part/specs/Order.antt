-- Which tokens of a text are seen, where its tokens and what it hides stand in the order of the text.
use Rattle.std.specs.Prelude.{ℕ, ◌<◌, ◌≤◌, Bool, true, false, ◌&&◌, ◌||◌, not, nat_lt, List, [], ◌∷◌, if◌then◌else◌}
use Rattle.std.specs.List.{filter}
use Rattle.dart_tokens.specs.declared.token.Token.{Token}
use Rattle.interface_part.specs.declared.hidden.Hidden.{Hidden}
use Rattle.interface_part.specs.Parts.{Part, mark, lexeme}
use Rattle.interface_part.specs.Interface.{is_seen, lexeme_of}

-- no token begins before one that stands before it, and none before an offset
abbrev pub TokensInOrder : (from : ℕ) → List Token → Type 0
TokensInOrder from [] = Unit {0}
TokensInOrder from (t ∷ ts) = (from ≤ t.start) × TokensInOrder t.start ts

-- no token is empty, and each begins behind the end of the one before it, the first no sooner than at an offset
abbrev pub TokensApart : (from : ℕ) → List Token → Type 0
TokensApart from [] = Unit {0}
TokensApart from (t ∷ ts) = (from ≤ t.start) × (t.start < t.end) × TokensApart t.end ts

-- each range begins behind the end of the one before it, and the first no sooner than at an offset
abbrev pub RangesInOrder : (from : ℕ) → List Hidden → Type 0
RangesInOrder from [] = Unit {0}
RangesInOrder from (h ∷ hs) = (from ≤ h.span.start) × (h.span.start ≤ h.span.end) × RangesInOrder h.span.end hs

-- the token begins within what is hidden
abbrev pub begins_within : Hidden → Token → Bool
begins_within h t = not (nat_lt t.start h.span.start) && nat_lt t.start h.span.end

-- a mark stands for the token: it begins within what is hidden, which isn't seen after all
abbrev pub is_marked : (text : List Token) → List Hidden → Token → Bool
is_marked text [] t = false
is_marked text (h ∷ hs) t = (begins_within h t && not (is_seen h (filter (begins_within h) text))) || is_marked text hs t

-- the lexemes of the tokens, to the end of the text, for which no mark stands
abbrev pub unmarked : (words : List (List ℕ)) → (text : List Token) → List Hidden → List Token → List Part
unmarked words text hs [] = []
unmarked words text hs (t ∷ ts) = if is_marked text hs t then unmarked words text hs ts else lexeme_of words t ts ∷ unmarked words text hs ts

-- the part is a lexeme
abbrev pub is_lexeme : Part → Bool
is_lexeme mark = false
is_lexeme (lexeme kind letters adjoins) = true

-- the part is the mark
abbrev pub is_mark : Part → Bool
is_mark mark = true
is_mark (lexeme kind letters adjoins) = false

-- what is hidden, and isn't seen after all
abbrev pub marked : (text : List Token) → List Hidden → List Hidden
marked text hs = filter (λ h. not (is_seen h (filter (begins_within h) text))) hs
