-- Texts that differ only in what stands in bodies.
use Rattle.std.specs.Prelude.{◌≡◌, ℕ, zero, suc, Bool, true, false, ◌&&◌, ◌||◌, List, [], ◌∷◌, take, drop, if◌then◌else◌}
use Rattle.dart_tokens.specs.declared.token.Kind.TheVariants as kind
use Rattle.dart_tokens.specs.declared.grouped_token.GroupedToken.{GroupedToken as Token}
use Rattle.grammar.specs.Tokens.{is, adjoins, last_end, past}
use Rattle.interface_part.specs.declared.hidden.Hidden.{Hidden}

-- where the tokens of a text stand in another, and what numbers their words have there: words that differ have numbers that differ
pub record Moves : Type 0 where
  pub starts : ℕ → ℕ
  pub ends : ℕ → ℕ
  pub words : ℕ → ℕ
  pub distinct : (a b : ℕ) → words a ≡ words b → a ≡ b

-- two tokens are the same, but for where they stand and the number of their word
pub record Twins (m : Moves) (t u : Token) : Type 0 where
  pub kind : t.kind ≡ u.kind
  pub word : u.word ≡ m.words t.word
  pub start : u.start ≡ m.starts t.start
  pub end : u.end ≡ m.ends t.end

-- the token adjoins the next one
abbrev pub adjoins_next : Token → List Token → Bool
adjoins_next t [] = false
adjoins_next t (u ∷ us) = adjoins t u

-- where bodies may differ: nowhere; within braces, as those of methods may within the braces of their class; here, too; or here, too, where no function type stands
pub data Freedom : Type 0 where
  none : Freedom
  below : Freedom
  here : Freedom
  plain : Freedom

-- bodies may differ here
abbrev pub is_free : Freedom → Bool
is_free none = false
is_free below = false
is_free here = true
is_free plain = true

-- bodies may differ so at the top level of a text: where a function type may end the head of a class, they may not, since the braces behind it hold members
abbrev pub suits_texts : Freedom → Bool
suits_texts none = true
suits_texts below = true
suits_texts here = false
suits_texts plain = true

-- no function type stands here
abbrev pub is_plain : Freedom → Bool
is_plain none = false
is_plain below = false
is_plain here = false
is_plain plain = true

-- and within braces
abbrev pub in_braces : Freedom → Freedom
in_braces none = none
in_braces below = here
in_braces here = here
in_braces plain = here

-- and within a group
abbrev pub in_group : Freedom → Token → Freedom
in_group f t = if is kind.OpenBrace t then in_braces f else none

-- the token opens a body that may differ, as one may right behind parentheses
abbrev pub opens_body : Freedom → (behind : Bool) → Token → Bool
opens_body f behind t = behind && (is_free f && is kind.OpenBrace t)

-- the token opens a group
abbrev pub opens_group : Token → Bool
opens_group t = is kind.OpenParenthesis t || (is kind.OpenBracket t || (is kind.QuestionBracket t || (is kind.OpenBrace t || is kind.InterpolationOpening t)))

-- Two lists of tokens are the same, but for what stands in the bodies that may differ: in braces right behind parentheses. Each group ends alike, each `>` adjoins the next token in both or in neither, and no function type begins where none may. At most so many steps lead through the lists.
abbrev pub Alike : (m : Moves) → Freedom → (steps : ℕ) → (behind : Bool) → List Token → List Token → Type 0
Alike m f zero behind [] [] = Unit {0}
Alike m f zero behind [] (u ∷ us) = ⊥
Alike m f zero behind (t ∷ ts) us = ⊥
Alike m f (suc n) behind [] [] = Unit {0}
Alike m f (suc n) behind [] (u ∷ us) = ⊥
Alike m f (suc n) behind (t ∷ ts) [] = ⊥
Alike m f (suc n) behind (t ∷ ts) (u ∷ us) =
    Twins m t u × (last_end (u ∷ take (past u) us) ≡ m.ends (last_end (t ∷ take (past t) ts)))
    × (is kind.Greater t ≡ true → adjoins_next t ts ≡ adjoins_next u us)
    × Alike m f n (is kind.OpenParenthesis t) (drop (past t) ts) (drop (past u) us)
    × (opens_body f behind t ≡ false → Alike m (in_group f t) n false (take t.width ts) (take u.width us))
    × (opens_group t ≡ false → Alike m f n false ts us)
    × (is_plain f ≡ true → is kind.Function t ≡ false)

-- where what is hidden in a text stands in the other
abbrev pub moved : Moves → Hidden → Hidden
moved m h = record { span = record { start = m.starts h.span.start; end = m.ends h.span.end }; in_mixin = h.in_mixin }
