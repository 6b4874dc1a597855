-- Texts whose tokens are the same, wherever they stand.
use Rattle.std.specs.Prelude.{◌≡◌, Bool, true, false, List, [], ◌∷◌}
use Rattle.dart_tokens.specs.declared.token.Kind.TheVariants as kind
use Rattle.dart_tokens.specs.declared.grouped_token.GroupedToken.{GroupedToken as Token}
use Rattle.grammar.specs.Tokens.{is, adjoins, past}

-- two tokens are the same, with their ranges aside
pub record Twins (t u : Token) : Type 0 where
  pub kind : t.kind ≡ u.kind
  pub word : t.word ≡ u.word
  pub width : t.width ≡ u.width
  pub past : past t ≡ past u

-- two lists have the same tokens
abbrev pub Agree : List Token → List Token → Type 0
Agree [] [] = Unit {0}
Agree [] (u ∷ us) = ⊥
Agree (t ∷ ts) [] = ⊥
Agree (t ∷ ts) (u ∷ us) = Twins t u × Agree ts us

-- the token adjoins the next one
abbrev pub adjoins_next : Token → List Token → Bool
adjoins_next t [] = false
adjoins_next t (u ∷ us) = adjoins t u

-- each `>` adjoins the next token in the one list exactly where it does in the other
abbrev pub AdjoinAlike : List Token → List Token → Type 0
AdjoinAlike [] us = Unit {0}
AdjoinAlike (t ∷ ts) [] = Unit {0}
AdjoinAlike (t ∷ ts) (u ∷ us) = (is kind.Greater t ≡ true → adjoins_next t ts ≡ adjoins_next u us) × AdjoinAlike ts us
