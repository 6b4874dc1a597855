-- Tokens of a text that stand in another.
use Rattle.std.specs.Prelude.{◌≡◌, ℕ, ◌==◌, true, List, [], ◌∷◌}
use denote.Enum.Bare.{sameb}
use Rattle.dart_tokens.specs.contracts.token.Kind as kinds
use Rattle.dart_tokens.specs.declared.token.Kind.TheVariants as lexeme
use Rattle.dart_tokens.specs.declared.token.Token.{Token}
use Rattle.body_laws.specs.Bodies.{Moves}

-- two tokens are the same, but for where they stand and the number of their word; and what begins where a `>` ends begins there in both texts or in neither
pub record TextTwins (m : Moves) (t u : Token) : Type 0 where
  pub kind : t.kind ≡ u.kind
  pub word : u.word ≡ m.words t.word
  pub start : u.start ≡ m.starts t.start
  pub end : u.end ≡ m.ends t.end
  pub joins : sameb kinds.the_type t.kind lexeme.Greater ≡ true → (start : ℕ) → (t.end == start) ≡ (m.ends t.end == m.starts start)

-- so are those of two lists
abbrev pub AllTwins : Moves → List Token → List Token → Type 0
AllTwins m [] [] = Unit {0}
AllTwins m [] (u ∷ us) = ⊥
AllTwins m (t ∷ ts) [] = ⊥
AllTwins m (t ∷ ts) (u ∷ us) = TextTwins m t u × AllTwins m ts us
