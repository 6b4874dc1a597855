-- Edits inside what an interface part hides.
use Rattle.std.specs.Prelude.{◌≡◌, ℕ, ◌+◌, ◌≤◌, ◌<◌, false, List, [], ◌∷◌, ◌++◌}
use Rattle.std.specs.List.{All}
use Rattle.dart_tokens.specs.declared.token.Token.{Token}
use Rattle.interface_part.specs.declared.hidden.Hidden.{Hidden}
use Rattle.interface_part.specs.Interface.{is_seen, letters_of}

-- two tokens have the same lexeme, among the words of their texts, and the second stands so many code units further on, or further back
pub record SameLexeme (words others : List (List ℕ)) (on back : ℕ) (t u : Token) : Type 0 where
  pub kind : t.kind ≡ u.kind
  pub letters : letters_of words t ≡ letters_of others u
  pub start : t.start + on ≡ u.start + back
  pub end : t.end + on ≡ u.end + back

-- two lists of tokens have the same lexemes, and the second stands so much further on or back
abbrev pub SameLexemes : (words others : List (List ℕ)) → (on back : ℕ) → List Token → List Token → Type 0
SameLexemes words others on back [] [] = Unit {0}
SameLexemes words others on back [] (u ∷ us) = ⊥
SameLexemes words others on back (t ∷ ts) [] = ⊥
SameLexemes words others on back (t ∷ ts) (u ∷ us) = SameLexeme words others on back t u × SameLexemes words others on back ts us

-- the same is hidden, so much further on or back
pub record SameHidden (on back : ℕ) (h k : Hidden) : Type 0 where
  pub in_mixin : h.in_mixin ≡ k.in_mixin
  pub start : h.span.start + on ≡ k.span.start + back
  pub end : h.span.end + on ≡ k.span.end + back

abbrev pub AllSameHidden : (on back : ℕ) → List Hidden → List Hidden → Type 0
AllSameHidden on back [] [] = Unit {0}
AllSameHidden on back [] (k ∷ ks) = ⊥
AllSameHidden on back (h ∷ hs) [] = ⊥
AllSameHidden on back (h ∷ hs) (k ∷ ks) = SameHidden on back h k × AllSameHidden on back hs ks

-- these tokens, of which there is one at least, are those that begin within what is hidden, and a mark stands for them
pub record Holds (h : Hidden) (first : Token) (inside behind : List Token) : Type 0 where
  pub begins : first.start ≡ h.span.start
  pub within : All (λ t. t.start < h.span.end) (first ∷ inside)
  pub ends : All (λ t. h.span.end ≤ t.start) behind
  pub marked : is_seen h (first ∷ inside) ≡ false

-- Words, what is hidden and tokens of a text, and those of another that comes from it by an edit inside one body or initializer: other tokens stand in its place, as many as may be, and what stands behind it is moved with all that is hidden there.
pub record EditedInside (words : List (List ℕ)) (hs : List Hidden) (ts : List Token) (others : List (List ℕ)) (ks : List Hidden) (us : List Token) : Type 0 where
  -- what stands before the part, in it and behind it
  pub before : List Token
  pub first : Token
  pub inside : List Token
  pub behind : List Token
  pub tokens : ts ≡ before ++ ((first ∷ inside) ++ behind)
  -- and what stands there behind the edit
  pub earlier : List Token
  pub other : Token
  pub instead : List Token
  pub moved : List Token
  pub edited : us ≡ earlier ++ ((other ∷ instead) ++ moved)
  -- what else is hidden: before the part and behind it
  pub above : List Hidden
  pub part : Hidden
  pub below : List Hidden
  pub ranges : hs ≡ above ++ part ∷ below
  pub place : Hidden
  pub later : List Hidden
  pub shifted : ks ≡ above ++ place ∷ later
  -- the part begins where it did, and holds those tokens
  pub begins : part.span.start ≡ place.span.start
  pub old : Holds part first inside behind
  pub new : Holds place other instead moved
  -- what stands before the part stays
  pub stays : SameLexemes words others 0 0 before earlier
  pub comes_first : All (λ t. t.start < part.span.start) before
  pub hidden_first : All (λ h. h.span.start ≤ part.span.start) above
  pub hides_first : All (λ h. h.span.end ≤ part.span.start) above
  -- what stands behind it is the same, so much further on or back
  pub on : ℕ
  pub back : ℕ
  pub moves : SameLexemes words others on back behind moved
  pub hides : AllSameHidden on back below later
