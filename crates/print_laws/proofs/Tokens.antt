-- Tokens that are seen alike are the same, with their places aside.
use Rattle.std.proofs.Common.{◌≡◌, ℕ, List, [], ◌∷◌, bytes_eq, refl, sym, ap, ◌∙◌}
use Rattle.std.specs.List.{position_or_len}
use Rattle.dart_tokens.specs.declared.token.Token.{Token}
use Rattle.dart_scan.specs.Scanned.{Lexeme, kind_of, lexemes, with_word, words_behind, token_of, tokens_behind, tokens_of, words_of}
use Rattle.tree_print.specs.Printed.{lexeme_of, adjoins}
use Rattle.tree_print.specs.Seen.{Seen, seen, SeenAlike}
use Rattle.print_laws.proofs.Words.{lexeme-is}

-- the tokens of two lists are of the same kinds, one by one
abbrev pub OfKinds : List Token → List Token → Type 0
OfKinds [] [] = Unit {0}
OfKinds [] (u ∷ us) = ⊥
OfKinds (t ∷ ts) [] = ⊥
OfKinds (t ∷ ts) (u ∷ us) = (t.kind ≡ u.kind) × OfKinds ts us

-- so of their kinds, their words, and whether the next one adjoins each
abbrev pub Alike : List Token → List Token → Type 0
Alike [] [] = Unit {0}
Alike [] (u ∷ us) = ⊥
Alike (t ∷ ts) [] = ⊥
Alike (t ∷ ts) (u ∷ us) = (t.kind ≡ u.kind) × (t.word ≡ u.word) × (adjoins t ts ≡ adjoins u us) × Alike ts us

pub of-kinds : (ts us : List Token) → Alike ts us → OfKinds ts us
of-kinds [] [] a = tt
of-kinds [] (u ∷ us) a = absurd a
of-kinds (t ∷ ts) [] a = absurd a
of-kinds (t ∷ ts) (u ∷ us) a = (a.0, of-kinds ts us a.3)

abbrev first_of : Seen → List Seen → Seen
first_of x [] = x
first_of x (y ∷ ys) = y

abbrev behind_first : List Seen → List Seen
behind_first [] = []
behind_first (y ∷ ys) = ys

-- behind the same words, lexemes that are seen alike make the same tokens, and add the same words
alike_behind : (ls ms : List Lexeme) (words others final last : List (List ℕ)) → words ≡ others → final ≡ words_behind words ls → last ≡ words_behind others ms
    → seen final (tokens_behind words ls) ≡ seen last (tokens_behind others ms) → Alike (tokens_behind words ls) (tokens_behind others ms) × (words_behind words ls ≡ words_behind others ms)
unfolding words_behind tokens_behind
alike_behind [] [] words others final last same is was e = (tt, same)
alike_behind [] (m ∷ ms) words others final last same is was e = absurd (cc)
alike_behind (l ∷ ls) [] words others final last same is was e = absurd (cc)
alike_behind (l ∷ ls) (m ∷ ms) words others final last same is was e =
    let rest = alike_behind ls ms (with_word words l.bytes) (with_word others m.bytes) final last longer is was (ap behind_first e) in
    ((ap (λ (s : Seen). s.kind) first, word, ap (λ (s : Seen). s.adjoins) first, rest.0), rest.1)
  where
    one : Seen
    one = record { kind = kind_of l.class l.bytes; lexeme = lexeme_of final (token_of words l); adjoins = adjoins (token_of words l) (tokens_behind (with_word words l.bytes) ls) }

    other : Seen
    other = record { kind = kind_of m.class m.bytes; lexeme = lexeme_of last (token_of others m); adjoins = adjoins (token_of others m) (tokens_behind (with_word others m.bytes) ms) }

    first : one ≡ other
    first = ap (first_of one) e

    bytes : l.bytes ≡ m.bytes
    bytes =
        sym (ap (λ (ws : List (List ℕ)). lexeme_of ws (token_of words l)) is ∙ lexeme-is words l ls) ∙ ap (λ (s : Seen). s.lexeme) first
        ∙ (ap (λ (ws : List (List ℕ)). lexeme_of ws (token_of others m)) was ∙ lexeme-is others m ms)

    word : position_or_len (bytes_eq l.bytes) words ≡ position_or_len (bytes_eq m.bytes) others
    word = ap (λ (b : List ℕ). position_or_len (bytes_eq b) words) bytes ∙ ap (λ (ws : List (List ℕ)). position_or_len (bytes_eq m.bytes) ws) same

    longer : with_word words l.bytes ≡ with_word others m.bytes
    longer = ap (λ (b : List ℕ). with_word words b) bytes ∙ ap (λ (ws : List (List ℕ)). with_word ws m.bytes) same

text_alike : (text other : List ℕ) → SeenAlike text other → Alike (tokens_of text) (tokens_of other) × (words_of text ≡ words_of other)
text_alike text other e = alike_behind (lexemes text) (lexemes other) [] [] (words_of text) (words_of other) refl refl refl e

-- The tokens of texts that are seen alike.
pub tokens-alike : (text other : List ℕ) → SeenAlike text other → Alike (tokens_of text) (tokens_of other)
tokens-alike text other e = (text_alike text other e).0

-- Their words are the same.
pub words-alike : (text other : List ℕ) → SeenAlike text other → words_of text ≡ words_of other
words-alike text other e = (text_alike text other e).1
