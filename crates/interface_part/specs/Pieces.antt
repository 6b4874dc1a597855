-- How an interface part is stored: pieces, and the letters of all lexemes in a row.
use Rattle.std.specs.Prelude.{ℕ, ◌+◌, List, [], ◌∷◌, take, drop}
use Rattle.interface_part.specs.declared.parts.Piece.{Piece}
use Rattle.interface_part.specs.declared.parts.Piece.TheVariants as piece
use Rattle.interface_part.specs.Parts.{Part, mark, lexeme}

-- the parts that pieces are, with their letters at the front of these
abbrev pub cut : List Piece → (letters : List ℕ) → List Part
cut [] letters = []
cut (piece.Mark ∷ pieces) letters = mark ∷ cut pieces letters
cut (piece.Lexeme kind adjoins size ∷ pieces) letters = lexeme kind (take size letters) adjoins ∷ cut pieces (drop size letters)

-- how many letters pieces have together
abbrev pub letters_in : List Piece → ℕ
letters_in [] = 0
letters_in (piece.Mark ∷ pieces) = letters_in pieces
letters_in (piece.Lexeme kind adjoins size ∷ pieces) = size + letters_in pieces
