-- Comments, which nest.
use Rattle.std.specs.Prelude.{ℕ, zero, suc, ◌+◌, ◌-◌, ◌==◌, Bool, not, ◌&&◌, List, [], ◌∷◌, ◌++◌, length, drop, codes, IsTrue, if◌then◌else◌, Option, Some, None, option_map}
use Rattle.dart_scan.specs.Lexemes.{begins}

-- neither `/*` nor `*/` begins here
abbrev pub neither_opens_nor_closes : List ℕ → Bool
neither_opens_nor_closes text = not (begins text (codes "/*")) && not (begins text (codes "*/"))

mutual
  -- A comment: `/*`, parts, and `*/`. Comments nest.
  pub data IsComment : List ℕ → Type 0 where
    comment : {parts : List ℕ} → AreParts parts → IsComment (codes "/*" ++ (parts ++ codes "*/"))

  -- the parts of a comment, up to its `*/`: each is a whole comment, or one byte at which neither `/*` nor `*/` begins
  pub data AreParts : List ℕ → Type 0 where
    no_more : AreParts []
    inner_comment : {inner parts : List ℕ} → IsComment inner → AreParts parts → AreParts (inner ++ parts)
    plain_byte : {byte : ℕ} {parts : List ℕ} → IsTrue (neither_opens_nor_closes (byte ∷ (parts ++ codes "*/"))) → AreParts parts → AreParts (byte ∷ parts)

-- How long the text is up to the end of a comment in which `inner` further comments are open, if it ends within so many steps. Comments nest.
unfoldable pub comment_end : (steps : ℕ) → (inner : ℕ) → List ℕ → Option ℕ
comment_end zero inner text = None
comment_end (suc steps) inner text =
    if begins text (codes "*/") then (if inner == 0 then Some 2 else option_map (λ n. 2 + n) (comment_end steps (inner - 1) (drop 2 text)))
    else (if begins text (codes "/*") then option_map (λ n. 2 + n) (comment_end steps (inner + 1) (drop 2 text))
    else option_map (λ n. 1 + n) (comment_end steps inner (drop 1 text)))

-- how long the comment is whose `/*` stands before this text, if it ends
abbrev pub comment_size : List ℕ → Option ℕ
comment_size text = option_map (λ n. 2 + n) (comment_end (length text) 0 text)
