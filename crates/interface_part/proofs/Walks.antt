-- Going over the tokens of a text.
use Rattle.std.proofs.Common.{◌≡◌, ℕ, zero, suc, ◌+◌, ◌<◌, ◌≤◌, Bool, List, [], ◌∷◌, ◌++◌, length, take, drop, get_or, nat_lt, refl, sym, ap, ◌∙◌, arith, if◌then◌else◌}
use Rattle.std.specs.List.{take_while}
use Rattle.std.proofs.Math.Seq.{drop-cons}
use Rattle.std.proofs.lemmas.Bool.{lt-ltb, le-ltb}
use Rattle.std.proofs.lemmas.List.Sums.{take_while-cons}
use Rattle.std.proofs.lemmas.List.{append_assoc, take_all, drop_all}
use Rattle.dart_tokens.specs.declared.token.Token.{Token}
use Rattle.interface_part.specs.declared.hidden.Hidden.{Hidden}
use Rattle.interface_part.specs.Parts.{Part, mark}
use Rattle.interface_part.specs.Interface.{count_before, is_seen, lexeme_of, lexemes, parts_of}

-- one lexeme more
pub lexemes_next : (words : List (List ℕ)) (ts : List Token) (at : ℕ) (d : Token) → at < length ts →
    take (suc at) (lexemes words ts) ≡ take at (lexemes words ts) ++ lexeme_of words (get_or ts at d) (drop (suc at) ts) ∷ []
lexemes_next words [] at d within = absurd (omega (arith, within))
lexemes_next words (t ∷ ts) zero d within = refl
lexemes_next words (t ∷ ts) (suc at) d within =
    let inside : at < length ts = omega (arith, within) in ap (λ (parts : List Part). lexeme_of words t ts ∷ parts) (lexemes_next words ts at d inside)

pub lexemes_more : (words : List (List ℕ)) (ts : List Token) (at : ℕ) (t : Token) (before part more : List Part) → at < length ts → t ≡ get_or ts at t →
    part ≡ before ++ take at (lexemes words ts) → more ≡ part ++ lexeme_of words t (drop (at + 1) ts) ∷ [] → more ≡ before ++ take (at + 1) (lexemes words ts)
lexemes_more words ts at t before part more within is so_far adds =
    let one : at + 1 ≡ suc at = omega arith in
    let next : take (suc at) (lexemes words ts) ≡ take at (lexemes words ts) ++ lexeme_of words t (drop (suc at) ts) ∷ [] =
    lexemes_next words ts at t within ∙ ap (λ (x : Token). take at (lexemes words ts) ++ lexeme_of words x (drop (suc at) ts) ∷ []) (sym is) in
    adds ∙ ap (λ (n : ℕ). part ++ lexeme_of words t (drop n ts) ∷ []) one
    ∙ ap (λ (parts : List Part). parts ++ lexeme_of words t (drop (suc at) ts) ∷ []) so_far
    ∙ append_assoc before (take at (lexemes words ts)) (lexeme_of words t (drop (suc at) ts) ∷ [])
    ∙ ap (λ (parts : List Part). before ++ parts) (sym next) ∙ ap (λ (n : ℕ). before ++ take n (lexemes words ts)) (sym one)

-- a token before an offset is counted
pub count_more : (ts : List Token) (at offset : ℕ) (t : Token) → at < length ts → t ≡ get_or ts at t → t.start < offset →
    count_before offset (drop at ts) ≡ 1 + count_before offset (drop (at + 1) ts)
count_more ts at offset t within is before =
    let rest : List Token = drop (suc at) ts in
    let begins : Token → Bool = λ x. nat_lt x.start offset in
    let one : at + 1 ≡ suc at = omega arith in
    let front : drop at ts ≡ t ∷ rest = drop-cons ts at t within ∙ ap (λ (x : Token). x ∷ rest) (sym is) in
    let counted : length (t ∷ take_while begins rest) ≡ 1 + count_before offset rest = omega arith in
    ap (λ (xs : List Token). count_before offset xs) front ∙ ap (λ (xs : List Token). length xs) (take_while-cons begins t rest)
    ∙ ap (λ (b : Bool). length (if b then t ∷ take_while begins rest else [])) (lt-ltb t.start offset before)
    ∙ counted ∙ ap (λ (n : ℕ). 1 + count_before offset (drop n ts)) (sym one)

-- none is where the first begins behind it
pub count_stop : (ts : List Token) (at offset : ℕ) (t : Token) → at < length ts → t ≡ get_or ts at t → offset ≤ t.start → count_before offset (drop at ts) ≡ 0
count_stop ts at offset t within is behind =
    let rest : List Token = drop (suc at) ts in
    let begins : Token → Bool = λ x. nat_lt x.start offset in
    let front : drop at ts ≡ t ∷ rest = drop-cons ts at t within ∙ ap (λ (x : Token). x ∷ rest) (sym is) in
    ap (λ (xs : List Token). count_before offset xs) front ∙ ap (λ (xs : List Token). length xs) (take_while-cons begins t rest)
    ∙ ap (λ (b : Bool). length (if b then t ∷ take_while begins rest else [])) (le-ltb t.start offset behind)

-- one hidden part more
pub parts_more : (words : List (List ℕ)) (h : Hidden) (hs : List Hidden) (i n m : ℕ) (all part one two : List Part) (ts : List Token) →
    i < length hs → h ≡ get_or hs i h → n ≡ count_before h.span.start ts → m ≡ count_before h.span.end (drop n ts) →
    all ≡ part ++ parts_of words (drop i hs) ts → one ≡ part ++ take n (lexemes words ts) →
    two ≡ one ++ (if is_seen h (take m (drop n ts)) then take m (lexemes words (drop n ts)) else mark ∷ []) →
    all ≡ two ++ parts_of words (drop (i + 1) hs) (drop m (drop n ts))
parts_more words h hs i n m all part one two ts within is is_n is_m so_far outer_added inner_added =
    let next : i + 1 ≡ suc i = omega arith in
    let front : drop i hs ≡ h ∷ drop (suc i) hs = drop-cons hs i h within ∙ ap (λ (x : Hidden). x ∷ drop (suc i) hs) (sym is) in
    let outer : ℕ → List Part = λ k. take k (lexemes words ts) in
    let inner : ℕ → ℕ → List Part = λ k j. if is_seen h (take j (drop k ts)) then take j (lexemes words (drop k ts)) else mark ∷ [] in
    let rest : ℕ → ℕ → List Part = λ k j. parts_of words (drop (suc i) hs) (drop j (drop k ts)) in
    so_far ∙ ap (λ (xs : List Hidden). part ++ parts_of words xs ts) front
    ∙ ap (λ (k : ℕ). part ++ (outer k ++ (inner k (count_before h.span.end (drop k ts)) ++ rest k (count_before h.span.end (drop k ts))))) (sym is_n)
    ∙ ap (λ (j : ℕ). part ++ (outer n ++ (inner n j ++ rest n j))) (sym is_m)
    ∙ sym (append_assoc part (outer n) (inner n m ++ rest n m))
    ∙ ap (λ (xs : List Part). xs ++ (inner n m ++ rest n m)) (sym outer_added)
    ∙ sym (append_assoc one (inner n m) (rest n m))
    ∙ ap (λ (xs : List Part). xs ++ rest n m) (sym inner_added)
    ∙ ap (λ (k : ℕ). two ++ parts_of words (drop k hs) (drop m (drop n ts))) (sym next)

-- as many lexemes as tokens
pub length-lexemes : (words : List (List ℕ)) (ts : List Token) → length (lexemes words ts) ≡ length ts
length-lexemes words [] = refl
length-lexemes words (t ∷ ts) = ap suc (length-lexemes words ts)

-- the lexemes behind all hidden parts
pub parts_end : (words : List (List ℕ)) (hs : List Hidden) (i : ℕ) (all part more : List Part) (ts : List Token) → length hs ≤ i →
    all ≡ part ++ parts_of words (drop i hs) ts → more ≡ part ++ take (length ts) (lexemes words ts) → more ≡ all
parts_end words hs i all part more ts past so_far adds =
    let enough : length (lexemes words ts) ≤ length ts = omega (arith, length-lexemes words ts) in
    adds ∙ ap (λ (xs : List Part). part ++ xs) (take_all (length ts) (lexemes words ts) enough)
    ∙ ap (λ (rest : List Hidden). part ++ parts_of words rest ts) (sym (drop_all i hs past)) ∙ sym so_far
