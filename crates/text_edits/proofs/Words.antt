-- The words of a text are numbered, each once, and so those of one text among those of another.
use Rattle.std.proofs.Common.{◌≡◌, ℕ, suc, ◌+◌, ◌≤◌, ◌<◌, Bool, true, false, not, ◌&&◌, ◌||◌, nat_lt, List, [], ◌∷◌, ◌++◌, length, get_or, if◌then◌else◌, bytes_eq, refl, sym, ap, ◌∙◌, arith, inl, inr, length-append}
use Rattle.std.specs.List.{list_any, position_or_len}
use Rattle.std.proofs.lemmas.Bool.{cases_lt}
use Rattle.std.proofs.lemmas.Bool.Decides.{nat_tests}
use Rattle.std.proofs.lemmas.Slice.Eq.{bytes_eq-Decides}
use Rattle.std.proofs.lemmas.List.{get_or_append_left, get_or_push}
use Rattle.std.proofs.lemmas.List.Folds.{list_any_at}
use Rattle.std.proofs.lemmas.List.Sums.{passes_at_first, fails_before_first, prefix_len-le-length}
use Rattle.readings.specs.Leading.{Each}
use Rattle.dart_tokens.specs.declared.token.Token.{Token}
use Rattle.dart_scan.specs.Scanned.{Lexeme, lexemes, with_word, words_behind, tokens_behind, tokens_of, words_of}

-- no word stands twice
abbrev pub Once : List (List ℕ) → Type 0
Once words = (i j : ℕ) → i < length words → j < length words → get_or words i [] ≡ get_or words j [] → i ≡ j

same_word : (w : List ℕ) → bytes_eq w w ≡ true
same_word w = (bytes_eq-Decides w w).1 refl

pub equal_words : (v w : List ℕ) → bytes_eq v w ≡ true → v ≡ w
equal_words v w e = (bytes_eq-Decides v w).0 e

-- a word that stands among others is found
is_among : (words : List (List ℕ)) (word : List ℕ) (i : ℕ) → i < length words → word ≡ get_or words i [] → list_any (bytes_eq word) words ≡ true
is_among words word i h e = list_any_at (bytes_eq word) words i [] h ((bytes_eq-Decides word (get_or words i [])).1 e)

once_more : (words : List (List ℕ)) (word : List ℕ) → list_any (bytes_eq word) words ≡ false → Once words → Once (words ++ word ∷ [])
once_more words word new once i j h g e =
    let size : length (words ++ word ∷ []) ≡ length words + 1 = length-append words (word ∷ []) in
    elim (cases_lt i (length words)) [
      | inl low ↦
          (elim (cases_lt j (length words)) [
            | inl less ↦ (once i j low less (sym (get_or_append_left words (word ∷ []) [] i low) ∙ e ∙ get_or_append_left words (word ∷ []) [] j less))
            | inr more ↦
                (
                let last : length words ≡ j = omega (arith, more, g, size) in
                absurd (no (is_among words word i low (sym (get_or_push words word [] j last) ∙ sym e ∙ get_or_append_left words (word ∷ []) [] i low)))
                )
          ])
      | inr high ↦
          (elim (cases_lt j (length words)) [
            | inl less ↦
                (
                let last : length words ≡ i = omega (arith, high, h, size) in
                absurd (no (is_among words word j less (sym (get_or_push words word [] i last) ∙ e ∙ get_or_append_left words (word ∷ []) [] j less)))
                )
            | inr more ↦ (omega (arith, high, more, h, g, size))
          ])
    ]
  where
    no : list_any (bytes_eq word) words ≡ true → ⊥
    no e = let both : false ≡ true = sym new ∙ e in cc

once_with : (words : List (List ℕ)) (word : List ℕ) → Once words → Once (with_word words word)
once_with words word once = by (list_any (bytes_eq word) words) refl
  where
    by : (b : Bool) → list_any (bytes_eq word) words ≡ b → Once (with_word words word)
    by true e = rw e once
    by false e = rw e (once_more words word e once)

once_behind : (words : List (List ℕ)) (ls : List Lexeme) → Once words → Once (words_behind words ls)
unfolding words_behind
once_behind words [] once = once
once_behind words (l ∷ ls) once = once_behind (with_word words l.bytes) ls (once_with words l.bytes once)

pub once_of : (text : List ℕ) → Once (words_of text)
once_of text = once_behind [] (lexemes text) (λ i j h. absurd (omega (arith, h)))

-- The word of each token is among those of the text.

grow_with : (words : List (List ℕ)) (word : List ℕ) → length words ≤ length (with_word words word)
grow_with words word = by (list_any (bytes_eq word) words) refl
  where
    by : (b : Bool) → list_any (bytes_eq word) words ≡ b → length words ≤ length (with_word words word)
    by true e = rw e (omega arith)
    by false e = let size : length (words ++ word ∷ []) ≡ length words + 1 = length-append words (word ∷ []) in rw e (omega (arith, size))

grow_behind : (words : List (List ℕ)) (ls : List Lexeme) → length words ≤ length (words_behind words ls)
unfolding words_behind
grow_behind words [] = omega arith
grow_behind words (l ∷ ls) = omega (arith, grow_with words l.bytes, grow_behind (with_word words l.bytes) ls)

-- where a word is found that stands at a place
pub found_before : (words : List (List ℕ)) (word : List ℕ) (i : ℕ) → word ≡ get_or words i [] → position_or_len (bytes_eq word) words ≤ i
found_before words word i e = elim (cases_lt i (position_or_len (bytes_eq word) words)) [
  | inl less ↦
      (
      let fails : bytes_eq word (get_or words i []) ≡ false = fails_before_first (bytes_eq word) words i [] less in
      let passes : bytes_eq word (get_or words i []) ≡ true = (bytes_eq-Decides word (get_or words i [])).1 e in
      absurd (both (bytes_eq word (get_or words i [])) passes fails)
      )
  | inr more ↦ (omega (arith, more))
]
  where
    both : (b : Bool) → b ≡ true → b ≡ false → ⊥
    both true e f = cc
    both false e f = cc

pub record Placed (words : List (List ℕ)) (word : List ℕ) : Type 0 where
  pub place : ℕ
  pub within : place < length words
  pub is_it : word ≡ get_or words place []

pub placed : (words : List (List ℕ)) (word : List ℕ) → list_any (bytes_eq word) words ≡ true → Placed words word
placed [] word e = absurd (cc)
placed (w ∷ words) word e = by (bytes_eq word w) refl e (λ h. placed words word h)
  where
    by : (b : Bool) → bytes_eq word w ≡ b → (b || list_any (bytes_eq word) words) ≡ true → (list_any (bytes_eq word) words ≡ true → Placed words word) → Placed (w ∷ words) word
    by true f h r = record { place = 0; within = omega arith; is_it = equal_words word w f }
    by false f h r = let p = r h in record { place = suc p.place; within = omega (arith, p.within); is_it = p.is_it }

word_short : (words : List (List ℕ)) (word : List ℕ) → position_or_len (bytes_eq word) words < length (with_word words word)
word_short words word = by (list_any (bytes_eq word) words) refl
  where
    by : (b : Bool) → list_any (bytes_eq word) words ≡ b → position_or_len (bytes_eq word) words < length (with_word words word)
    by true e = let p = placed words word e in rw e (omega (arith, p.within, found_before words word p.place p.is_it))
    by false e =
        let size : length (words ++ word ∷ []) ≡ length words + 1 = length-append words (word ∷ []) in
        let most : position_or_len (bytes_eq word) words ≤ length words = prefix_len-le-length (λ x. not (bytes_eq word x)) words in
        rw e (omega (arith, size, most))

more_words : (n m : ℕ) (ts : List Token) → n ≤ m → Each (λ t. t.word < n) ts → Each (λ t. t.word < m) ts
more_words n m [] h e = tt
more_words n m (t ∷ ts) h e = (omega (arith, h, e.0), more_words n m ts h e.1)

words_short : (words : List (List ℕ)) (ls : List Lexeme) → Each (λ t. t.word < length (words_behind words ls)) (tokens_behind words ls)
unfolding words_behind tokens_behind
words_short words [] = tt
words_short words (l ∷ ls) = (omega (arith, word_short words l.bytes, grow_behind (with_word words l.bytes) ls), words_short (with_word words l.bytes) ls)

-- each token of a text has a word of it
pub have_words : (text : List ℕ) → Each (λ t. t.word < length (words_of text)) (tokens_of text)
have_words text = words_short [] (lexemes text)

-- The number of a word of one text among the words of another; one that isn't there is numbered behind these.

abbrev pub there : (words others : List (List ℕ)) → ℕ → ℕ
there words others n = position_or_len (bytes_eq (get_or words n [])) others

abbrev pub number : (words others : List (List ℕ)) → ℕ → ℕ
number words others n = if nat_lt n (length words) && nat_lt (there words others n) (length others) then there words others n else length others + n

-- words that differ have numbers that differ
pub numbers_differ : (words others : List (List ℕ)) → Once words → (a b : ℕ) → number words others a ≡ number words others b → a ≡ b
numbers_differ words others once a b e = by (nat_lt a (length words)) refl (nat_lt (there words others a) (length others)) refl (nat_lt b (length words)) refl (nat_lt (there words others b) (length others)) refl e
  where
    found : (n : ℕ) → nat_lt (there words others n) (length others) ≡ true → get_or words n [] ≡ get_or others (there words others n) []
    found n h = equal_words (get_or words n []) _ (passes_at_first (bytes_eq (get_or words n [])) others [] (under (there words others n) (length others) h))
      where
        under : (x y : ℕ) → nat_lt x y ≡ true → x < y
        under x y h = grind (arith, nat_tests)

    under : (x y : ℕ) → nat_lt x y ≡ true → x < y
    under x y h = grind (arith, nat_tests)

    clash : (x y z : ℕ) → nat_lt x y ≡ true → x ≡ y + z → ⊥
    clash x y z h e = grind (arith, nat_tests)

    by : (p : Bool) → nat_lt a (length words) ≡ p → (q : Bool) → nat_lt (there words others a) (length others) ≡ q → (r : Bool) → nat_lt b (length words) ≡ r → (s : Bool) → nat_lt (there words others b) (length others) ≡ s →
        (if p && q then there words others a else length others + a) ≡ (if r && s then there words others b else length others + b) → a ≡ b
    by true p true q true r true s e = once a b (under a (length words) p) (under b (length words) r) (found a q ∙ ap (λ (n : ℕ). get_or others n []) e ∙ sym (found b s))
    by true p true q true r false s e = absurd (clash (there words others a) (length others) b q e)
    by true p true q false r s t e = absurd (clash (there words others a) (length others) b q e)
    by true p false q true r true s e = absurd (clash (there words others b) (length others) a s (sym e))
    by false p q t true r true s e = absurd (clash (there words others b) (length others) a s (sym e))
    by true p false q true r false s e = omega (arith, e)
    by true p false q false r s t e = omega (arith, e)
    by false p q t true r false s e = omega (arith, e)
    by false p q t false r s u e = omega (arith, e)

-- two tokens with the same letters
pub same_number : (words others : List (List ℕ)) → Once others → (a b : ℕ) → a < length words → b < length others → get_or words a [] ≡ get_or others b [] → b ≡ number words others a
same_number words others once a b h g e =
    let before : there words others a ≤ b = found_before others (get_or words a []) b e in
    let passes : bytes_eq (get_or words a []) (get_or others (there words others a) []) ≡ true = passes_at_first (bytes_eq (get_or words a [])) others [] (omega (arith, before, g)) in
    let equal : get_or words a [] ≡ get_or others (there words others a) [] = equal_words (get_or words a []) _ passes in
    let same : b ≡ there words others a = once b (there words others a) g (omega (arith, before, g)) (sym e ∙ equal) in
    let first : nat_lt a (length words) ≡ true = grind (arith, nat_tests) in
    let second : nat_lt (there words others a) (length others) ≡ true = under (there words others a) (length others) (omega (arith, before, g)) in
    rw (first, second) same
  where
    under : (x y : ℕ) → x < y → nat_lt x y ≡ true
    under x y h = grind (arith, nat_tests)
