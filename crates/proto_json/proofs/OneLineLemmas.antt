-- Compact JSON holds no control character, so it never breaks a line.
use Rattle.std.proofs.Common.{◌≡◌, ◌<◌, ◌≤◌, ◌/◌, ◌%◌, ◌&&◌, ◌==◌, ℕ, zero, suc, List, [], ◌∷◌, ◌++◌, Bool, true, false, if◌then◌else◌, nat_lt, pos, negsuc, refl, arith, inl, inr}
use Rattle.std.specs.List.{list_all}
use Rattle.std.specs.Fmt.{digits_onto, digits, decimal, digit_glyph}
use Rattle.std.proofs.lemmas.Bool.{and_parts, cases_eq, cases_lt, false≢true}
use Rattle.std.proofs.lemmas.List.Folds.{list_all-append}
use Rattle.std.proofs.lemmas.List.Sums.{AllPass-from_list_all}
use Rattle.std.proofs.lemmas.List.Elements.{All-contains}
use Rattle.json.specs.Print.{escape_byte, escape, quoted}
use Rattle.serde_json.specs.Data.{Num, unsigned, negative, float, Data, null, boolean, number, string, array, object, Items, no_items, item, Members, no_members, member}
use Rattle.serde_json.specs.Written.{number_text, comma_if, compact_text, items_text, members_text}
use Rattle.fault_io.specs.Lines.{line_feed}
use Rattle.proto_json.specs.Replies.{IsOneLine}

-- the byte is no control character
abbrev is_shown : ℕ → Bool
is_shown b = nat_lt 31 b

-- no byte is one
abbrev all_shown : List ℕ → Bool
all_shown = list_all is_shown

-- of two texts, if of each
all_shown-append : (xs ys : List ℕ) → all_shown xs ≡ true → all_shown ys ≡ true → all_shown (xs ++ ys) ≡ true
all_shown-append xs ys hx hy = rw (list_all-append is_shown xs ys, hx, hy) refl

-- the escapes of the bytes below n hold none
abbrev escapes_shown_below : ℕ → Bool
escapes_shown_below zero = true
escapes_shown_below (suc n) = all_shown (escape_byte n) && escapes_shown_below n

-- each of them, by its byte
escape_shown_below : (n : ℕ) → escapes_shown_below n ≡ true → (x : ℕ) → x < n → all_shown (escape_byte x) ≡ true
escape_shown_below zero e x h = absurd (omega arith)
escape_shown_below (suc n) e x h =
    let p = and_parts _ _ e in
    elim (cases_eq x n) [ inl same ↦ rw same p.0 | inr other ↦ escape_shown_below n p.1 x (omega arith) ]

-- of the ASCII bytes, by trying each
low_escapes_shown : escapes_shown_below 128 ≡ true
unfolding escape_byte
low_escapes_shown = refl

-- another byte stands for itself
high_escape_shown : (x : ℕ) → 128 ≤ x → all_shown (escape_byte x) ≡ true
unfolding escape_byte
high_escape_shown x h = grind arith

-- the escape of any byte holds none
escape_byte_shown : (x : ℕ) → all_shown (escape_byte x) ≡ true
escape_byte_shown x = elim (cases_lt x 128) [ inl low ↦ escape_shown_below 128 low_escapes_shown x low | inr high ↦ high_escape_shown x high ]

-- nor do the escapes of a text
escape_shown : (s : List ℕ) → all_shown (escape s) ≡ true
escape_shown [] = refl
escape_shown (x ∷ s) = all_shown-append (escape_byte x) (escape s) (escape_byte_shown x) (escape_shown s)

-- nor its quotes
quoted_shown : (s : List ℕ) → all_shown (quoted s) ≡ true
quoted_shown s = all_shown-append (escape s) (34 ∷ []) (escape_shown s) refl

-- a digit is none
glyph_shown : (d : ℕ) → is_shown (digit_glyph false d) ≡ true
glyph_shown d = grind arith

-- of the chosen text, if of both
if_shown : (b : Bool) (xs ys : List ℕ) → all_shown xs ≡ true → all_shown ys ≡ true → all_shown (if b then xs else ys) ≡ true
if_shown true xs ys hx hy = hx
if_shown false xs ys hx hy = hy

-- digits hold none
digits_onto_shown : (k n : ℕ) (acc : List ℕ) → all_shown acc ≡ true → all_shown (digits_onto k 10 false n acc) ≡ true
digits_onto_shown zero n acc h = h
digits_onto_shown (suc k) n acc h =
    let more : all_shown (digit_glyph false (n % 10) ∷ acc) ≡ true = rw (glyph_shown (n % 10), h) refl in
    if_shown (n / 10 == 0) _ _ more (digits_onto_shown k (n / 10) _ more)

-- of a natural number
decimal_shown : (n : ℕ) → all_shown (decimal n) ≡ true
unfolding digits
decimal_shown n = digits_onto_shown 64 n [] refl

-- of a number, whose float has no text here
number_text_shown : (n : Num) → all_shown (number_text n) ≡ true
number_text_shown (unsigned n) = decimal_shown n
number_text_shown (negative (pos n)) = decimal_shown n
number_text_shown (negative (negsuc n)) = decimal_shown (suc n)
number_text_shown (float x) = refl

-- a comma is none
comma_if_shown : (later : Bool) → all_shown (comma_if later) ≡ true
comma_if_shown true = refl
comma_if_shown false = refl

-- nor does the text of a value, of items or of members
mutual
  compact_text_shown : (d : Data) → all_shown (compact_text d) ≡ true
  compact_text_shown null = refl
  compact_text_shown (boolean true) = refl
  compact_text_shown (boolean false) = refl
  compact_text_shown (number n) = number_text_shown n
  compact_text_shown (string s) = quoted_shown s
  compact_text_shown (array ds) = items_text_shown false ds
  compact_text_shown (object ms) = members_text_shown false ms

  items_text_shown : (later : Bool) (ds : Items) → all_shown (items_text later ds) ≡ true
  items_text_shown later no_items = refl
  items_text_shown later (item d ds) =
      all_shown-append (comma_if later) _ (comma_if_shown later) (all_shown-append (compact_text d) _ (compact_text_shown d) (items_text_shown true ds))

  members_text_shown : (later : Bool) (ms : Members) → all_shown (members_text later ms) ≡ true
  members_text_shown later no_members = refl
  members_text_shown later (member k d ms) =
      all_shown-append (comma_if later) _ (comma_if_shown later)
      (all_shown-append (quoted k) _ (quoted_shown k) (all_shown-append (compact_text d) _ (compact_text_shown d) (members_text_shown true ms)))

-- the text of a value and a line feed are one line
pub IsOneLine-compact_text : (d : Data) → IsOneLine (compact_text d ++ line_feed ∷ [])
IsOneLine-compact_text d = record {
  text = compact_text d;
  ended = refl;
  unbroken = λ broken. false≢true (All-contains (λ b. is_shown b ≡ true) (compact_text d) line_feed (AllPass-from_list_all is_shown (compact_text d) (compact_text_shown d)) broken);
}
