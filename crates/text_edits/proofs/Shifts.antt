-- Where tokens stand in a text that differs in the braces of a body.
use Rattle.std.proofs.Common.{◌≡◌, ℕ, suc, ◌+◌, ◌-◌, ◌≤◌, ◌<◌, ◌==◌, Bool, true, false, nat_lt, List, [], ◌∷◌, ◌++◌, Some, slice_get, length, get_or, if◌then◌else◌, refl, sym, ap, ◌∙◌, arith}
use Rattle.std.specs.List.{All}
use Rattle.std.proofs.lemmas.Bool.Decides.{nat_tests}
use Rattle.std.proofs.lemmas.List.Elements.{All-head, All-tail}
use denote.Enum.Bare.{sameb}
use Rattle.readings.specs.Leading.{Each}
use Rattle.dart_tokens.specs.contracts.token.Kind as kinds
use Rattle.dart_tokens.specs.declared.token.Kind.TheVariants as lexeme
use Rattle.dart_tokens.specs.declared.token.Token.{Token}
use Rattle.body_laws.specs.Bodies.{Moves}
use Rattle.text_edits.specs.Twins.{TextTwins}
use Rattle.text_edits.proofs.Words.{Once, number, numbers_differ, same_number}

-- Tokens in turn.

abbrev pub InTurn : List Token → Type 0
InTurn [] = Unit {0}
InTurn (t ∷ ts) = (t.start < t.end) × (Each (λ u. t.end ≤ u.start) ts × InTurn ts)

abbrev pub Apart : List Token → Type 0
Apart ts = (first second : ℕ) (one other : Token) → first < second → slice_get ts first ≡ Some one → slice_get ts second ≡ Some other → one.end ≤ other.start

each_at : (P : Token → Type 0) (ts : List Token) → ((k : ℕ) (t : Token) → slice_get ts k ≡ Some t → P t) → Each P ts
each_at P [] f = tt
each_at P (t ∷ ts) f = (f 0 t refl, each_at P ts (λ k u e. f (suc k) u e))

pub in_turn : (ts : List Token) → All (λ t. t.start < t.end) ts → Apart ts → InTurn ts
in_turn [] h a = tt
in_turn (t ∷ ts) h a = (
  All-head (λ t. t.start < t.end) t ts h,
  (each_at (λ u. t.end ≤ u.start) ts (λ k u e. a 0 (suc k) t u (omega arith) refl e), in_turn ts (All-tail (λ t. t.start < t.end) t ts h) (λ i j one other less e d. a (suc i) (suc j) one other (omega (arith, less)) e d)),
)

pub each_front : (P : Token → Type 0) (xs ys : List Token) → Each P (xs ++ ys) → Each P xs
each_front P [] ys h = tt
each_front P (x ∷ xs) ys h = (h.0, each_front P xs ys h.1)

pub each_back : (P : Token → Type 0) (xs ys : List Token) → Each P (xs ++ ys) → Each P ys
each_back P [] ys h = h
each_back P (x ∷ xs) ys h = each_back P xs ys h.1

pub turn_back : (xs ys : List Token) → InTurn (xs ++ ys) → InTurn ys
turn_back [] ys h = h
turn_back (x ∷ xs) ys h = turn_back xs ys h.1.1

-- a token ends before one that comes later
abbrev pub EndsBy : ℕ → Token → Type 0
EndsBy offset t = (t.start < t.end) × (t.end ≤ offset)

abbrev pub BeginsFrom : ℕ → Token → Type 0
BeginsFrom offset t = (t.start < t.end) × (offset ≤ t.start)

pub ends_before : (xs : List Token) (y : Token) (ys : List Token) → InTurn (xs ++ y ∷ ys) → Each (EndsBy y.start) xs
ends_before [] y ys h = tt
ends_before (x ∷ xs) y ys h = ((h.0, (each_back (λ u. x.end ≤ u.start) xs (y ∷ ys) h.1.0).0), ends_before xs y ys h.1.1)

pub begins_behind : (offset : ℕ) (ts : List Token) → Each (λ u. offset ≤ u.start) ts → InTurn ts → Each (BeginsFrom offset) ts
begins_behind offset [] e h = tt
begins_behind offset (t ∷ ts) e h = ((h.0, e.0), begins_behind offset ts e.1 h.1.1)

-- Offsets.

other_low : (a b : ℕ) → a < b → (a == b) ≡ false
other_low a b h = grind (arith, nat_tests)

other_high : (a b : ℕ) → b < a → (a == b) ≡ false
other_high a b h = grind (arith, nat_tests)

not_less : (a b : ℕ) → b ≤ a → nat_lt a b ≡ false
not_less a b h = grind (arith, nat_tests)

is_less : (a b : ℕ) → a < b → nat_lt a b ≡ true
is_less a b h = grind (arith, nat_tests)

less_is : (a b : ℕ) → nat_lt a b ≡ true → a < b
less_is a b h = grind (arith, nat_tests)

least_is : (a b : ℕ) → nat_lt a b ≡ false → b ≤ a
least_is a b h = grind (arith, nat_tests)

equal_both : (a b c d : ℕ) → (a ≡ b → c ≡ d) → (c ≡ d → a ≡ b) → (a == b) ≡ (c == d)
equal_both a b c d f g = by (a == b) refl (c == d) refl
  where
    is : (x y : ℕ) → (x == y) ≡ true → x ≡ y
    is x y h = grind (arith, nat_tests)

    isnt : (x y : ℕ) → x ≡ y → (x == y) ≡ true
    isnt x y h = grind (arith, nat_tests)

    clash : (p : Bool) → p ≡ true → p ≡ false → ⊥
    clash true e d = cc
    clash false e d = cc

    by : (p : Bool) → (a == b) ≡ p → (q : Bool) → (c == d) ≡ q → p ≡ q
    by true p true q = refl
    by true p false q = absurd (clash (c == d) (isnt c d (f (is a b p))) q)
    by false p true q = absurd (clash (a == b) (isnt a b (g (is c d q))) p)
    by false p false q = refl

-- A brace begins at an offset, and the one that closes it at others in the two texts: what stands before stays, and what stands behind is moved.

abbrev pub start_there : (left right on back : ℕ) → ℕ → ℕ
start_there left right on back s = if nat_lt left s then (if nat_lt s right then suc left else s + on - back) else s

abbrev pub end_there : (right on back : ℕ) → ℕ → ℕ
end_there right on back e = if nat_lt right e then e + on - back else e

module _ (left right other on back : ℕ) (apart : left < right) (apart_there : left < other) (moved : right + on ≡ other + back) where
  pub start_low : (s : ℕ) → s ≤ left → start_there left right on back s ≡ s
  start_low s h = let e : nat_lt left s ≡ false = not_less left s h in rw e refl

  pub start_high : (s : ℕ) → right ≤ s → start_there left right on back s ≡ s + on - back
  start_high s h = let e : nat_lt left s ≡ true = is_less left s (omega (arith, h, apart)) in let d : nat_lt s right ≡ false = not_less s right h in rw (e, d) refl

  pub end_low : (e : ℕ) → e ≤ right → end_there right on back e ≡ e
  end_low e h = let d : nat_lt right e ≡ false = not_less right e h in rw d refl

  pub end_high : (e : ℕ) → right < e → end_there right on back e ≡ e + on - back
  end_high e h = let d : nat_lt right e ≡ true = is_less right e h in rw d refl

  join_low : (e : ℕ) → e ≤ left → (s : ℕ) → (e == s) ≡ (end_there right on back e == start_there left right on back s)
  join_low e h s = by (nat_lt left s) refl (nat_lt s right) refl
    where
      stays : end_there right on back e ≡ e
      stays = end_low e (omega (arith, h, apart))

      by : (p : Bool) → nat_lt left s ≡ p → (q : Bool) → nat_lt s right ≡ q → (e == s) ≡ (end_there right on back e == start_there left right on back s)
      by true p true q =
          let less : left < s = less_is left s p in
          rw (stays, p, q) (other_low e s (omega (arith, h, less)) ∙ sym (other_low e (suc left) (omega (arith, h))))
      by true p false q =
          let less : right ≤ s = least_is s right q in
          rw (stays, p, q) (other_low e s (omega (arith, h, less, apart)) ∙ sym (other_low e (s + on - back) (omega (arith, h, less, apart, apart_there, moved))))
      by false p q r = rw (stays, p) refl

  join_high : (e : ℕ) → right < e → (s : ℕ) → (e == s) ≡ (end_there right on back e == start_there left right on back s)
  join_high e h s = by (nat_lt left s) refl (nat_lt s right) refl
    where
      goes : end_there right on back e ≡ e + on - back
      goes = end_high e h

      by : (p : Bool) → nat_lt left s ≡ p → (q : Bool) → nat_lt s right ≡ q → (e == s) ≡ (end_there right on back e == start_there left right on back s)
      by true p true q =
          let less : s < right = less_is s right q in
          rw (goes, p, q) (other_high e s (omega (arith, h, less)) ∙ sym (other_high (e + on - back) (suc left) (omega (arith, h, apart_there, moved))))
      by true p false q =
          let less : right ≤ s = least_is s right q in
          rw (goes, p, q) (equal_both e s (e + on - back) (s + on - back) (λ same. ap (λ (n : ℕ). n + on - back) same) (λ same. omega (arith, h, less, moved, same)))
      by false p q r =
          let less : s ≤ left = least_is left s p in
          rw (goes, p) (other_high e s (omega (arith, h, less, apart)) ∙ sym (other_high (e + on - back) s (omega (arith, h, less, apart_there, moved))))

  module _ (words others : List (List ℕ)) (once : Once words) (once_there : Once others) where
    abbrev pub moves : Moves
    moves = record { starts = start_there left right on back; ends = end_there right on back; words = number words others; distinct = numbers_differ words others once }

    -- the same word
    abbrev pub SameWord : Token → Token → Type 0
    SameWord t u = (t.word < length words) × ((u.word < length others) × (get_or words t.word [] ≡ get_or others u.word []))

    pub twin_low : (t u : Token) → EndsBy left t → t.kind ≡ u.kind → SameWord t u → t.start ≡ u.start → t.end ≡ u.end → TextTwins moves t u
    twin_low t u h k w s e = record {
      kind = k;
      word = same_number words others once_there t.word u.word w.0 w.1.0 w.1.1;
      start = sym s ∙ sym (start_low t.start (omega (arith, h.0, h.1)));
      end = sym e ∙ sym (end_low t.end (omega (arith, h.1, apart)));
      joins = λ g. join_low t.end h.1;
    }

    pub twin_brace : (t u : Token) → t.start ≡ left → t.end ≤ right → sameb kinds.the_type t.kind lexeme.Greater ≡ false → t.kind ≡ u.kind → SameWord t u → t.start ≡ u.start → t.end ≡ u.end → TextTwins moves t u
    twin_brace t u h i g k w s e = record {
      kind = k;
      word = same_number words others once_there t.word u.word w.0 w.1.0 w.1.1;
      start = sym s ∙ sym (start_low t.start (omega (arith, h)));
      end = sym e ∙ sym (end_low t.end i);
      joins = λ j. absurd (clash (sameb kinds.the_type t.kind lexeme.Greater) j g);
    }
      where
        clash : (p : Bool) → p ≡ true → p ≡ false → ⊥
        clash true e d = cc
        clash false e d = cc

    pub twin_high : (t u : Token) → BeginsFrom right t → t.kind ≡ u.kind → SameWord t u → t.start + on ≡ u.start + back → t.end + on ≡ u.end + back → TextTwins moves t u
    twin_high t u h k w s e =
        let one : u.start ≡ t.start + on - back = omega (arith, s) in
        let two : u.end ≡ t.end + on - back = omega (arith, e) in
        record {
          kind = k;
          word = same_number words others once_there t.word u.word w.0 w.1.0 w.1.1;
          start = one ∙ sym (start_high t.start h.1);
          end = two ∙ sym (end_high t.end (omega (arith, h.0, h.1)));
          joins = λ g. join_high t.end (omega (arith, h.0, h.1));
        }
