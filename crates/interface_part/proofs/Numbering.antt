-- Numbering the tokens that are seen, one piece of a text behind the other.
use Rattle.std.proofs.Common.{◌≡◌, ℕ, zero, suc, ◌+◌, ◌<◌, ◌≤◌, Bool, List, [], ◌∷◌, ◌++◌, length, map, take, drop, get_or, Option, None, Some, refl, sym, ap, ◌∙◌, arith, append-nil, if◌then◌else◌}
use Rattle.std.proofs.Math.Seq.{drop-cons, take-suc}
use Rattle.std.proofs.lemmas.List.{append_assoc, drop_all, length-append, length-map}
use Rattle.dart_tokens.specs.declared.token.Token.{Token}
use Rattle.interface_part.specs.declared.hidden.Hidden.{Hidden}
use Rattle.interface_part.specs.declared.numbers.SeenToken.{SeenToken}
use Rattle.interface_part.specs.Interface.{count_before, is_seen}
use Rattle.interface_part.specs.Numbers.{seen_from, span_of_token, tokens_of_parts}

-- a token as it is seen with a number
abbrev pub with_number : ℕ → Token → SeenToken
with_number number t = record { number = number; span = span_of_token t }

-- tokens alone
abbrev pub shown : List Token → List (Option Token)
shown ts = map Some ts

-- what is seen of parts, and then of those behind them
pub seen_append : (n : ℕ) (xs ys : List (Option Token)) → seen_from n (xs ++ ys) ≡ seen_from n xs ++ seen_from (n + length xs) ys
seen_append n [] ys = let none : n ≡ n + 0 = omega arith in ap (λ (k : ℕ). seen_from k ys) none
seen_append n (None ∷ xs) ys =
    let one : n + 1 + length xs ≡ n + suc (length xs) = omega arith in
    seen_append (n + 1) xs ys ∙ ap (λ (k : ℕ). seen_from (n + 1) xs ++ seen_from k ys) one
seen_append n (Some t ∷ xs) ys =
    let one : n + 1 + length xs ≡ n + suc (length xs) = omega arith in
    ap (λ (rest : List SeenToken). with_number n t ∷ rest) (seen_append (n + 1) xs ys ∙ ap (λ (k : ℕ). seen_from (n + 1) xs ++ seen_from k ys) one)

length-seen : (n : ℕ) (ts : List Token) → length (seen_from n (shown ts)) ≡ length ts
length-seen n [] = refl
length-seen n (t ∷ ts) = ap suc (length-seen (n + 1) ts)

length-shown : (ts : List Token) → length (shown ts) ≡ length ts
length-shown [] = refl
length-shown (t ∷ ts) = ap suc (length-shown ts)

-- one token more
seen_last : (n : ℕ) (ts : List Token) (t : Token) → seen_from n (shown (ts ++ t ∷ [])) ≡ seen_from n (shown ts) ++ with_number (n + length ts) t ∷ []
seen_last n [] t = let none : n ≡ n + 0 = omega arith in ap (λ (k : ℕ). with_number k t ∷ []) none
seen_last n (x ∷ ts) t =
    let one : n + 1 + length ts ≡ n + suc (length ts) = omega arith in
    ap (λ (rest : List SeenToken). with_number n x ∷ rest) (seen_last (n + 1) ts t ∙ ap (λ (k : ℕ). seen_from (n + 1) (shown ts) ++ with_number k t ∷ []) one)

pub see_more : (marks : ℕ) (before so_far more : List SeenToken) (ts : List Token) (i number : ℕ) (t : Token) → i < length ts → t ≡ get_or ts i t →
    so_far ≡ before ++ seen_from (length before + marks) (shown (take i ts)) → number ≡ length so_far + marks → more ≡ so_far ++ with_number number t ∷ [] →
    more ≡ before ++ seen_from (length before + marks) (shown (take (i + 1) ts))
see_more marks before so_far more ts i number t within is seen is_number adds =
    let n = length before + marks in
    let first : List SeenToken = seen_from n (shown (take i ts)) in
    let one : i + 1 ≡ suc i = omega arith in
    let split : take (suc i) ts ≡ take i ts ++ t ∷ [] = take-suc ts i t within ∙ ap (λ (x : Token). take i ts ++ x ∷ []) (sym is) in
    let long : length so_far ≡ length before + length first = ap (λ (xs : List SeenToken). length xs) seen ∙ length-append before first in
    let count : number ≡ n + length (take i ts) = omega (arith, is_number, long, length-seen n (take i ts)) in
    adds ∙ ap (λ (xs : List SeenToken). xs ++ with_number number t ∷ []) seen
    ∙ append_assoc before first (with_number number t ∷ [])
    ∙ ap (λ (k : ℕ). before ++ (first ++ with_number k t ∷ [])) count
    ∙ ap (λ (xs : List SeenToken). before ++ xs) (sym (seen_last n (take i ts) t))
    ∙ ap (λ (xs : List Token). before ++ seen_from n (shown xs)) (sym split)
    ∙ ap (λ (k : ℕ). before ++ seen_from n (shown (take k ts))) (sym one)

-- what stands behind tokens
pub after_tokens : (marks : ℕ) (old new : List SeenToken) (ts : List Token) (parts : List (Option Token)) → new ≡ old ++ seen_from (length old + marks) (shown ts) →
    new ++ seen_from (length new + marks) parts ≡ old ++ seen_from (length old + marks) (shown ts ++ parts)
after_tokens marks old new ts parts e =
    let n = length old + marks in
    let first : List SeenToken = seen_from n (shown ts) in
    let long : length new ≡ length old + length first = ap (λ (xs : List SeenToken). length xs) e ∙ length-append old first in
    let count : length new + marks ≡ n + length (shown ts) = omega (arith, long, length-seen n ts, length-shown ts) in
    ap (λ (k : ℕ). new ++ seen_from k parts) count
    ∙ ap (λ (xs : List SeenToken). xs ++ seen_from (n + length (shown ts)) parts) e
    ∙ append_assoc old first (seen_from (n + length (shown ts)) parts)
    ∙ ap (λ (xs : List SeenToken). old ++ xs) (sym (seen_append n (shown ts) parts))

-- behind a mark
pub after_mark : (marks : ℕ) (old new : List SeenToken) (parts : List (Option Token)) → new ≡ old →
    new ++ seen_from (length new + (marks + 1)) parts ≡ old ++ seen_from (length old + marks) (None ∷ parts)
after_mark marks old new parts e =
    let one : length old + (marks + 1) ≡ length old + marks + 1 = omega arith in
    ap (λ (xs : List SeenToken). xs ++ seen_from (length xs + (marks + 1)) parts) e ∙ ap (λ (k : ℕ). old ++ seen_from k parts) one

-- what is hidden, as parts
abbrev pub parts_within : Hidden → List Token → List (Option Token)
parts_within h ts = if is_seen h ts then shown ts else None ∷ []

-- one hidden part more
pub seen_more : (h : Hidden) (hs : List Hidden) (i n m marks more : ℕ) (all zeroth first second : List SeenToken) (ts : List Token) →
    i < length hs → h ≡ get_or hs i h → n ≡ count_before h.span.start ts → m ≡ count_before h.span.end (drop n ts) →
    all ≡ zeroth ++ seen_from (length zeroth + marks) (tokens_of_parts (drop i hs) ts) →
    first ≡ zeroth ++ seen_from (length zeroth + marks) (shown (take n ts)) →
    ((parts : List (Option Token)) → second ++ seen_from (length second + more) parts ≡ first ++ seen_from (length first + marks) (parts_within h (take m (drop n ts)) ++ parts)) →
    all ≡ second ++ seen_from (length second + more) (tokens_of_parts (drop (i + 1) hs) (drop m (drop n ts)))
seen_more h hs i n m marks more all zeroth first second ts within is is_n is_m so_far adds hides =
    let next : i + 1 ≡ suc i = omega arith in
    let front : drop i hs ≡ h ∷ drop (suc i) hs = drop-cons hs i h within ∙ ap (λ (x : Hidden). x ∷ drop (suc i) hs) (sym is) in
    let rest : ℕ → ℕ → List (Option Token) = λ k j. tokens_of_parts (drop (suc i) hs) (drop j (drop k ts)) in
    let inner : ℕ → ℕ → List (Option Token) = λ k j. parts_within h (take j (drop k ts)) ++ rest k j in
    let before : List (Option Token) → List SeenToken = λ parts. zeroth ++ seen_from (length zeroth + marks) parts in
    so_far ∙ ap (λ (xs : List Hidden). before (tokens_of_parts xs ts)) front
    ∙ ap (λ (k : ℕ). before (shown (take k ts) ++ inner k (count_before h.span.end (drop k ts)))) (sym is_n)
    ∙ ap (λ (j : ℕ). before (shown (take n ts) ++ inner n j)) (sym is_m)
    ∙ sym (after_tokens marks zeroth first (take n ts) (inner n m) adds)
    ∙ sym (hides (rest n m))
    ∙ ap (λ (k : ℕ). second ++ seen_from (length second + more) (tokens_of_parts (drop k hs) (drop m (drop n ts)))) (sym next)

-- the tokens behind all hidden parts
pub seen_end : (hs : List Hidden) (i marks : ℕ) (all so_far last : List SeenToken) (ts : List Token) → length hs ≤ i →
    all ≡ so_far ++ seen_from (length so_far + marks) (tokens_of_parts (drop i hs) ts) → last ≡ so_far ++ seen_from (length so_far + marks) (shown ts) → last ≡ all
seen_end hs i marks all so_far last ts past e adds =
    adds ∙ ap (λ (xs : List Hidden). so_far ++ seen_from (length so_far + marks) (tokens_of_parts xs ts)) (sym (drop_all i hs past)) ∙ sym e
