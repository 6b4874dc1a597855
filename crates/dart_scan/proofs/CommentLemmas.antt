-- The end of a comment doesn't depend on the steps that are allowed, if they are enough.
use Rattle.std.proofs.Common.{◌≡◌, ◌≢◌, ℕ, zero, suc, ◌+◌, ◌-◌, ◌≤◌, ◌==◌, true, false, List, [], ◌∷◌, length, drop, codes, Option, Some, None, option_map, if◌then◌else◌, refl, sym, ◌∙◌, ap, arith, length-drop}
use Rattle.std.proofs.lemmas.List.{drop-drop, drop_all}
use Rattle.dart_scan.specs.Lexemes.{begins}
use Rattle.dart_scan.specs.Comments.{comment_end}

pub comment_end-empty : (steps inner : ℕ) → comment_end steps inner [] ≡ None
unfolding comment_end
comment_end-empty zero inner = refl
comment_end-empty (suc steps) inner = ap (option_map (λ n. 1 + n)) (comment_end-empty steps inner)

pub comment_end-enough : (m n inner : ℕ) (text : List ℕ) → length text ≤ m → length text ≤ n → comment_end m inner text ≡ comment_end n inner text
unfolding comment_end
comment_end-enough zero n inner [] h k = sym (comment_end-empty n inner)
comment_end-enough zero n inner (byte ∷ text) h k = absurd (omega (arith, h))
comment_end-enough (suc m) zero inner [] h k = comment_end-empty (suc m) inner
comment_end-enough (suc m) zero inner (byte ∷ text) h k = absurd (omega (arith, k))
comment_end-enough (suc m) (suc n) inner text h k =
    let less : length (drop 1 text) ≤ m = omega (arith, h, length-drop 1 text) in
    let less' : length (drop 1 text) ≤ n = omega (arith, k, length-drop 1 text) in
    let fewer : length (drop 2 text) ≤ m = omega (arith, h, length-drop 2 text) in
    let fewer' : length (drop 2 text) ≤ n = omega (arith, k, length-drop 2 text) in
    rw (comment_end-enough m n (inner - 1) (drop 2 text) fewer fewer', comment_end-enough m n (inner + 1) (drop 2 text) fewer fewer', comment_end-enough m n inner (drop 1 text) less less') refl

-- where a comment with so many inner ones ends
abbrev pub end_of : ℕ → List ℕ → Option ℕ
end_of inner text = comment_end (length text) inner text

pub end_of-step : (inner : ℕ) (text : List ℕ) → end_of inner text ≡
    (if begins text (codes "*/") then (if inner == 0 then Some 2 else option_map (λ n. 2 + n) (end_of (inner - 1) (drop 2 text)))
    else (if begins text (codes "/*") then option_map (λ n. 2 + n) (end_of (inner + 1) (drop 2 text))
    else option_map (λ n. 1 + n) (end_of inner (drop 1 text))))
unfolding comment_end
end_of-step inner text =
    let less : length (drop 1 text) ≤ length text = omega (arith, length-drop 1 text) in
    let fewer : length (drop 2 text) ≤ length text = omega (arith, length-drop 2 text) in
    let same : length text ≤ length text = omega arith in
    let more : length text ≤ suc (length text) = omega arith in
    let first : length (drop 1 text) ≤ length (drop 1 text) = omega arith in
    let second : length (drop 2 text) ≤ length (drop 2 text) = omega arith in
    comment_end-enough (length text) (suc (length text)) inner text same more
    ∙ rw (
      comment_end-enough (length text) (length (drop 2 text)) (inner - 1) (drop 2 text) fewer second,
      comment_end-enough (length text) (length (drop 2 text)) (inner + 1) (drop 2 text) fewer second,
      comment_end-enough (length text) (length (drop 1 text)) inner (drop 1 text) less first,
    ) refl

pub further : (a b : ℕ) (o : Option ℕ) → option_map (λ n. a + n) (option_map (λ n. b + n) o) ≡ option_map (λ n. (a + b) + n) o
further a b None = refl
further a b (Some n) = ap Some (omega arith)

onward : (text : List ℕ) (at k inner inner' : ℕ) → end_of 0 text ≡ option_map (λ n. at + n) (end_of inner (drop at text))
    → end_of inner (drop at text) ≡ option_map (λ n. k + n) (end_of inner' (drop k (drop at text)))
    → end_of 0 text ≡ option_map (λ n. (at + k) + n) (end_of inner' (drop (at + k) text))
onward text at k inner inner' so_far step =
    so_far ∙ ap (option_map (λ n. at + n)) step ∙ further at k (end_of inner' (drop k (drop at text)))
    ∙ ap (λ rest. option_map (λ n. (at + k) + n) (end_of inner' rest)) (drop-drop k at text)

-- one step of the walk, by what stands at its place
pub past_last : (text : List ℕ) (at inner : ℕ) → inner ≡ 0 → begins (drop at text) (codes "*/") ≡ true
    → end_of 0 text ≡ option_map (λ n. at + n) (end_of inner (drop at text)) → Some (2 + (at + 2)) ≡ option_map (λ n. 2 + n) (end_of 0 text)
past_last text at inner none closes so_far =
    let here : end_of inner (drop at text) ≡ Some 2 = end_of-step inner (drop at text) ∙ rw (closes, none) refl in
    sym (ap (option_map (λ n. 2 + n)) (so_far ∙ ap (option_map (λ n. at + n)) here))

pub past_inner : (text : List ℕ) (at inner : ℕ) → inner ≢ 0 → begins (drop at text) (codes "*/") ≡ true
    → end_of 0 text ≡ option_map (λ n. at + n) (end_of inner (drop at text)) → end_of 0 text ≡ option_map (λ n. (at + 2) + n) (end_of (inner - 1) (drop (at + 2) text))
past_inner text at inner some closes so_far =
    let test : (inner == 0) ≡ false = grind arith in
    onward text at 2 inner (inner - 1) so_far (end_of-step inner (drop at text) ∙ rw (closes, test) refl)

pub past_opening : (text : List ℕ) (at inner : ℕ) → begins (drop at text) (codes "*/") ≡ false → begins (drop at text) (codes "/*") ≡ true
    → end_of 0 text ≡ option_map (λ n. at + n) (end_of inner (drop at text)) → end_of 0 text ≡ option_map (λ n. (at + 2) + n) (end_of (inner + 1) (drop (at + 2) text))
past_opening text at inner closes opens so_far = onward text at 2 inner (inner + 1) so_far (end_of-step inner (drop at text) ∙ rw (closes, opens) refl)

pub past_other : (text : List ℕ) (at inner : ℕ) → begins (drop at text) (codes "*/") ≡ false → begins (drop at text) (codes "/*") ≡ false
    → end_of 0 text ≡ option_map (λ n. at + n) (end_of inner (drop at text)) → end_of 0 text ≡ option_map (λ n. (at + 1) + n) (end_of inner (drop (at + 1) text))
past_other text at inner closes opens so_far = onward text at 1 inner inner so_far (end_of-step inner (drop at text) ∙ rw (closes, opens) refl)

pub at_the_end : (text : List ℕ) (at inner : ℕ) → length text ≤ at
    → end_of 0 text ≡ option_map (λ n. at + n) (end_of inner (drop at text)) → None ≡ option_map (λ n. 2 + n) (end_of 0 text)
at_the_end text at inner end so_far =
    let none : drop at text ≡ [] = drop_all at text end in
    sym (ap (option_map (λ n. 2 + n)) (so_far ∙ ap (option_map (λ n. at + n)) (ap (end_of inner) none ∙ comment_end-empty 0 inner)))
