-- How the calls of std on texts say the words of paths.
use Rattle.std.proofs.Common.{◌≡◌, ◌≢◌, ℕ, suc, ◌+◌, ◌-◌, ◌<◌, true, false, List, [], ◌∷◌, ◌++◌, length, take, drop, Option, None, Some, MatchOption, option_map, eqb, inl, inr, refl, sym, ◌∙◌, ap, arith}
use denote.Ref.{Bor}
use Rattle.std.specs.Prelude.{nat_eq, if◌then◌else◌}
use Rattle.std.specs.Cmp.Lexicographic.{same_text}
use Rattle.std.specs.List.{slice_split, onto_first, position_or_len, before_first, after_first, ends_with}
use Rattle.std.specs.Str.Pattern.{FindsTextPrefix}
use Rattle.std.proofs.lemmas.Bool.{cases_Bool}
use Rattle.std.proofs.lemmas.List.{take-append-drop}
use Rattle.fault_io.specs.Paths.{slash, root, after_front}
use Rattle.fault_io.specs.PathLaws.{after_front-append, after_front-is}
use Rattle.dart_uri.specs.Segments.{without_last_slash}

-- where no text follows the front, none is given
after_front-none : (front text : List ℕ) → ((rest : List ℕ) → text ≢ front ++ rest) → after_front front text ≡ None
after_front-none front text lacks = at (after_front front text) refl
  where
    at : (found : Option (List ℕ)) → after_front front text ≡ found → found ≡ None
    at None e = refl
    at (Some rest) e = absurd (lacks rest (after_front-is front text rest e))

-- the clause of `strip_prefix`
pub after_front-strip : (front text : List ℕ) (found : Option (Bor (List ℕ)))
    → MatchOption found (FindsTextPrefix front text None) (λ x. (n : ℕ) × FindsTextPrefix front text (Some n) × (x.now ≡ drop n text) × (length x.now + n ≡ length text))
    → option_map (λ x. x.now) found ≡ after_front front text
after_front-strip front text None h = sym (after_front-none front text h)
after_front-strip front text (Some x) h =
    let whole : text ≡ front ++ x.now = h.1.1 ∙ ap (λ ys. front ++ ys) (sym h.2) in
    sym (ap (λ ys. after_front front ys) whole ∙ after_front-append front x.now)

-- one more taken, and one more dropped
take_one : (n x : ℕ) (text : List ℕ) → take (1 + n) (x ∷ text) ≡ x ∷ take n text
take_one n x text = let one : 1 + n ≡ suc n = omega arith in ap (λ (k : ℕ). take k (x ∷ text)) one

drop_one : (n x : ℕ) (text : List ℕ) → drop (1 + n + 1) (x ∷ text) ≡ drop (n + 1) text
drop_one n x text = let one : 1 + n + 1 ≡ suc (n + 1) = omega arith in ap (λ (k : ℕ). drop k (x ∷ text)) one

-- a text up to its first slash, and what follows
pub split_first : (text : List ℕ) → position_or_len (λ byte. eqb byte slash) text < length text
    → slice_split (λ byte. eqb byte slash) text ≡ before_first (λ byte. eqb byte slash) text ∷ slice_split (λ byte. eqb byte slash) (after_first (λ byte. eqb byte slash) text)
split_first [] below = absurd (omega (arith, below))
split_first (x ∷ text) below =
    let n = position_or_len (λ byte. eqb byte slash) text in
    elim (cases_Bool (eqb x slash)) [
      | inl t ↦ rw t refl
      | inr f ↦ (let inner : 1 + n < suc (length text) = rw f at below in
          rw f (ap (onto_first x) (split_first text (omega (arith, inner)))
          ∙ (λ i. sym (take_one n x text) i ∷ slice_split (λ byte. eqb byte slash) (sym (drop_one n x text) i))))
    ]

-- a text without a slash
pub split_none : (text : List ℕ) → position_or_len (λ byte. eqb byte slash) text ≡ length text → slice_split (λ byte. eqb byte slash) text ≡ text ∷ []
split_none [] whole = refl
split_none (x ∷ text) whole =
    elim (cases_Bool (eqb x slash)) [
      | inl t ↦ (let inner : 0 ≡ suc (length text) = rw t at whole in absurd (omega (arith, inner)))
      | inr f ↦ (let inner : 1 + position_or_len (λ byte. eqb byte slash) text ≡ suc (length text) = rw f at whole in
          rw f (ap (onto_first x) (split_none text (omega (arith, inner)))))
    ]

-- a text that doesn't end in a slash
pub keeps_all : (text : List ℕ) → ((front : List ℕ) → text ≢ front ++ root) → text ≡ without_last_slash text
keeps_all text lacks =
    elim (ends_with nat_eq text root) as (λ b. ends_with nat_eq text root ≡ b → text ≡ (if b then take (length text - 1) text else text)) [
      | true ↦ λ e. absurd (lacks (take (length text - 1) text) (sym (take-append-drop (length text - 1) text) ∙ ap (λ ys. take (length text - 1) text ++ ys) (sym (same_text root (drop (length text - 1) text) (sym e)))))
      | false ↦ λ e. refl
    ] refl
