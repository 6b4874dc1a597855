-- How the calls of std on texts say the words of paths.
use Rattle.std.proofs.Common.{◌≡◌, ◌≢◌, ℕ, ◌+◌, List, ◌++◌, length, drop, Option, None, Some, MatchOption, option_map, refl, sym, ◌∙◌, ap}
use denote.Ref.{Bor}
use Rattle.std.specs.Str.Pattern.{FindsTextPrefix}
use Rattle.fault_io.specs.Paths.{after_front}
use Rattle.fault_io.specs.PathLaws.{after_front-append, after_front-is}

-- where no text follows the front, none is given
after_front-none : (front text : List ℕ) → ((rest : List ℕ) → text ≢ front ++ rest) → after_front front text ≡ None
after_front-none front text lacks = at (after_front front text) refl
  where
    at : (found : Option (List ℕ)) → after_front front text ≡ found → found ≡ None
    at None e = refl
    at (Some rest) e = absurd (lacks rest (after_front-is front text rest e))

-- the clause of `strip_prefix`
pub after_front-strip : (front text : List ℕ) (found : Option (Bor (List ℕ)))
    → MatchOption found (FindsTextPrefix front text None) (λ x. (n : ℕ) × FindsTextPrefix front text (Some n) × (x.now ≡ drop n text) × (length x.now + n ≡ length text))
    → option_map (λ x. x.now) found ≡ after_front front text
after_front-strip front text None h = sym (after_front-none front text h)
after_front-strip front text (Some x) h =
    let whole : text ≡ front ++ x.now = h.1.1 ∙ ap (λ ys. front ++ ys) (sym h.2) in
    sym (ap (λ ys. after_front front ys) whole ∙ after_front-append front x.now)
