-- Segments: what comes behind one, as far as the loop has come.
use Rattle.std.proofs.Common.{◌≡◌, ℕ, zero, suc, ◌+◌, ◌-◌, ◌<◌, Bool, true, false, if◌then◌else◌, List, [], ◌∷◌, length, drop, refl, sym, ap, ◌∙◌, arith}
use Rattle.std.proofs.lemmas.List.{drop-drop}
use Rattle.dart_tokens.specs.declared.token.Kind.TheVariants as kind
use Rattle.dart_tokens.specs.declared.grouped_token.GroupedToken.{GroupedToken as Token}
use Rattle.grammar.specs.Tokens.{is, past}
use Rattle.grammar.specs.Statements.{segment_at, segment}

segment_sum : (a b : Bool) (p q : ℕ) → suc ((if a then 1 else if b then suc p else suc p + q) - 1) ≡ (if a then 1 else if b then suc p else suc p + q)
segment_sum true b p q = omega arith
segment_sum false true p q = omega arith
segment_sum false false p q = omega arith

-- a segment is never empty
segment_begins : (all : List Token) → drop (segment_at (length all) all) all ≡ drop (suc (segment all)) all
segment_begins [] = refl
segment_begins (t ∷ ts) = ap (λ k. drop k (t ∷ ts)) (sym (segment_sum (is kind.Semicolon t) (is kind.OpenBrace t) (past t) (segment_at (length ts) (drop (past t) ts))))

pub ends_out : (all rest : List Token) (n : ℕ) → drop (segment_at (length all) all) all ≡ drop (segment_at n rest) rest → n ≡ 0 → rest ≡ drop (suc (segment all)) all
ends_out all rest zero so e = sym so ∙ segment_begins all
ends_out all rest (suc n) so e = absurd (omega (arith, e))

pub ends_empty : (all rest : List Token) (n : ℕ) → drop (segment_at (length all) all) all ≡ drop (segment_at n rest) rest → rest ≡ [] → rest ≡ drop (suc (segment all)) all
ends_empty all rest zero so e = sym so ∙ segment_begins all
ends_empty all [] (suc n) so e = sym so ∙ segment_begins all
ends_empty all (t ∷ ts) (suc n) so e = absurd (omega (arith, ap length e))

at_semicolon : (behind : List Token) (t : Token) (n : ℕ) → is kind.Semicolon t ≡ true → drop (segment_at (suc n) (t ∷ behind)) (t ∷ behind) ≡ behind
at_semicolon behind t n e = rw e refl

at_braces : (behind : List Token) (t : Token) (n : ℕ) → is kind.Semicolon t ≡ false → is kind.OpenBrace t ≡ true → drop (segment_at (suc n) (t ∷ behind)) (t ∷ behind) ≡ drop (past t) behind
at_braces behind t n other e = rw (other, e) refl

at_others : (behind : List Token) (t : Token) (n : ℕ) → is kind.Semicolon t ≡ false → is kind.OpenBrace t ≡ false →
    drop (segment_at (suc n) (t ∷ behind)) (t ∷ behind) ≡ drop (segment_at n (drop (past t) behind)) (drop (past t) behind)
at_others behind t n other brace =
    let sum : suc (past t) + segment_at n (drop (past t) behind) ≡ suc ((past t) + segment_at n (drop (past t) behind)) = omega arith in
    rw (other, brace) (ap (λ k. drop k (t ∷ behind)) sum ∙ sym (drop-drop (segment_at n (drop (past t) behind)) (past t) behind))

pub ends_semicolon : (all rest behind : List Token) (t : Token) (n : ℕ) → drop (segment_at (length all) all) all ≡ drop (segment_at n rest) rest → 0 < n → rest ≡ t ∷ behind → is kind.Semicolon t ≡ true → behind ≡ drop (suc (segment all)) all
ends_semicolon all rest behind t zero so more first e = absurd (omega (arith, more))
ends_semicolon all rest behind t (suc n) so more first e = sym (at_semicolon behind t n e) ∙ ap (λ ts. drop (segment_at (suc n) ts) ts) (sym first) ∙ sym so ∙ segment_begins all

pub ends_braces : (all rest behind after : List Token) (t : Token) (n k : ℕ) → drop (segment_at (length all) all) all ≡ drop (segment_at n rest) rest → 0 < n → rest ≡ t ∷ behind → is kind.Semicolon t ≡ false → is kind.OpenBrace t ≡ true →
    k ≡ past t → after ≡ drop k behind → after ≡ drop (suc (segment all)) all
ends_braces all rest behind after t zero k so more first other e over a = absurd (omega (arith, more))
ends_braces all rest behind after t (suc n) k so more first other e over a = a ∙ ap (λ j. drop j behind) over ∙ sym (at_braces behind t n other e) ∙ ap (λ ts. drop (segment_at (suc n) ts) ts) (sym first) ∙ sym so ∙ segment_begins all

pub segment_goes : (all rest behind after : List Token) (t : Token) (n m k : ℕ) → drop (segment_at (length all) all) all ≡ drop (segment_at n rest) rest → 0 < n → rest ≡ t ∷ behind → is kind.Semicolon t ≡ false → is kind.OpenBrace t ≡ false →
    k ≡ past t → after ≡ drop k behind → m ≡ n - 1 → drop (segment_at (length all) all) all ≡ drop (segment_at m after) after
segment_goes all rest behind after t zero m k so more first other brace over a e = absurd (omega (arith, more))
segment_goes all rest behind after t (suc n) m k so more first other brace over a e =
    let same : n ≡ m = omega (arith, e) in
    so ∙ ap (λ ts. drop (segment_at (suc n) ts) ts) first ∙ at_others behind t n other brace ∙ ap (λ ts. drop (segment_at n ts) ts) (ap (λ j. drop j behind) (sym over) ∙ sym a) ∙ ap (λ j. drop (segment_at j after) after) same
