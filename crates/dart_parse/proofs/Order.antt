-- The tokens that the grammar reads of a text stand in the order of their starts, as those of the text do.
use Rattle.std.proofs.Common.{◌≡◌, ℕ, zero, suc, ◌<◌, ◌≤◌, Bool, true, false, if◌then◌else◌, List, [], ◌∷◌, length, Option, Some, None, is_some, slice_get, slice_index_or, refl, sym, ap, subst, ◌∙◌, arith}
use Rattle.std.specs.Prelude.{All}
use Rattle.std.specs.List.Sorted.{IsNonDecreasingBy}
use Rattle.dart_tokens.specs.declared.token.Token.{Token as TextToken}
use Rattle.dart_tokens.specs.Kinds.{opens}
use Rattle.dart_tokens.specs.Groups.{partners_of}
use Rattle.dart_scan.specs.Scanned.{tokens_of}
use Rattle.dart_tokens.specs.declared.grouped_token.GroupedToken.{GroupedToken as Token}
use Rattle.grammar.specs.Tokens.{is_unopened, grouped, ungrouped, token_of, tokens_from, grammar_tokens}

-- each begins at an offset or behind it, and none before the one before it
abbrev Rise : {T : Type 0} → (T → ℕ) → (from : ℕ) → List T → Type 0
Rise start from [] = Unit {0}
Rise start from (t ∷ ts) = (from ≤ start t) × Rise start (start t) ts

rise_sooner : {T : Type 0} (start : T → ℕ) (from sooner : ℕ) (ts : List T) → sooner ≤ from → Rise start from ts → Rise start sooner ts
rise_sooner start from sooner [] le rise = tt
rise_sooner start from sooner (t ∷ ts) le rise = (omega (arith, le, rise.0), rise.1)

abbrev starts_at : TextToken → ℕ
starts_at t = t.start

abbrev begins_at : Token → ℕ
begins_at t = t.start

-- the first of a list begins at an offset or behind it
abbrev FirstFrom : ℕ → List TextToken → Type 0
FirstFrom from [] = Unit {0}
FirstFrom from (t ∷ ts) = from ≤ t.start

next_first : (t : TextToken) (ts : List TextToken) → t.start < t.end →
    ((i j : ℕ) (a b : TextToken) → i < j → slice_get (t ∷ ts) i ≡ Some a → slice_get (t ∷ ts) j ≡ Some b → a.end ≤ b.start) → FirstFrom t.start ts
next_first t [] some apart = tt
next_first t (u ∷ us) some apart = omega (arith, some, apart 0 1 t u (omega arith) refl refl)

-- tokens that lie apart rise
apart_rise : (from : ℕ) (ts : List TextToken) → All (λ t. t.start < t.end) ts →
    ((i j : ℕ) (a b : TextToken) → i < j → slice_get ts i ≡ Some a → slice_get ts j ≡ Some b → a.end ≤ b.start) → FirstFrom from ts → Rise starts_at from ts
apart_rise from [] some apart first = tt
apart_rise from (t ∷ ts) some apart first = (
  first,
  apart_rise t.start ts (λ k d w. some (suc k) d (omega (arith, w))) (λ i j a b lt e d. apart (suc i) (suc j) a b (omega (arith, lt)) e d)
      (next_first t ts (some 0 t (omega arith)) apart),
)

-- a token with its group begins where it did
token_at : (b : Bool) (g u : Token) (n : ℕ) → g.start ≡ n → u.start ≡ n → begins_at (if b then g else u) ≡ n
token_at true g u n e d = e
token_at false g u n e d = d

same_start : (all : List (Option ℕ)) (place : ℕ) (p : Option ℕ) (t : TextToken) (ts : List TextToken) (ps : List (Option ℕ)) → begins_at (token_of all place p t ts ps) ≡ t.start
same_start all place None t ts ps = refl
same_start all place (Some partner) t ts ps = token_at (is_some (opens t.kind)) (grouped all place partner t ts ps) (ungrouped t) t.start refl refl

one_less : (b : Bool) (from n : ℕ) (u : Token) (us : List Token) → from ≤ n → u.start ≡ n → Rise begins_at n us → Rise begins_at from (if b then us else u ∷ us)
one_less true from n u us le e rise = rise_sooner begins_at n from us le rise
one_less false from n u us le e rise = (subst (λ k. from ≤ k) (sym e) le, subst (λ k. Rise begins_at k us) (sym e) rise)

-- of tokens that rise, those that the grammar reads do
read_rise : (all : List (Option ℕ)) (place from : ℕ) (ts : List TextToken) (ps : List (Option ℕ)) → Rise starts_at from ts → Rise begins_at from (tokens_from all place ts ps)
read_rise all place from [] ps rise = tt
read_rise all place from (t ∷ ts) [] rise = (rise.0, read_rise all (suc place) t.start ts [] rise.1)
read_rise all place from (t ∷ ts) (p ∷ ps) rise =
    one_less (is_unopened t.kind p) from t.start (token_of all place p t ts ps) (tokens_from all (suc place) ts ps) rise.0 (same_start all place p t ts ps) (read_rise all (suc place) t.start ts ps rise.1)

-- what rises is in order

from_on : (from : ℕ) (xs : List Token) (j : ℕ) (d : Token) → Rise begins_at from xs → j < length xs → from ≤ (slice_index_or xs j d).start
from_on from [] j d rise within = absurd (omega (arith, within))
from_on from (x ∷ xs) zero d rise within = rise.0
from_on from (x ∷ xs) (suc j) d rise within = omega (arith, rise.0, from_on x.start xs j d rise.1 (omega (arith, within)))

rise_ordered : (from : ℕ) (xs : List Token) → Rise begins_at from xs → IsNonDecreasingBy (λ (t : Token). t.start) xs
rise_ordered from [] rise i j d le within = absurd (omega (arith, within))
rise_ordered from (x ∷ xs) rise zero zero d le within = omega arith
rise_ordered from (x ∷ xs) rise zero (suc j) d le within = from_on x.start xs j d rise.1 (omega (arith, within))
rise_ordered from (x ∷ xs) rise (suc i) zero d le within = absurd (omega (arith, le))
rise_ordered from (x ∷ xs) rise (suc i) (suc j) d le within = rise_ordered x.start xs rise.1 i j d (omega (arith, le)) (omega (arith, within))

first_from_zero : (ts : List TextToken) → FirstFrom 0 ts
first_from_zero [] = tt
first_from_zero (t ∷ ts) = omega arith

in_place : (ts : List TextToken) (tokens : List Token) → tokens ≡ grammar_tokens ts → All (λ t. t.start < t.end) ts →
    ((i j : ℕ) (a b : TextToken) → i < j → slice_get ts i ≡ Some a → slice_get ts j ≡ Some b → a.end ≤ b.start) → IsNonDecreasingBy (λ (t : Token). t.start) tokens
in_place ts tokens e some apart =
    subst (λ us. IsNonDecreasingBy (λ (t : Token). t.start) us) (sym e) (rise_ordered 0 (grammar_tokens ts) (read_rise (partners_of ts) 0 0 ts (partners_of ts) (apart_rise 0 ts some apart (first_from_zero ts))))

-- the tokens that the grammar reads of a text
pub in_order : (text bytes : List ℕ) (tokens : List Token) → bytes ≡ text → tokens ≡ grammar_tokens (tokens_of text) → All (λ t. t.start < t.end) (tokens_of bytes) →
    ((i j : ℕ) (a b : TextToken) → i < j → slice_get (tokens_of bytes) i ≡ Some a → slice_get (tokens_of bytes) j ≡ Some b → a.end ≤ b.start) → IsNonDecreasingBy (λ (t : Token). t.start) tokens
in_order text bytes tokens same e some apart = in_place (tokens_of bytes) tokens (e ∙ ap (λ t. grammar_tokens (tokens_of t)) (sym same)) some apart

-- no more are read than there are

few_at : (b : Bool) (u : Token) (us : List Token) (n : ℕ) → length us ≤ n → length (if b then us else u ∷ us) ≤ suc n
few_at true u us n le = omega (arith, le)
few_at false u us n le = omega (arith, le)

few_from : (all : List (Option ℕ)) (place : ℕ) (ts : List TextToken) (ps : List (Option ℕ)) → length (tokens_from all place ts ps) ≤ length ts
few_from all place [] ps = omega arith
few_from all place (t ∷ ts) [] = omega (arith, few_from all (suc place) ts [])
few_from all place (t ∷ ts) (p ∷ ps) = few_at (is_unopened t.kind p) (token_of all place p t ts ps) (tokens_from all (suc place) ts ps) (length ts) (few_from all (suc place) ts ps)

pub read_few : (ts : List TextToken) (read : List Token) → read ≡ grammar_tokens ts → length ts < 4294967296 → length read < 4294967296
read_few ts read e few = let less : length (grammar_tokens ts) ≤ length ts = few_from (partners_of ts) 0 ts (partners_of ts) in omega (arith, few, less, ap length e)
