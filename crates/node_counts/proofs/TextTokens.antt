-- The tokens that the grammar reads of a text rise as the text's own do, hold their groups, and are no more.
use Rattle.std.proofs.Common.{◌≡◌, ℕ, suc, ◌<◌, ◌≤◌, Bool, true, false, List, [], ◌∷◌, Option, Some, None, is_some, length, slice_get, if◌then◌else◌, refl, arith}
use Rattle.std.specs.List.{All}
use Rattle.std.proofs.lemmas.List.Elements.{All-head, All-tail}
use Rattle.readings.specs.Leading.{Each}
use Rattle.dart_tokens.specs.declared.token.Token.{Token as TextToken}
use Rattle.dart_tokens.specs.Kinds.{opens}
use Rattle.dart_tokens.specs.Groups.{partners_of}
use Rattle.dart_tokens.specs.declared.grouped_token.GroupedToken.{GroupedToken as Token}
use Rattle.dart_tokens.specs.Read.{past}
use Rattle.grammar.specs.Tokens.{is_unopened, grouped, ungrouped, token_of, tokens_from, grammar_tokens}
use Rattle.node_counts.specs.Rising.{Rise, HoldGroups, TextRises}

each_at : (P : TextToken → Type 0) (ts : List TextToken) → ((k : ℕ) (t : TextToken) → slice_get ts k ≡ Some t → P t) → Each P ts
each_at P [] f = tt
each_at P (t ∷ ts) f = (f 0 t refl, each_at P ts (λ k u e. f (suc k) u e))

each_all : (P : TextToken → Type 0) (ts : List TextToken) → All P ts → Each P ts
each_all P [] h = tt
each_all P (t ∷ ts) h = (All-head P t ts h, each_all P ts (All-tail P t ts h))

-- token by token
abbrev RiseInTurn : List TextToken → Type 0
RiseInTurn [] = Unit {0}
RiseInTurn (t ∷ ts) = (t.start < t.end) × (Each (λ u. t.end ≤ u.start) ts × RiseInTurn ts)

abbrev Apart : List TextToken → Type 0
Apart ts = (first second : ℕ) (one other : TextToken) → first < second → slice_get ts first ≡ Some one → slice_get ts second ≡ Some other → one.end ≤ other.start

rise_in_turn : (ts : List TextToken) → Each (λ t. t.start < t.end) ts → Apart ts → RiseInTurn ts
rise_in_turn [] h a = tt
rise_in_turn (t ∷ ts) h a =
    (h.0, (each_at (λ u. t.end ≤ u.start) ts (λ k u e. a 0 (suc k) t u (omega arith) refl e), rise_in_turn ts h.1 (λ i j t u less e d. a (suc i) (suc j) t u (omega (arith, less)) e d)))

-- a token stands where it did, and its group lies in what is passed to come behind it
abbrev Stands : TextToken → Token → Type 0
Stands t u = (u.start ≡ t.start) × ((u.end ≡ t.end) × (u.width ≤ past u))

stands_if : (t : TextToken) (u v : Token) (b : Bool) → Stands t u → Stands t v → Stands t (if b then u else v)
stands_if t u v true h k = h
stands_if t u v false h k = k

stands : (all : List (Option ℕ)) (place : ℕ) (p : Option ℕ) (t : TextToken) (ts : List TextToken) (ps : List (Option ℕ)) → Stands t (token_of all place p t ts ps)
unfolding past
stands all place None t ts ps = (refl, (refl, omega arith))
stands all place (Some partner) t ts ps = stands_if t (grouped all place partner t ts ps) (ungrouped t) (is_some (opens t.kind)) (refl, (refl, omega arith)) (refl, (refl, omega arith))

each_if : (P : Token → Type 0) (b : Bool) (us vs : List Token) → Each P us → Each P vs → Each P (if b then us else vs)
each_if P true us vs h k = h
each_if P false us vs h k = k

-- what begins behind a place does so still
behind_from : (e : ℕ) (all : List (Option ℕ)) (place : ℕ) (ts : List TextToken) (ps : List (Option ℕ)) → Each (λ u. e ≤ u.start) ts → Each (λ u. e ≤ u.start) (tokens_from all place ts ps)
behind_from e all place [] ps h = tt
behind_from e all place (t ∷ ts) [] h = (h.0, behind_from e all (suc place) ts [] h.1)
behind_from e all place (t ∷ ts) (p ∷ ps) h =
    let rest = behind_from e all (suc place) ts ps h.1 in
    let s = stands all place p t ts ps in
    each_if (λ u. e ≤ u.start) (is_unopened t.kind p) (tokens_from all (suc place) ts ps) (token_of all place p t ts ps ∷ tokens_from all (suc place) ts ps) rest (omega (arith, h.0, s.0), rest)

each_less : (P Q : Token → Type 0) (ts : List Token) → ((t : Token) → P t → Q t) → Each P ts → Each Q ts
each_less P Q [] f h = tt
each_less P Q (t ∷ ts) f h = (f t h.0, each_less P Q ts f h.1)

abbrev Good : ℕ → List Token → Type 0
Good n us = Rise us × (HoldGroups us × (length us ≤ n))

good_if : (n : ℕ) (b : Bool) (us vs : List Token) → Good n us → Good n vs → Good n (if b then us else vs)
good_if n true us vs h k = h
good_if n false us vs h k = k

good_more : (n : ℕ) (t : TextToken) (u : Token) (us : List Token) → t.start < t.end → Stands t u → Each (λ v. t.end ≤ v.start) us → Good n us → Good (suc n) (u ∷ us)
good_more n t u us h s each g =
    ((omega (arith, h, s.0, s.1.0), (each_less (λ v. t.end ≤ v.start) (λ v. u.end ≤ v.start) us (λ v k. omega (arith, k, s.1.0)) each, g.0)), ((s.1.1, g.1.0), omega (arith, g.1.1)))

good_from : (all : List (Option ℕ)) (place : ℕ) (ts : List TextToken) (ps : List (Option ℕ)) → RiseInTurn ts → Good (length ts) (tokens_from all place ts ps)
good_from all place [] ps r = (tt, (tt, omega arith))
good_from all place (t ∷ ts) [] r =
    good_more (length ts) t (ungrouped t) (tokens_from all (suc place) ts []) r.0 (refl, (refl, omega arith)) (behind_from t.end all (suc place) ts [] r.1.0) (good_from all (suc place) ts [] r.1.1)
good_from all place (t ∷ ts) (p ∷ ps) r =
    let rest = good_from all (suc place) ts ps r.1.1 in
    good_if (suc (length ts)) (is_unopened t.kind p) (tokens_from all (suc place) ts ps) (token_of all place p t ts ps ∷ tokens_from all (suc place) ts ps) (rest.0, (rest.1.0, omega (arith, rest.1.1)))
    (good_more (length ts) t (token_of all place p t ts ps) (tokens_from all (suc place) ts ps) r.0 (stands all place p t ts ps) (behind_from t.end all (suc place) ts ps r.1.0) rest)

good_tokens : (tokens : List TextToken) → TextRises tokens → Good (length tokens) (grammar_tokens tokens)
good_tokens tokens h = good_from (partners_of tokens) 0 tokens (partners_of tokens) (rise_in_turn tokens (each_all (λ t. t.start < t.end) tokens h.0) h.1)

pub tokens_rise : (tokens : List TextToken) → TextRises tokens → Rise (grammar_tokens tokens)
tokens_rise tokens h = (good_tokens tokens h).0

pub tokens_hold : (tokens : List TextToken) → TextRises tokens → HoldGroups (grammar_tokens tokens)
tokens_hold tokens h = (good_tokens tokens h).1.0

pub tokens_fewer : (tokens : List TextToken) → TextRises tokens → length (grammar_tokens tokens) ≤ length tokens
tokens_fewer tokens h = (good_tokens tokens h).1.1
