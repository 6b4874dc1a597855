-- What the grammar reads of tokens that are alike is the same, wherever they stand.
use Rattle.std.proofs.Common.{◌≡◌, ℕ, suc, ◌+◌, ◌<◌, ◌==◌, ◌&&◌, not, Bool, true, false, List, [], ◌∷◌, if◌then◌else◌, Option, Some, None, is_some, refl, sym, ap, subst, ◌∙◌, arith}
use Rattle.std.proofs.lemmas.Bool.{ne_eqb}
use Rattle.dart_tokens.specs.declared.token.Kind.{Kind}
use Rattle.dart_tokens.specs.declared.token.Token.{Token as TextToken}
use Rattle.dart_tokens.specs.Kinds.{opens}
use Rattle.dart_tokens.specs.Groups.{partners_of}
use Rattle.dart_tokens.specs.declared.grouped_token.GroupedToken.{GroupedToken as Token}
use Rattle.dart_tokens.specs.Read.{past}
use Rattle.grammar.specs.Tokens.{is_unopened, kept_before, is_closed_by, grouped, ungrouped, token_of, tokens_from, grammar_tokens}
use Rattle.tree_print.specs.Printed.{adjoins}
use Rattle.range_laws.specs.Agreeing.{Twins, Agree, adjoins_next, AdjoinAlike}
use Rattle.print_laws.proofs.Rising.{RiseFrom}
use Rattle.print_laws.proofs.Tokens.{OfKinds, Alike, of-kinds}
use Rattle.print_laws.proofs.Groups.{partners-same, size-same}

-- The same tokens are read.

ungrouped_same : (t u : TextToken) → t.kind ≡ u.kind → t.word ≡ u.word → Twins (ungrouped t) (ungrouped u)
unfolding past
ungrouped_same t u k w = record { kind = k; word = w; width = refl; past = refl }

twins_if : (b c : Bool) (x y v w : Token) → b ≡ c → Twins x y → Twins v w → Twins (if b then x else v) (if c then y else w)
twins_if true true x y v w e h k = h
twins_if true false x y v w e h k = absurd (cc)
twins_if false true x y v w e h k = absurd (cc)
twins_if false false x y v w e h k = k

token_same : (all : List (Option ℕ)) (place : ℕ) (p : Option ℕ) (t u : TextToken) (ts us : List TextToken) (ps : List (Option ℕ)) → t.kind ≡ u.kind → t.word ≡ u.word → OfKinds ts us → Twins (token_of all place p t ts ps) (token_of all place p u us ps)
unfolding past
token_same all place None t u ts us ps k w s = ungrouped_same t u k w
token_same all place (Some end) t u ts us ps k w s =
    let size : kept_before place end ts ps ≡ kept_before place end us ps = size-same place end ts us ps s in
    twins_if (is_some (opens t.kind)) (is_some (opens u.kind)) (grouped all place end t ts ps) (grouped all place end u us ps) (ungrouped t) (ungrouped u) (ap (λ (kind : Kind). is_some (opens kind)) k)
    (record { kind = k; word = w; width = size; past = ap (λ (n : ℕ). n + (if is_closed_by all end place then 1 else 0)) size }) (ungrouped_same t u k w)

agree_if : (b c : Bool) (x y : Token) (xs ys : List Token) → b ≡ c → Twins x y → Agree xs ys → Agree (if b then xs else x ∷ xs) (if c then ys else y ∷ ys)
agree_if true true x y xs ys e h k = k
agree_if true false x y xs ys e h k = absurd (cc)
agree_if false true x y xs ys e h k = absurd (cc)
agree_if false false x y xs ys e h k = (h, k)

agree_from : (all : List (Option ℕ)) (place : ℕ) (ts us : List TextToken) (ps : List (Option ℕ)) → Alike ts us → Agree (tokens_from all place ts ps) (tokens_from all place us ps)
agree_from all place [] [] ps a = tt
agree_from all place [] (u ∷ us) ps a = absurd a
agree_from all place (t ∷ ts) [] ps a = absurd a
agree_from all place (t ∷ ts) (u ∷ us) [] a = (ungrouped_same t u a.0 a.1, agree_from all (suc place) ts us [] a.3)
agree_from all place (t ∷ ts) (u ∷ us) (p ∷ ps) a =
    agree_if (is_unopened t.kind p) (is_unopened u.kind p) (token_of all place p t ts ps) (token_of all place p u us ps) (tokens_from all (suc place) ts ps) (tokens_from all (suc place) us ps)
    (ap (λ (kind : Kind). is_unopened kind p) a.0) (token_same all place p t u ts us ps a.0 a.1 (of-kinds ts us a.3)) (agree_from all (suc place) ts us ps a.3)

pub read-agree : (ts us : List TextToken) → Alike ts us → Agree (grammar_tokens ts) (grammar_tokens us)
read-agree ts us a = subst (λ (ps : List (Option ℕ)). Agree (grammar_tokens ts) (tokens_from ps 0 us ps)) (partners-same ts us (of-kinds ts us a)) (agree_from (partners_of ts) 0 ts us (partners_of ts) a)

-- They adjoin alike: a bracket that closes no group has a code unit at least, so that no token before it adjoins one behind it.

start_if : (b : Bool) (x y : Token) (n : ℕ) → x.start ≡ n → y.start ≡ n → (if b then x else y).start ≡ n
start_if true x y n e d = e
start_if false x y n e d = d

start_same : (all : List (Option ℕ)) (place : ℕ) (p : Option ℕ) (t : TextToken) (ts : List TextToken) (ps : List (Option ℕ)) → (token_of all place p t ts ps).start ≡ t.start
start_same all place None t ts ps = refl
start_same all place (Some end) t ts ps = start_if (is_some (opens t.kind)) (grouped all place end t ts ps) (ungrouped t) t.start refl refl

end_if : (b : Bool) (x y : Token) (n : ℕ) → x.end ≡ n → y.end ≡ n → (if b then x else y).end ≡ n
end_if true x y n e d = e
end_if false x y n e d = d

end_same : (all : List (Option ℕ)) (place : ℕ) (p : Option ℕ) (t : TextToken) (ts : List TextToken) (ps : List (Option ℕ)) → (token_of all place p t ts ps).end ≡ t.end
end_same all place None t ts ps = refl
end_same all place (Some end) t ts ps = end_if (is_some (opens t.kind)) (grouped all place end t ts ps) (ungrouped t) t.end refl refl

-- what ends before the others begin adjoins none of them
parted : (x : Token) (from : ℕ) (all : List (Option ℕ)) (place : ℕ) (ts : List TextToken) (ps : List (Option ℕ)) → x.end < from → RiseFrom from ts → adjoins_next x (tokens_from all place ts ps) ≡ false
parted x from all place [] ps less r = refl
parted x from all place (t ∷ ts) [] less r = ne_eqb x.end t.start (λ e. omega (arith, less, r.0, e))
parted x from all place (t ∷ ts) (p ∷ ps) less r = of (is_unopened t.kind p) (parted x t.end all (suc place) ts ps (omega (arith, less, r.0, r.1)) r.2)
  where
    of : (s : Bool) → adjoins_next x (tokens_from all (suc place) ts ps) ≡ false → adjoins_next x (if s then tokens_from all (suc place) ts ps else token_of all place p t ts ps ∷ tokens_from all (suc place) ts ps) ≡ false
    of true later = later
    of false later = ne_eqb x.end (token_of all place p t ts ps).start (λ e. let start = start_same all place p t ts ps in omega (arith, less, r.0, e, start))

-- the grammar reads the first of these tokens, if there is one
abbrev reads_first : List TextToken → List (Option ℕ) → Bool
reads_first [] ps = true
reads_first (t ∷ ts) [] = true
reads_first (t ∷ ts) (p ∷ ps) = not (is_unopened t.kind p)

reads_same : (ts us : List TextToken) (ps : List (Option ℕ)) → OfKinds ts us → reads_first ts ps ≡ reads_first us ps
reads_same [] [] ps k = refl
reads_same [] (u ∷ us) ps k = absurd k
reads_same (t ∷ ts) [] ps k = absurd k
reads_same (t ∷ ts) (u ∷ us) [] k = refl
reads_same (t ∷ ts) (u ∷ us) (p ∷ ps) k = ap (λ (kind : Kind). not (is_unopened kind p)) k.0

-- a token that is read adjoins the next one where that is read too, and adjoins it in the text
next_read : (x : Token) (t : TextToken) → x.end ≡ t.end → (all : List (Option ℕ)) (place : ℕ) (ts : List TextToken) (ps : List (Option ℕ)) → RiseFrom t.end ts
    → adjoins_next x (tokens_from all place ts ps) ≡ (reads_first ts ps && adjoins t ts)
next_read x t end all place [] ps r = refl
next_read x t end all place (u ∷ us) [] r = ap (λ (n : ℕ). n == u.start) end
next_read x t end all place (u ∷ us) (p ∷ ps) r = of (is_unopened u.kind p) (parted x u.end all (suc place) us ps (omega (arith, end, r.0, r.1)) r.2)
  where
    of : (s : Bool) → adjoins_next x (tokens_from all (suc place) us ps) ≡ false
        → adjoins_next x (if s then tokens_from all (suc place) us ps else token_of all place p u us ps ∷ tokens_from all (suc place) us ps) ≡ (not s && (t.end == u.start))
    of true later = later
    of false later = ap (λ (n : ℕ). n == (token_of all place p u us ps).start) end ∙ ap (λ (n : ℕ). t.end == n) (start_same all place p u us ps)

next_same : (x y : Token) (t u : TextToken) → x.end ≡ t.end → y.end ≡ u.end → (all : List (Option ℕ)) (place : ℕ) (ts us : List TextToken) (ps : List (Option ℕ)) → RiseFrom t.end ts → RiseFrom u.end us
    → OfKinds ts us → adjoins t ts ≡ adjoins u us → adjoins_next x (tokens_from all place ts ps) ≡ adjoins_next y (tokens_from all place us ps)
next_same x y t u e d all place ts us ps r s k a =
    next_read x t e all place ts ps r ∙ ap (λ (b : Bool). b && adjoins t ts) (reads_same ts us ps k) ∙ ap (λ (b : Bool). reads_first us ps && b) a ∙ sym (next_read y u d all place us ps s)

adjoin_if : (b c : Bool) (x y : Token) (xs ys : List Token) → b ≡ c → adjoins_next x xs ≡ adjoins_next y ys → AdjoinAlike xs ys → AdjoinAlike (if b then xs else x ∷ xs) (if c then ys else y ∷ ys)
adjoin_if true true x y xs ys e h k = k
adjoin_if true false x y xs ys e h k = absurd (cc)
adjoin_if false true x y xs ys e h k = absurd (cc)
adjoin_if false false x y xs ys e h k = ((λ greater. h), k)

adjoin_from : (all : List (Option ℕ)) (place from start : ℕ) (ts us : List TextToken) (ps : List (Option ℕ)) → Alike ts us → RiseFrom from ts → RiseFrom start us → AdjoinAlike (tokens_from all place ts ps) (tokens_from all place us ps)
adjoin_from all place from start [] [] ps a r s = tt
adjoin_from all place from start [] (u ∷ us) ps a r s = absurd a
adjoin_from all place from start (t ∷ ts) [] ps a r s = absurd a
adjoin_from all place from start (t ∷ ts) (u ∷ us) [] a r s = (
  (λ greater. next_same (ungrouped t) (ungrouped u) t u refl refl all (suc place) ts us [] r.2 s.2 (of-kinds ts us a.3) a.2),
  adjoin_from all (suc place) t.end u.end ts us [] a.3 r.2 s.2,
)
adjoin_from all place from start (t ∷ ts) (u ∷ us) (p ∷ ps) a r s =
    adjoin_if (is_unopened t.kind p) (is_unopened u.kind p) (token_of all place p t ts ps) (token_of all place p u us ps) (tokens_from all (suc place) ts ps) (tokens_from all (suc place) us ps)
    (ap (λ (kind : Kind). is_unopened kind p) a.0)
    (next_same (token_of all place p t ts ps) (token_of all place p u us ps) t u (end_same all place p t ts ps) (end_same all place p u us ps) all (suc place) ts us ps r.2 s.2 (of-kinds ts us a.3) a.2)
    (adjoin_from all (suc place) t.end u.end ts us ps a.3 r.2 s.2)

pub read-adjoin : (ts us : List TextToken) → Alike ts us → RiseFrom 0 ts → RiseFrom 0 us → AdjoinAlike (grammar_tokens ts) (grammar_tokens us)
read-adjoin ts us a r s =
    subst (λ (ps : List (Option ℕ)). AdjoinAlike (grammar_tokens ts) (tokens_from ps 0 us ps)) (partners-same ts us (of-kinds ts us a)) (adjoin_from (partners_of ts) 0 0 0 ts us (partners_of ts) a r s)
