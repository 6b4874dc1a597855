-- What the loops over the tokens and the cases of a switch keep.
use Rattle.std.proofs.Common.{◌≡◌, ℕ, zero, suc, ◌+◌, ◌-◌, ◌<◌, ◌≤◌, Bool, true, false, List, [], ◌∷◌, ◌++◌, length, map, drop, refl, sym, ap, ◌∙◌, arith}
use Rattle.std.proofs.lemmas.List.{drop-drop}
use Rattle.dart_tree.specs.Tree.{Tree, trees_of}
use Rattle.dart_tree.specs.Heights.{higher, height, heights}
use Rattle.dart_tokens.specs.declared.grouped_token.GroupedToken.{GroupedToken as Token}
use Rattle.dart_tokens.specs.Read.{past}
use Rattle.grammar.specs.Statements.{is_case, case_size_at, ends_with_default}
use Rattle.parse_leaves.specs.Sizes.{higher_zero, zero_higher, higher_twice}

-- Tokens before the next case. `all` is what is left behind them.

-- no step is left
pub sized_out : (all : List Token) (n : ℕ) (ts : List Token) → all ≡ drop (case_size_at n ts) ts → n ≡ 0 → all ≡ ts
sized_out all zero ts so e = so
sized_out all (suc n) ts so e = absurd (omega (arith, e))

-- no token is left
pub sized_end : (all : List Token) (n : ℕ) (ts : List Token) → all ≡ drop (case_size_at n ts) ts → length ts ≡ 0 → all ≡ ts
sized_end all zero ts so e = so
sized_end all (suc n) [] so e = so
sized_end all (suc n) (t ∷ ts) so e = absurd (omega (arith, e))

-- a case comes next
pub sized_stop : (all : List Token) (n : ℕ) (t : Token) (ts : List Token) → all ≡ drop (case_size_at n (t ∷ ts)) (t ∷ ts) → is_case t ≡ true → all ≡ t ∷ ts
sized_stop all zero t ts so e = so
sized_stop all (suc n) t ts so e = so ∙ rw e refl

-- a token and those behind it
dropped_one : (m n : ℕ) (t : Token) (ts : List Token) → drop (suc m + n) (t ∷ ts) ≡ drop (m + n) ts
dropped_one m n t ts = let e : suc m + n ≡ suc (m + n) = omega arith in ap (λ k. drop k (t ∷ ts)) e

-- a token or group before it
sized_step : (n : ℕ) (t : Token) (ts : List Token) → is_case t ≡ false → drop (case_size_at (suc n) (t ∷ ts)) (t ∷ ts) ≡ drop (case_size_at n (drop (past t) ts)) (drop (past t) ts)
sized_step n t ts e =
    let size : ℕ = case_size_at n (drop (past t) ts) in
    rw e (dropped_one (past t) size t ts ∙ sym (drop-drop size (past t) ts))

pub sized_goes : (all : List Token) (n m k : ℕ) (t : Token) (rest ts us : List Token) → all ≡ drop (case_size_at n rest) rest → 0 < n → rest ≡ t ∷ ts → is_case t ≡ false → k ≡ past t → us ≡ drop k ts → m ≡ n - 1 → all ≡ drop (case_size_at m us) us
sized_goes all zero m k t rest ts us so some is e over at less = absurd (omega (arith, some))
sized_goes all (suc n) m k t rest ts us so some is e over at less =
    let same : suc n - 1 ≡ n = omega arith in
    so ∙ ap (λ vs. drop (case_size_at (suc n) vs) vs) is ∙ sized_step n t ts e ∙ ap (λ vs. drop (case_size_at n vs) vs) (ap (λ j. drop j ts) (sym over) ∙ sym at) ∙ ap (λ j. drop (case_size_at j us) us) (sym (less ∙ same))

-- Whether only the last case is the default.

-- no case but the last is left
pub default_few : (all : Bool) (cs : List (Tree × Bool)) → all ≡ ends_with_default cs → length cs ≤ 1 → all ≡ true
default_few all [] so few = so
default_few all (c ∷ []) so few = so
default_few all (c ∷ (d ∷ cs)) so few = absurd (omega (arith, few))

-- another case is the default
pub default_early : (all : Bool) (c : Tree × Bool) (cs : List (Tree × Bool)) → all ≡ ends_with_default (c ∷ cs) → 0 < length cs → c.1 ≡ true → all ≡ false
default_early all c [] so some e = absurd (omega (arith, some))
default_early all c (d ∷ cs) so some e = so ∙ rw e refl

-- this one isn't
pub default_goes : (all : Bool) (c : Tree × Bool) (cs : List (Tree × Bool)) → all ≡ ends_with_default (c ∷ cs) → 0 < length cs → c.1 ≡ false → all ≡ ends_with_default cs
default_goes all c [] so some e = absurd (omega (arith, some))
default_goes all c (d ∷ cs) so some e = so ∙ rw e refl

-- Heights of cases.

-- one more case behind others
pub cases_behind : (cs : List (Tree × Bool)) (c : Tree × Bool) → heights (trees_of (map (λ x. x.0) (cs ++ c ∷ []))) ≡ higher (heights (trees_of (map (λ x. x.0) cs))) (height c.0)
cases_behind [] c = higher_zero (height c.0) ∙ sym (zero_higher (height c.0))
cases_behind (d ∷ cs) c =
    ap (higher (height d.0)) (cases_behind cs c) ∙ sym (higher_twice (height d.0) (heights (trees_of (map (λ x. x.0) cs))) (height c.0))

-- heights of cases that have grown by one, of which each says too whether it is the default
pub cases_grown : (h tall high : ℕ) (done new : List (Tree × Bool)) (c : Tree × Bool) → h ≡ heights (trees_of (map (λ x. x.0) done)) → tall ≡ height c.0 → new ≡ done ++ c ∷ [] → high ≡ higher h tall → high ≡ heights (trees_of (map (λ x. x.0) new))
cases_grown h tall high done new c a b e d =
    d ∙ ap (λ k. higher k tall) a ∙ ap (higher (heights (trees_of (map (λ x. x.0) done)))) b ∙ sym (cases_behind done c) ∙ ap (λ (cs : List (Tree × Bool)). heights (trees_of (map (λ x. x.0) cs))) (sym e)
