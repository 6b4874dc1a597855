-- Groups, of which the brackets are found first and what stands in them is read then.
use Rattle.std.proofs.Common.{◌≡◌, ℕ, ◌-◌, ◌<◌, Bool, true, false, take, drop, if◌then◌else◌, List, [], ◌∷◌, length, Option, Some, None, nat_eq, refl, sym, ap, ◌∙◌, arith}
use Rattle.std.proofs.lemmas.Bool.Decides.{nat_tests}
use Rattle.std.specs.Option.{option_map}
use Prim.Native.Nat.{min}
use Rattle.std.proofs.lemmas.List.{length-drop, take_min}
use Rattle.dart_tokens.specs.declared.token.Kind.{Kind}
use Rattle.readings.specs.Readings.{Reading, tokens_read, made}
use Rattle.readings.specs.Descent.{Descent, bind, complete, take_make, take_inside, take_items, all_items}
use Rattle.dart_tokens.specs.declared.grouped_token.GroupedToken.{GroupedToken as Token}
use Rattle.grammar.specs.Tokens.{is, width, past}
use Rattle.parse_leaves.specs.Answers.{group}

in_group : {A : Type 0} → Descent Token A → Option (Token × (List Token × List Token)) → Option (Reading Token (Token × A))
in_group g None = None
in_group g (Some x) = option_map (λ a. ((x.0, a), x.1.1)) (complete (g x.1.0))

group_at : {A : Type 0} (g : Descent Token A) (t : Token) (ts : List Token) (b : Bool) →
    (if b then option_map (λ a. ((t, a), drop (past t) ts)) (complete (g (take (width t) ts))) else None) ≡ in_group g (if b then Some (t, (take (width t) ts, drop (past t) ts)) else None)
unfolding in_group
group_at g t ts true = refl
group_at g t ts false = refl

inside_is : {A : Type 0} (k : Kind) (g : Descent Token A) (ts : List Token) → take_inside (is k) width past g ts ≡ in_group g (group k ts)
unfolding in_group
inside_is k g [] = refl
inside_is k g (t ∷ ts) = group_at g t ts (is k t)

complete_none : {A : Type 0} (a : A) (ts : List Token) → length ts ≡ 0 → complete (Some (a, ts)) ≡ Some a
complete_none a [] e = refl
complete_none a (t ∷ ts) e = absurd (omega (arith, e))

complete_some : {A : Type 0} (a : A) (ts : List Token) → 0 < length ts → complete (Some (a, ts)) ≡ None
complete_some a [] e = absurd (omega (arith, e))
complete_some a (t ∷ ts) e = refl

-- no bracket of the kind
pub inside_outside : {A : Type 0} (k : Kind) (g : Descent Token A) (ts : List Token) → group k ts ≡ None → take_inside (is k) width past g ts ≡ None
unfolding in_group
inside_outside k g ts e = inside_is k g ts ∙ ap (in_group g) e

-- nothing is read in the group
pub inside_missing : {A : Type 0} (k : Kind) (g : Descent Token A) (ts : List Token) (x : Token × (List Token × List Token)) → group k ts ≡ Some x → g x.1.0 ≡ None → take_inside (is k) width past g ts ≡ None
unfolding in_group
inside_missing k g ts x e d = inside_is k g ts ∙ ap (in_group g) e ∙ ap (λ o. option_map (λ a. ((x.0, a), x.1.1)) (complete o)) d

-- something is left in the group
pub inside_cut : {A : Type 0} (k : Kind) (g : Descent Token A) (ts : List Token) (x : Token × (List Token × List Token)) (y : Reading Token A) → group k ts ≡ Some x → g x.1.0 ≡ Some y → 0 < length y.1 → take_inside (is k) width past g ts ≡ None
unfolding in_group
inside_cut k g ts x y e d some = inside_is k g ts ∙ ap (in_group g) e ∙ ap (λ o. option_map (λ a. ((x.0, a), x.1.1)) (complete o)) d ∙ ap (λ o. option_map (λ a. ((x.0, a), x.1.1)) o) (complete_some y.0 y.1 some)

-- the group is read to its end
pub inside_whole : {A : Type 0} (k : Kind) (g : Descent Token A) (ts : List Token) (x : Token × (List Token × List Token)) (y : Reading Token A) → group k ts ≡ Some x → g x.1.0 ≡ Some y → length y.1 ≡ 0 →
    take_inside (is k) width past g ts ≡ Some ((x.0, y.0), x.1.1)
unfolding in_group
inside_whole k g ts x y e d none = inside_is k g ts ∙ ap (in_group g) e ∙ ap (λ o. option_map (λ a. ((x.0, a), x.1.1)) (complete o)) d ∙ ap (λ o. option_map (λ a. ((x.0, a), x.1.1)) o) (complete_none y.0 y.1 none)

-- items fill a group
pub inside_items : {A : Type 0} (k : Kind) (g : Descent Token A) (segment : List Token → ℕ) (error : List Token → A) (ts : List Token) (x : Token × (List Token × List Token)) (all : List A) → group k ts ≡ Some x → all ≡ all_items g segment error x.1.0 →
    take_inside (is k) width past (take_items g segment error) ts ≡ Some ((x.0, all), x.1.1)
inside_items k g segment error ts x all e d = inside_whole k (take_items g segment error) ts x (all, []) e (ap (λ a. Some (a, [])) (sym d)) refl

-- the tokens before others are those that were read
pub read_before : (size : ℕ) (ts : List Token) → tokens_read ts (drop size ts) ≡ take size ts
read_before size ts =
    let few : length ts - (length ts - size) ≡ min size (length ts) = omega arith in
    ap (λ k. take k ts) (ap (λ m. length ts - m) (length-drop size ts) ∙ few) ∙ take_min size ts

nothing_at : {A B : Type 0} (b : Bool) (f : Reading Token (Token × A) → Option (Reading Token B)) (t : Token) (ts : List Token) → bind (if b then option_map (λ a. ((t, a), ts)) None else None) f ≡ None
nothing_at true f t ts = refl
nothing_at false f t ts = refl

-- nothing can be read in a group
pub inside_nothing : {A B : Type 0} (opens : Token → Bool) (f : List Token → Token × A → B) (ts : List Token) → take_make f (take_inside opens width past (λ us. None)) ts ≡ None
inside_nothing opens f [] = refl
inside_nothing opens f (t ∷ ts) = nothing_at (opens t) (λ x. Some (made f (t ∷ ts) x)) t (drop (past t) ts)

-- The same, of a bracket, what stands in it and what comes behind it that have been found.

pub group_missing : {A : Type 0} (k : Kind) (g : Descent Token A) (ts us vs : List Token) (t : Token) → group k ts ≡ Some (t, (us, vs)) → g us ≡ None → take_inside (is k) width past g ts ≡ None
group_missing k g ts us vs t e d = inside_missing k g ts (t, (us, vs)) e d

pub group_cut : {A : Type 0} (k : Kind) (g : Descent Token A) (ts us vs left : List Token) (t : Token) (a : A) → group k ts ≡ Some (t, (us, vs)) → g us ≡ Some (a, left) → 0 < length left → take_inside (is k) width past g ts ≡ None
group_cut k g ts us vs left t a e d some = inside_cut k g ts (t, (us, vs)) (a, left) e d some

pub group_whole : {A : Type 0} (k : Kind) (g : Descent Token A) (ts us vs left : List Token) (t : Token) (a : A) → group k ts ≡ Some (t, (us, vs)) → g us ≡ Some (a, left) → length left ≡ 0 → take_inside (is k) width past g ts ≡ Some ((t, a), vs)
group_whole k g ts us vs left t a e d none = inside_whole k g ts (t, (us, vs)) (a, left) e d none

-- the same, as a test of what is left tells

some_left : (n : ℕ) → nat_eq n 0 ≡ false → 0 < n
some_left n e = grind (arith, nat_tests)

none_left : (n : ℕ) → nat_eq n 0 ≡ true → n ≡ 0
none_left n e = grind (arith, nat_tests)

pub tested_cut : {A : Type 0} (k : Kind) (g : Descent Token A) (ts us vs left : List Token) (t : Token) (a : A) → group k ts ≡ Some (t, (us, vs)) → g us ≡ Some (a, left) → nat_eq (length left) 0 ≡ false → take_inside (is k) width past g ts ≡ None
tested_cut k g ts us vs left t a e d test = group_cut k g ts us vs left t a e d (some_left (length left) test)

pub tested_whole : {A : Type 0} (k : Kind) (g : Descent Token A) (ts us vs left : List Token) (t : Token) (a : A) → group k ts ≡ Some (t, (us, vs)) → g us ≡ Some (a, left) → nat_eq (length left) 0 ≡ true → take_inside (is k) width past g ts ≡ Some ((t, a), vs)
tested_whole k g ts us vs left t a e d test = group_whole k g ts us vs left t a e d (none_left (length left) test)
