-- Ways over tokens: where they can be gone, and where their repetition stops.
use Rattle.std.proofs.Common.{◌≡◌, ℕ, zero, suc, Bool, true, false, ◌||◌, List, [], ◌∷◌, Option, Some, None, ◌⊎◌, inl, inr, if◌then◌else◌, refl, ap, subst, sym}
use Rattle.readings.specs.Readings.{Test, next}
use Rattle.dart_tokens.specs.declared.token.Kind.TheVariants as kind
use Rattle.dart_tokens.specs.declared.grouped_token.GroupedToken.{GroupedToken as Token}
use Rattle.grammar.specs.Tokens.{is, is_either, heads}
use Rattle.grammar.specs.Outline.{Way, onward, ◌⨾◌, behind_or, go_on, repeated, over, over_group, over_angles}
use Rattle.outline_laws.proofs.KindTests.{far, within}

-- What comes next.

-- behind a type between angle brackets
abbrev pub ends : Test Token
ends = next (is_either kind.Comma kind.Greater)

-- behind a type there, or a front of it
abbrev pub goes_on : Test Token
goes_on = next (λ t. is kind.Comma t || is kind.Greater t || is kind.Function t)

-- behind the name of a type parameter
abbrev pub settles : Test Token
settles = next (λ t. is kind.Comma t || is kind.Greater t || is kind.Extends t)

-- no tokens pass a test and fail it
pub never : (b : Bool) → b ≡ true → b ≡ false → ⊥
never true p q = absurd (cc)
never false p q = absurd (cc)

-- Steps.

pub chosen : {A : Type 0} (b : Bool) (o : Option A) (x : A) → (if b then o else None) ≡ Some x → b ≡ true
chosen true o x e = refl
chosen false o x e = absurd (cc)

pub if_passed : {A : Type 0} (b : Bool) (o : Option A) (x : A) → (if b then o else None) ≡ Some x → o ≡ Some x
if_passed true o x e = e
if_passed false o x e = absurd (cc)

pub over_found : (f : Token → Bool) (ts us : List Token) → over f ts ≡ Some us → next f ts ≡ true
over_found f [] us e = absurd (cc)
over_found f (t ∷ ts) us e = chosen (f t) (Some ts) us e

pub over_misses : (f : Token → Bool) (ts : List Token) → next f ts ≡ false → over f ts ≡ None
over_misses f [] e = refl
over_misses f (t ∷ ts) e = rw e refl

pub group_found : (ts us : List Token) → over_group ts ≡ Some us → heads kind.OpenParenthesis ts ≡ true
group_found [] us e = absurd (cc)
group_found (t ∷ ts) us e = chosen (is kind.OpenParenthesis t) _ us e

pub group_misses : (ts : List Token) → heads kind.OpenParenthesis ts ≡ false → over_group ts ≡ None
group_misses [] e = refl
group_misses (t ∷ ts) e = rw e refl

-- what lies between two ways
pub through : (o : Option (List Token)) (w : Way) (us : List Token) → onward o w ≡ Some us → (vs : List Token) × ((o ≡ Some vs) × (w vs ≡ Some us))
through None w us e = absurd (cc)
through (Some vs) w us e = (vs, (refl, e))

pub joined : (o : Option (List Token)) (w : Way) (vs us : List Token) → o ≡ Some vs → w vs ≡ Some us → onward o w ≡ Some us
joined o w vs us p q = rw p q

pub stopped : (o : Option (List Token)) (w : Way) → o ≡ None → onward o w ≡ None
stopped o w p = rw p refl

-- a repetition goes a step or stops
pub stepped : (f : List Token → List Token) (o : Option (List Token)) (ts us : List Token) → go_on f o ts ≡ us → ((vs : List Token) × ((o ≡ Some vs) × (f vs ≡ us))) ⊎ ((o ≡ None) × (ts ≡ us))
stepped f None ts us e = inr (refl, e)
stepped f (Some vs) ts us e = inl (vs, (refl, e))

pub repeated_step : (n : ℕ) (w : Way) (ts vs us : List Token) → w ts ≡ Some vs → repeated n w vs ≡ us → repeated (suc n) w ts ≡ us
repeated_step n w ts vs us p q = rw p q

pub repeated_stops : (n : ℕ) (w : Way) (ts : List Token) → w ts ≡ None → repeated n w ts ≡ ts
repeated_stops zero w ts p = refl
repeated_stops (suc n) w ts p = rw p refl

-- what may be left out was there, or was left out
pub there_or_not : (o : Option (List Token)) (ts us : List Token) → behind_or o ts ≡ us → (o ≡ Some us) ⊎ ((o ≡ None) × (ts ≡ us))
there_or_not None ts us e = inr (refl, e)
there_or_not (Some vs) ts us e = inl (ap (λ (xs : List Token). Some xs) e)

-- Angle brackets.

pub angles_miss : (w : Way) (ts : List Token) → heads kind.Less ts ≡ false → over_angles w ts ≡ None
angles_miss w ts e = stopped (over (is kind.Less) ts) _ (over_misses (is kind.Less) ts e)

pub angles_found : (w : Way) (ts us : List Token) → over_angles w ts ≡ Some us → heads kind.Less ts ≡ true
angles_found w ts us e = let p = through (over (is kind.Less) ts) _ us e in over_found (is kind.Less) ts p.0 p.1.0

pub comma_ends : (ts : List Token) → heads kind.Comma ts ≡ true → ends ts ≡ true
comma_ends ts e = within (heads kind.Comma) ends refl (λ t us. refl) ts e

pub greater_ends : (ts : List Token) → heads kind.Greater ts ≡ true → ends ts ≡ true
greater_ends ts e = within (heads kind.Greater) ends refl (λ t us. refl) ts e

-- a list between angle brackets goes on with a comma or is over
pub list_ends : (n : ℕ) (w : Way) (ts us : List Token) → repeated n (over (is kind.Comma) ⨾ w) ts ≡ us → heads kind.Greater us ≡ true → ends ts ≡ true
list_ends zero w ts us e g = greater_ends ts (subst (λ (xs : List Token). heads kind.Greater xs ≡ true) (sym e) g)
list_ends (suc n) w ts us e g =
    elim (stepped (repeated n (over (is kind.Comma) ⨾ w)) ((over (is kind.Comma) ⨾ w) ts) ts us e) [
      | inl p ↦ let q = through (over (is kind.Comma) ts) w p.0 p.1.0 in comma_ends ts (over_found (is kind.Comma) ts q.0 q.1.0)
      | inr p ↦ greater_ends ts (subst (λ (xs : List Token). heads kind.Greater xs ≡ true) (sym p.1) g)
    ]

-- no comma comes next where a list is over
pub no_comma : (w : Way) (ts us : List Token) → ts ≡ us → heads kind.Greater us ≡ true → (over (is kind.Comma) ⨾ w) ts ≡ None
no_comma w ts us e g =
    stopped (over (is kind.Comma) ts) w (over_misses (is kind.Comma) ts (far (heads kind.Greater) (heads kind.Comma) refl (λ t xs. refl) ts (subst (λ (xs : List Token). heads kind.Greater xs ≡ true) (sym e) g)))
