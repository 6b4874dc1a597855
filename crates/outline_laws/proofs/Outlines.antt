-- Where one way sees the types of another, the outline over it ends where that over the other does.
use Rattle.std.proofs.Common.{◌≡◌, ℕ, zero, suc, ◌≤◌, Bool, true, false, ◌&&◌, List, [], ◌∷◌, Option, Some, None, length, ◌⊎◌, inl, inr, if◌then◌else◌, refl, ap, subst, sym, ◌∙◌, arith}
use Rattle.readings.specs.Readings.{next}
use Rattle.dart_tokens.specs.declared.token.Kind.TheVariants as kind
use Rattle.dart_tokens.specs.declared.grouped_token.GroupedToken.{GroupedToken as Token}
use Rattle.grammar.specs.Tokens.{is, is_name, is_type_name, heads, first_then}
use Rattle.grammar.specs.Types.{heads_qualified}
use Rattle.grammar.specs.Outline.{Way, onward, ◌⨾◌, way_or, behind_or, perhaps, repeated, some_more, over, over_group, over_name, over_angles, over_parameter, over_tail, over_plain, over_type}
use Rattle.outline_laws.proofs.KindTests.{far, within}
use Rattle.outline_laws.proofs.Ways.{ends, goes_on, settles, never, if_passed, over_found, over_misses, group_found, group_misses, through, joined, stopped, stepped, repeated_step, repeated_stops, there_or_not, angles_miss, angles_found, list_ends, no_comma}

-- what one way goes over the other goes over too, where a type between angle brackets ends there
pub record Seen (v w : Way) : Type 0 where
  pub goes : (ts us : List Token) → v ts ≡ Some us → ends us ≡ true → w ts ≡ Some us

-- where both ways go over a type between angle brackets they end at one place
pub record Agree (v w : Way) : Type 0 where
  pub same : (ts us vs : List Token) → v ts ≡ Some us → ends us ≡ true → w ts ≡ Some vs → ends vs ≡ true → us ≡ vs

-- Lists between angle brackets.

list_seen : (n : ℕ) (v w : Way) → Seen v w → (ts us : List Token) → repeated n (over (is kind.Comma) ⨾ v) ts ≡ us → heads kind.Greater us ≡ true → repeated n (over (is kind.Comma) ⨾ w) ts ≡ us
list_seen zero v w s ts us e g = e
list_seen (suc n) v w s ts us e g =
    elim (stepped (repeated n (over (is kind.Comma) ⨾ v)) ((over (is kind.Comma) ⨾ v) ts) ts us e) [
      | inl p ↦
          let q = through (over (is kind.Comma) ts) v p.0 p.1.0 in
          repeated_step n (over (is kind.Comma) ⨾ w) ts p.0 us
          (joined (over (is kind.Comma) ts) w q.0 p.0 q.1.0 (s.goes q.0 p.0 q.1.1 (list_ends n v p.0 us p.1.1 g)))
          (list_seen n v w s p.0 us p.1.1 g)
      | inr p ↦ repeated_stops (suc n) (over (is kind.Comma) ⨾ w) ts (no_comma w ts us p.1 g) ∙ p.1
    ]

pub angles_seen : (v w : Way) → Seen v w → (ts us : List Token) → over_angles v ts ≡ Some us → over_angles w ts ≡ Some us
angles_seen v w s ts us e =
    let p = through (over (is kind.Less) ts) (v ⨾ some_more (over (is kind.Comma) ⨾ v) ⨾ over (is kind.Greater)) us e in
    let q = through (v p.0) (some_more (over (is kind.Comma) ⨾ v) ⨾ over (is kind.Greater)) us p.1.1 in
    let behind : List Token = repeated (length q.0) (over (is kind.Comma) ⨾ v) q.0 in
    let closed : heads kind.Greater behind ≡ true = over_found (is kind.Greater) behind us q.1.1 in
    let first = s.goes p.0 q.0 q.1.0 (list_ends (length q.0) v q.0 behind refl closed) in
    let more = list_seen (length q.0) v w s q.0 behind refl closed in
    joined (over (is kind.Less) ts) (w ⨾ some_more (over (is kind.Comma) ⨾ w) ⨾ over (is kind.Greater)) p.0 us p.1.0
    (joined (w p.0) (some_more (over (is kind.Comma) ⨾ w) ⨾ over (is kind.Greater)) q.0 us first
    (subst (λ (xs : List Token). over (is kind.Greater) xs ≡ Some us) (sym more) q.1.1))

list_agrees : (n : ℕ) (v w : Way) → Agree v w → (ts us vs : List Token) → repeated n (over (is kind.Comma) ⨾ v) ts ≡ us → heads kind.Greater us ≡ true → repeated n (over (is kind.Comma) ⨾ w) ts ≡ vs → heads kind.Greater vs ≡ true → us ≡ vs
list_agrees zero v w a ts us vs e g d h = sym e ∙ d
list_agrees (suc n) v w a ts us vs e g d h =
    elim (stepped (repeated n (over (is kind.Comma) ⨾ v)) ((over (is kind.Comma) ⨾ v) ts) ts us e) [
      | inl p ↦
          elim (stepped (repeated n (over (is kind.Comma) ⨾ w)) ((over (is kind.Comma) ⨾ w) ts) ts vs d) [
            | inl q ↦
                let i = through (over (is kind.Comma) ts) v p.0 p.1.0 in
                let j = through (over (is kind.Comma) ts) w q.0 q.1.0 in
                let begun : j.0 ≡ i.0 = cc (i.1.0, j.1.0) in
                let met = a.same i.0 p.0 q.0 i.1.1 (list_ends n v p.0 us p.1.1 g) (subst (λ (xs : List Token). w xs ≡ Some q.0) begun j.1.1) (list_ends n w q.0 vs q.1.1 h) in
                list_agrees n v w a p.0 us vs p.1.1 g (subst (λ (xs : List Token). repeated n (over (is kind.Comma) ⨾ w) xs ≡ vs) (sym met) q.1.1) h
            | inr q ↦ let none = no_comma v ts vs q.1 h in absurd (cc (none, p.1.0))
          ]
      | inr p ↦ let none = no_comma w ts us p.1 g in sym p.1 ∙ (sym (repeated_stops (suc n) (over (is kind.Comma) ⨾ w) ts none) ∙ d)
    ]

angles_agree : (v w : Way) → Agree v w → (ts us vs : List Token) → over_angles v ts ≡ Some us → over_angles w ts ≡ Some vs → us ≡ vs
angles_agree v w a ts us vs e d =
    let p = through (over (is kind.Less) ts) (v ⨾ some_more (over (is kind.Comma) ⨾ v) ⨾ over (is kind.Greater)) us e in
    let q = through (v p.0) (some_more (over (is kind.Comma) ⨾ v) ⨾ over (is kind.Greater)) us p.1.1 in
    let i = through (over (is kind.Less) ts) (w ⨾ some_more (over (is kind.Comma) ⨾ w) ⨾ over (is kind.Greater)) vs d in
    let j = through (w i.0) (some_more (over (is kind.Comma) ⨾ w) ⨾ over (is kind.Greater)) vs i.1.1 in
    let begun : i.0 ≡ p.0 = cc (p.1.0, i.1.0) in
    let one : List Token = repeated (length q.0) (over (is kind.Comma) ⨾ v) q.0 in
    let other : List Token = repeated (length j.0) (over (is kind.Comma) ⨾ w) j.0 in
    let one_closed : heads kind.Greater one ≡ true = over_found (is kind.Greater) one us q.1.1 in
    let other_closed : heads kind.Greater other ≡ true = over_found (is kind.Greater) other vs j.1.1 in
    let met = a.same p.0 q.0 j.0 q.1.0 (list_ends (length q.0) v q.0 one refl one_closed) (subst (λ (xs : List Token). w xs ≡ Some j.0) begun j.1.0) (list_ends (length j.0) w j.0 other refl other_closed) in
    let all = list_agrees (length q.0) v w a q.0 one other refl one_closed (subst (λ (xs : List Token). repeated (length xs) (over (is kind.Comma) ⨾ w) xs ≡ other) (sym met) refl) other_closed in
    let last = subst (λ (xs : List Token). over (is kind.Greater) xs ≡ Some us) all q.1.1 in
    cc (last, j.1.1)

-- Type parameters.

bound_seen : (v w : Way) → Seen v w → (ns us : List Token) → behind_or ((over (is kind.Extends) ⨾ v) ns) ns ≡ us → ends us ≡ true → behind_or ((over (is kind.Extends) ⨾ w) ns) ns ≡ us
bound_seen v w s ns us e d =
    elim (there_or_not ((over (is kind.Extends) ⨾ v) ns) ns us e) [
      | inl p ↦
          let q = through (over (is kind.Extends) ns) v us p in
          let found = joined (over (is kind.Extends) ns) w q.0 us q.1.0 (s.goes q.0 us q.1.1 d) in
          ap (λ (o : Option (List Token)). behind_or o ns) found
      | inr p ↦
          let here : ends ns ≡ true = subst (λ (xs : List Token). ends xs ≡ true) (sym p.1) d in
          let none = stopped (over (is kind.Extends) ns) w (over_misses (is kind.Extends) ns (far ends (heads kind.Extends) refl (λ t xs. refl) ns here)) in
          ap (λ (o : Option (List Token)). behind_or o ns) none ∙ p.1
    ]

parameter_seen : (v w : Way) → Seen v w → Seen (over_parameter v) (over_parameter w)
parameter_seen v w s = record {
  goes = λ ts us e d.
      let p = through (over is_type_name ts) (perhaps (over (is kind.Extends) ⨾ v)) us e in
      joined (over is_type_name ts) (perhaps (over (is kind.Extends) ⨾ w)) p.0 us p.1.0 (ap (λ (xs : List Token). Some xs) (bound_seen v w s p.0 us (cc (p.1.1)) d));
}

-- Tails.

parameters_seen : (v w : Way) → Seen v w → (fs gs : List Token) (o : Option (List Token)) → over_angles (over_parameter v) fs ≡ o → over_group (behind_or o fs) ≡ Some gs → over_angles (over_parameter w) fs ≡ o
parameters_seen v w s fs gs None e g = angles_miss (over_parameter w) fs (far (heads kind.OpenParenthesis) (heads kind.Less) refl (λ t xs. refl) fs (group_found fs gs g))
parameters_seen v w s fs gs (Some us) e g = angles_seen (over_parameter v) (over_parameter w) (parameter_seen v w s) fs us e

-- what stands behind the type parameters of a tail, and what comes behind its group
tail_parts : (v : Way) (fs us : List Token) → (perhaps (over_angles (over_parameter v)) ⨾ over_group ⨾ perhaps (over (is kind.Question))) fs ≡ Some us →
    (gs : List Token) × ((over_group (behind_or (over_angles (over_parameter v) fs) fs) ≡ Some gs) × (perhaps (over (is kind.Question)) gs ≡ Some us))
tail_parts v fs us e = through (over_group (behind_or (over_angles (over_parameter v) fs) fs)) (perhaps (over (is kind.Question))) us e

pub tail_seen : (v w : Way) → Seen v w → (ts us : List Token) → over_tail v ts ≡ Some us → over_tail w ts ≡ Some us
tail_seen v w s ts us e =
    let p = through (over (is kind.Function) ts) (perhaps (over_angles (over_parameter v)) ⨾ over_group ⨾ perhaps (over (is kind.Question))) us e in
    let q = tail_parts v p.0 us p.1.1 in
    let same = parameters_seen v w s p.0 q.0 (over_angles (over_parameter v) p.0) refl q.1.0 in
    joined (over (is kind.Function) ts) (perhaps (over_angles (over_parameter w)) ⨾ over_group ⨾ perhaps (over (is kind.Question))) p.0 us p.1.0
    (joined (over_group (behind_or (over_angles (over_parameter w) p.0) p.0)) (perhaps (over (is kind.Question))) q.0 us
    (subst (λ (o : Option (List Token)). over_group (behind_or o p.0) ≡ Some q.0) (sym same) q.1.0) q.1.1)

tail_misses : (w : Way) (ts : List Token) → heads kind.Function ts ≡ false → over_tail w ts ≡ None
tail_misses w ts e = stopped (over (is kind.Function) ts) (perhaps (over_angles (over_parameter w)) ⨾ over_group ⨾ perhaps (over (is kind.Question))) (over_misses (is kind.Function) ts e)

-- Plain types.

-- no `<` comes behind what stands before a `?` that may be there
no_angle : (ns us : List Token) → behind_or (over (is kind.Question) ns) ns ≡ us → goes_on us ≡ true → heads kind.Less ns ≡ false
no_angle ns us e g =
    elim (there_or_not (over (is kind.Question) ns) ns us e) [
      | inl p ↦ far (heads kind.Question) (heads kind.Less) refl (λ t xs. refl) ns (over_found (is kind.Question) ns us p)
      | inr p ↦ far goes_on (heads kind.Less) refl (λ t xs. refl) ns (subst (λ (xs : List Token). goes_on xs ≡ true) (sym p.1) g)
    ]

-- nor does a `(`
no_group : (ns us : List Token) → behind_or (over (is kind.Question) ns) ns ≡ us → goes_on us ≡ true → heads kind.OpenParenthesis ns ≡ false
no_group ns us e g =
    elim (there_or_not (over (is kind.Question) ns) ns us e) [
      | inl p ↦ far (heads kind.Question) (heads kind.OpenParenthesis) refl (λ t xs. refl) ns (over_found (is kind.Question) ns us p)
      | inr p ↦ far goes_on (heads kind.OpenParenthesis) refl (λ t xs. refl) ns (subst (λ (xs : List Token). goes_on xs ≡ true) (sym p.1) g)
    ]

arguments_seen : (v w : Way) → Seen v w → (ns us : List Token) (o : Option (List Token)) → over_angles v ns ≡ o → behind_or (over (is kind.Question) (behind_or o ns)) (behind_or o ns) ≡ us → goes_on us ≡ true → over_angles w ns ≡ o
arguments_seen v w s ns us None e d g = angles_miss w ns (no_angle ns us d g)
arguments_seen v w s ns us (Some xs) e d g = angles_seen v w s ns xs e

abbrev named : Way → Way
named type = over_name ⨾ perhaps (over_angles type) ⨾ perhaps (over (is kind.Question))

-- the end of a plain type, from what comes behind its name
abbrev behind_name : Option (List Token) → List Token → List Token
behind_name o ns = behind_or (over (is kind.Question) (behind_or o ns)) (behind_or o ns)

name_parts : (v : Way) (ts us : List Token) → named v ts ≡ Some us → (ns : List Token) × ((over_name ts ≡ Some ns) × (behind_name (over_angles v ns) ns ≡ us))
name_parts v ts us e = let p = through (over_name ts) (perhaps (over_angles v) ⨾ perhaps (over (is kind.Question))) us e in (p.0, (p.1.0, cc (p.1.1)))

named_seen : (v w : Way) → Seen v w → (ts us : List Token) → named v ts ≡ Some us → goes_on us ≡ true → named w ts ≡ Some us
named_seen v w s ts us e g =
    let p = name_parts v ts us e in
    let same = arguments_seen v w s p.0 us (over_angles v p.0) refl p.1.1 g in
    joined (over_name ts) (perhaps (over_angles w) ⨾ perhaps (over (is kind.Question))) p.0 us p.1.0
    (subst (λ (o : Option (List Token)). Some (behind_name o p.0) ≡ Some us) (sym same) (ap (λ (xs : List Token). Some xs) p.1.1))

plain_if : (v w : Way) → Seen v w → (b : Bool) (ts us : List Token) → (if b then over (is kind.Void) ts else named v ts) ≡ Some us → goes_on us ≡ true → (if b then over (is kind.Void) ts else named w ts) ≡ Some us
plain_if v w s true ts us e g = e
plain_if v w s false ts us e g = named_seen v w s ts us e g

plain_seen : (v w : Way) → Seen v w → (ts us : List Token) → over_plain v ts ≡ Some us → goes_on us ≡ true → over_plain w ts ≡ Some us
plain_seen v w s ts us e g = plain_if v w s (heads kind.Void ts) ts us e g

-- `Function` as the name of a type: it isn't gone over as a tail where its end is that of a type.

unqualified : (a b : Bool) → b ≡ false → (a && b) ≡ false
unqualified true b e = e
unqualified false b e = refl

unless : {A : Type 0} (b : Bool) (x y : A) → b ≡ false → (if b then x else y) ≡ y
unless b x y e = rw e refl

-- the name of a type where no `.` comes behind it
simple_name : (t : Token) (ts : List Token) → first_then (is kind.Period) (next is_type_name) ts ≡ false → over_name (t ∷ ts) ≡ over is_type_name (t ∷ ts)
simple_name t ts e = unless (heads_qualified (t ∷ ts)) _ (over is_type_name (t ∷ ts)) (unqualified (is_name t) _ e)

-- what stands between a name and a group
group_or_angles : (fs gs : List Token) (o : Option (List Token)) → (heads kind.Less fs ≡ false → o ≡ None) → over_group (behind_or o fs) ≡ Some gs → first_then (is kind.Period) (next is_type_name) fs ≡ false
group_or_angles fs gs o miss e = beside (heads kind.Less fs) refl where
  beside : (b : Bool) → heads kind.Less fs ≡ b → first_then (is kind.Period) (next is_type_name) fs ≡ false
  beside true d = far (heads kind.Less) (first_then (is kind.Period) (next is_type_name)) refl (λ t xs. refl) fs d
  beside false d =
      far (heads kind.OpenParenthesis) (first_then (is kind.Period) (next is_type_name)) refl (λ t xs. refl) fs (group_found fs gs (subst (λ (o : Option (List Token)). over_group (behind_or o fs) ≡ Some gs) (miss d) e))

-- a group behind angle brackets, and a type that ends behind the same
no_group_behind : (fs gs us : List Token) (o p : Option (List Token)) → (heads kind.Less fs ≡ false → p ≡ None) → ((xs : List Token) → o ≡ Some xs → heads kind.Less fs ≡ true) → ((xs ys : List Token) → o ≡ Some xs → p ≡ Some ys → xs ≡ ys) →
    over_group (behind_or p fs) ≡ Some gs → behind_name o fs ≡ us → goes_on us ≡ true → ⊥
no_group_behind fs gs us None None miss found met e d g = never (heads kind.OpenParenthesis fs) (group_found fs gs e) (no_group fs us d g)
no_group_behind fs gs us None (Some ys) miss found met e d g = let none = miss (no_angle fs us d g) in absurd (cc)
no_group_behind fs gs us (Some xs) None miss found met e d g =
    never (heads kind.Less fs) (found xs refl) (far (heads kind.OpenParenthesis) (heads kind.Less) refl (λ t xs. refl) fs (group_found fs gs e))
no_group_behind fs gs us (Some xs) (Some ys) miss found met e d g =
    never (heads kind.OpenParenthesis xs) (group_found xs gs (subst (λ (zs : List Token). over_group zs ≡ Some gs) (sym (met xs ys refl refl)) e)) (no_group xs us d g)

no_tail_at : (v w : Way) → Seen v w → Agree (over_parameter w) w → (ts us xs : List Token) → over_plain v ts ≡ Some us → goes_on us ≡ true → over_tail w ts ≡ Some xs → ⊥
no_tail_at v w s a [] us xs e g d = cc
no_tail_at v w s a (t ∷ ts) us xs e g d =
    let p = through (over (is kind.Function) (t ∷ ts)) (perhaps (over_angles (over_parameter w)) ⨾ over_group ⨾ perhaps (over (is kind.Question))) xs d in
    let word : is kind.Function t ≡ true = over_found (is kind.Function) (t ∷ ts) p.0 p.1.0 in
    let behind : Some ts ≡ Some p.0 = if_passed (is kind.Function t) (Some ts) p.0 p.1.0 in
    let at : p.0 ≡ ts = cc in
    let q = tail_parts w ts xs (subst (λ (fs : List Token). (perhaps (over_angles (over_parameter w)) ⨾ over_group ⨾ perhaps (over (is kind.Question))) fs ≡ Some xs) at p.1.1) in
    let miss = angles_miss (over_parameter w) ts in
    let simple = group_or_angles ts q.0 (over_angles (over_parameter w) ts) miss q.1.0 in
    let plain : named v (t ∷ ts) ≡ Some us = sym (unless (is kind.Void t) (over (is kind.Void) (t ∷ ts)) (named v (t ∷ ts)) (far (heads kind.Function) (heads kind.Void) refl (λ t xs. refl) (t ∷ ts) word)) ∙ e in
    let n = name_parts v (t ∷ ts) us plain in
    let name : over is_type_name (t ∷ ts) ≡ Some n.0 = sym (simple_name t ts simple) ∙ n.1.0 in
    let rest : Some ts ≡ Some n.0 = if_passed (is_type_name t) (Some ts) n.0 name in
    let start : n.0 ≡ ts = cc in
    no_group_behind ts q.0 us (over_angles v ts) (over_angles (over_parameter w) ts) miss (λ ys f. angles_found v ts ys f)
    (λ ys zs f h. sym (angles_agree (over_parameter w) w a ts zs ys h (angles_seen v w s ts ys f))) q.1.0 (subst (λ (ns : List Token). behind_name (over_angles v ns) ns ≡ us) start n.1.1) g

no_tail : (v w : Way) → Seen v w → Agree (over_parameter w) w → (ts us : List Token) → over_plain v ts ≡ Some us → goes_on us ≡ true → over_tail w ts ≡ None
no_tail v w s a ts us e g = by_answer (over_tail w ts) refl where
  by_answer : (o : Option (List Token)) → over_tail w ts ≡ o → o ≡ None
  by_answer None d = refl
  by_answer (Some xs) d = absurd (no_tail_at v w s a ts us xs e g d)

-- Types.

-- from some tokens to others in at most n tails
abbrev pub Tails : Way → ℕ → List Token → List Token → Type 0
Tails v zero ts us = ts ≡ us
Tails v (suc n) ts us = (ts ≡ us) ⊎ ((vs : List Token) × ((over_tail v ts ≡ Some vs) × Tails v n vs us))

pub tails_repeated : (v : Way) (n : ℕ) (ts us : List Token) → repeated n (over_tail v) ts ≡ us → Tails v n ts us
tails_repeated v zero ts us e = e
tails_repeated v (suc n) ts us e =
    elim (stepped (repeated n (over_tail v)) (over_tail v ts) ts us e) [
      | inl p ↦ inr (p.0, (p.1.0, tails_repeated v n p.0 us p.1.1))
      | inr p ↦ inl p.1
    ]

ends_goes_on : (ts us : List Token) → ts ≡ us → ends us ≡ true → goes_on ts ≡ true
ends_goes_on ts us e d = within ends goes_on refl (λ t xs. refl) ts (subst (λ (xs : List Token). ends xs ≡ true) (sym e) d)

tail_goes_on : (v : Way) (ts us : List Token) → over_tail v ts ≡ Some us → goes_on ts ≡ true
tail_goes_on v ts us e =
    let p = through (over (is kind.Function) ts) (perhaps (over_angles (over_parameter v)) ⨾ over_group ⨾ perhaps (over (is kind.Question))) us e in
    within (heads kind.Function) goes_on refl (λ t xs. refl) ts (over_found (is kind.Function) ts p.0 p.1.0)

tails_go_on : (v : Way) (n : ℕ) (ts us : List Token) → Tails v n ts us → ends us ≡ true → goes_on ts ≡ true
tails_go_on v zero ts us h d = ends_goes_on ts us h d
tails_go_on v (suc n) ts us (inl e) d = ends_goes_on ts us e d
tails_go_on v (suc n) ts us (inr p) d = tail_goes_on v ts p.0 p.1.0

no_more_tails : (w : Way) (n : ℕ) (ts us : List Token) → ts ≡ us → ends us ≡ true → repeated n (over_tail w) ts ≡ us
no_more_tails w n ts us e d =
    repeated_stops n (over_tail w) ts (tail_misses w ts (far ends (heads kind.Function) refl (λ t xs. refl) ts (subst (λ (xs : List Token). ends xs ≡ true) (sym e) d))) ∙ e

tails_seen : (v w : Way) → Seen v w → (n : ℕ) (ts us : List Token) → Tails v n ts us → ends us ≡ true → repeated n (over_tail w) ts ≡ us
tails_seen v w s zero ts us h d = h
tails_seen v w s (suc n) ts us (inl e) d = no_more_tails w (suc n) ts us e d
tails_seen v w s (suc n) ts us (inr p) d = repeated_step n (over_tail w) ts p.0 us (tail_seen v w s ts p.0 p.1.0) (tails_seen v w s n p.0 us p.1.1 d)

first_seen : (v w : Way) → Seen v w → Agree (over_parameter w) w → (ts us : List Token) (o : Option (List Token)) → ((xs : List Token) → o ≡ Some xs → over_tail v ts ≡ Some xs) → way_or o (over_plain v ts) ≡ Some us → goes_on us ≡ true →
    way_or (over_tail w ts) (over_plain w ts) ≡ Some us
first_seen v w s a ts us None tail e g = rw (no_tail v w s a ts us e g) (plain_seen v w s ts us e g)
first_seen v w s a ts us (Some xs) tail e g = rw (tail_seen v w s ts us (tail us e)) refl

-- a type that begins with some way's tail, or else plainly, and goes on with that way's tails
pub type_seen : (v : Way) (m : ℕ) → Seen v (over_type m) → Agree (over_parameter (over_type m)) (over_type m) → (ts xs us : List Token) (o : Option (List Token)) → ((ys : List Token) → o ≡ Some ys → over_tail v ts ≡ Some ys) → way_or o (over_plain v ts) ≡ Some xs →
    Tails v (length xs) xs us → ends us ≡ true → over_type (suc m) ts ≡ Some us
unfolding over_type
type_seen v m s a ts xs us o tail e h d =
    joined (way_or (over_tail (over_type m) ts) (over_plain (over_type m) ts)) (some_more (over_tail (over_type m))) xs us (first_seen v (over_type m) s a ts xs o tail e (tails_go_on v (length xs) xs us h d))
    (ap (λ (ys : List Token). Some ys) (tails_seen v (over_type m) s (length xs) xs us h d))

-- a name alone is a type
name_alone : (m : ℕ) (t : Token) (ns : List Token) → is_type_name t ≡ true → settles ns ≡ true → over_type (suc m) (t ∷ ns) ≡ Some ns
unfolding over_type
name_alone m t ns e d =
    let w = over_type m in
    let no_angles : over_angles w ns ≡ None = angles_miss w ns (far settles (heads kind.Less) refl (λ t xs. refl) ns d) in
    let no_bounds : over_angles (over_parameter w) ns ≡ None = angles_miss (over_parameter w) ns (far settles (heads kind.Less) refl (λ t xs. refl) ns d) in
    let no_brackets : over_group ns ≡ None = group_misses ns (far settles (heads kind.OpenParenthesis) refl (λ t xs. refl) ns d) in
    let no_mark : over (is kind.Question) ns ≡ None = over_misses (is kind.Question) ns (far settles (heads kind.Question) refl (λ t xs. refl) ns d) in
    let no_void : is kind.Void t ≡ false = far (next is_type_name) (heads kind.Void) refl (λ t xs. refl) (t ∷ ns) e in
    let no_period = far settles (first_then (is kind.Period) (next is_type_name)) refl (λ t xs. refl) ns d in
    let no_first : over_tail w (t ∷ ns) ≡ None = either_word (is kind.Function t) ns (perhaps (over_angles (over_parameter w)) ⨾ over_group ⨾ perhaps (over (is kind.Question))) (rw no_bounds (rw no_brackets refl)) in
    let no_further : repeated (length ns) (over_tail w) ns ≡ ns = repeated_stops (length ns) (over_tail w) ns (tail_misses w ns (far settles (heads kind.Function) refl (λ t xs. refl) ns d)) in
    let name : over_name (t ∷ ns) ≡ Some ns = simple_name t ns no_period ∙ over_here (is_type_name t) ns e in
    let plain : over_plain w (t ∷ ns) ≡ Some ns = unless (is kind.Void t) (over (is kind.Void) (t ∷ ns)) (named w (t ∷ ns)) no_void ∙ joined (over_name (t ∷ ns)) (perhaps (over_angles w) ⨾ perhaps (over (is kind.Question))) ns ns name (rw no_angles (rw no_mark refl)) in
    joined (way_or (over_tail w (t ∷ ns)) (over_plain w (t ∷ ns))) (some_more (over_tail w)) ns ns (rw no_first plain) (ap (λ (ys : List Token). Some ys) no_further) where
      either_word : (b : Bool) (xs : List Token) (rest : Way) → rest xs ≡ None → onward (if b then Some xs else None) rest ≡ None
      either_word true xs rest e = e
      either_word false xs rest e = refl

      over_here : (b : Bool) (xs : List Token) → b ≡ true → (if b then Some xs else None) ≡ Some xs
      over_here b xs e = rw e refl

bound_settles : (w : Way) (ns us : List Token) → behind_or ((over (is kind.Extends) ⨾ w) ns) ns ≡ us → ends us ≡ true → settles ns ≡ true
bound_settles w ns us e d =
    elim (there_or_not ((over (is kind.Extends) ⨾ w) ns) ns us e) [
      | inl p ↦ let q = through (over (is kind.Extends) ns) w us p in within (heads kind.Extends) settles refl (λ t xs. refl) ns (over_found (is kind.Extends) ns q.0 q.1.0)
      | inr p ↦ within ends settles refl (λ t xs. refl) ns (subst (λ (xs : List Token). ends xs ≡ true) (sym p.1) d)
    ]

no_bound : (w : Way) (ns us : List Token) → behind_or ((over (is kind.Extends) ⨾ w) ns) ns ≡ us → ends ns ≡ true → ns ≡ us
no_bound w ns us e d =
    sym (ap (λ (o : Option (List Token)). behind_or o ns) (stopped (over (is kind.Extends) ns) w (over_misses (is kind.Extends) ns (far ends (heads kind.Extends) refl (λ t xs. refl) ns d)))) ∙ e

parameter_agrees : (m : ℕ) (ts us vs : List Token) → over_parameter (over_type m) ts ≡ Some us → ends us ≡ true → over_type m ts ≡ Some vs → ends vs ≡ true → us ≡ vs
unfolding over_type
parameter_agrees zero ts us vs e d h g = absurd (cc)
parameter_agrees (suc m) [] us vs e d h g = absurd (cc)
parameter_agrees (suc m) (t ∷ ts) us vs e d h g =
    let p = through (over is_type_name (t ∷ ts)) (perhaps (over (is kind.Extends) ⨾ over_type (suc m))) us e in
    let name : is_type_name t ≡ true = over_found is_type_name (t ∷ ts) p.0 p.1.0 in
    let rest : Some ts ≡ Some p.0 = if_passed (is_type_name t) (Some ts) p.0 p.1.0 in
    let at : p.0 ≡ ts = cc in
    let bound : behind_or ((over (is kind.Extends) ⨾ over_type (suc m)) ts) ts ≡ us = subst (λ (ns : List Token). behind_or ((over (is kind.Extends) ⨾ over_type (suc m)) ns) ns ≡ us) at (cc (p.1.1)) in
    let alone : over_type (suc m) (t ∷ ts) ≡ Some ts = name_alone m t ts name (bound_settles (over_type (suc m)) ts us bound d) in
    let same : ts ≡ vs = cc (alone, h) in
    sym (no_bound (over_type (suc m)) ts us bound (subst (λ (xs : List Token). ends xs ≡ true) (sym same) g)) ∙ same

pub parameters_agree : (m : ℕ) → Agree (over_parameter (over_type m)) (over_type m)
parameters_agree m = record { same = parameter_agrees m }

more_at : (n m : ℕ) → n ≤ m → (ts us : List Token) → over_type n ts ≡ Some us → ends us ≡ true → over_type m ts ≡ Some us
unfolding over_type
more_at zero m h ts us e d = absurd (cc)
more_at (suc n) zero h ts us e d = absurd (omega arith)
more_at (suc n) (suc m) h ts us e d =
    let p = through (way_or (over_tail (over_type n) ts) (over_plain (over_type n) ts)) (some_more (over_tail (over_type n))) us e in
    type_seen (over_type n) m (record { goes = more_at n m (omega (arith, h)) }) (parameters_agree m) ts p.0 us (over_tail (over_type n) ts) (λ ys f. f) p.1.0 (tails_repeated (over_type n) (length p.0) p.0 us (cc (p.1.1))) d

-- where more types may stand in one another no less is seen
pub more_seen : (n m : ℕ) → n ≤ m → Seen (over_type n) (over_type m)
more_seen n m h = record { goes = more_at n m h }
