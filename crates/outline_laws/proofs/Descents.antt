-- What the parser's way down reads of types is what ways go over.
use Rattle.std.proofs.Common.{◌≡◌, ℕ, zero, suc, ◌≤◌, Bool, true, false, List, [], ◌∷◌, Option, Some, None, option_map, length, take, drop, ◌⊎◌, inl, inr, if◌then◌else◌, refl, ap, subst, sym, ◌∙◌, arith}
use Rattle.readings.specs.Readings.{Reading, Test, tokens_read, made, behind, listed}
use Rattle.readings.specs.Descent.{Descent, bind, or_else, take_token, ◌▸◌, take_make, take_turn, take_maybe, take_at_most, take_many, take_onto, complete, take_where, take_inside, take_elements}
use Rattle.dart_tokens.specs.declared.token.Kind.TheVariants as kind
use Rattle.dart_tree.specs.Tree.{Tree}
use Rattle.dart_tree.specs.Heights.{fits}
use Rattle.dart_tokens.specs.declared.grouped_token.GroupedToken.{GroupedToken as Token}
use Rattle.grammar.specs.Tokens.{is, is_name, is_type_name, heads, anything, width, past}
use Rattle.grammar.specs.Types.{separated, type_arguments_of, type_parameter_of, type_parameters_of, void_of, heads_qualified, qualified_of, unqualified_of, named_type_of, Tail, tail_of, first_tail_of, next_tail_of, every_time}
use Rattle.grammar.specs.Outline.{Way, onward, ◌⨾◌, way_or, behind_or, perhaps, go_on, repeated, some_more, over, over_group, over_name, over_angles, over_parameter, over_tail, over_plain, over_type, behind_arguments}
use Rattle.grammar.specs.Descents.{Lower, take_separated, take_type_arguments, take_type_parameter, take_type_parameters, take_type_name, take_question, take_plain_type, take_optional_parameters, take_parameter_type, take_tail, take_tail_before, take_type, lower}
use Rattle.outline_laws.proofs.Ways.{ends, joined}
use Rattle.outline_laws.proofs.Outlines.{Seen, Tails, angles_seen, type_seen, parameters_agree, more_seen}

-- the tokens that a reading leaves
abbrev left_of : {A : Type 0} → Option (Reading Token A) → Option (List Token)
left_of None = None
left_of (Some x) = Some x.1

-- the way over what is read
abbrev way_of : {A : Type 0} → Descent Token A → Way
way_of g ts = left_of (g ts)

-- the way over what is read, wherever it begins
record Follows {A : Type 0} (g : Descent Token A) (w : Way) : Type 0 where
  each : (ts : List Token) → left_of (g ts) ≡ w ts

-- what is read lies on a way
record Keeps {A : Type 0} (g : Descent Token A) (w : Way) : Type 0 where
  each : (ts : List Token) (x : Reading Token A) → g ts ≡ Some x → w ts ≡ Some x.1

left_some : {A : Type 0} (o : Option (Reading Token A)) (x : Reading Token A) → o ≡ Some x → left_of o ≡ Some x.1
left_some o x e = rw e refl

follows_keeps : {A : Type 0} {g : Descent Token A} {w : Way} → Follows g w → Keeps g w
follows_keeps {g = g} a = record { each = λ ts x e. sym (a.each ts) ∙ left_some (g ts) x e }

-- Combinators.

follows_token : (f : Token → Bool) → Follows (take_token f) (over f)
follows_token f = record { each = at } where
  by_test : (b : Bool) (t : Token) (ts : List Token) → left_of {A = Token} (if b then Some (t, ts) else None) ≡ (if b then Some ts else None)
  by_test true t ts = refl
  by_test false t ts = refl

  at : (ts : List Token) → left_of (take_token f ts) ≡ over f ts
  at [] = refl
  at (t ∷ ts) = by_test (f t) t ts

left_behind : {A B : Type 0} (a : A) (o : Option (Reading Token B)) → left_of (bind o (λ y. Some (behind a y))) ≡ left_of o
left_behind a None = refl
left_behind a (Some y) = refl

follows_seq : {A B : Type 0} {g : Descent Token A} {h : Descent Token B} {v w : Way} → Follows g v → Follows h w → Follows (g ▸ h) (v ⨾ w)
follows_seq {A = A} {g = g} {h = h} {v = v} {w = w} a b = record { each = λ ts. from (g ts) (v ts) (a.each ts) } where
  from : (o : Option (Reading Token A)) (p : Option (List Token)) → left_of o ≡ p → left_of (bind o (λ x. bind (h x.1) (λ y. Some (behind x.0 y)))) ≡ onward p w
  from None p e = ap (λ (q : Option (List Token)). onward q w) e
  from (Some x) p e = left_behind x.0 (h x.1) ∙ (b.each x.1 ∙ ap (λ (q : Option (List Token)). onward q w) e)

left_made : {A B : Type 0} (f : List Token → A → B) (ts : List Token) (o : Option (Reading Token A)) → left_of (bind o (λ x. Some (made f ts x))) ≡ left_of o
left_made f ts None = refl
left_made f ts (Some x) = refl

follows_make : {A B : Type 0} {g : Descent Token A} {v : Way} (f : List Token → A → B) → Follows g v → Follows (take_make f g) v
follows_make {g = g} f a = record { each = λ ts. left_made f ts (g ts) ∙ a.each ts }

follows_turn : {A B : Type 0} {g : Descent Token A} {v : Way} (f : A → B) → Follows g v → Follows (take_turn f g) v
follows_turn f a = follows_make (λ read x. f x) a

left_or_none : {A B : Type 0} (f : List Token → A → B) (b : B) (ts : List Token) (o : Option (Reading Token A)) → left_of (or_else (bind o (λ x. Some (made f ts x))) (Some (b, ts))) ≡ Some (behind_or (left_of o) ts)
left_or_none f b ts None = refl
left_or_none f b ts (Some x) = refl

follows_maybe : {A : Type 0} {g : Descent Token A} {v : Way} → Follows g v → Follows (take_maybe g) (perhaps v)
follows_maybe {g = g} a = record { each = λ ts. left_or_none (λ read x. Some x) None ts (g ts) ∙ ap (λ (o : Option (List Token)). Some (behind_or o ts)) (a.each ts) }

follows_many : {A : Type 0} {g : Descent Token A} {v : Way} → Follows g v → Follows (take_many g) (some_more v)
follows_many {A = A} {g = g} {v = v} a = record { each = λ ts. at (length ts) ts } where
  again : (n : ℕ) (ts us : List Token) (x : A) (o : Option (Reading Token (List A))) → left_of o ≡ Some (repeated n v us) → left_of (or_else (bind (bind o (λ y. Some (behind x y))) (λ y. Some (made (λ read (xs : A × List A). listed xs) ts y))) (Some ([], ts))) ≡ Some (repeated n v us)
  again n ts us x None e = absurd (cc)
  again n ts us x (Some y) e = e

  once : (n : ℕ) → ((us : List Token) → left_of (take_at_most n g us) ≡ Some (repeated n v us)) → (ts : List Token) (o : Option (Reading Token A)) (p : Option (List Token)) → left_of o ≡ p →
      left_of (or_else (bind (bind o (λ x. bind (take_at_most n g x.1) (λ y. Some (behind x.0 y)))) (λ y. Some (made (λ read (xs : A × List A). listed xs) ts y))) (Some ([], ts))) ≡ Some (go_on (repeated n v) p ts)
  once n more ts None None e = refl
  once n more ts None (Some us) e = absurd (cc)
  once n more ts (Some x) None e = absurd (cc)
  once n more ts (Some x) (Some us) e = let same : x.1 ≡ us = cc in subst (λ (vs : List Token). left_of (or_else (bind (bind (take_at_most n g x.1) (λ y. Some (behind x.0 y))) (λ y. Some (made (λ read (xs : A × List A). listed xs) ts y))) (Some ([], ts))) ≡ Some (repeated n v vs)) same (again n ts x.1 x.0 (take_at_most n g x.1) (more x.1))

  at : (n : ℕ) (ts : List Token) → left_of (take_at_most n g ts) ≡ Some (repeated n v ts)
  at zero ts = refl
  at (suc n) ts = once n (at n) ts (g ts) (v ts) (a.each ts)

follows_where : {A : Type 0} {g h : Descent Token A} {v w : Way} (c : Test Token) → Follows g v → Follows h w → Follows (take_where c g h) (λ ts. if c ts then v ts else w ts)
follows_where {g = g} {h = h} {v = v} {w = w} c a b = record { each = λ ts. by_test (c ts) ts } where
  by_test : (t : Bool) (ts : List Token) → left_of (if t then g ts else h ts) ≡ (if t then v ts else w ts)
  by_test true ts = a.each ts
  by_test false ts = b.each ts

onward_onward : (o : Option (List Token)) (v w : Way) → onward (onward o v) w ≡ onward o (v ⨾ w)
onward_onward None v w = refl
onward_onward (Some ts) v w = refl

-- the same ways, bracketed to the right
follows_inner : {A : Type 0} {g : Descent Token A} (t u v w : Way) → Follows g (t ⨾ (u ⨾ v) ⨾ w) → Follows g (t ⨾ u ⨾ v ⨾ w)
follows_inner t u v w a = record { each = λ ts. a.each ts ∙ inner_at (t ts) } where
  inner_at : (o : Option (List Token)) → onward o ((u ⨾ v) ⨾ w) ≡ onward o (u ⨾ v ⨾ w)
  inner_at None = refl
  inner_at (Some ts) = onward_onward (u ts) v w

-- Types.

follows_angles : {A : Type 0} {g : Descent Token A} {v : Way} → Follows g v → Follows (take_token (is kind.Less) ▸ take_separated g ▸ take_token (is kind.Greater)) (over_angles v)
follows_angles {v = v} a =
    follows_inner (over (is kind.Less)) v (some_more (over (is kind.Comma) ⨾ v)) (over (is kind.Greater))
    (follows_seq (follows_token (is kind.Less)) (follows_seq (follows_turn separated (follows_seq a (follows_many (follows_seq (follows_token (is kind.Comma)) a)))) (follows_token (is kind.Greater))))

written_follows : (l : Lower) → Follows l.written (way_of l.written)
written_follows l = record { each = λ ts. refl }

type_arguments_follow : (l : Lower) → Follows (take_type_arguments l) (over_angles (way_of l.written))
unfolding take_type_arguments
type_arguments_follow l = follows_make type_arguments_of (follows_angles (written_follows l))

type_parameter_follows : (l : Lower) → Follows (take_type_parameter l) (over_parameter (way_of l.written))
unfolding take_type_parameter
type_parameter_follows l = follows_make type_parameter_of (follows_seq (follows_token is_type_name) (follows_maybe (follows_seq (follows_token (is kind.Extends)) (written_follows l))))

type_parameters_follow : (l : Lower) → Follows (take_type_parameters l) (over_angles (over_parameter (way_of l.written)))
unfolding take_type_parameters
type_parameters_follow l = follows_turn type_parameters_of (follows_angles (type_parameter_follows l))

type_name_follows : Follows take_type_name over_name
unfolding take_type_name
type_name_follows =
    follows_where heads_qualified (follows_turn qualified_of (follows_seq (follows_token is_name) (follows_seq (follows_token (is kind.Period)) (follows_token is_type_name))))
    (follows_turn unqualified_of (follows_token is_type_name))

question_follows : Follows (take_question (heads kind.Question)) (perhaps (over (is kind.Question)))
unfolding take_question
question_follows = record { each = at } where
  by_test : (b : Bool) (t : Token) (ts : List Token) →
      left_of (if b then bind (if b then Some (t, ts) else None) (λ x. Some (made (λ read (t : Token). Some t) (t ∷ ts) x)) else Some (None, t ∷ ts)) ≡ Some (behind_or (if b then Some ts else None) (t ∷ ts))
  by_test true t ts = refl
  by_test false t ts = refl

  at : (ts : List Token) → left_of (take_question (heads kind.Question) ts) ≡ perhaps (over (is kind.Question)) ts
  at [] = refl
  at (t ∷ ts) = by_test (is kind.Question t) t ts

plain_type_follows : (l : Lower) → Follows (take_plain_type l (heads kind.Question)) (over_plain (way_of l.written))
unfolding take_plain_type
plain_type_follows l =
    follows_where (heads kind.Void) (follows_turn void_of (follows_token (is kind.Void)))
    (follows_make named_type_of (follows_seq type_name_follows (follows_seq (follows_maybe (type_arguments_follow l)) question_follows)))

-- Tails: groups are passed whole, and what stands in them is read besides.

left_bound : {A B : Type 0} (o : Option (Reading Token A)) (f : Reading Token A → Option (Reading Token B)) (y : Reading Token B) → bind o f ≡ Some y → (x : Reading Token A) × ((o ≡ Some x) × (f x ≡ Some y))
left_bound None f y e = absurd (cc)
left_bound (Some x) f y e = (x, (refl, e))

keeps_seq : {A B : Type 0} {g : Descent Token A} {h : Descent Token B} {v w : Way} → Keeps g v → Keeps h w → Keeps (g ▸ h) (v ⨾ w)
keeps_seq {A = A} {B = B} {g = g} {h = h} {v = v} {w = w} a b = record {
  each = λ ts z e.
      let p = left_bound (g ts) (λ x. bind (h x.1) (λ y. Some (behind x.0 y))) z e in
      let q = left_bound (h p.0.1) (λ y. Some (behind p.0.0 y)) z p.1.1 in
      let same : q.0.1 ≡ z.1 = left_same p.0.0 q.0 z q.1.1 in
      joined (v ts) w p.0.1 z.1 (a.each ts p.0 p.1.0) (b.each p.0.1 q.0 q.1.0 ∙ ap (λ (xs : List Token). Some xs) same);
} where
  left_same : (x : A) (y : Reading Token B) (z : Reading Token (A × B)) → Some (behind x y) ≡ Some z → y.1 ≡ z.1
  left_same x y z e = let d : behind x y ≡ z = cc in ap (λ (r : Reading Token (A × B)). r.1) d

keeps_make : {A B : Type 0} {g : Descent Token A} {v : Way} (f : List Token → A → B) → Keeps g v → Keeps (take_make f g) v
keeps_make {A = A} {B = B} {g = g} {v = v} f a = record {
  each = λ ts z e.
      let p = left_bound (g ts) (λ x. Some (made f ts x)) z e in
      a.each ts p.0 p.1.0 ∙ ap (λ (xs : List Token). Some xs) (left_same ts p.0 z p.1.1);
} where
  left_same : (ts : List Token) (x : Reading Token A) (z : Reading Token B) → Some (made f ts x) ≡ Some z → x.1 ≡ z.1
  left_same ts x z e = let d : made f ts x ≡ z = cc in ap (λ (r : Reading Token B). r.1) d

keeps_group : {A : Type 0} (g : Descent Token A) → Keeps (take_inside (is kind.OpenParenthesis) width past g) over_group
keeps_group {A = A} g = record { each = at } where
  mapped : (t : Token) (xs : List Token) (o : Option A) (x : Reading Token (Token × A)) → option_map (λ a. ((t, a), xs)) o ≡ Some x → xs ≡ x.1
  mapped t xs None x e = absurd (cc)
  mapped t xs (Some a) x e = let d : ((t, a), xs) ≡ x = cc in ap (λ (r : Reading Token (Token × A)). r.1) d

  by_test : (b : Bool) (t : Token) (xs : List Token) (o : Option A) (x : Reading Token (Token × A)) → (if b then option_map (λ a. ((t, a), xs)) o else None) ≡ Some x → (if b then Some xs else None) ≡ Some x.1
  by_test true t xs o x e = ap (λ (ys : List Token). Some ys) (mapped t xs o x e)
  by_test false t xs o x e = absurd (cc)

  at : (ts : List Token) (x : Reading Token (Token × A)) → take_inside (is kind.OpenParenthesis) width past g ts ≡ Some x → over_group ts ≡ Some x.1
  at [] x e = absurd (cc)
  at (t ∷ ts) x e = by_test (is kind.OpenParenthesis t) t (drop (past t) ts) (complete (g (take (width t) ts))) x e

tail_keeps : (l : Lower) → Keeps (take_tail l (heads kind.Question)) (over_tail (way_of l.written))
unfolding take_tail
tail_keeps l =
    keeps_make (λ read x. tail_of x)
    (keeps_seq (follows_keeps (follows_token (is kind.Function)))
    (keeps_seq (follows_keeps (follows_maybe (type_parameters_follow l))) (keeps_seq (keeps_group (take_elements (take_parameter_type l) (take_token (is kind.Comma)) ▸ take_maybe (take_optional_parameters l))) (follows_keeps question_follows))))

tail_before_keeps : (l : Lower) → Keeps (take_tail_before l (heads kind.Question) anything) (over_tail (way_of l.written))
unfolding take_tail_before
tail_before_keeps l = record {
  each = λ ts x e.
      let p = left_bound (take_tail l (heads kind.Question) ts) (λ y. Some y) x e in
      (tail_keeps l).each ts x (p.1.0 ∙ p.1.1);
}

-- Types.

module _ {A B : Type 0} (h : Descent Token B) (v : Way) (keeps : Keeps h (over_tail v)) (start : List Token) (room : A → Bool) (join : List Token → A → B → A) where
  same_left : (left : A) (ts : List Token) (x : Reading Token A) → Some (left, ts) ≡ Some x → ts ≡ x.1
  same_left left ts x e = let d : (left, ts) ≡ x = cc in ap (λ (r : Reading Token A). r.1) d

  or_stays : (left : A) (ts : List Token) (x : Reading Token A) (o : Option (Reading Token A)) → or_else o (Some (left, ts)) ≡ Some x → (o ≡ Some x) ⊎ (ts ≡ x.1)
  or_stays left ts x None e = inr (same_left left ts x e)
  or_stays left ts x (Some z) e = inl e

  tail_taken : (n : ℕ) → ((left : A) (ts : List Token) (x : Reading Token A) → take_onto start n room join h left ts ≡ Some x → Tails v n ts x.1) → (left : A) (ts : List Token) (x : Reading Token A) (b : Bool) →
      (if b then or_else (bind (h ts) (λ y. take_onto start n room join h (join (tokens_read start y.1) left y.0) y.1)) (Some (left, ts)) else Some (left, ts)) ≡ Some x → Tails v (suc n) ts x.1
  tail_taken n more left ts x false e = inl (same_left left ts x e)
  tail_taken n more left ts x true e =
      elim (or_stays left ts x (bind (h ts) (λ y. take_onto start n room join h (join (tokens_read start y.1) left y.0) y.1)) e) [
        | inl p ↦
            let q = left_bound (h ts) (λ y. take_onto start n room join h (join (tokens_read start y.1) left y.0) y.1) x p in
            inr (q.0.1, (keeps.each ts q.0 q.1.0, more (join (tokens_read start q.0.1) left q.0.0) q.0.1 x q.1.1))
        | inr p ↦ inl p
      ]

  tails_taken : (n : ℕ) (left : A) (ts : List Token) (x : Reading Token A) → take_onto start n room join h left ts ≡ Some x → Tails v n ts x.1
  tails_taken zero left ts x e = same_left left ts x e
  tails_taken (suc n) left ts x e = tail_taken n (tails_taken n) left ts x (room left) e

left_or : {A : Type 0} (o p : Option (Reading Token A)) (x : Reading Token A) → or_else o p ≡ Some x → way_or (left_of o) (left_of p) ≡ Some x.1
left_or None p x e = left_some p x e
left_or (Some z) p x e = left_some (Some z) x e

left_found : {A : Type 0} (o : Option (Reading Token A)) (ys : List Token) → left_of o ≡ Some ys → (x : Reading Token A) × ((o ≡ Some x) × (x.1 ≡ ys))
left_found None ys e = absurd (cc)
left_found (Some x) ys e = (x, (refl, cc))

-- a type that is read is one that the outline goes over, where types in it are seen
type_taken : (n m : ℕ) (l : Lower) → Seen (way_of l.written) (over_type m) → (ts : List Token) (x : Reading Token Tree) → take_type n l (heads kind.Question) anything ts ≡ Some x → ends x.1 ≡ true → over_type (suc m) ts ≡ Some x.1
unfolding take_type
type_taken n m l s ts x e d =
    let v : Way = way_of l.written in
    let tail : Descent Token Tail = take_tail_before l (heads kind.Question) anything in
    let first : Option (Reading Token Tree) = take_make first_tail_of tail ts in
    let p = left_bound (or_else first (take_plain_type l (heads kind.Question) ts)) (λ y. take_onto ts (every_time y.0 y.1) (fits n) next_tail_of tail y.0 y.1) x e in
    let begun : way_or (left_of first) (over_plain v ts) ≡ Some p.0.1 = subst (λ (o : Option (List Token)). way_or (left_of first) o ≡ Some p.0.1) ((plain_type_follows l).each ts) (left_or first (take_plain_type l (heads kind.Question) ts) p.0 p.1.0) in
    type_seen v m s (parameters_agree m) ts p.0.1 x.1 (left_of first) (λ ys f. let q = left_found first ys f in (keeps_make first_tail_of (tail_before_keeps l)).each ts q.0 q.1.0 ∙ ap (λ (xs : List Token). Some xs) q.1.1) begun (tails_taken tail v (tail_before_keeps l) ts (fits n) next_tail_of (length p.0.1) p.0.0 p.0.1 x p.1.1) d

written_at : (n m : ℕ) → n ≤ m → (ts us : List Token) → way_of (lower n).written ts ≡ Some us → ends us ≡ true → over_type m ts ≡ Some us
unfolding lower
written_at zero m h ts us e d = absurd (cc)
written_at (suc n) zero h ts us e d = absurd (omega arith)
written_at (suc n) (suc m) h ts us e d =
    let q = left_found (take_type n (lower n) (heads kind.Question) anything ts) us e in
    type_taken n m (lower n) (record { goes = written_at n m (omega (arith, h)) }) ts q.0 q.1.0 (subst (λ (xs : List Token). ends xs ≡ true) (sym q.1.1) d) ∙ ap (λ (xs : List Token). Some xs) q.1.1

written_seen : (n m : ℕ) → n ≤ m → Seen (way_of (lower n).written) (over_type m)
written_seen n m h = record { goes = written_at n m h }

-- Type arguments.

pub arguments_seen : (room most : ℕ) (ts : List Token) (x : Reading Token Tree) → room ≤ most → take_type_arguments (lower room) ts ≡ Some x → over_angles (over_type most) ts ≡ Some x.1
arguments_seen room most ts x h e =
    angles_seen (way_of (lower room).written) (over_type most) (written_seen room most h) ts x.1 (sym ((type_arguments_follow (lower room)).each ts) ∙ left_some (take_type_arguments (lower room) ts) x e)

pub more_arguments_seen : (few most : ℕ) (ts us : List Token) → few ≤ most → over_angles (over_type few) ts ≡ Some us → over_angles (over_type most) ts ≡ Some us
more_arguments_seen few most ts us h e = angles_seen (over_type few) (over_type most) (more_seen few most h) ts us e

pub arguments_behind : (room : ℕ) (ts : List Token) (x : Reading Token Tree) → room ≤ 200 → take_type_arguments (lower room) ts ≡ Some x → behind_arguments ts ≡ Some x.1
unfolding behind_arguments
arguments_behind room ts x h e = arguments_seen room 200 ts x h e

none_read : (o : Option (Reading Token Tree)) (p : Option (List Token)) → ((x : Reading Token Tree) → o ≡ Some x → p ≡ Some x.1) → p ≡ None → o ≡ None
none_read None p seen e = refl
none_read (Some x) p seen e = let d = seen x refl in absurd (cc)

pub no_arguments_behind : (room : ℕ) (ts : List Token) → room ≤ 200 → behind_arguments ts ≡ None → take_type_arguments (lower room) ts ≡ None
no_arguments_behind room ts h e = none_read (take_type_arguments (lower room) ts) (behind_arguments ts) (λ x d. arguments_behind room ts x h d) e
