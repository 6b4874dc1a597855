-- What a descent finds in two texts that agree: the same, with ranges aside.
use Rattle.std.proofs.Common.{◌≡◌, ℕ, zero, suc, Bool, true, false, List, [], ◌∷◌, Option, Some, None, option_map, length, take, drop, if◌then◌else◌, refl, ap, subst}
use Rattle.readings.specs.Readings.{Reading, Test, tokens_read, made, behind, listed, first_behind, whole_or, item_or_error}
use Rattle.readings.specs.Descent.{Descent, bind, or_else, take_token, take_given, ◌▸◌, ◌⊘◌, take_make, take_turn, take_maybe, take_at_most, take_many, take_onto, take_chain, complete, take_where, take_before, take_only, take_within, take_inside, take_once, take_levels, take_at_most_elements, take_elements, take_items_at, all_items, take_items}
use Rattle.dart_tree.specs.Tree.{Trees}
use Rattle.dart_tree.specs.Bare.{all_bare_with}
use Rattle.dart_tree.specs.declared.places.Place.{Place}
use Rattle.dart_tokens.specs.declared.grouped_token.GroupedToken.{GroupedToken as Token}
use Rattle.grammar.specs.Tokens.{is, width, past, place_over}
use Rattle.range_laws.specs.Agreeing.{Twins, adjoins_next, Agree, AdjoinAlike}
use Rattle.dart_tokens.specs.declared.token.Kind.TheVariants as kind

-- how the lists of statements of two texts are read
pub record Readers : Type 0 where
  pub one : ℕ → Place → Trees
  pub other : ℕ → Place → Trees

-- what stands at two places is read the same, with ranges aside
abbrev pub SameAt : Readers → Place → Place → Type 0
SameAt r at other = (n : ℕ) → all_bare_with (λ word. word) (r.one n at) ≡ all_bare_with (λ word. word) (r.other n other)

-- two lists have the same tokens, and what of adjacency tells operators apart is the same
abbrev pub Matched : List Token → List Token → Type 0
Matched [] [] = Unit {0}
Matched [] (u ∷ us) = ⊥
Matched (t ∷ ts) [] = ⊥
Matched (t ∷ ts) (u ∷ us) = Twins t u × ((is kind.Greater t ≡ true → adjoins_next t ts ≡ adjoins_next u us) × Matched ts us)

pub matched : (ts us : List Token) → Agree ts us → AdjoinAlike ts us → Matched ts us
matched [] [] a b = tt
matched [] (u ∷ us) a b = absurd a
matched (t ∷ ts) [] a b = absurd a
matched (t ∷ ts) (u ∷ us) a b = (a.0, (b.0, matched ts us a.1 b.1))

-- two lists of tokens match, and what stands at the place of a part of the one is read as at that of the other
pub record Alike (r : Readers) (ts us : List Token) : Type 0 where
  pub agree : Matched ts us
  pub parts : (skipped taken : ℕ) → SameAt r (place_over (take taken (drop skipped ts))) (place_over (take taken (drop skipped us)))

-- Parts of lists that agree.

pub agree_length : (ts us : List Token) → Matched ts us → length ts ≡ length us
agree_length [] [] a = refl
agree_length [] (u ∷ us) a = absurd a
agree_length (t ∷ ts) [] a = absurd a
agree_length (t ∷ ts) (u ∷ us) a = ap (λ n. suc n) (agree_length ts us a.1.1)

first_adjoins : (n : ℕ) (t u : Token) (ts us : List Token) → Matched ts us → adjoins_next t ts ≡ adjoins_next u us → adjoins_next t (take n ts) ≡ adjoins_next u (take n us)
first_adjoins zero t u ts us a e = refl
first_adjoins (suc n) t u [] [] a e = refl
first_adjoins (suc n) t u [] (v ∷ us) a e = absurd a
first_adjoins (suc n) t u (s ∷ ts) [] a e = absurd a
first_adjoins (suc n) t u (s ∷ ts) (v ∷ us) a e = e

pub agree_take : (n : ℕ) (ts us : List Token) → Matched ts us → Matched (take n ts) (take n us)
agree_take zero ts us a = tt
agree_take (suc n) [] [] a = tt
agree_take (suc n) [] (u ∷ us) a = absurd a
agree_take (suc n) (t ∷ ts) [] a = absurd a
agree_take (suc n) (t ∷ ts) (u ∷ us) a = (a.0, ((λ greater. first_adjoins n t u ts us a.1.1 (a.1.0 greater)), agree_take n ts us a.1.1))

pub agree_drop : (n : ℕ) (ts us : List Token) → Matched ts us → Matched (drop n ts) (drop n us)
agree_drop zero ts us a = a
agree_drop (suc n) [] [] a = tt
agree_drop (suc n) [] (u ∷ us) a = absurd a
agree_drop (suc n) (t ∷ ts) [] a = absurd a
agree_drop (suc n) (t ∷ ts) (u ∷ us) a = agree_drop n ts us a.1.1

take_none : (k : ℕ) → let none : List Token = [] in take k none ≡ none
take_none zero = refl
take_none (suc k) = refl

drop_none : (k : ℕ) → let none : List Token = [] in drop k none ≡ none
drop_none zero = refl
drop_none (suc k) = refl

pub alike_behind : (r : Readers) (t u : Token) (ts us : List Token) → Alike r (t ∷ ts) (u ∷ us) → Alike r ts us
alike_behind r t u ts us a = record { agree = a.agree.1.1; parts = λ m k. a.parts (suc m) k }

pub alike_drop : (r : Readers) (n : ℕ) (ts us : List Token) → Alike r ts us → Alike r (drop n ts) (drop n us)
alike_drop r zero ts us a = a
alike_drop r (suc n) [] [] a = a
alike_drop r (suc n) [] (u ∷ us) a = absurd a.agree
alike_drop r (suc n) (t ∷ ts) [] a = absurd a.agree
alike_drop r (suc n) (t ∷ ts) (u ∷ us) a = alike_drop r n ts us (alike_behind r t u ts us a)

-- a part of the first tokens: how many of them it has
abbrev kept : (n m k : ℕ) → ℕ
kept zero m k = 0
kept (suc n) zero zero = 0
kept (suc n) zero (suc k) = suc (kept n zero k)
kept (suc n) (suc m) k = kept n m k

part_of_first : (n m k : ℕ) (ts : List Token) → take k (drop m (take n ts)) ≡ take (kept n m k) (drop m ts)
part_of_first zero m k ts = rw (drop_none m, take_none k) refl
part_of_first (suc n) zero zero ts = refl
part_of_first (suc n) zero (suc k) [] = refl
part_of_first (suc n) zero (suc k) (t ∷ ts) = ap (λ (us : List Token). t ∷ us) (part_of_first n zero k ts)
part_of_first (suc n) (suc m) k [] = rw (take_none k, take_none (kept n m k)) refl
part_of_first (suc n) (suc m) k (t ∷ ts) = part_of_first n m k ts

pub alike_take : (r : Readers) (n : ℕ) (ts us : List Token) → Alike r ts us → Alike r (take n ts) (take n us)
alike_take r n ts us a = record {
  agree = agree_take n ts us a.agree;
  parts = λ m k. rw (part_of_first n m k ts, part_of_first n m k us) (a.parts m (kept n m k));
}

-- Values.

abbrev pub Both : {A B : Type 0} → (A → B → Type 0) → Option A → Option B → Type 0
Both R None None = Unit {0}
Both R None (Some b) = ⊥
Both R (Some a) None = ⊥
Both R (Some a) (Some b) = R a b

abbrev pub Pair : {A B : Type 0} → (A → A → Type 0) → (B → B → Type 0) → A × B → A × B → Type 0
Pair R S x y = R x.0 y.0 × S x.1 y.1

abbrev pub Alls : {A : Type 0} → (A → A → Type 0) → List A → List A → Type 0
Alls R [] [] = Unit {0}
Alls R [] (y ∷ ys) = ⊥
Alls R (x ∷ xs) [] = ⊥
Alls R (x ∷ xs) (y ∷ ys) = R x y × Alls R xs ys

-- the values are related, and what is left is alike
abbrev pub Found : {A : Type 0} → Readers → (A → A → Type 0) → Reading Token A → Reading Token A → Type 0
Found r R x y = R x.0 y.0 × Alike r x.1 y.1

-- a descent finds related values in texts that are alike
pub record Follows {A : Type 0} (r : Readers) (R : A → A → Type 0) (g : Descent Token A) : Type 0 where
  pub each : (ts us : List Token) → Alike r ts us → Both (Found r R) (g ts) (g us)

-- a test doesn't see ranges
abbrev pub Blind : Readers → Test Token → Type 0
Blind r c = (ts us : List Token) → Alike r ts us → c ts ≡ c us

-- nor does one of a token
abbrev pub BlindTo : (Token → Bool) → Type 0
BlindTo f = (t u : Token) → Twins t u → f t ≡ f u

bound : {A B : Type 0} (P : Reading Token A → Reading Token A → Type 0) (Q : Reading Token B → Reading Token B → Type 0) (f h : Reading Token A → Option (Reading Token B)) (o p : Option (Reading Token A)) → Both P o p →
    ((x y : Reading Token A) → P x y → Both Q (f x) (h y)) → Both Q (bind o f) (bind p h)
bound P Q f h None None b k = tt
bound P Q f h None (Some y) b k = absurd b
bound P Q f h (Some x) None b k = absurd b
bound P Q f h (Some x) (Some y) b k = k x y b

pub if_found : {A : Type 0} (P : A → A → Type 0) (b c : Bool) (o p q s : Option A) → b ≡ c → Both P o q → Both P p s → Both P (if b then o else p) (if c then q else s)
if_found P true true o p q s e h k = h
if_found P true false o p q s e h k = absurd (cc)
if_found P false true o p q s e h k = absurd (cc)
if_found P false false o p q s e h k = k

pub follows_token : (r : Readers) (f : Token → Bool) → BlindTo f → Follows r Twins (take_token f)
follows_token r f blind = record { each = follow } where
  follow : (ts us : List Token) → Alike r ts us → Both (Found r Twins) (take_token f ts) (take_token f us)
  follow [] [] a = tt
  follow [] (u ∷ us) a = absurd a.agree
  follow (t ∷ ts) [] a = absurd a.agree
  follow (t ∷ ts) (u ∷ us) a = if_found (Found r Twins) (f t) (f u) (Some (t, ts)) None (Some (u, us)) None (blind t u a.agree.0) (a.agree.0, alike_behind r t u ts us a) tt

pub follows_given : {A : Type 0} (r : Readers) (R : A → A → Type 0) (a : A) → R a a → Follows r R (take_given a)
follows_given r R a h = record { each = λ ts us s. (h, s) }

pub follows_none : {A : Type 0} (r : Readers) (R : A → A → Type 0) → Follows r R (λ ts. None)
follows_none r R = record { each = λ ts us s. tt }

pub follows_seq : {A B : Type 0} {r : Readers} {R : A → A → Type 0} {S : B → B → Type 0} {g : Descent Token A} {h : Descent Token B} → Follows r R g → Follows r S h → Follows r (Pair R S) (g ▸ h)
follows_seq {r = r} {R = R} {S = S} {g = g} {h = h} a b = record {
  each = λ ts us s.
      bound (Found r R) (Found r (Pair R S)) (λ x. bind (h x.1) (λ y. Some (behind x.0 y))) (λ x. bind (h x.1) (λ y. Some (behind x.0 y))) (g ts) (g us) (a.each ts us s)
      (λ x y p. bound (Found r S) (Found r (Pair R S)) (λ z. Some (behind x.0 z)) (λ z. Some (behind y.0 z)) (h x.1) (h y.1) (b.each x.1 y.1 p.1) (λ z w q. ((p.0, q.0), q.1)));
}

pub follows_make : {A B : Type 0} {r : Readers} {R : A → A → Type 0} {g : Descent Token A} (S : B → B → Type 0) (of : List Token → A → B) → Follows r R g →
    ((read other : List Token) (x y : A) → R x y → S (of read x) (of other y)) → Follows r S (take_make of g)
follows_make {r = r} {R = R} {g = g} S of a h = record {
  each = λ ts us s.
      bound (Found r R) (Found r S) (λ x. Some (made of ts x)) (λ x. Some (made of us x)) (g ts) (g us) (a.each ts us s)
      (λ x y p. (h (tokens_read ts x.1) (tokens_read us y.1) x.0 y.0 p.0, p.1));
}

pub follows_turn : {A B : Type 0} {r : Readers} {R : A → A → Type 0} {g : Descent Token A} (S : B → B → Type 0) (of : A → B) → Follows r R g → ((x y : A) → R x y → S (of x) (of y)) → Follows r S (take_turn of g)
follows_turn S of a h = follows_make S (λ read x. of x) a (λ read other x y p. h x y p)

or_found : {A : Type 0} (P : Reading Token A → Reading Token A → Type 0) (o p q s : Option (Reading Token A)) → Both P o q → Both P p s → Both P (or_else o p) (or_else q s)
or_found P None p None s h k = k
or_found P None p (Some y) s h k = absurd h
or_found P (Some x) p None s h k = absurd h
or_found P (Some x) p (Some y) s h k = h

pub follows_or : {A : Type 0} {r : Readers} {R : A → A → Type 0} {g h : Descent Token A} → Follows r R g → Follows r R h → Follows r R (g ⊘ h)
follows_or {r = r} {R = R} {g = g} {h = h} a b = record { each = λ ts us s. or_found (Found r R) (g ts) (h ts) (g us) (h us) (a.each ts us s) (b.each ts us s) }

pub follows_where : {A : Type 0} {r : Readers} {R : A → A → Type 0} {g h : Descent Token A} (c : Test Token) → Blind r c → Follows r R g → Follows r R h → Follows r R (take_where c g h)
follows_where {r = r} {R = R} {g = g} {h = h} c blind a b = record { each = λ ts us s. if_found (Found r R) (c ts) (c us) (g ts) (h ts) (g us) (h us) (blind ts us s) (a.each ts us s) (b.each ts us s) }

pub follows_maybe : {A : Type 0} {r : Readers} {R : A → A → Type 0} {g : Descent Token A} → Follows r R g → Follows r (Both R) (take_maybe g)
follows_maybe {r = r} {R = R} a = follows_or (follows_turn (Both R) (λ a. Some a) a (λ x y p. p)) (follows_given r (Both R) None tt)

follows_at_most : {A : Type 0} {r : Readers} {R : A → A → Type 0} {g : Descent Token A} (n : ℕ) → Follows r R g → Follows r (Alls R) (take_at_most n g)
follows_at_most {r = r} {R = R} zero a = follows_given r (Alls R) [] tt
follows_at_most {r = r} {R = R} (suc n) a = follows_or (follows_turn (Alls R) listed (follows_seq a (follows_at_most n a)) (λ x y p. p)) (follows_given r (Alls R) [] tt)

pub follows_many : {A : Type 0} {r : Readers} {R : A → A → Type 0} {g : Descent Token A} → Follows r R g → Follows r (Alls R) (take_many g)
follows_many {r = r} {R = R} {g = g} a = record {
  each = λ ts us s. subst (λ (n : ℕ). Both (Found r (Alls R)) (take_many g ts) (take_at_most n g us)) (agree_length ts us s.agree) ((follows_at_most (length ts) a).each ts us s);
}

-- Repeats.

follows_onto : {A B : Type 0} {r : Readers} {S : B → B → Type 0} {h : Descent Token B} (R : A → A → Type 0) (start other : List Token) (n : ℕ) (room : A → Bool) (join : List Token → A → B → A) → Follows r S h → ((x y : A) → R x y → room x ≡ room y) →
    ((read seen : List Token) (x y : A) (z w : B) → R x y → S z w → R (join read x z) (join seen y w)) → (x y : A) → R x y → (ts us : List Token) → Alike r ts us → Both (Found r R) (take_onto start n room join h x ts) (take_onto other n room join h y us)
follows_onto R start other zero room join b fit step x y p ts us s = (p, s)
follows_onto {A = A} {r = r} {S = S} {h = h} R start other (suc n) room join b fit step x y p ts us s =
    if_found (Found r R) (room x) (room y) (or_else (bind (h ts) (λ z. take_onto start n room join h (join (tokens_read start z.1) x z.0) z.1)) (Some (x, ts))) (Some (x, ts))
    (or_else (bind (h us) (λ z. take_onto other n room join h (join (tokens_read other z.1) y z.0) z.1)) (Some (y, us))) (Some (y, us)) (fit x y p)
    (or_found (Found r R) (bind (h ts) (λ z. take_onto start n room join h (join (tokens_read start z.1) x z.0) z.1)) (Some (x, ts)) (bind (h us) (λ z. take_onto other n room join h (join (tokens_read other z.1) y z.0) z.1)) (Some (y, us))
    (bound (Found r S) (Found r R) (λ z. take_onto start n room join h (join (tokens_read start z.1) x z.0) z.1) (λ z. take_onto other n room join h (join (tokens_read other z.1) y z.0) z.1) (h ts) (h us) (b.each ts us s)
    (λ z w q. follows_onto R start other n room join b fit step (join (tokens_read start z.1) x z.0) (join (tokens_read other w.1) y w.0) (step (tokens_read start z.1) (tokens_read other w.1) x y z.0 w.0 p q.0) z.1 w.1 q.1)) (p, s)) (p, s)

pub follows_chain : {A B : Type 0} {r : Readers} {R : A → A → Type 0} {S : B → B → Type 0} {g : Descent Token A} {h : Descent Token B} (most : A → List Token → ℕ) (room : A → Bool) (join : List Token → A → B → A) →
    ((x y : A) (ts us : List Token) → R x y → Alike r ts us → most x ts ≡ most y us) → Follows r R g → Follows r S h → ((x y : A) → R x y → room x ≡ room y) →
    ((read seen : List Token) (x y : A) (z w : B) → R x y → S z w → R (join read x z) (join seen y w)) → Follows r R (take_chain most room join g h)
follows_chain {r = r} {R = R} {g = g} {h = h} most room join times a b fit step = record {
  each = λ ts us s.
      bound (Found r R) (Found r R) (λ x. take_onto ts (most x.0 x.1) room join h x.0 x.1) (λ x. take_onto us (most x.0 x.1) room join h x.0 x.1) (g ts) (g us) (a.each ts us s)
      (λ x y p. subst (λ (n : ℕ). Both (Found r R) (take_onto ts (most x.0 x.1) room join h x.0 x.1) (take_onto us n room join h y.0 y.1)) (times x.0 y.0 x.1 y.1 p.0 p.1)
      (follows_onto R ts us (most x.0 x.1) room join b fit step x.0 y.0 p.0 x.1 y.1 p.1));
}

pub follows_once : {A B : Type 0} {r : Readers} {R : A → A → Type 0} {S : B → B → Type 0} {g : Descent Token A} {h : Descent Token B} (room : A → Bool) (join : List Token → A → B → A) → Follows r R g → Follows r S h →
    ((x y : A) → R x y → room x ≡ room y) → ((read seen : List Token) (x y : A) (z w : B) → R x y → S z w → R (join read x z) (join seen y w)) → Follows r R (take_once room join g h)
follows_once {r = r} {R = R} {S = S} {g = g} {h = h} room join a b fit step = record {
  each = λ ts us s.
      bound (Found r R) (Found r R) (λ x. if room x.0 then bind (h x.1) (λ z. Some (join (tokens_read ts z.1) x.0 z.0, z.1)) else None)
      (λ x. if room x.0 then bind (h x.1) (λ z. Some (join (tokens_read us z.1) x.0 z.0, z.1)) else None) (g ts) (g us) (a.each ts us s)
      (λ x y p. if_found (Found r R) (room x.0) (room y.0) (bind (h x.1) (λ z. Some (join (tokens_read ts z.1) x.0 z.0, z.1))) None (bind (h y.1) (λ z. Some (join (tokens_read us z.1) y.0 z.0, z.1))) None (fit x.0 y.0 p.0)
      (bound (Found r S) (Found r R) (λ z. Some (join (tokens_read ts z.1) x.0 z.0, z.1)) (λ z. Some (join (tokens_read us z.1) y.0 z.0, z.1)) (h x.1) (h y.1) (b.each x.1 y.1 p.1)
      (λ z w q. (step (tokens_read ts z.1) (tokens_read us w.1) x.0 y.0 z.0 w.0 p.0 q.0, q.1))) tt);
}

pub follows_levels : {A B L : Type 0} {r : Readers} {R : A → A → Type 0} {S : B → B → Type 0} {first : Descent Token A} {right : L → List L → Descent Token B} (most : L → A → List Token → ℕ) (room : A → Bool) (join : List Token → A → B → A) →
    ((l : L) (x y : A) (ts us : List Token) → R x y → Alike r ts us → most l x ts ≡ most l y us) → ((l : L) (above : List L) → Follows r S (right l above)) → ((x y : A) → R x y → room x ≡ room y) →
    ((read seen : List Token) (x y : A) (z w : B) → R x y → S z w → R (join read x z) (join seen y w)) → Follows r R first → (ls : List L) → Follows r R (take_levels most room join right first ls)
follows_levels most room join times each fit step a [] = a
follows_levels most room join times each fit step a (l ∷ ls) = follows_chain (most l) room join (times l) (follows_levels most room join times each fit step a ls) (each l ls) fit step

-- Groups.

whole_found : {A : Type 0} (r : Readers) (R : A → A → Type 0) (a b : A) (ts us : List Token) → Alike r ts us → R a b → Both R (whole_or a ts None) (whole_or b us None)
whole_found r R a b [] [] s p = p
whole_found r R a b [] (u ∷ us) s p = absurd s.agree
whole_found r R a b (t ∷ ts) [] s p = absurd s.agree
whole_found r R a b (t ∷ ts) (u ∷ us) s p = tt

complete_found : {A : Type 0} (r : Readers) (R : A → A → Type 0) (o p : Option (Reading Token A)) → Both (Found r R) o p → Both R (complete o) (complete p)
complete_found r R None None h = tt
complete_found r R None (Some y) h = absurd h
complete_found r R (Some x) None h = absurd h
complete_found r R (Some x) (Some y) h = whole_found r R x.0 y.0 x.1 y.1 h.1 h.0

pub option_found : {A B : Type 0} (P : A → A → Type 0) (Q : B → B → Type 0) (f h : A → B) (o p : Option A) → ((x y : A) → P x y → Q (f x) (h y)) → Both P o p → Both Q (option_map f o) (option_map h p)
option_found P Q f h None None k b = tt
option_found P Q f h None (Some y) k b = absurd b
option_found P Q f h (Some x) None k b = absurd b
option_found P Q f h (Some x) (Some y) k b = k x y b

within_found : {A : Type 0} (r : Readers) (R : A → A → Type 0) (g : Descent Token A) → Follows r R g → (n : ℕ) (ts us : List Token) → Alike r ts us →
    Both (Found r R) (option_map (λ a. (a, drop n ts)) (complete (g (take n ts)))) (option_map (λ a. (a, drop n us)) (complete (g (take n us))))
within_found r R g a n ts us s =
    option_found R (Found r R) (λ a. (a, drop n ts)) (λ a. (a, drop n us)) (complete (g (take n ts))) (complete (g (take n us))) (λ x y p. (p, alike_drop r n ts us s))
    (complete_found r R (g (take n ts)) (g (take n us)) (a.each (take n ts) (take n us) (alike_take r n ts us s)))

pub follows_within : {A : Type 0} {r : Readers} {R : A → A → Type 0} {g : Descent Token A} (size : List Token → ℕ) → ((ts us : List Token) → Alike r ts us → size ts ≡ size us) → Follows r R g → Follows r R (take_within size g)
follows_within {r = r} {R = R} {g = g} size same a = record {
  each = λ ts us s. subst (λ (n : ℕ). Both (Found r R) (take_within size g ts) (option_map (λ a. (a, drop n us)) (complete (g (take n us))))) (same ts us s) (within_found r R g a (size ts) ts us s);
}

inside_at : {A : Type 0} (r : Readers) (R : A → A → Type 0) (g : Descent Token A) → Follows r R g → (t u : Token) → Twins t u → (n m : ℕ) (ts us : List Token) → Alike r ts us →
    Both (Found r (Pair Twins R)) (option_map (λ a. ((t, a), drop m ts)) (complete (g (take n ts)))) (option_map (λ a. ((u, a), drop m us)) (complete (g (take n us))))
inside_at r R g a t u same n m ts us s =
    option_found R (Found r (Pair Twins R)) (λ a. ((t, a), drop m ts)) (λ a. ((u, a), drop m us)) (complete (g (take n ts))) (complete (g (take n us))) (λ x y p. ((same, p), alike_drop r m ts us s))
    (complete_found r R (g (take n ts)) (g (take n us)) (a.each (take n ts) (take n us) (alike_take r n ts us s)))

inside_found : {A : Type 0} (r : Readers) (R : A → A → Type 0) (g : Descent Token A) → Follows r R g → (t u : Token) → Twins t u → (ts us : List Token) → Alike r ts us →
    Both (Found r (Pair Twins R)) (option_map (λ a. ((t, a), drop (past t) ts)) (complete (g (take t.width ts)))) (option_map (λ a. ((u, a), drop (past u) us)) (complete (g (take u.width us))))
inside_found r R g a t u same ts us s =
    subst (λ (n : ℕ). Both (Found r (Pair Twins R)) (option_map (λ a. ((t, a), drop (past t) ts)) (complete (g (take t.width ts)))) (option_map (λ a. ((u, a), drop (past u) us)) (complete (g (take n us))))) same.width
    (subst (λ (m : ℕ). Both (Found r (Pair Twins R)) (option_map (λ a. ((t, a), drop (past t) ts)) (complete (g (take t.width ts)))) (option_map (λ a. ((u, a), drop m us)) (complete (g (take t.width us))))) same.past
    (inside_at r R g a t u same t.width (past t) ts us s))

pub follows_inside : {A : Type 0} {r : Readers} {R : A → A → Type 0} {g : Descent Token A} (opens : Token → Bool) → BlindTo opens → Follows r R g → Follows r (Pair Twins R) (take_inside opens width past g)
follows_inside {A = A} {r = r} {R = R} {g = g} opens blind a = record { each = follow } where
  follow : (ts us : List Token) → Alike r ts us → Both (Found r (Pair Twins R)) (take_inside opens width past g ts) (take_inside opens width past g us)
  follow [] [] s = tt
  follow [] (u ∷ us) s = absurd s.agree
  follow (t ∷ ts) [] s = absurd s.agree
  follow (t ∷ ts) (u ∷ us) s =
      if_found (Found r (Pair Twins R)) (opens t) (opens u) (option_map (λ a. ((t, a), drop (past t) ts)) (complete (g (take t.width ts)))) None (option_map (λ a. ((u, a), drop (past u) us)) (complete (g (take u.width us)))) None
      (blind t u s.agree.0) (inside_found r R g a t u s.agree.0 ts us (alike_behind r t u ts us s)) tt

pub follows_before : {A : Type 0} {r : Readers} {R : A → A → Type 0} {g : Descent Token A} (c : Test Token) → Blind r c → Follows r R g → Follows r R (take_before c g)
follows_before {r = r} {R = R} {g = g} c blind a = record {
  each = λ ts us s. bound (Found r R) (Found r R) (λ x. if c x.1 then Some x else None) (λ x. if c x.1 then Some x else None) (g ts) (g us) (a.each ts us s)
      (λ x y p. if_found (Found r R) (c x.1) (c y.1) (Some x) None (Some y) None (blind x.1 y.1 p.1) p tt);
}

pub follows_only : {A : Type 0} {r : Readers} {R : A → A → Type 0} {g : Descent Token A} (c : A → Bool) → ((x y : A) → R x y → c x ≡ c y) → Follows r R g → Follows r R (take_only c g)
follows_only {r = r} {R = R} {g = g} c blind a = record {
  each = λ ts us s. bound (Found r R) (Found r R) (λ x. if c x.0 then Some x else None) (λ x. if c x.0 then Some x else None) (g ts) (g us) (a.each ts us s)
      (λ x y p. if_found (Found r R) (c x.0) (c y.0) (Some x) None (Some y) None (blind x.0 y.0 p.0) p tt);
}

-- Lists.

first_found : {A B : Type 0} (R : A → A → Type 0) (S : B → B → Type 0) (a b : A) (o p : Option (B × List A)) → R a b → Both (Pair S (Alls R)) o p → Alls R (first_behind (a, o)) (first_behind (b, p))
first_found R S a b None None h k = (h, tt)
first_found R S a b None (Some y) h k = absurd k
first_found R S a b (Some x) None h k = absurd k
first_found R S a b (Some x) (Some y) h k = (h, k.1)

follows_at_most_elements : {A B : Type 0} {r : Readers} {R : A → A → Type 0} {S : B → B → Type 0} {g : Descent Token A} {comma : Descent Token B} (n : ℕ) → Follows r R g → Follows r S comma → Follows r (Alls R) (take_at_most_elements n g comma)
follows_at_most_elements {r = r} {R = R} zero a b = follows_given r (Alls R) [] tt
follows_at_most_elements {r = r} {R = R} {S = S} (suc n) a b =
    follows_or (follows_turn (Alls R) first_behind (follows_seq a (follows_maybe (follows_seq b (follows_at_most_elements n a b)))) (λ x y p. first_found R S x.0 y.0 x.1 y.1 p.0 p.1)) (follows_given r (Alls R) [] tt)

pub follows_elements : {A B : Type 0} {r : Readers} {R : A → A → Type 0} {S : B → B → Type 0} {g : Descent Token A} {comma : Descent Token B} → Follows r R g → Follows r S comma → Follows r (Alls R) (take_elements g comma)
follows_elements {r = r} {R = R} {g = g} {comma = comma} a b = record {
  each = λ ts us s. subst (λ (n : ℕ). Both (Found r (Alls R)) (take_elements g comma ts) (take_at_most_elements n g comma us)) (agree_length ts us s.agree) ((follows_at_most_elements (length ts) a b).each ts us s);
}

item_found : {A : Type 0} (r : Readers) (R : A → A → Type 0) (more : List Token → List A) (segment : List Token → ℕ) (error : List Token → A) (ts us : List Token) → Alike r ts us → segment ts ≡ segment us →
    ((read other : List Token) → R (error read) (error other)) → ((ts us : List Token) → Alike r ts us → Alls R (more ts) (more us)) → (o p : Option (Reading Token A)) → Both (Found r R) o p →
    Alls R (item_or_error more segment error ts o) (item_or_error more segment error us p)
item_found r R more segment error ts us s e bad each None None h = (
  bad (take (suc (segment ts)) ts) (take (suc (segment us)) us),
  subst (λ (n : ℕ). Alls R (more (drop (suc (segment ts)) ts)) (more (drop (suc n) us))) e (each (drop (suc (segment ts)) ts) (drop (suc (segment ts)) us) (alike_drop r (suc (segment ts)) ts us s)),
)
item_found r R more segment error ts us s e bad each None (Some y) h = absurd h
item_found r R more segment error ts us s e bad each (Some x) None h = absurd h
item_found r R more segment error ts us s e bad each (Some x) (Some y) h = (h.0, each x.1 y.1 h.1)

items_found : {A : Type 0} (r : Readers) (R : A → A → Type 0) (n : ℕ) (g : Descent Token A) (segment : List Token → ℕ) (error : List Token → A) → Follows r R g → ((ts us : List Token) → Alike r ts us → segment ts ≡ segment us) →
    ((read other : List Token) → R (error read) (error other)) → (ts us : List Token) → Alike r ts us → Alls R (take_items_at n g segment error ts) (take_items_at n g segment error us)
items_found r R zero g segment error a same bad ts us s = tt
items_found r R (suc n) g segment error a same bad [] [] s = tt
items_found r R (suc n) g segment error a same bad [] (u ∷ us) s = absurd s.agree
items_found r R (suc n) g segment error a same bad (t ∷ ts) [] s = absurd s.agree
items_found r R (suc n) g segment error a same bad (t ∷ ts) (u ∷ us) s =
    item_found r R (take_items_at n g segment error) segment error (t ∷ ts) (u ∷ us) s (same (t ∷ ts) (u ∷ us) s) bad (λ vs ws k. items_found r R n g segment error a same bad vs ws k) (g (t ∷ ts)) (g (u ∷ us)) (a.each (t ∷ ts) (u ∷ us) s)

pub all_items_found : {A : Type 0} {r : Readers} {R : A → A → Type 0} {g : Descent Token A} (segment : List Token → ℕ) (error : List Token → A) → Follows r R g → ((ts us : List Token) → Alike r ts us → segment ts ≡ segment us) →
    ((read other : List Token) → R (error read) (error other)) → (ts us : List Token) → Alike r ts us → Alls R (all_items g segment error ts) (all_items g segment error us)
all_items_found {r = r} {R = R} {g = g} segment error a same bad ts us s =
    subst (λ (n : ℕ). Alls R (all_items g segment error ts) (take_items_at n g segment error us)) (agree_length ts us s.agree) (items_found r R (length ts) g segment error a same bad ts us s)

pub nothing_left : (r : Readers) (ts us : List Token) → Alike r ts us → Alike r [] []
nothing_left r [] [] s = s
nothing_left r [] (u ∷ us) s = absurd s.agree
nothing_left r (t ∷ ts) [] s = absurd s.agree
nothing_left r (t ∷ ts) (u ∷ us) s = nothing_left r ts us (alike_behind r t u ts us s)

pub follows_items : {A : Type 0} {r : Readers} {R : A → A → Type 0} {g : Descent Token A} (segment : List Token → ℕ) (error : List Token → A) → Follows r R g → ((ts us : List Token) → Alike r ts us → segment ts ≡ segment us) →
    ((read other : List Token) → R (error read) (error other)) → Follows r (Alls R) (take_items g segment error)
follows_items {r = r} segment error a same bad = record { each = λ ts us s. (all_items_found segment error a same bad ts us s, nothing_left r ts us s) }
