-- Lists of elements and of items in two texts that are alike but for their bodies.
use Rattle.std.proofs.Common.{◌≡◌, ℕ, zero, suc, ◌+◌, ◌-◌, ◌≤◌, ◌<◌, Bool, true, false, ◌&&◌, List, [], ◌∷◌, Option, Some, None, length, take, drop, if◌then◌else◌, refl, sym, ap, ◌∙◌, subst, arith, inr}
use Rattle.dart_tokens.specs.declared.token.Kind.TheVariants as kind
use Rattle.readings.specs.Readings.{Reading, made, behind, first_behind, item_or_error}
use Rattle.readings.specs.Descent.{Descent, bind, or_else, ◌▸◌, take_turn, take_maybe, take_at_most_elements, take_elements, take_items_at, all_items}
use Rattle.dart_tokens.specs.declared.grouped_token.GroupedToken.{GroupedToken as Token}
use Rattle.grammar.specs.Tokens.{is, past}
use Rattle.grammar.specs.Statements.{segment_at, segment}
use Rattle.body_laws.specs.Bodies.{Moves}
use Rattle.body_laws.proofs.Follow.{Kin, Like, first_twins, one_empty, other_empty, both_empty, behind_group, behind_any, state, Went, went_after, went_nowhere, went_weak, went_token, went_group, some_fewer, no_more_than, Both, Pair, Alls, Found, Follows, Marks, both_more, or_found, Tries, fewer_tries, no_left, no_right, nothing_found, seq_meets, turn_meets, clear_behind, and_none, first_found}

-- Elements.

maybe_meets : {A : Type 0} (r : Kin) (s c p : Bool) (R : A → A → Type 0) (g h : Descent Token A) (ts us : List Token) → Like r p ts us → Both (Found r s c p R ts us) (g ts) (h us) → Both (Found r false false p (Both R) ts us) (take_maybe g ts) (take_maybe h us)
maybe_meets r s c p R g h ts us k a =
    or_found (Found r false false p (Both R) ts us) (take_turn (λ a. Some a) g ts) (Some (None, ts)) (take_turn (λ a. Some a) h us) (Some (None, us))
    (both_more (Found r s c p (Both R) ts us) (Found r false false p (Both R) ts us) (take_turn (λ a. Some a) g ts) (take_turn (λ a. Some a) h us) (λ x y f. (f.0, went_weak r s c p ts us x.1 y.1 f.1))
    (turn_meets r s c p R (Both R) (λ a. Some a) g h ts us (λ x y f. f) a)) (tt, went_nowhere r false p ts us k)

elements_at : {A B : Type 0} (r : Kin) (needs c : Bool) (R : A → A → Type 0) (S : B → B → Type 0) (g : Descent Token A) (comma : Descent Token B) → Follows r needs true c R g → Follows r false true true S comma →
    (n m : ℕ) (p : Bool) → (needs && p) ≡ false → (ts us : List Token) → Tries n m ts us → Like r p ts us → Both (Found r false false p (Alls R) ts us) (take_at_most_elements n g comma ts) (take_at_most_elements m g comma us)
elements_at r needs c R S g comma a b zero zero p q ts us t k = (tt, went_nowhere r false p ts us k)
elements_at {A = A} r needs c R S g comma a b zero (suc m) p q ts us t k = no_left r p m ts us t k (λ e d. rw (e, d) (by (g []) (nothing_found g a)))
  where
    by : (o : Option (Reading Token A)) → o ≡ None →
        Both (Found r false false p (Alls R) [] []) (Some ([], [])) (or_else (bind (bind o (λ x. bind (take_maybe (comma ▸ take_at_most_elements m g comma) x.1) (λ y. Some (behind x.0 y)))) (λ x. Some (made (λ read a. first_behind a) [] x))) (Some ([], [])))
    by None e = (tt, went_nowhere r false p [] [] (both_empty r p))
    by (Some x) e = absurd (cc)
elements_at {A = A} r needs c R S g comma a b (suc n) zero p q ts us t k = no_right r p n ts us t k (λ e d. rw (e, d) (by (g []) (nothing_found g a)))
  where
    by : (o : Option (Reading Token A)) → o ≡ None →
        Both (Found r false false p (Alls R) [] []) (or_else (bind (bind o (λ x. bind (take_maybe (comma ▸ take_at_most_elements n g comma) x.1) (λ y. Some (behind x.0 y)))) (λ x. Some (made (λ read a. first_behind a) [] x))) (Some ([], []))) (Some ([], []))
    by None e = (tt, went_nowhere r false p [] [] (both_empty r p))
    by (Some x) e = absurd (cc)
elements_at r needs c R S g comma a b (suc n) (suc m) p q ts us t k =
    or_found (Found r false false p (Alls R) ts us) (take_turn first_behind (g ▸ take_maybe (comma ▸ take_at_most_elements n g comma)) ts) (Some ([], ts)) (take_turn first_behind (g ▸ take_maybe (comma ▸ take_at_most_elements m g comma)) us) (Some ([], us))
    (both_more (Found r true false p (Alls R) ts us) (Found r false false p (Alls R) ts us) (take_turn first_behind (g ▸ take_maybe (comma ▸ take_at_most_elements n g comma)) ts) (take_turn first_behind (g ▸ take_maybe (comma ▸ take_at_most_elements m g comma)) us)
    (λ x y f. (f.0, went_weak r true false p ts us x.1 y.1 f.1))
    (turn_meets r true false p (Pair R (Both (Pair S (Alls R)))) (Alls R) first_behind (g ▸ take_maybe (comma ▸ take_at_most_elements n g comma)) (g ▸ take_maybe (comma ▸ take_at_most_elements m g comma)) ts us
    (λ x y f. first_found R S x.0 y.0 x.1 y.1 f.0 f.1)
    (seq_meets r true c false false p R (Both (Pair S (Alls R))) g g (take_maybe (comma ▸ take_at_most_elements n g comma)) (take_maybe (comma ▸ take_at_most_elements m g comma)) ts us (a.each p q ts us k)
    (λ x y f.
    let p1 = state c p f.1.read in
    maybe_meets r true false p1 (Pair S (Alls R)) (comma ▸ take_at_most_elements n g comma) (comma ▸ take_at_most_elements m g comma) x.1 y.1 f.1.like
    (seq_meets r true true false false p1 S (Alls R) comma comma (take_at_most_elements n g comma) (take_at_most_elements m g comma) x.1 y.1 (b.each p1 refl x.1 y.1 f.1.like)
    (λ z w e.
    let less = some_fewer r c p ts us x.1 y.1 f.1 in
    let fewer = no_more_than r true true p1 x.1 y.1 z.1 w.1 e.1 in
    elements_at r needs c R S g comma a b n m (state true p1 e.1.read) (and_none needs (state true p1 e.1.read) (clear_behind false true p1 r.moves e.1.read e.1.other e.1.stand refl)) z.1 w.1
    (fewer_tries n m ts us z.1 w.1 t (omega (arith, less.0, fewer.0)) (omega (arith, less.1, fewer.1))) e.1.like))))))
    (tt, went_nowhere r false p ts us k)

pub follows_elements : {A B : Type 0} {r : Kin} {needs c : Bool} {R : A → A → Type 0} {S : B → B → Type 0} {g : Descent Token A} {comma : Descent Token B} → Follows r needs true c R g → Follows r false true true S comma → Follows r needs false false (Alls R) (take_elements g comma)
follows_elements {r = r} {needs = needs} {c = c} {R = R} {S = S} {g = g} {comma = comma} a b = record { each = λ p q ts us k. elements_at r needs c R S g comma a b (length ts) (length us) p q ts us (inr (omega arith, omega arith)) k }

-- Segments.

drop_none : (k : ℕ) → let no : List Token = [] in drop k no ≡ no
drop_none zero = refl
drop_none (suc k) = refl

drop_both : (a b : ℕ) (ts : List Token) → drop (a + b) ts ≡ drop b (drop a ts)
drop_both zero b ts = let e : 0 + b ≡ b = omega arith in ap (λ (n : ℕ). drop n ts) e
drop_both (suc a) b [] = drop_none (suc a + b) ∙ sym (drop_none b)
drop_both (suc a) b (t ∷ ts) = let e : suc a + b ≡ suc (a + b) = omega arith in ap (λ (n : ℕ). drop n (t ∷ ts)) e ∙ drop_both a b ts

drop_fewer : (n : ℕ) (ts : List Token) → length (drop n ts) ≤ length ts
drop_fewer zero ts = omega arith
drop_fewer (suc n) [] = omega arith
drop_fewer (suc n) (t ∷ ts) = omega (arith, drop_fewer n ts)

semicolon : (m : Moves) → Marks m (is kind.Semicolon)
semicolon m = record { blind = λ t u w. rw w.kind refl; parenthesis = λ t e. rw e refl; bracket = λ t e. rw e refl; question = λ t e. rw e refl; brace = λ t e. rw e refl; interpolation = λ t e. rw e refl }

abbrev Behind : (n : ℕ) → Token → List Token → ℕ
Behind n t ts = suc (past t) + segment_at n (drop (past t) ts)

went_segment : (r : Kin) (n m : ℕ) (p : Bool) (ts us : List Token) → length ts ≤ n → length us ≤ m → Like r p ts us → Went r false false p ts us (drop (segment_at n ts) ts) (drop (segment_at m us) us)
went_segment r n m p [] [] l k a = rw (none n, none m) (went_nowhere r false p [] [] a)
  where
    none : (n : ℕ) → segment_at n [] ≡ 0
    none zero = refl
    none (suc n) = refl
went_segment r n m p [] (u ∷ us) l k a = one_empty r p u us a
went_segment r n m p (t ∷ ts) [] l k a = other_empty r p t ts a
went_segment r zero m p (t ∷ ts) (u ∷ us) l k a = absurd (omega (arith, l))
went_segment r (suc n) zero p (t ∷ ts) (u ∷ us) l k a = absurd (omega (arith, k))
went_segment r (suc n) (suc m) p (t ∷ ts) (u ∷ us) l k a =
    let w = first_twins r p t u ts us a in
    let whole = went_group r p t u ts us a in
    let further = went_segment r n m true (drop (past t) ts) (drop (past u) us) (omega (arith, l, drop_fewer (past t) ts)) (omega (arith, k, drop_fewer (past u) us)) (behind_any r (is kind.OpenParenthesis t) (drop (past t) ts) (drop (past u) us) (behind_group r p t u ts us a)) in
    let both = went_after r false false p (t ∷ ts) (u ∷ us) (drop (past t) ts) (drop (past u) us) (drop (segment_at n (drop (past t) ts)) (drop (past t) ts)) (drop (segment_at m (drop (past u) us)) (drop (past u) us)) whole further in
    by (is kind.Semicolon t) (is kind.Semicolon u) (is kind.OpenBrace t) (is kind.OpenBrace u) refl (rw w.kind refl) (rw w.kind refl) both
  where
    by : (b c d e : Bool) → is kind.Semicolon t ≡ b → b ≡ c → d ≡ e → Went r true false p (t ∷ ts) (u ∷ us) (drop (segment_at n (drop (past t) ts)) (drop (past t) ts)) (drop (segment_at m (drop (past u) us)) (drop (past u) us)) →
        Went r false false p (t ∷ ts) (u ∷ us) (drop (if b then 1 else if d then suc (past t) else Behind n t ts) (t ∷ ts)) (drop (if c then 1 else if e then suc (past u) else Behind m u us) (u ∷ us))
    by true true d e s f g both = went_weak r true true p (t ∷ ts) (u ∷ us) ts us (went_token r p (is kind.Semicolon) (semicolon r.moves) t u ts us s a)
    by true false d e s f g both = absurd (cc)
    by false true d e s f g both = absurd (cc)
    by false false true true s f g both = went_weak r true false p (t ∷ ts) (u ∷ us) (drop (past t) ts) (drop (past u) us) (went_group r p t u ts us a)
    by false false true false s f g both = absurd (cc)
    by false false false true s f g both = absurd (cc)
    by false false false false s f g both =
        rw (drop_both (suc (past t)) (segment_at n (drop (past t) ts)) (t ∷ ts), drop_both (suc (past u)) (segment_at m (drop (past u) us)) (u ∷ us))
        (went_weak r true false p (t ∷ ts) (u ∷ us) (drop (segment_at n (drop (past t) ts)) (drop (past t) ts)) (drop (segment_at m (drop (past u) us)) (drop (past u) us)) both)

-- a segment has a token
segment_some : (t : Token) (ts : List Token) → suc (segment (t ∷ ts)) ≡ segment_at (length (t ∷ ts)) (t ∷ ts)
segment_some t ts = by (is kind.Semicolon t) (is kind.OpenBrace t)
  where
    by : (b c : Bool) → suc ((if b then 1 else if c then suc (past t) else Behind (length ts) t ts) - 1) ≡ (if b then 1 else if c then suc (past t) else Behind (length ts) t ts)
    by true c = refl
    by false true = omega arith
    by false false = omega arith

-- Two descents find related values in lists that are alike.
pub record Meets {A : Type 0} (r : Kin) (needs some clear : Bool) (R : A → A → Type 0) (g h : Descent Token A) : Type 0 where
  pub each : (p : Bool) → (needs && p) ≡ false → (ts us : List Token) → Like r p ts us → Both (Found r some clear p R ts us) (g ts) (h us)

-- Items.

item_found : {A : Type 0} (r : Kin) (p : Bool) (R : A → A → Type 0) (more others : List Token → List A) (error : List Token → A) (t u : Token) (ts us : List Token) → Like r p (t ∷ ts) (u ∷ us) → ((read other : List Token) → R (error read) (error other)) →
    ((b c d : Bool) (x y : List Token) → Went r b c d (t ∷ ts) (u ∷ us) x y → length x < length (t ∷ ts) → length y < length (u ∷ us) → Alls R (more x) (others y)) →
    (o q : Option (Reading Token A)) → Both (Found r true false p R (t ∷ ts) (u ∷ us)) o q → Alls R (item_or_error more segment error (t ∷ ts) o) (item_or_error others segment error (u ∷ us) q)
item_found r p R more others error t u ts us k bad each None None h = (
  bad (take (suc (segment (t ∷ ts))) (t ∷ ts)) (take (suc (segment (u ∷ us))) (u ∷ us)),
  each false false p (drop (segment (t ∷ ts)) ts) (drop (segment (u ∷ us)) us)
      (subst (λ (n : ℕ). Went r false false p (t ∷ ts) (u ∷ us) (drop n (t ∷ ts)) (drop (segment (u ∷ us)) us)) (sym (segment_some t ts))
      (subst (λ (n : ℕ). Went r false false p (t ∷ ts) (u ∷ us) (drop (segment_at (length (t ∷ ts)) (t ∷ ts)) (t ∷ ts)) (drop n (u ∷ us))) (sym (segment_some u us))
      (went_segment r (length (t ∷ ts)) (length (u ∷ us)) p (t ∷ ts) (u ∷ us) (omega arith) (omega arith) k)))
      (omega (arith, drop_fewer (segment (t ∷ ts)) ts)) (omega (arith, drop_fewer (segment (u ∷ us)) us)),
)
item_found r p R more others error t u ts us k bad each None (Some y) h = absurd h
item_found r p R more others error t u ts us k bad each (Some x) None h = absurd h
item_found r p R more others error t u ts us k bad each (Some x) (Some y) h = let less = some_fewer r false p (t ∷ ts) (u ∷ us) x.1 y.1 h.1 in (h.0, each true false p x.1 y.1 h.1 less.0 less.1)

items_found : {A : Type 0} (r : Kin) (R : A → A → Type 0) (g h : Descent Token A) (error : List Token → A) → Meets r false true false R g h → ((read other : List Token) → R (error read) (error other)) →
    (n m : ℕ) (p : Bool) (ts us : List Token) → length ts ≤ n → length us ≤ m → Like r p ts us → Alls R (take_items_at n g segment error ts) (take_items_at m h segment error us)
items_found {A = A} r R g h error a bad n m p [] [] l k s = rw (none g n, none h m) tt
  where
    none : (g : Descent Token A) (n : ℕ) → take_items_at n g segment error [] ≡ []
    none g zero = refl
    none g (suc n) = refl
items_found r R g h error a bad n m p [] (u ∷ us) l k s = one_empty r p u us s
items_found r R g h error a bad n m p (t ∷ ts) [] l k s = other_empty r p t ts s
items_found r R g h error a bad zero m p (t ∷ ts) (u ∷ us) l k s = absurd (omega (arith, l))
items_found r R g h error a bad (suc n) zero p (t ∷ ts) (u ∷ us) l k s = absurd (omega (arith, k))
items_found r R g h error a bad (suc n) (suc m) p (t ∷ ts) (u ∷ us) l k s =
    item_found r p R (take_items_at n g segment error) (take_items_at m h segment error) error t u ts us s bad
    (λ b c d x y f less fewer. items_found r R g h error a bad n m (state c d f.read) x y (omega (arith, l, less)) (omega (arith, k, fewer)) f.like) (g (t ∷ ts)) (h (u ∷ us)) (a.each p refl (t ∷ ts) (u ∷ us) s)

pub all_items_found : {A : Type 0} (r : Kin) (p : Bool) (R : A → A → Type 0) (g h : Descent Token A) (error : List Token → A) → Meets r false true false R g h → ((read other : List Token) → R (error read) (error other)) →
    (ts us : List Token) → Like r p ts us → Alls R (all_items g segment error ts) (all_items h segment error us)
all_items_found r p R g h error a bad ts us s = items_found r R g h error a bad (length ts) (length us) p ts us (omega arith) (omega arith) s
