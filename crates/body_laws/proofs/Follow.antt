-- What a descent finds in two texts that are alike but for their bodies.
use Rattle.std.proofs.Common.{◌≡◌, ℕ, zero, suc, ◌+◌, ◌-◌, ◌≤◌, ◌<◌, Bool, true, false, not, ◌&&◌, ◌||◌, List, [], ◌∷◌, ◌++◌, Option, Some, None, option_map, length, take, drop, slice_get, if◌then◌else◌, refl, sym, ap, ◌∙◌, subst, arith, inl, inr, append-nil, ◌⊎◌}
use Rattle.std.specs.Option.{option_map_or}
use Rattle.std.proofs.lemmas.List.{append_assoc, length-append, take-append-drop}
use Rattle.std.proofs.Math.Seq.{take-append_seam}
use denote.Enum.Bare.{sameb, same_true}
use Rattle.dart_tokens.specs.declared.token.Kind.{Kind}
use Rattle.dart_tokens.specs.contracts.token.Kind as kinds
use Rattle.dart_tokens.specs.declared.token.Kind.TheVariants as kind
use Rattle.dart_tree.specs.declared.places.Span.{Span}
use Rattle.readings.specs.Readings.{Reading, Test, tokens_read, made, behind, listed, first_behind, whole_or}
use Rattle.readings.specs.Descent.{Descent, bind, or_else, take_token, take_given, ◌▸◌, ◌⊘◌, take_make, take_turn, take_maybe, take_at_most, take_many, take_onto, take_chain, complete, take_where, take_before, take_inside, take_once, take_levels}
use Rattle.dart_tokens.specs.declared.grouped_token.GroupedToken.{GroupedToken as Token}
use Rattle.grammar.specs.Tokens.{is, width, past, last_end, span_over}
use Rattle.body_laws.specs.Bodies.{Moves, Twins, adjoins_next, Freedom, none, is_free, is_plain, in_braces, in_group, opens_body, opens_group, Alike}

-- where the tokens of a list stand, and whether bodies in it may differ
pub record Kin : Type 0 where
  pub moves : Moves
  pub freedom : Freedom

-- what holds within groups other than braces: no body differs
abbrev pub inner : Kin → Kin
inner r = record { moves = r.moves; freedom = none }

-- what holds within braces
abbrev pub braces : Kin → Kin
braces r = record { moves = r.moves; freedom = in_braces r.freedom }

-- two lists are alike, whatever steps lead through them
pub record Like (r : Kin) (p : Bool) (ts us : List Token) : Type 0 where
  pub steps : ℕ
  pub alike : Alike r.moves r.freedom steps p ts us

-- One step.

pub first_twins : (r : Kin) (p : Bool) (t u : Token) (ts us : List Token) → Like r p (t ∷ ts) (u ∷ us) → Twins r.moves t u
first_twins r p t u ts us a = by a.steps a.alike
  where
    by : (n : ℕ) → Alike r.moves r.freedom n p (t ∷ ts) (u ∷ us) → Twins r.moves t u
    by zero k = absurd k
    by (suc n) k = k.0

pub groups_end : (r : Kin) (p : Bool) (t u : Token) (ts us : List Token) → Like r p (t ∷ ts) (u ∷ us) → last_end (u ∷ take (past u) us) ≡ r.moves.ends (last_end (t ∷ take (past t) ts))
groups_end r p t u ts us a = by a.steps a.alike
  where
    by : (n : ℕ) → Alike r.moves r.freedom n p (t ∷ ts) (u ∷ us) → last_end (u ∷ take (past u) us) ≡ r.moves.ends (last_end (t ∷ take (past t) ts))
    by zero k = absurd k
    by (suc n) k = k.1

pub adjoin_alike : (r : Kin) (p : Bool) (t u : Token) (ts us : List Token) → Like r p (t ∷ ts) (u ∷ us) → is kind.Greater t ≡ true → adjoins_next t ts ≡ adjoins_next u us
adjoin_alike r p t u ts us a = by a.steps a.alike
  where
    by : (n : ℕ) → Alike r.moves r.freedom n p (t ∷ ts) (u ∷ us) → is kind.Greater t ≡ true → adjoins_next t ts ≡ adjoins_next u us
    by zero k = absurd k
    by (suc n) k = k.2

pub behind_group : (r : Kin) (p : Bool) (t u : Token) (ts us : List Token) → Like r p (t ∷ ts) (u ∷ us) → Like r (is kind.OpenParenthesis t) (drop (past t) ts) (drop (past u) us)
behind_group r p t u ts us a = by a.steps a.alike
  where
    by : (n : ℕ) → Alike r.moves r.freedom n p (t ∷ ts) (u ∷ us) → Like r (is kind.OpenParenthesis t) (drop (past t) ts) (drop (past u) us)
    by zero k = absurd k
    by (suc n) k = record { steps = n; alike = k.3 }

pub held_in : (r : Kin) (p : Bool) (t u : Token) (ts us : List Token) → Like r p (t ∷ ts) (u ∷ us) → opens_body r.freedom p t ≡ false →
    Like (record { moves = r.moves; freedom = in_group r.freedom t }) false (take t.width ts) (take u.width us)
held_in r p t u ts us a e = by a.steps a.alike
  where
    by : (n : ℕ) → Alike r.moves r.freedom n p (t ∷ ts) (u ∷ us) → Like (record { moves = r.moves; freedom = in_group r.freedom t }) false (take t.width ts) (take u.width us)
    by zero k = absurd k
    by (suc n) k = record { steps = n; alike = k.4 e }

pub behind_token : (r : Kin) (p : Bool) (t u : Token) (ts us : List Token) → Like r p (t ∷ ts) (u ∷ us) → opens_group t ≡ false → Like r false ts us
behind_token r p t u ts us a e = by a.steps a.alike
  where
    by : (n : ℕ) → Alike r.moves r.freedom n p (t ∷ ts) (u ∷ us) → Like r false ts us
    by zero k = absurd k
    by (suc n) k = record { steps = n; alike = k.5 e }

pub no_function : (r : Kin) (p : Bool) (t u : Token) (ts us : List Token) → Like r p (t ∷ ts) (u ∷ us) → is_plain r.freedom ≡ true → is kind.Function t ≡ false
no_function r p t u ts us a e = by a.steps a.alike
  where
    by : (n : ℕ) → Alike r.moves r.freedom n p (t ∷ ts) (u ∷ us) → is kind.Function t ≡ false
    by zero k = absurd k
    by (suc n) k = k.6 e

pub one_empty : {A : Type 0} (r : Kin) (p : Bool) (u : Token) (us : List Token) → Like r p [] (u ∷ us) → A
one_empty r p u us a = by a.steps a.alike
  where
    by : {A : Type 0} (n : ℕ) → Alike r.moves r.freedom n p [] (u ∷ us) → A
    by zero k = absurd k
    by (suc n) k = absurd k

pub other_empty : {A : Type 0} (r : Kin) (p : Bool) (t : Token) (ts : List Token) → Like r p (t ∷ ts) [] → A
other_empty r p t ts a = by a.steps a.alike
  where
    by : {A : Type 0} (n : ℕ) → Alike r.moves r.freedom n p (t ∷ ts) [] → A
    by zero k = absurd k
    by (suc n) k = absurd k

pub both_empty : (r : Kin) (p : Bool) → Like r p [] []
both_empty r p = record { steps = 0; alike = tt }

-- What stands before a list.

pub and_none : (a b : Bool) → b ≡ false → (a && b) ≡ false
and_none true b e = e
and_none false b e = refl

abbrev Beginnings : (m : Moves) (d : Freedom) (n : ℕ) (p q : Bool) (ts us : List Token) → Type 0
Beginnings m d n p q ts us = ((t : Token) → opens_body d q t ≡ false → opens_body d p t ≡ false) → Alike m d n p ts us → Alike m d n q ts us

begins_so : (m : Moves) (d : Freedom) (n : ℕ) (p q : Bool) (ts us : List Token) → Beginnings m d n p q ts us
begins_so m d zero p q [] [] f a = tt
begins_so m d zero p q [] (u ∷ us) f a = absurd a
begins_so m d zero p q (t ∷ ts) us f a = absurd a
begins_so m d (suc n) p q [] [] f a = tt
begins_so m d (suc n) p q [] (u ∷ us) f a = absurd a
begins_so m d (suc n) p q (t ∷ ts) [] f a = absurd a
begins_so m d (suc n) p q (t ∷ ts) (u ∷ us) f a = (a.0, a.1, a.2, a.3, (λ e. a.4 (f t e)), a.5, a.6)

-- a list that begins with no body may stand anywhere
pub anywhere : (r : Kin) (p : Bool) (ts us : List Token) → Like r false ts us → Like r p ts us
anywhere r p ts us a = record { steps = a.steps; alike = begins_so r.moves r.freedom a.steps false p ts us (λ t e. refl) a.alike }

pub behind_any : (r : Kin) (p : Bool) (ts us : List Token) → Like r p ts us → Like r true ts us
behind_any r true ts us a = a
behind_any r false ts us a = anywhere r true ts us a

-- where no body differs, it doesn't matter what stands before a list
pub calmed : (r : Kin) → is_free r.freedom ≡ false → (p q : Bool) (ts us : List Token) → Like r p ts us → Like r q ts us
calmed r e p q ts us a = record { steps = a.steps; alike = begins_so r.moves r.freedom a.steps p q ts us (λ t f. and_none p (is_free r.freedom && is kind.OpenBrace t) (ap (λ (b : Bool). b && is kind.OpenBrace t) e)) a.alike }

-- What was read.

abbrev pub Spans : Moves → Span → Span → Type 0
Spans m a b = (b.start ≡ m.starts a.start) × (b.end ≡ m.ends a.end)

-- what was read of the one list and of the other stands alike; or nothing was, where that may be
abbrev pub Stand : (m : Moves) → (some : Bool) → List Token → List Token → Type 0
Stand m true [] [] = ⊥
Stand m false [] [] = Unit {0}
Stand m some [] (u ∷ us) = ⊥
Stand m some (t ∷ ts) [] = ⊥
Stand m some (t ∷ ts) (u ∷ us) = Spans m (span_over (t ∷ ts)) (span_over (u ∷ us))

-- whether a body may come next behind what was read
abbrev pub state : (clear p : Bool) → List Token → Bool
state clear p [] = p
state clear p (t ∷ ts) = not clear

-- A reading went on from two lists to two others.
pub record Went (r : Kin) (some clear p : Bool) (ts us x y : List Token) : Type 0 where
  pub read : List Token
  pub other : List Token
  pub left : ts ≡ read ++ x
  pub right : us ≡ other ++ y
  pub stand : Stand r.moves some read other
  pub like : Like r (state clear p read) x y

last_behind : (t u : Token) (us : List Token) → last_end (t ∷ u ∷ us) ≡ last_end (u ∷ us)
last_behind t u us =
    ap (λ (n : ℕ). option_map_or (λ t. t.end) (slice_get (t ∷ u ∷ us) n) 0) (more (length us))
    ∙ sym (ap (λ (n : ℕ). option_map_or (λ t. t.end) (slice_get (u ∷ us) n) 0) (less (length us))) where
      more : (k : ℕ) → suc (suc k) - 1 ≡ suc k
      more k = omega arith

      less : (k : ℕ) → suc k - 1 ≡ k
      less k = omega arith

last_append : (xs : List Token) (t : Token) (ts : List Token) → last_end (xs ++ t ∷ ts) ≡ last_end (t ∷ ts)
last_append [] t ts = refl
last_append (x ∷ []) t ts = last_behind x t ts
last_append (x ∷ (y ∷ xs)) t ts = last_behind x y (xs ++ t ∷ ts) ∙ last_append (y ∷ xs) t ts

stand_both : (m : Moves) (a b : Bool) (xs vs ys ws : List Token) → Stand m a xs vs → Stand m b ys ws → Stand m (a || b) (xs ++ ys) (vs ++ ws)
stand_both m true b [] [] ys ws h k = absurd h
stand_both m false b [] [] ys ws h k = k
stand_both m a b [] (v ∷ vs) ys ws h k = absurd h
stand_both m a b (x ∷ xs) [] ys ws h k = absurd h
stand_both m a b (x ∷ xs) (v ∷ vs) [] (w ∷ ws) h k = absurd k
stand_both m a b (x ∷ xs) (v ∷ vs) (y ∷ ys) [] h k = absurd k
stand_both m a b (x ∷ xs) (v ∷ vs) [] [] h k = (h.0, rw (append-nil xs, append-nil vs) h.1)
stand_both m a b (x ∷ xs) (v ∷ vs) (y ∷ ys) (w ∷ ws) h k = (h.0, last_append (v ∷ vs) w ws ∙ k.1 ∙ ap (λ (e : ℕ). m.ends e) (sym (last_append (x ∷ xs) y ys)))

-- less is known of what comes next
less_clear : (r : Kin) (c d : Bool) (ts us : List Token) → Like r (not c) ts us → Like r (not (c && d)) ts us
less_clear r true true ts us l = l
less_clear r true false ts us l = anywhere r true ts us l
less_clear r false d ts us l = l

less_clear_too : (r : Kin) (d c : Bool) (ts us : List Token) → Like r (not c) ts us → Like r (not (d && c)) ts us
less_clear_too r true c ts us l = l
less_clear_too r false c ts us l = behind_any r (not c) ts us l

-- behind two readings
state_both : (r : Kin) (a c b d p : Bool) (xs vs ys ws x y : List Token) → Stand r.moves a xs vs → Stand r.moves b ys ws → Like r (state d (state c p xs) ys) x y → Like r (state (d && (b || c)) p (xs ++ ys)) x y
state_both r a c b d p [] vs [] ws s t h k l = l
state_both r a c b d p [] vs (y ∷ ys) ws s t h k l = less_clear r d (b || c) s t l
state_both r a c b d p (x ∷ xs) vs (y ∷ ys) ws s t h k l = less_clear r d (b || c) s t l
state_both r a c true d p (x ∷ xs) vs [] [] s t h k l = absurd k
state_both r a c b d p (x ∷ xs) vs [] (w ∷ ws) s t h k l = absurd k
state_both r a c false d p (x ∷ xs) vs [] [] s t h k l = less_clear_too r d c s t l

pub went_both : (r : Kin) (a c b d p : Bool) (ts us x y v w : List Token) → (f : Went r a c p ts us x y) → Went r b d (state c p f.read) x y v w → Went r (a || b) (d && (b || c)) p ts us v w
went_both r a c b d p ts us x y v w f g = record {
  read = f.read ++ g.read;
  other = f.other ++ g.other;
  left = f.left ∙ ap (λ (zs : List Token). f.read ++ zs) g.left ∙ sym (append_assoc f.read g.read v);
  right = f.right ∙ ap (λ (zs : List Token). f.other ++ zs) g.right ∙ sym (append_assoc f.other g.other w);
  stand = stand_both r.moves a b f.read f.other g.read g.other f.stand g.stand;
  like = state_both r a c b d p f.read f.other g.read g.other v w f.stand g.stand g.like;
}

-- nothing was read
pub went_nowhere : (r : Kin) (c p : Bool) (ts us : List Token) → Like r p ts us → Went r false c p ts us ts us
went_nowhere r c p ts us a = record { read = []; other = []; left = refl; right = refl; stand = tt; like = a }

-- less is said
pub weak_stand : (m : Moves) (a : Bool) (xs vs : List Token) → Stand m a xs vs → Stand m false xs vs
weak_stand m a [] [] h = tt
weak_stand m a [] (v ∷ vs) h = absurd h
weak_stand m a (x ∷ xs) [] h = absurd h
weak_stand m a (x ∷ xs) (v ∷ vs) h = h

and_stand : (m : Moves) (a b : Bool) (xs vs : List Token) → Stand m a xs vs → Stand m (a && b) xs vs
and_stand m true true xs vs h = h
and_stand m true false xs vs h = weak_stand m true xs vs h
and_stand m false b xs vs h = h

and_state : (r : Kin) (c d p : Bool) (xs x y : List Token) → Like r (state c p xs) x y → Like r (state (c && d) p xs) x y
and_state r c d p [] x y l = l
and_state r true true p (t ∷ xs) x y l = l
and_state r true false p (t ∷ xs) x y l = anywhere r true x y l
and_state r false d p (t ∷ xs) x y l = l

pub went_and : (r : Kin) (a c b d p : Bool) (ts us x y : List Token) → Went r a c p ts us x y → Went r (a && b) (c && d) p ts us x y
went_and r a c b d p ts us x y f = record { read = f.read; other = f.other; left = f.left; right = f.right; stand = and_stand r.moves a b f.read f.other f.stand; like = and_state r c d p f.read x y f.like }

-- How many tokens are left.

pub some_fewer : (r : Kin) (c p : Bool) (ts us x y : List Token) → Went r true c p ts us x y → (length x < length ts) × (length y < length us)
some_fewer r c p ts us x y f = by f.read f.other f.stand (ap (λ (zs : List Token). length zs) f.left ∙ length-append f.read x) (ap (λ (zs : List Token). length zs) f.right ∙ length-append f.other y)
  where
    by : (xs vs : List Token) → Stand r.moves true xs vs → length ts ≡ length xs + length x → length us ≡ length vs + length y → (length x < length ts) × (length y < length us)
    by [] [] h e d = absurd h
    by [] (v ∷ vs) h e d = absurd h
    by (z ∷ xs) [] h e d = absurd h
    by (z ∷ xs) (v ∷ vs) h e d = (omega (arith, e), omega (arith, d))

-- what was read of a list
pub read_is : (ts read x : List Token) → ts ≡ read ++ x → tokens_read ts x ≡ read
read_is ts read x e =
    let many : length ts - length x ≡ length read = omega (arith, ap (λ (zs : List Token). length zs) e, length-append read x) in
    ap (λ (n : ℕ). take n ts) many ∙ ap (λ (zs : List Token). take (length read) zs) e ∙ take-append_seam read x

-- Values.

abbrev pub Both : {A B : Type 0} → (A → B → Type 0) → Option A → Option B → Type 0
Both R None None = Unit {0}
Both R None (Some b) = ⊥
Both R (Some a) None = ⊥
Both R (Some a) (Some b) = R a b

abbrev pub Pair : {A B : Type 0} → (A → A → Type 0) → (B → B → Type 0) → A × B → A × B → Type 0
Pair R S x y = R x.0 y.0 × S x.1 y.1

abbrev pub Alls : {A : Type 0} → (A → A → Type 0) → List A → List A → Type 0
Alls R [] [] = Unit {0}
Alls R [] (y ∷ ys) = ⊥
Alls R (x ∷ xs) [] = ⊥
Alls R (x ∷ xs) (y ∷ ys) = R x y × Alls R xs ys

-- the values are related, and what is left is alike
abbrev pub Found : {A : Type 0} → Kin → (some clear p : Bool) → (A → A → Type 0) → (ts us : List Token) → Reading Token A → Reading Token A → Type 0
Found r some clear p R ts us x y = R x.0 y.0 × Went r some clear p ts us x.1 y.1

-- A descent finds related values in lists that are alike, such as begin with no body where it needs that. It reads some token, or may read none, and no body comes next behind what it read, or one may.
pub record Follows {A : Type 0} (r : Kin) (needs some clear : Bool) (R : A → A → Type 0) (g : Descent Token A) : Type 0 where
  pub each : (p : Bool) → (needs && p) ≡ false → (ts us : List Token) → Like r p ts us → Both (Found r some clear p R ts us) (g ts) (g us)

-- a test doesn't see where tokens stand
abbrev pub Blind : Kin → Test Token → Type 0
Blind r c = (p : Bool) (ts us : List Token) → Like r p ts us → c ts ≡ c us

-- nor does one of a token, which no token passes that opens a group
pub record Marks (m : Moves) (f : Token → Bool) : Type 0 where
  pub blind : (t u : Token) → Twins m t u → f t ≡ f u
  pub parenthesis : (t : Token) → t.kind ≡ kind.OpenParenthesis → f t ≡ false
  pub bracket : (t : Token) → t.kind ≡ kind.OpenBracket → f t ≡ false
  pub question : (t : Token) → t.kind ≡ kind.QuestionBracket → f t ≡ false
  pub brace : (t : Token) → t.kind ≡ kind.OpenBrace → f t ≡ false
  pub interpolation : (t : Token) → t.kind ≡ kind.InterpolationOpening → f t ≡ false

pub bound : {A B : Type 0} (P : Reading Token A → Reading Token A → Type 0) (Q : Reading Token B → Reading Token B → Type 0) (f h : Reading Token A → Option (Reading Token B)) (o p : Option (Reading Token A)) → Both P o p →
    ((x y : Reading Token A) → P x y → Both Q (f x) (h y)) → Both Q (bind o f) (bind p h)
bound P Q f h None None b k = tt
bound P Q f h None (Some y) b k = absurd b
bound P Q f h (Some x) None b k = absurd b
bound P Q f h (Some x) (Some y) b k = k x y b

pub if_found : {A : Type 0} (P : A → A → Type 0) (b c : Bool) (o p q s : Option A) → b ≡ c → Both P o q → Both P p s → Both P (if b then o else p) (if c then q else s)
if_found P true true o p q s e h k = h
if_found P true false o p q s e h k = absurd (cc)
if_found P false true o p q s e h k = absurd (cc)
if_found P false false o p q s e h k = k

-- where the test is passed that is known
pub if_known : {A : Type 0} (P : A → A → Type 0) (b c : Bool) (o p q s : Option A) → b ≡ c → (b ≡ true → Both P o q) → Both P p s → Both P (if b then o else p) (if c then q else s)
if_known P true true o p q s e h k = h refl
if_known P true false o p q s e h k = absurd (cc)
if_known P false true o p q s e h k = absurd (cc)
if_known P false false o p q s e h k = k

pub both_more : {A B : Type 0} (P Q : A → B → Type 0) (o : Option A) (p : Option B) → ((x : A) (y : B) → P x y → Q x y) → Both P o p → Both Q o p
both_more P Q None None f b = tt
both_more P Q None (Some y) f b = absurd b
both_more P Q (Some x) None f b = absurd b
both_more P Q (Some x) (Some y) f b = f x y b

-- Tokens.

not_kind : (k : Kind) (f : Token → Bool) (t : Token) → ((u : Token) → u.kind ≡ k → f u ≡ false) → f t ≡ true → is k t ≡ false
not_kind k f t h e = by (is k t) refl
  where
    by : (b : Bool) → is k t ≡ b → b ≡ false
    by true d = absurd (let none : f t ≡ false = h t (same_true kinds.the_type tt t.kind k d) in cc)
    by false d = refl

pub no_body : (d : Freedom) (p : Bool) (t : Token) → is kind.OpenBrace t ≡ false → opens_body d p t ≡ false
no_body d p t e = and_none p (is_free d && is kind.OpenBrace t) (and_none (is_free d) (is kind.OpenBrace t) e)

-- behind a token that passes
pub behind_mark : (r : Kin) (p : Bool) (f : Token → Bool) → Marks r.moves f → (t u : Token) (ts us : List Token) → f t ≡ true → Like r p (t ∷ ts) (u ∷ us) → Like r false ts us
behind_mark r p f m t u ts us e a =
    behind_token r p t u ts us a
    (rw (not_kind kind.OpenParenthesis f t m.parenthesis e, not_kind kind.OpenBracket f t m.bracket e, not_kind kind.QuestionBracket f t m.question e, not_kind kind.OpenBrace f t m.brace e, not_kind kind.InterpolationOpening f t m.interpolation e) refl)

pub went_token : (r : Kin) (p : Bool) (f : Token → Bool) → Marks r.moves f → (t u : Token) (ts us : List Token) → f t ≡ true → Like r p (t ∷ ts) (u ∷ us) → Went r true true p (t ∷ ts) (u ∷ us) ts us
went_token r p f m t u ts us e a =
    let w = first_twins r p t u ts us a in
    record { read = t ∷ []; other = u ∷ []; left = refl; right = refl; stand = (w.start, w.end); like = behind_mark r p f m t u ts us e a }

pub follows_token : (r : Kin) (f : Token → Bool) → Marks r.moves f → Follows r false true true (Twins r.moves) (take_token f)
follows_token r f m = record { each = follow }
  where
    follow : (p : Bool) → (false && p) ≡ false → (ts us : List Token) → Like r p ts us → Both (Found r true true p (Twins r.moves) ts us) (take_token f ts) (take_token f us)
    follow p c [] [] a = tt
    follow p c [] (u ∷ us) a = one_empty r p u us a
    follow p c (t ∷ ts) [] a = other_empty r p t ts a
    follow p c (t ∷ ts) (u ∷ us) a =
        let w = first_twins r p t u ts us a in
        if_known (Found r true true p (Twins r.moves) (t ∷ ts) (u ∷ us)) (f t) (f u) (Some (t, ts)) None (Some (u, us)) None (m.blind t u w) (λ e. (w, went_token r p f m t u ts us e a)) tt

pub follows_given : {A : Type 0} (r : Kin) (R : A → A → Type 0) (a : A) → R a a → Follows r false false true R (take_given a)
follows_given r R a h = record { each = λ p c ts us s. (h, went_nowhere r true p ts us s) }

pub follows_none : {A : Type 0} (r : Kin) (needs some clear : Bool) (R : A → A → Type 0) → Follows r needs some clear R (λ ts. None)
follows_none r needs some clear R = record { each = λ p c ts us s. tt }

-- Sequences.

or_false : (a : Bool) → (a || false) ≡ a
or_false true = refl
or_false false = refl

-- one behind the other, of which the second needs nothing of what comes before
pub follows_seq : {A B : Type 0} {r : Kin} {n s c t d : Bool} {R : A → A → Type 0} {S : B → B → Type 0} {g : Descent Token A} {h : Descent Token B} → Follows r n s c R g → Follows r false t d S h →
    Follows r n (s || t) (d && (t || c)) (Pair R S) (g ▸ h)
follows_seq {r = r} {n = n} {s = s} {c = c} {t = t} {d = d} {R = R} {S = S} {g = g} {h = h} a b = record {
  each = λ p q ts us k.
      bound (Found r s c p R ts us) (Found r (s || t) (d && (t || c)) p (Pair R S) ts us) (λ x. bind (h x.1) (λ y. Some (behind x.0 y))) (λ x. bind (h x.1) (λ y. Some (behind x.0 y))) (g ts) (g us) (a.each p q ts us k)
      (λ x y f. bound (Found r t d (state c p f.1.read) S x.1 y.1) (Found r (s || t) (d && (t || c)) p (Pair R S) ts us) (λ z. Some (behind x.0 z)) (λ z. Some (behind y.0 z)) (h x.1) (h y.1) (b.each (state c p f.1.read) refl x.1 y.1 f.1.like)
      (λ z w e. ((f.0, e.0), went_both r s c t d p ts us x.1 y.1 z.1 w.1 f.1 e.1)));
}

pub clear_behind : (n s p : Bool) (m : Moves) (xs vs : List Token) → Stand m s xs vs → ((n || not s) && p) ≡ false → (true && state true p xs) ≡ false
clear_behind n true p m [] [] h e = absurd h
clear_behind true false p m [] [] h e = e
clear_behind false false p m [] [] h e = e
clear_behind n s p m [] (v ∷ vs) h e = absurd h
clear_behind n s p m (x ∷ xs) vs h e = refl

any_behind : (p : Bool) (m : Moves) (xs vs : List Token) → Stand m true xs vs → state false p xs ≡ true
any_behind p m [] [] h = absurd h
any_behind p m [] (v ∷ vs) h = absurd h
any_behind p m (x ∷ xs) vs h = refl

-- behind a reading behind which a body may come next
pub went_after : (r : Kin) (b d p : Bool) (ts us x y v w : List Token) → Went r true false p ts us x y → Went r b d true x y v w → Went r true (d && (b || false)) p ts us v w
went_after r b d p ts us x y v w f g =
    let e : state false p f.read ≡ true = any_behind p r.moves f.read f.other f.stand in
    went_both r true false b d p ts us x y v w f (subst (λ (q : Bool). Went r b d q x y v w) (sym e) g)

-- behind a reading behind which no body comes next
pub went_on : (r : Kin) (b d p : Bool) (ts us x y v w : List Token) → Went r true true p ts us x y → Went r b d false x y v w → Went r true (d && (b || true)) p ts us v w
went_on r b d p ts us x y v w f g =
    let e : state true p f.read ≡ false = clear_behind false true p r.moves f.read f.other f.stand refl in
    went_both r true true b d p ts us x y v w f (subst (λ (q : Bool). Went r b d q x y v w) (sym e) g)

pub needs_first : (n s p : Bool) → ((n || not s) && p) ≡ false → (n && p) ≡ false
needs_first true s p e = e
needs_first false s p e = refl

-- so where the second may begin with no body, and none comes next behind the first
pub follows_then : {A B : Type 0} {r : Kin} {n s t d : Bool} {R : A → A → Type 0} {S : B → B → Type 0} {g : Descent Token A} {h : Descent Token B} → Follows r n s true R g → Follows r true t d S h →
    Follows r (n || not s) (s || t) (d && (t || true)) (Pair R S) (g ▸ h)
follows_then {r = r} {n = n} {s = s} {t = t} {d = d} {R = R} {S = S} {g = g} {h = h} a b = record {
  each = λ p q ts us k.
      bound (Found r s true p R ts us) (Found r (s || t) (d && (t || true)) p (Pair R S) ts us) (λ x. bind (h x.1) (λ y. Some (behind x.0 y))) (λ x. bind (h x.1) (λ y. Some (behind x.0 y))) (g ts) (g us) (a.each p (needs_first n s p q) ts us k)
      (λ x y f. bound (Found r t d (state true p f.1.read) S x.1 y.1) (Found r (s || t) (d && (t || true)) p (Pair R S) ts us) (λ z. Some (behind x.0 z)) (λ z. Some (behind y.0 z)) (h x.1) (h y.1)
      (b.each (state true p f.1.read) (clear_behind n s p r.moves f.1.read f.1.other f.1.stand q) x.1 y.1 f.1.like) (λ z w e. ((f.0, e.0), went_both r s true t d p ts us x.1 y.1 z.1 w.1 f.1 e.1)));
}

-- what is made of a reading, by where it stands
pub follows_make : {A B : Type 0} {r : Kin} {n s c : Bool} {R : A → A → Type 0} {g : Descent Token A} (S : B → B → Type 0) (of : List Token → A → B) → Follows r n s c R g →
    ((read other : List Token) (x y : A) → Stand r.moves s read other → R x y → S (of read x) (of other y)) → Follows r n s c S (take_make of g)
follows_make {r = r} {n = n} {s = s} {c = c} {R = R} {g = g} S of a h = record {
  each = λ p q ts us k.
      bound (Found r s c p R ts us) (Found r s c p S ts us) (λ x. Some (made of ts x)) (λ x. Some (made of us x)) (g ts) (g us) (a.each p q ts us k)
      (λ x y f. (rw (read_is ts f.1.read x.1 f.1.left, read_is us f.1.other y.1 f.1.right) (h f.1.read f.1.other x.0 y.0 f.1.stand f.0), f.1));
}

pub follows_turn : {A B : Type 0} {r : Kin} {n s c : Bool} {R : A → A → Type 0} {g : Descent Token A} (S : B → B → Type 0) (of : A → B) → Follows r n s c R g → ((x y : A) → R x y → S (of x) (of y)) → Follows r n s c S (take_turn of g)
follows_turn S of a h = follows_make S (λ read x. of x) a (λ read other x y q p. h x y p)

-- Choices.

pub needs_left : (a b p : Bool) → ((a || b) && p) ≡ false → (a && p) ≡ false
needs_left true b p e = e
needs_left false b p e = refl

pub needs_right : (a b p : Bool) → ((a || b) && p) ≡ false → (b && p) ≡ false
needs_right true true p e = e
needs_right true false p e = refl
needs_right false b p e = e

and_turned : (a b : Bool) → (b && a) ≡ (a && b)
and_turned true true = refl
and_turned true false = refl
and_turned false true = refl
and_turned false false = refl

pub found_left : {A : Type 0} (r : Kin) (s c t d p : Bool) (R : A → A → Type 0) (ts us : List Token) (x y : Reading Token A) → Found r s c p R ts us x y → Found r (s && t) (c && d) p R ts us x y
found_left r s c t d p R ts us x y f = (f.0, went_and r s c t d p ts us x.1 y.1 f.1)

pub found_right : {A : Type 0} (r : Kin) (s c t d p : Bool) (R : A → A → Type 0) (ts us : List Token) (x y : Reading Token A) → Found r t d p R ts us x y → Found r (s && t) (c && d) p R ts us x y
found_right r s c t d p R ts us x y f =
    subst (λ (a : Bool). Found r a (c && d) p R ts us x y) (and_turned s t) (subst (λ (b : Bool). Found r (t && s) b p R ts us x y) (and_turned c d) (f.0, went_and r t d s c p ts us x.1 y.1 f.1))

pub or_found : {A : Type 0} (P : Reading Token A → Reading Token A → Type 0) (o p q s : Option (Reading Token A)) → Both P o q → Both P p s → Both P (or_else o p) (or_else q s)
or_found P None p None s h k = k
or_found P None p (Some y) s h k = absurd h
or_found P (Some x) p None s h k = absurd h
or_found P (Some x) p (Some y) s h k = h

pub follows_or : {A : Type 0} {r : Kin} {n s c m t d : Bool} {R : A → A → Type 0} {g h : Descent Token A} → Follows r n s c R g → Follows r m t d R h → Follows r (n || m) (s && t) (c && d) R (g ⊘ h)
follows_or {r = r} {n = n} {s = s} {c = c} {m = m} {t = t} {d = d} {R = R} {g = g} {h = h} a b = record {
  each = λ p q ts us k.
      or_found (Found r (s && t) (c && d) p R ts us) (g ts) (h ts) (g us) (h us)
      (both_more (Found r s c p R ts us) (Found r (s && t) (c && d) p R ts us) (g ts) (g us) (λ x y f. found_left r s c t d p R ts us x y f) (a.each p (needs_left n m p q) ts us k))
      (both_more (Found r t d p R ts us) (Found r (s && t) (c && d) p R ts us) (h ts) (h us) (λ x y f. found_right r s c t d p R ts us x y f) (b.each p (needs_right n m p q) ts us k));
}

pub follows_where : {A : Type 0} {r : Kin} {n s c m t d : Bool} {R : A → A → Type 0} {g h : Descent Token A} (test : Test Token) → Blind r test → Follows r n s c R g → Follows r m t d R h →
    Follows r (n || m) (s && t) (c && d) R (take_where test g h)
follows_where {r = r} {n = n} {s = s} {c = c} {m = m} {t = t} {d = d} {R = R} {g = g} {h = h} test blind a b = record {
  each = λ p q ts us k.
      if_found (Found r (s && t) (c && d) p R ts us) (test ts) (test us) (g ts) (h ts) (g us) (h us) (blind p ts us k)
      (both_more (Found r s c p R ts us) (Found r (s && t) (c && d) p R ts us) (g ts) (g us) (λ x y f. found_left r s c t d p R ts us x y f) (a.each p (needs_left n m p q) ts us k))
      (both_more (Found r t d p R ts us) (Found r (s && t) (c && d) p R ts us) (h ts) (h us) (λ x y f. found_right r s c t d p R ts us x y f) (b.each p (needs_right n m p q) ts us k));
}

-- less is said of a descent
pub follows_less : {A : Type 0} {r : Kin} {n s c : Bool} {R : A → A → Type 0} {g : Descent Token A} (m t d : Bool) → Follows r n s c R g → Follows r (n || m) (s && t) (c && d) R g
follows_less {r = r} {n = n} {s = s} {c = c} {R = R} {g = g} m t d a = record {
  each = λ p q ts us k.
      both_more (Found r s c p R ts us) (Found r (s && t) (c && d) p R ts us) (g ts) (g us) (λ x y f. found_left r s c t d p R ts us x y f) (a.each p (needs_left n m p q) ts us k);
}

-- related otherwise
pub follows_related : {A : Type 0} {r : Kin} {n s c : Bool} {R : A → A → Type 0} {g : Descent Token A} (S : A → A → Type 0) → ((x y : A) → R x y → S x y) → Follows r n s c R g → Follows r n s c S g
follows_related {r = r} {n = n} {s = s} {c = c} {R = R} {g = g} S f a = record {
  each = λ p q ts us k. both_more (Found r s c p R ts us) (Found r s c p S ts us) (g ts) (g us) (λ x y e. (f x.0 y.0 e.0, e.1)) (a.each p q ts us k);
}

-- where no body differs, none need be feared
pub follows_calm : {A : Type 0} {r : Kin} {n s c : Bool} {R : A → A → Type 0} {g : Descent Token A} → is_free r.freedom ≡ false → Follows r n s c R g → Follows r false s false R g
follows_calm {r = r} {n = n} {s = s} {c = c} {R = R} {g = g} e a = record {
  each = λ p q ts us k.
      both_more (Found r s c false R ts us) (Found r s false p R ts us) (g ts) (g us)
      (λ x y f. (f.0, record { read = f.1.read; other = f.1.other; left = f.1.left; right = f.1.right; stand = f.1.stand; like = calmed r e (state c false f.1.read) (state false p f.1.read) x.1 y.1 f.1.like }))
      (a.each false (and_none n false refl) ts us (calmed r e p false ts us k));
}

pub follows_maybe : {A : Type 0} {r : Kin} {n s c : Bool} {R : A → A → Type 0} {g : Descent Token A} → Follows r n s c R g → Follows r (n || false) (s && false) (c && true) (Both R) (take_maybe g)
follows_maybe {r = r} {R = R} a = follows_or (follows_turn (Both R) (λ a. Some a) a (λ x y p. p)) (follows_given r (Both R) None tt)

-- Repeats. What reads some token each time may be given as many tries as there are tokens, or more.

-- two numbers of tries do for two lists: they are the same, or neither is less than the tokens of its list
abbrev pub Tries : (n m : ℕ) (ts us : List Token) → Type 0
Tries n m ts us = (n ≡ m) ⊎ ((length ts ≤ n) × (length us ≤ m))

pub fewer_tries : (n m : ℕ) (ts us x y : List Token) → Tries (suc n) (suc m) ts us → length x < length ts → length y < length us → Tries n m x y
fewer_tries n m ts us x y (inl e) l k = inl (omega (arith, e))
fewer_tries n m ts us x y (inr e) l k = inr (omega (arith, e.0, l), omega (arith, e.1, k))

-- without tries on one side alone there are no tokens
pub no_left : {A : Type 0} (r : Kin) (p : Bool) (m : ℕ) (ts us : List Token) → Tries 0 (suc m) ts us → Like r p ts us → (ts ≡ [] → us ≡ [] → A) → A
no_left r p m ts us (inl e) a f = absurd (omega (arith, e))
no_left r p m [] [] (inr e) a f = f refl refl
no_left r p m [] (u ∷ us) (inr e) a f = one_empty r p u us a
no_left r p m (t ∷ ts) us (inr e) a f = absurd (omega (arith, e.0))

pub no_right : {A : Type 0} (r : Kin) (p : Bool) (n : ℕ) (ts us : List Token) → Tries (suc n) 0 ts us → Like r p ts us → (ts ≡ [] → us ≡ [] → A) → A
no_right r p n ts us (inl e) a f = absurd (omega (arith, e))
no_right r p n [] [] (inr e) a f = f refl refl
no_right r p n (t ∷ ts) [] (inr e) a f = other_empty r p t ts a
no_right r p n ts (u ∷ us) (inr e) a f = absurd (omega (arith, e.1))

-- of no tokens nothing is read by what reads some
pub nothing_found : {A : Type 0} {r : Kin} {n c : Bool} {R : A → A → Type 0} (g : Descent Token A) → Follows r n true c R g → g [] ≡ None
nothing_found {A = A} {r = r} {n = n} {c = c} {R = R} g a = by (g []) (a.each false (and_none n false refl) [] [] (both_empty r false))
  where
    by : (o : Option (Reading Token A)) → Both (Found r true c false R [] []) o o → o ≡ None
    by None f = refl
    by (Some x) f = absurd (omega (arith, (some_fewer r c false [] [] x.1 x.1 f.1).0))

pub seq_meets : {A B : Type 0} (r : Kin) (s c t d p : Bool) (R : A → A → Type 0) (S : B → B → Type 0) (g h : Descent Token A) (k l : Descent Token B) (ts us : List Token) → Both (Found r s c p R ts us) (g ts) (h us) →
    ((x y : Reading Token A) → (f : Found r s c p R ts us x y) → Both (Found r t d (state c p f.1.read) S x.1 y.1) (k x.1) (l y.1)) → Both (Found r (s || t) (d && (t || c)) p (Pair R S) ts us) ((g ▸ k) ts) ((h ▸ l) us)
seq_meets r s c t d p R S g h k l ts us a b =
    bound (Found r s c p R ts us) (Found r (s || t) (d && (t || c)) p (Pair R S) ts us) (λ x. bind (k x.1) (λ y. Some (behind x.0 y))) (λ x. bind (l x.1) (λ y. Some (behind x.0 y))) (g ts) (h us) a
    (λ x y f. bound (Found r t d (state c p f.1.read) S x.1 y.1) (Found r (s || t) (d && (t || c)) p (Pair R S) ts us) (λ z. Some (behind x.0 z)) (λ z. Some (behind y.0 z)) (k x.1) (l y.1) (b x y f)
    (λ z w e. ((f.0, e.0), went_both r s c t d p ts us x.1 y.1 z.1 w.1 f.1 e.1)))

pub turn_meets : {A B : Type 0} (r : Kin) (s c p : Bool) (R : A → A → Type 0) (S : B → B → Type 0) (of : A → B) (g h : Descent Token A) (ts us : List Token) → ((x y : A) → R x y → S (of x) (of y)) → Both (Found r s c p R ts us) (g ts) (h us) →
    Both (Found r s c p S ts us) (take_turn of g ts) (take_turn of h us)
turn_meets r s c p R S of g h ts us k a =
    bound (Found r s c p R ts us) (Found r s c p S ts us) (λ x. Some (made (λ read a. of a) ts x)) (λ x. Some (made (λ read a. of a) us x)) (g ts) (h us) a (λ x y f. (k x.0 y.0 f.0, f.1))

-- less is said of what was read
pub loose_state : (r : Kin) (c p : Bool) (xs x y : List Token) → Like r (state c p xs) x y → Like r (state false p xs) x y
loose_state r c p [] x y l = l
loose_state r c p (t ∷ xs) x y l = behind_any r (not c) x y l

pub went_loose : (r : Kin) (s c p : Bool) (ts us x y : List Token) → Went r s c p ts us x y → Went r s false p ts us x y
went_loose r s c p ts us x y f = record { read = f.read; other = f.other; left = f.left; right = f.right; stand = f.stand; like = loose_state r c p f.read x y f.like }

pub went_weak : (r : Kin) (s c p : Bool) (ts us x y : List Token) → Went r s c p ts us x y → Went r false false p ts us x y
went_weak r s c p ts us x y f = record { read = f.read; other = f.other; left = f.left; right = f.right; stand = weak_stand r.moves s f.read f.other f.stand; like = loose_state r c p f.read x y f.like }

pub follows_loose : {A : Type 0} {r : Kin} {n s c : Bool} {R : A → A → Type 0} {g : Descent Token A} → Follows r n s c R g → Follows r n s false R g
follows_loose {r = r} {n = n} {s = s} {c = c} {R = R} {g = g} a = record {
  each = λ p q ts us k. both_more (Found r s c p R ts us) (Found r s false p R ts us) (g ts) (g us) (λ x y f. (f.0, went_loose r s c p ts us x.1 y.1 f.1)) (a.each p q ts us k);
}

pub no_more_than : (r : Kin) (s c p : Bool) (ts us x y : List Token) → Went r s c p ts us x y → (length x ≤ length ts) × (length y ≤ length us)
no_more_than r s c p ts us x y f =
    (omega (arith, ap (λ (zs : List Token). length zs) f.left, length-append f.read x), omega (arith, ap (λ (zs : List Token). length zs) f.right, length-append f.other y))

and_itself : (c : Bool) → (c && (false || c)) ≡ c
and_itself true = refl
and_itself false = refl

went_unsure : {c : Bool} (r : Kin) (p : Bool) (ts us x y : List Token) → Went r true c p ts us x y → Went r false c p ts us x y
went_unsure r p ts us x y f = record { read = f.read; other = f.other; left = f.left; right = f.right; stand = weak_stand r.moves true f.read f.other f.stand; like = f.like }

many_at : {A : Type 0} (r : Kin) (c : Bool) (R : A → A → Type 0) (g : Descent Token A) → Follows r false true c R g → (n m : ℕ) (p : Bool) (ts us : List Token) → Tries n m ts us → Like r p ts us →
    Both (Found r false c p (Alls R) ts us) (take_at_most n g ts) (take_at_most m g us)
many_at r c R g a zero zero p ts us t k = (tt, went_nowhere r c p ts us k)
many_at {A = A} r c R g a zero (suc m) p ts us t k = no_left r p m ts us t k (λ e d. rw (e, d) (by (g []) (nothing_found g a)))
  where
    by : (o : Option (Reading Token A)) → o ≡ None →
        Both (Found r false c p (Alls R) [] []) (Some ([], [])) (or_else (bind (bind o (λ x. bind (take_at_most m g x.1) (λ y. Some (behind x.0 y)))) (λ x. Some (made (λ read a. listed a) [] x))) (Some ([], [])))
    by None e = (tt, went_nowhere r c p [] [] (both_empty r p))
    by (Some x) e = absurd (cc)
many_at {A = A} r c R g a (suc n) zero p ts us t k = no_right r p n ts us t k (λ e d. rw (e, d) (by (g []) (nothing_found g a)))
  where
    by : (o : Option (Reading Token A)) → o ≡ None →
        Both (Found r false c p (Alls R) [] []) (or_else (bind (bind o (λ x. bind (take_at_most n g x.1) (λ y. Some (behind x.0 y)))) (λ x. Some (made (λ read a. listed a) [] x))) (Some ([], []))) (Some ([], []))
    by None e = (tt, went_nowhere r c p [] [] (both_empty r p))
    by (Some x) e = absurd (cc)
many_at {A = A} r c R g a (suc n) (suc m) p ts us t k =
    or_found (Found r false c p (Alls R) ts us) (take_turn listed (g ▸ take_at_most n g) ts) (Some ([], ts)) (take_turn listed (g ▸ take_at_most m g) us) (Some ([], us))
    (both_more (Found r true (c && (false || c)) p (Alls R) ts us) (Found r false c p (Alls R) ts us) (take_turn listed (g ▸ take_at_most n g) ts) (take_turn listed (g ▸ take_at_most m g) us) (λ x y f. (f.0, went_unsure r p ts us x.1 y.1 (subst (λ (b : Bool). Went r true b p ts us x.1 y.1) (and_itself c) f.1)))
    (turn_meets r true (c && (false || c)) p (Pair R (Alls R)) (Alls R) listed (g ▸ take_at_most n g) (g ▸ take_at_most m g) ts us (λ x y f. f)
    (seq_meets r true c false c p R (Alls R) g g (take_at_most n g) (take_at_most m g) ts us (a.each p refl ts us k)
    (λ x y f. let less = some_fewer r c p ts us x.1 y.1 f.1 in many_at r c R g a n m (state c p f.1.read) x.1 y.1 (fewer_tries n m ts us x.1 y.1 t less.0 less.1) f.1.like))))
    (tt, went_nowhere r c p ts us k)

pub follows_many_clear : {A : Type 0} {r : Kin} {c : Bool} {R : A → A → Type 0} {g : Descent Token A} → Follows r false true c R g → Follows r false false c (Alls R) (take_many g)
follows_many_clear {r = r} {c = c} {R = R} {g = g} a = record { each = λ p q ts us k. many_at r c R g a (length ts) (length us) p ts us (inr (omega arith, omega arith)) k }

pub follows_many : {A : Type 0} {r : Kin} {c : Bool} {R : A → A → Type 0} {g : Descent Token A} → Follows r false true c R g → Follows r false false false (Alls R) (take_many g)
follows_many a = follows_loose (follows_many_clear a)

-- right sides

abbrev pub Joins : {A B : Type 0} → Moves → (R : A → A → Type 0) → (S : B → B → Type 0) → (List Token → A → B → A) → Type 0
Joins {A = A} {B = B} m R S join = (read seen : List Token) (x y : A) (z w : B) → Stand m true read seen → R x y → S z w → R (join read x z) (join seen y w)

onto_at : {A B : Type 0} (r : Kin) (d b : Bool) (R : A → A → Type 0) (S : B → B → Type 0) (start other : List Token) (room : A → Bool) (join : List Token → A → B → A) (h : Descent Token B) → Follows r false true d S h → ((x y : A) → R x y → room x ≡ room y) → Joins r.moves R S join →
    (n m : ℕ) (x y : A) → R x y → (ts us : List Token) → Tries n m ts us → Went r true false b start other ts us → Both (Found r true false b R start other) (take_onto start n room join h x ts) (take_onto other m room join h y us)
onto_at r d b R S start other room join h a fit step zero zero x y p ts us t f = (p, f)
onto_at {B = B} r d b R S start other room join h a fit step zero (suc m) x y p ts us t f =
    no_left r (state false b f.read) m ts us t f.like (λ e k. at e k (room y) (h us) (ap h k ∙ nothing_found h a))
  where
    at : ts ≡ [] → us ≡ [] → (v : Bool) (o : Option (Reading Token B)) → o ≡ None →
        Both (Found r true false b R start other) (Some (x, ts)) (if v then or_else (bind o (λ z. take_onto other m room join h (join (tokens_read other z.1) y z.0) z.1)) (Some (y, us)) else Some (y, us))
    at e k true None q = (p, f)
    at e k true (Some z) q = absurd (cc)
    at e k false o q = (p, f)
onto_at {B = B} r d b R S start other room join h a fit step (suc n) zero x y p ts us t f =
    no_right r (state false b f.read) n ts us t f.like (λ e k. at e k (room x) (h ts) (ap h e ∙ nothing_found h a))
  where
    at : ts ≡ [] → us ≡ [] → (v : Bool) (o : Option (Reading Token B)) → o ≡ None →
        Both (Found r true false b R start other) (if v then or_else (bind o (λ z. take_onto start n room join h (join (tokens_read start z.1) x z.0) z.1)) (Some (x, ts)) else Some (x, ts)) (Some (y, us))
    at e k true None q = (p, f)
    at e k true (Some z) q = absurd (cc)
    at e k false o q = (p, f)
onto_at {A = A} r d b R S start other room join h a fit step (suc n) (suc m) x y p ts us t f =
    if_found (Found r true false b R start other) (room x) (room y) (or_else (bind (h ts) (λ z. take_onto start n room join h (join (tokens_read start z.1) x z.0) z.1)) (Some (x, ts))) (Some (x, ts))
    (or_else (bind (h us) (λ z. take_onto other m room join h (join (tokens_read other z.1) y z.0) z.1)) (Some (y, us))) (Some (y, us)) (fit x y p)
    (or_found (Found r true false b R start other) (bind (h ts) (λ z. take_onto start n room join h (join (tokens_read start z.1) x z.0) z.1)) (Some (x, ts)) (bind (h us) (λ z. take_onto other m room join h (join (tokens_read other z.1) y z.0) z.1)) (Some (y, us))
    (bound (Found r true d (state false b f.read) S ts us) (Found r true false b R start other) (λ z. take_onto start n room join h (join (tokens_read start z.1) x z.0) z.1) (λ z. take_onto other m room join h (join (tokens_read other z.1) y z.0) z.1) (h ts) (h us) (a.each (state false b f.read) refl ts us f.like)
    (λ z w e.
    let less = some_fewer r d (state false b f.read) ts us z.1 w.1 e.1 in
    let went = went_loose r true (d && true) b start other z.1 w.1 (went_both r true false true d b start other ts us z.1 w.1 f e.1) in
    onto_at r d b R S start other room join h a fit step n m (join (tokens_read start z.1) x z.0) (join (tokens_read other w.1) y w.0)
    (rw (read_is start went.read z.1 went.left, read_is other went.other w.1 went.right) (step went.read went.other x y z.0 w.0 went.stand p e.0)) z.1 w.1 (fewer_tries n m ts us z.1 w.1 t less.0 less.1) went)) (p, f)) (p, f)

pub follows_chain : {A B : Type 0} {r : Kin} {n c d : Bool} {R : A → A → Type 0} {S : B → B → Type 0} {g : Descent Token A} {h : Descent Token B} (most : A → List Token → ℕ) (room : A → Bool) (join : List Token → A → B → A) →
    ((p : Bool) (x y : A) (ts us : List Token) → R x y → Like r p ts us → Tries (most x ts) (most y us) ts us) → Follows r n true c R g → Follows r false true d S h → ((x y : A) → R x y → room x ≡ room y) → Joins r.moves R S join → Follows r n true false R (take_chain most room join g h)
follows_chain {r = r} {n = n} {c = c} {d = d} {R = R} {S = S} {g = g} {h = h} most room join tries a b fit step = record {
  each = λ p q ts us k.
      bound (Found r true c p R ts us) (Found r true false p R ts us) (λ x. take_onto ts (most x.0 x.1) room join h x.0 x.1) (λ x. take_onto us (most x.0 x.1) room join h x.0 x.1) (g ts) (g us) (a.each p q ts us k)
      (λ x y f. onto_at r d p R S ts us room join h b fit step (most x.0 x.1) (most y.0 y.1) x.0 y.0 f.0 x.1 y.1 (tries (state c p f.1.read) x.0 y.0 x.1 y.1 f.0 f.1.like) (went_loose r true c p ts us x.1 y.1 f.1));
}

pub follows_once : {A B : Type 0} {r : Kin} {n c d : Bool} {R : A → A → Type 0} {S : B → B → Type 0} {g : Descent Token A} {h : Descent Token B} (room : A → Bool) (join : List Token → A → B → A) → Follows r n true c R g → Follows r false true d S h →
    ((x y : A) → R x y → room x ≡ room y) → Joins r.moves R S join → Follows r n true false R (take_once room join g h)
follows_once {r = r} {n = n} {c = c} {d = d} {R = R} {S = S} {g = g} {h = h} room join a b fit step = record {
  each = λ p q ts us k.
      bound (Found r true c p R ts us) (Found r true false p R ts us) (λ x. if room x.0 then bind (h x.1) (λ z. Some (join (tokens_read ts z.1) x.0 z.0, z.1)) else None)
      (λ x. if room x.0 then bind (h x.1) (λ z. Some (join (tokens_read us z.1) x.0 z.0, z.1)) else None) (g ts) (g us) (a.each p q ts us k)
      (λ x y f. if_found (Found r true false p R ts us) (room x.0) (room y.0) (bind (h x.1) (λ z. Some (join (tokens_read ts z.1) x.0 z.0, z.1))) None (bind (h y.1) (λ z. Some (join (tokens_read us z.1) y.0 z.0, z.1))) None (fit x.0 y.0 f.0)
      (bound (Found r true d (state c p f.1.read) S x.1 y.1) (Found r true false p R ts us) (λ z. Some (join (tokens_read ts z.1) x.0 z.0, z.1)) (λ z. Some (join (tokens_read us z.1) y.0 z.0, z.1)) (h x.1) (h y.1) (b.each (state c p f.1.read) refl x.1 y.1 f.1.like)
      (λ z w e.
      let went = went_loose r true (d && true) p ts us z.1 w.1 (went_both r true c true d p ts us x.1 y.1 z.1 w.1 f.1 e.1) in
      (rw (read_is ts went.read z.1 went.left, read_is us went.other w.1 went.right) (step went.read went.other x.0 y.0 z.0 w.0 went.stand f.0 e.0), went))) tt);
}

pub follows_levels : {A B L : Type 0} {r : Kin} {n d : Bool} {R : A → A → Type 0} {S : B → B → Type 0} {first : Descent Token A} {right : L → List L → Descent Token B} (most : L → A → List Token → ℕ) (room : A → Bool) (join : List Token → A → B → A) →
    ((l : L) (p : Bool) (x y : A) (ts us : List Token) → R x y → Like r p ts us → Tries (most l x ts) (most l y us) ts us) → ((l : L) (above : List L) → Follows r false true d S (right l above)) → ((x y : A) → R x y → room x ≡ room y) → Joins r.moves R S join →
    Follows r n true false R first → (ls : List L) → Follows r n true false R (take_levels most room join right first ls)
follows_levels most room join tries each fit step a [] = a
follows_levels most room join tries each fit step a (l ∷ ls) = follows_chain (most l) room join (tries l) (follows_levels most room join tries each fit step a ls) (each l ls) fit step

-- Groups.

pub went_group : (r : Kin) (p : Bool) (t u : Token) (ts us : List Token) → Like r p (t ∷ ts) (u ∷ us) → Went r true false p (t ∷ ts) (u ∷ us) (drop (past t) ts) (drop (past u) us)
went_group r p t u ts us a = record {
  read = t ∷ take (past t) ts;
  other = u ∷ take (past u) us;
  left = ap (λ (zs : List Token). t ∷ zs) (sym (take-append-drop (past t) ts));
  right = ap (λ (zs : List Token). u ∷ zs) (sym (take-append-drop (past u) us));
  stand = ((first_twins r p t u ts us a).start, groups_end r p t u ts us a);
  like = behind_any r (is kind.OpenParenthesis t) (drop (past t) ts) (drop (past u) us) (behind_group r p t u ts us a);
}

whole_found : {A : Type 0} (r : Kin) (p : Bool) (R : A → A → Type 0) (a b : A) (ts us : List Token) → Like r p ts us → R a b → Both R (whole_or a ts None) (whole_or b us None)
whole_found r p R a b [] [] s q = q
whole_found r p R a b [] (u ∷ us) s q = one_empty r p u us s
whole_found r p R a b (t ∷ ts) [] s q = other_empty r p t ts s
whole_found r p R a b (t ∷ ts) (u ∷ us) s q = tt

complete_found : {A : Type 0} (r : Kin) (s c p : Bool) (R : A → A → Type 0) (ts us : List Token) (o q : Option (Reading Token A)) → Both (Found r s c p R ts us) o q → Both R (complete o) (complete q)
complete_found r s c p R ts us None None h = tt
complete_found r s c p R ts us None (Some y) h = absurd h
complete_found r s c p R ts us (Some x) None h = absurd h
complete_found r s c p R ts us (Some x) (Some y) h = whole_found r (state c p h.1.read) R x.0 y.0 x.1 y.1 h.1.like h.0

pub option_found : {A B : Type 0} (P : A → A → Type 0) (Q : B → B → Type 0) (f h : A → B) (o p : Option A) → ((x y : A) → P x y → Q (f x) (h y)) → Both P o p → Both Q (option_map f o) (option_map h p)
option_found P Q f h None None k b = tt
option_found P Q f h None (Some y) k b = absurd b
option_found P Q f h (Some x) None k b = absurd b
option_found P Q f h (Some x) (Some y) k b = k x y b

-- what is read of the whole of what stands in groups is related
pub record Contents {A : Type 0} (r : Kin) (R : A → A → Type 0) (g : Descent Token A) : Type 0 where
  pub each : (ts us : List Token) → Like r false ts us → Both R (complete (g ts)) (complete (g us))

pub contents : {A : Type 0} {r : Kin} {n s c : Bool} {R : A → A → Type 0} {g : Descent Token A} → Follows r n s c R g → Contents r R g
contents {r = r} {n = n} {s = s} {c = c} {R = R} {g = g} a = record { each = λ ts us k. complete_found r s c false R ts us (g ts) (g us) (a.each false (and_none n false refl) ts us k) }

-- so whatever stands in them
pub record Unseen {A : Type 0} (R : A → A → Type 0) (g : Descent Token A) : Type 0 where
  pub each : (ts us : List Token) → Both R (complete (g ts)) (complete (g us))

inside_found : {A : Type 0} (r : Kin) (p : Bool) (R : A → A → Type 0) (g : Descent Token A) (t u : Token) (ts us : List Token) → Like r p (t ∷ ts) (u ∷ us) → Both R (complete (g (take t.width ts))) (complete (g (take u.width us))) →
    Both (Found r true false p (Pair (Twins r.moves) R) (t ∷ ts) (u ∷ us)) (option_map (λ a. ((t, a), drop (past t) ts)) (complete (g (take t.width ts)))) (option_map (λ a. ((u, a), drop (past u) us)) (complete (g (take u.width us))))
inside_found r p R g t u ts us k b =
    option_found R (Found r true false p (Pair (Twins r.moves) R) (t ∷ ts) (u ∷ us)) (λ a. ((t, a), drop (past t) ts)) (λ a. ((u, a), drop (past u) us)) (complete (g (take t.width ts))) (complete (g (take u.width us)))
    (λ x y q. ((first_twins r p t u ts us k, q), went_group r p t u ts us k)) b

pub kind_blind : (m : Moves) (k : Kind) (t u : Token) → Twins m t u → is k t ≡ is k u
kind_blind m k t u w = rw w.kind refl

pub is_kind : (k : Kind) (t : Token) → is k t ≡ true → t.kind ≡ k
is_kind k t e = same_true kinds.the_type tt t.kind k e

-- a group of the kind, whose content is read somehow where it begins
group_found : {A : Type 0} (r : Kin) (n : Bool) (R : A → A → Type 0) (k : Kind) (g : Descent Token A) →
    ((p : Bool) → (n && p) ≡ false → (t u : Token) (ts us : List Token) → is k t ≡ true → Like r p (t ∷ ts) (u ∷ us) → Both R (complete (g (take t.width ts))) (complete (g (take u.width us)))) →
    Follows r n true false (Pair (Twins r.moves) R) (take_inside (is k) width past g)
group_found {A = A} r n R k g h = record { each = follow }
  where
    follow : (p : Bool) → (n && p) ≡ false → (ts us : List Token) → Like r p ts us → Both (Found r true false p (Pair (Twins r.moves) R) ts us) (take_inside (is k) width past g ts) (take_inside (is k) width past g us)
    follow p q [] [] a = tt
    follow p q [] (u ∷ us) a = one_empty r p u us a
    follow p q (t ∷ ts) [] a = other_empty r p t ts a
    follow p q (t ∷ ts) (u ∷ us) a =
        if_known (Found r true false p (Pair (Twins r.moves) R) (t ∷ ts) (u ∷ us)) (is k t) (is k u) (option_map (λ a. ((t, a), drop (past t) ts)) (complete (g (take t.width ts)))) None
        (option_map (λ a. ((u, a), drop (past u) us)) (complete (g (take u.width us)))) None (kind_blind r.moves k t u (first_twins r p t u ts us a)) (λ e. inside_found r p R g t u ts us a (h p q t u ts us e a)) tt

-- in a group other than braces no body differs
pub follows_inside : {A : Type 0} {r : Kin} {R : A → A → Type 0} {g : Descent Token A} (k : Kind) → sameb kinds.the_type k kind.OpenBrace ≡ false → Contents (inner r) R g → Follows r false true false (Pair (Twins r.moves) R) (take_inside (is k) width past g)
follows_inside {r = r} {R = R} {g = g} k other c =
    group_found r false R k g
    (λ p q t u ts us e a.
    let brace : is kind.OpenBrace t ≡ false = ap (λ (j : Kind). sameb kinds.the_type j kind.OpenBrace) (is_kind k t e) ∙ other in
    let held = held_in r p t u ts us a (no_body r.freedom p t brace) in
    c.each (take t.width ts) (take u.width us)
    (subst (λ (b : Bool). Like (record { moves = r.moves; freedom = if b then in_braces r.freedom else none }) false (take t.width ts) (take u.width us)) brace held))

-- braces that are no body
pub follows_braces : {A : Type 0} {r : Kin} {R : A → A → Type 0} {g : Descent Token A} → Contents (braces r) R g → Follows r true true false (Pair (Twins r.moves) R) (take_inside (is kind.OpenBrace) width past g)
follows_braces {r = r} {R = R} {g = g} c =
    group_found r true R kind.OpenBrace g
    (λ p q t u ts us e a.
    let no : opens_body r.freedom p t ≡ false = ap (λ (b : Bool). b && (is_free r.freedom && is kind.OpenBrace t)) q in
    c.each (take t.width ts) (take u.width us)
    (subst (λ (b : Bool). Like (record { moves = r.moves; freedom = if b then in_braces r.freedom else none }) false (take t.width ts) (take u.width us)) e (held_in r p t u ts us a no)))

-- braces whose content isn't looked at
pub follows_block : {A : Type 0} {r : Kin} {R : A → A → Type 0} {g : Descent Token A} → Unseen R g → Follows r false true false (Pair (Twins r.moves) R) (take_inside (is kind.OpenBrace) width past g)
follows_block {r = r} {R = R} {g = g} c = group_found r false R kind.OpenBrace g (λ p q t u ts us e a. c.each (take t.width ts) (take u.width us))

pub follows_before : {A : Type 0} {r : Kin} {n s c : Bool} {R : A → A → Type 0} {g : Descent Token A} (test : Test Token) → Blind r test → Follows r n s c R g → Follows r n s c R (take_before test g)
follows_before {r = r} {n = n} {s = s} {c = c} {R = R} {g = g} test blind a = record {
  each = λ p q ts us k. bound (Found r s c p R ts us) (Found r s c p R ts us) (λ x. if test x.1 then Some x else None) (λ x. if test x.1 then Some x else None) (g ts) (g us) (a.each p q ts us k)
      (λ x y f. if_found (Found r s c p R ts us) (test x.1) (test y.1) (Some x) None (Some y) None (blind (state c p f.1.read) x.1 y.1 f.1.like) f tt);
}

-- Lists.

pub first_found : {A B : Type 0} (R : A → A → Type 0) (S : B → B → Type 0) (a b : A) (o p : Option (B × List A)) → R a b → Both (Pair S (Alls R)) o p → Alls R (first_behind (a, o)) (first_behind (b, p))
first_found R S a b None None h k = (h, tt)
first_found R S a b None (Some y) h k = absurd k
first_found R S a b (Some x) None h k = absurd k
first_found R S a b (Some x) (Some y) h k = (h, k.1)
