-- What a descent lays: the nodes that it reads stand one behind the other on the tokens that it takes.
use Rattle.std.proofs.Common.{◌≡◌, ℕ, zero, suc, ◌≤◌, ◌++◌, Bool, true, false, ◌||◌, List, [], ◌∷◌, Option, Some, None, option_map, length, take, drop, if◌then◌else◌, refl, ap, subst, sym, ◌∙◌, arith, append-nil}
use Rattle.std.proofs.lemmas.List.{append_assoc, take-append-drop}
use Rattle.readings.specs.Readings.{Reading, Test, tokens_read, made, behind, listed, first_behind, whole_or, item_or_error}
use Rattle.readings.specs.Descent.{Descent, bind, or_else, take_token, take_given, ◌▸◌, ◌⊘◌, take_make, take_turn, take_maybe, take_at_most, take_many, take_onto, take_chain, complete, take_where, take_before, take_only, take_within, take_inside, take_once, take_levels, take_at_most_elements, take_elements, take_items_at, all_items, take_items}
use Rattle.readings.specs.Values.{Maybe}
use Rattle.dart_tree.specs.Tree.{Tree, Trees}
use Rattle.dart_tree.specs.Nodes.{list_of, parts_of}
use Rattle.dart_tree.specs.Places.{place_of, span_of}
use Rattle.dart_tree.specs.declared.places.Place.{Place}
use Rattle.unread_lists.specs.WithLists.{with_lists}
use Rattle.dart_tokens.specs.declared.grouped_token.GroupedToken.{GroupedToken as Token}
use Rattle.grammar.specs.Tokens.{width, past, span_over, place_over}
use Rattle.grammar.specs.Whole.{tokens_over}
use Rattle.node_counts.specs.Rising.{Rise, HoldGroups}
use Rattle.place_laws.proofs.Rows.{Placed, Stands, stands, Row, row_order, row_each, row_from, row_to, row_append}
use Rattle.place_laws.proofs.TextParts.{Begin, reach, reach-append, each_front, reach_from, begin_behind, reach_less, last_reach, begin_first, PartOf, part_front, part_back, part_take, part_rise, part_hold, taken, part_exact}

-- the tokens of a text, and how the lists of statements in its trees are read: each stands on the tokens of its place
pub record Text : Type 0 where
  pub tokens : List Token
  pub lists : ℕ → Place → Trees
  pub rise : Rise tokens
  pub hold : HoldGroups tokens
  pub lie : (read : List Token) → PartOf tokens read → (from n : ℕ) → Begin from read → Row tokens from (reach from read) (list_of (lists n (place_over read)))

-- there is a token, if one is asked for
abbrev pub Filled : Bool → List Token → Type 0
Filled false ts = Unit {0}
Filled true [] = ⊥
Filled true (t ∷ ts) = Unit {0}

filled_first : (b : Bool) (t : Token) (ts : List Token) → Filled b (t ∷ ts)
filled_first false t ts = tt
filled_first true t ts = tt

filled_both : (b d : Bool) (ts us : List Token) → Filled b ts → Filled d us → Filled (b || d) (ts ++ us)
filled_both true d [] us h k = absurd h
filled_both true d (t ∷ ts) us h k = tt
filled_both false d [] us h k = k
filled_both false d (t ∷ ts) us h k = filled_first d t (ts ++ us)

-- The nodes that values show, by the room that is left for the lists in them.

abbrev pub one : Text → Tree → ℕ → List Tree
one c t n = with_lists c.lists n t ∷ []

abbrev pub unshown : {A : Type 0} → A → ℕ → List Tree
unshown a n = []

abbrev pub both : {A B : Type 0} → (A → ℕ → List Tree) → (B → ℕ → List Tree) → A × B → ℕ → List Tree
both u v x n = u x.0 n ++ v x.1 n

abbrev pub if_there : {A : Type 0} → (A → ℕ → List Tree) → Option A → ℕ → List Tree
if_there u None n = []
if_there u (Some a) n = u a n

abbrev pub total : {A : Type 0} → (A → ℕ → List Tree) → List A → ℕ → List Tree
total u [] n = []
total u (x ∷ xs) n = u x n ++ total u xs n

-- on these tokens stand the nodes, one behind the other
abbrev pub RowOn : Text → List Token → (ℕ → List Tree) → Type 0
RowOn c read nodes = (from n : ℕ) → Begin from read → Row c.tokens from (reach from read) (nodes n)

-- a reading: the tokens that it took, of which there is one if that is asked for, and on which the nodes of its value stand
pub record Laid {A : Type 0} (c : Text) (u : A → ℕ → List Tree) (some : Bool) (ts : List Token) (x : Reading Token A) : Type 0 where
  pub read : List Token
  pub is : ts ≡ read ++ x.1
  pub filled : Filled some read
  pub row : RowOn c read (u x.0)

pub record Lays {A : Type 0} (c : Text) (u : A → ℕ → List Tree) (some : Bool) (g : Descent Token A) : Type 0 where
  pub each : (ts : List Token) → PartOf c.tokens ts → Maybe (Laid c u some ts) (g ts)

part_read : (c : Text) (ts read rest : List Token) → PartOf c.tokens ts → ts ≡ read ++ rest → PartOf c.tokens read
part_read c ts read rest p e = part_front c.tokens read rest (subst (λ (us : List Token). PartOf c.tokens us) e p)

part_rest : (c : Text) (ts read rest : List Token) → PartOf c.tokens ts → ts ≡ read ++ rest → PartOf c.tokens rest
part_rest c ts read rest p e = part_back c.tokens read rest (subst (λ (us : List Token). PartOf c.tokens us) e p)

-- one behind the other, on tokens behind each other
rows_both : (c : Text) (ts us : List Token) (xs ys : ℕ → List Tree) → PartOf c.tokens (ts ++ us) → RowOn c ts xs → RowOn c us ys → RowOn c (ts ++ us) (λ n. xs n ++ ys n)
rows_both c ts us xs ys p r s from n b =
    let rise = part_rise c.tokens (ts ++ us) c.rise p in
    subst (λ (to : ℕ). Row c.tokens from to (xs n ++ ys n)) (sym (reach-append from ts us))
    (row_append c.tokens from (reach from ts) (reach (reach from ts) us) (xs n) (ys n) (r from n (each_front (λ t. from ≤ t.start) ts us b)) (s (reach from ts) n (begin_behind from ts us rise b)))

pub none_on : (c : Text) (read : List Token) → PartOf c.tokens read → RowOn c read (λ n. [])
none_on c read p from n b = reach_from from read (part_rise c.tokens read c.rise p) b

-- A node on tokens.

pub stands_on : (c : Text) (read : List Token) → PartOf c.tokens read → (t : Tree) → place_of t ≡ place_over read → Row c.tokens (span_of t).start (span_of t).end (parts_of t) → Stands c.tokens t
stands_on c read p t e within =
    let placed : Placed c.tokens t = record {
      tokens = subst (λ (at : Place). at.span ≡ span_over (tokens_over c.tokens at)) (sym e) (ap (λ (us : List Token). span_over us) (sym (part_exact c.tokens read c.rise p)));
      parts = row_order c.tokens (span_of t).start (span_of t).end (parts_of t) within;
    } in
    stands c.tokens t placed (row_each c.tokens (span_of t).start (span_of t).end (parts_of t) within)

pub node_at : (c : Text) (r : Token) (read : List Token) → PartOf c.tokens (r ∷ read) → (t : Tree) → place_of t ≡ place_over (r ∷ read) → Row c.tokens r.start (reach r.end read) (parts_of t) →
    (from : ℕ) → from ≤ r.start → Row c.tokens from (reach r.end read) (t ∷ [])
node_at c r read p t e parts from b =
    let rise = part_rise c.tokens (r ∷ read) c.rise p in
    let s : (span_of t).start ≡ r.start = ap (λ (at : Place). at.span.start) e in
    let d : (span_of t).end ≡ reach r.end read = ap (λ (at : Place). at.span.end) e ∙ last_reach r read in
    let ends : r.end ≤ reach r.end read = reach_from r.end read rise.1.1 rise.1.0 in
    let within : Row c.tokens (span_of t).start (span_of t).end (parts_of t) =
    row_from c.tokens (span_of t).start r.start (span_of t).end (parts_of t) (omega (arith, s)) (row_to c.tokens r.start (reach r.end read) (span_of t).end (parts_of t) (omega (arith, d)) parts) in
    (omega (arith, s, b), omega (arith, s, d, ends, rise.0), stands_on c (r ∷ read) p t e within, omega (arith, d))

pub node_on : (c : Text) (read : List Token) → PartOf c.tokens read → Filled true read → (t : ℕ → Tree) → ((n : ℕ) → place_of (t n) ≡ place_over read) → ((n : ℕ) → (from : ℕ) → Begin from read → Row c.tokens from (reach from read) (parts_of (t n))) →
    RowOn c read (λ n. t n ∷ [])
node_on c [] p f t e parts = absurd f
node_on c (r ∷ read) p f t e parts = λ from n b. node_at c r read p (t n) (e n) (parts n r.start (begin_first r read (part_rise c.tokens (r ∷ read) c.rise p))) from b.0

-- what is made of a value is a node over its tokens, whose parts the value shows
abbrev pub Makes : {A : Type 0} → Text → (A → ℕ → List Tree) → (List Token → A → Tree) → Type 0
Makes {A = A} c u of = (read : List Token) (x : A) (n : ℕ) → (place_of (with_lists c.lists n (of read x)) ≡ place_over read) × ((m : ℕ) × (parts_of (with_lists c.lists n (of read x)) ≡ u x m))

made_on : {A : Type 0} (c : Text) (u : A → ℕ → List Tree) (of : List Token → A → Tree) → Makes c u of → (read : List Token) (x : A) → PartOf c.tokens read → Filled true read → RowOn c read (u x) → RowOn c read (one c (of read x))
made_on c u of h read x p f r =
    node_on c read p f (λ n. with_lists c.lists n (of read x)) (λ n. (h read x n).0)
    (λ n from b. let parts = (h read x n).1 in subst (λ (ts : List Tree). Row c.tokens from (reach from read) ts) (sym parts.1) (r from parts.0 b))

-- Descents.

bound : {A B : Type 0} (P : Reading Token A → Type 0) (Q : Reading Token B → Type 0) (f : Reading Token A → Option (Reading Token B)) (o : Option (Reading Token A)) → Maybe P o → ((x : Reading Token A) → P x → Maybe Q (f x)) → Maybe Q (bind o f)
bound P Q f None h k = tt
bound P Q f (Some x) h k = k x h

if_found : {A : Type 0} (P : A → Type 0) (b : Bool) (o p : Option A) → Maybe P o → Maybe P p → Maybe P (if b then o else p)
if_found P true o p h k = h
if_found P false o p h k = k

or_found : {A : Type 0} (P : Reading Token A → Type 0) (o p : Option (Reading Token A)) → Maybe P o → Maybe P p → Maybe P (or_else o p)
or_found P None p h k = k
or_found P (Some x) p h k = h

found_less : {A : Type 0} (P Q : A → Type 0) (o : Option A) → ((x : A) → P x → Q x) → Maybe P o → Maybe Q o
found_less P Q None f h = tt
found_less P Q (Some x) f h = f x h

-- a token that is a node, or a mere part of one
abbrev pub IsLeaf : Text → (Token → Tree) → Type 0
IsLeaf c leaf = (t : Token) (n : ℕ) → (place_of (with_lists c.lists n (leaf t)) ≡ place_over (t ∷ [])) × (parts_of (with_lists c.lists n (leaf t)) ≡ [])

token_laid : {u : Token → ℕ → List Tree} (c : Text) (f : Token → Bool) → ((t : Token) → PartOf c.tokens (t ∷ []) → RowOn c (t ∷ []) (u t)) → Lays c u true (take_token f)
token_laid {u = u} c f h = record { each = lay } where
  lay : (ts : List Token) → PartOf c.tokens ts → Maybe (Laid c u true ts) (take_token f ts)
  lay [] p = tt
  lay (t ∷ ts) p =
      if_found (Laid c u true (t ∷ ts)) (f t) (Some (t, ts)) None (record { read = t ∷ []; is = refl; filled = tt; row = h t (part_front c.tokens (t ∷ []) ts p) }) tt

pub lays_token : (c : Text) (f : Token → Bool) → Lays c unshown true (take_token f)
lays_token c f = token_laid c f (λ t p. none_on c (t ∷ []) p)

pub lays_leaf : (c : Text) (leaf : Token → Tree) (f : Token → Bool) → IsLeaf c leaf → Lays c (λ (t : Token). one c (leaf t)) true (take_token f)
lays_leaf c leaf f h =
    token_laid c f
    (λ t p.
    node_on c (t ∷ []) p tt (λ n. with_lists c.lists n (leaf t)) (λ n. (h t n).0)
    (λ n from b. subst (λ (ts : List Tree). Row c.tokens from (reach from (t ∷ [])) ts) (sym (h t n).1) (none_on c (t ∷ []) p from n b)))

pub lays_given : {A : Type 0} (c : Text) (u : A → ℕ → List Tree) (a : A) → ((n : ℕ) → u a n ≡ []) → Lays c u false (take_given a)
lays_given c u a h = record { each = λ ts p. record { read = []; is = refl; filled = tt; row = λ from n b. subst (λ (xs : List Tree). Row c.tokens from from xs) (sym (h n)) (same from) } } where
  same : (a : ℕ) → a ≤ a
  same a = omega arith

pub lays_none : {A : Type 0} (c : Text) (u : A → ℕ → List Tree) (some : Bool) → Lays c u some (λ ts. None)
lays_none c u some = record { each = λ ts p. tt }

laid_as : {A B : Type 0} (c : Text) (u : A → ℕ → List Tree) (w : B → ℕ → List Tree) (some : Bool) (ts : List Token) (x : Reading Token A) (b : B) → ((n : ℕ) → w b n ≡ u x.0 n) → Laid c u some ts x → Laid c w some ts (b, x.1)
laid_as c u w some ts x b h l = record { read = l.read; is = l.is; filled = l.filled; row = λ from n at. subst (λ (xs : List Tree). Row c.tokens from (reach from l.read) xs) (sym (h n)) (l.row from n at) }

-- a value that shows the same nodes
pub lays_turn : {A B : Type 0} {c : Text} {u : A → ℕ → List Tree} {some : Bool} {g : Descent Token A} (w : B → ℕ → List Tree) (of : A → B) → Lays c u some g → ((x : A) (n : ℕ) → w (of x) n ≡ u x n) → Lays c w some (take_turn of g)
lays_turn {c = c} {u = u} {some = some} {g = g} w of a h = record {
  each = λ ts p. bound (Laid c u some ts) (Laid c w some ts) (λ x. Some (made (λ read a. of a) ts x)) (g ts) (a.each ts p) (λ x l. laid_as c u w some ts x (of x.0) (h x.0) l);
}

-- a value that shows none
pub lays_unshown : {A B : Type 0} {c : Text} {u : A → ℕ → List Tree} {some : Bool} {g : Descent Token A} (of : List Token → A → B) → Lays c u some g → Lays c unshown some (take_make of g)
lays_unshown {c = c} {u = u} {some = some} {g = g} of a = record {
  each = λ ts p. bound (Laid c u some ts) (Laid c unshown some ts) (λ x. Some (made of ts x)) (g ts) (a.each ts p)
      (λ x l. record { read = l.read; is = l.is; filled = l.filled; row = none_on c l.read (part_read c ts l.read x.1 p l.is) });
}

-- a node, alone or with something that is no node
pub lays_node : {A B : Type 0} {c : Text} {u : A → ℕ → List Tree} {g : Descent Token A} (node : B → Tree) (of : List Token → A → B) → Lays c u true g → Makes c u (λ (read : List Token) (x : A). node (of read x)) → Lays c (λ (y : B). one c (node y)) true (take_make of g)
lays_node {A = A} {B = B} {c = c} {u = u} {g = g} node of a h = record {
  each = λ ts p. bound (Laid c u true ts) (Laid c (λ (y : B). one c (node y)) true ts) (λ x. Some (made of ts x)) (g ts) (a.each ts p)
      (λ x l. record {
        read = l.read;
        is = l.is;
        filled = l.filled;
        row = subst (λ (us : List Token). RowOn c l.read (one c (node (of us x.0)))) (sym (taken ts l.read x.1 l.is))
            (made_on c u (λ (read : List Token) (x : A). node (of read x)) h l.read x.0 (part_read c ts l.read x.1 p l.is) l.filled l.row);
      });
}

pub lays_make : {A : Type 0} {c : Text} {u : A → ℕ → List Tree} {g : Descent Token A} (of : List Token → A → Tree) → Lays c u true g → Makes c u of → Lays c (one c) true (take_make of g)
lays_make of a h = lays_node (λ (t : Tree). t) of a h

pub lays_seq : {A B : Type 0} {c : Text} {u : A → ℕ → List Tree} {v : B → ℕ → List Tree} {b d : Bool} {g : Descent Token A} {h : Descent Token B} → Lays c u b g → Lays c v d h → Lays c (both u v) (b || d) (g ▸ h)
lays_seq {c = c} {u = u} {v = v} {b = b} {d = d} {g = g} {h = h} a e = record {
  each = λ ts p.
      bound (Laid c u b ts) (Laid c (both u v) (b || d) ts) (λ x. bind (h x.1) (λ y. Some (behind x.0 y))) (g ts) (a.each ts p)
      (λ x l.
      bound (Laid c v d x.1) (Laid c (both u v) (b || d) ts) (λ y. Some (behind x.0 y)) (h x.1) (e.each x.1 (part_rest c ts l.read x.1 p l.is))
      (λ y m.
      let is : ts ≡ (l.read ++ m.read) ++ y.1 = l.is ∙ ap (λ (us : List Token). l.read ++ us) m.is ∙ sym (append_assoc l.read m.read y.1) in
      record {
        read = l.read ++ m.read;
        is = is;
        filled = filled_both b d l.read m.read l.filled m.filled;
        row = rows_both c l.read m.read (u x.0) (v y.0) (part_read c ts (l.read ++ m.read) y.1 p is) l.row m.row;
      }));
}

-- the same nodes, told otherwise
pub lays_same : {A : Type 0} {c : Text} {u : A → ℕ → List Tree} {some : Bool} {g : Descent Token A} (w : A → ℕ → List Tree) → Lays c u some g → ((x : A) (n : ℕ) → w x n ≡ u x n) → Lays c w some g
lays_same {c = c} {u = u} {some = some} {g = g} w a h = record { each = λ ts p. found_less (Laid c u some ts) (Laid c w some ts) (g ts) (λ x l. laid_as c u w some ts x x.0 (h x.0) l) (a.each ts p) }

nothing_behind : (xs : List Tree) → xs ≡ xs ++ []
nothing_behind xs = sym (append-nil xs)

-- the value behind which stands something that shows none
pub lays_end : {A B : Type 0} {c : Text} {u : A → ℕ → List Tree} {b d : Bool} {g : Descent Token A} {h : Descent Token B} → Lays c u b g → Lays c unshown d h → Lays c (λ (x : A × B). u x.0) (b || d) (g ▸ h)
lays_end {A = A} {B = B} {c = c} {u = u} {b = b} {d = d} {g = g} {h = h} a e =
    lays_same (λ (x : A × B). u x.0) (lays_seq a e) (λ x n. nothing_behind (u x.0 n))

pub lays_or : {A : Type 0} {c : Text} {u : A → ℕ → List Tree} {some : Bool} {g h : Descent Token A} → Lays c u some g → Lays c u some h → Lays c u some (g ⊘ h)
lays_or {c = c} {u = u} {some = some} {g = g} {h = h} a b = record { each = λ ts p. or_found (Laid c u some ts) (g ts) (h ts) (a.each ts p) (b.each ts p) }

pub lays_where : {A : Type 0} {c : Text} {u : A → ℕ → List Tree} {some : Bool} {g h : Descent Token A} (t : Test Token) → Lays c u some g → Lays c u some h → Lays c u some (take_where t g h)
lays_where {c = c} {u = u} {some = some} {g = g} {h = h} t a b = record { each = λ ts p. if_found (Laid c u some ts) (t ts) (g ts) (h ts) (a.each ts p) (b.each ts p) }

-- less is asked
pub lays_less : {A : Type 0} {c : Text} {u : A → ℕ → List Tree} {some : Bool} {g : Descent Token A} → Lays c u some g → Lays c u false g
lays_less {c = c} {u = u} {some = some} {g = g} a = record {
  each = λ ts p. found_less (Laid c u some ts) (Laid c u false ts) (g ts) (λ x l. record { read = l.read; is = l.is; filled = tt; row = l.row }) (a.each ts p);
}

pub lays_maybe : {A : Type 0} {c : Text} {u : A → ℕ → List Tree} {some : Bool} {g : Descent Token A} → Lays c u some g → Lays c (if_there u) false (take_maybe g)
lays_maybe {c = c} {u = u} a = lays_or (lays_turn (if_there u) (λ a. Some a) (lays_less a) (λ x n. refl)) (lays_given c (if_there u) None (λ n. refl))

lays_at_most : {A : Type 0} {c : Text} {u : A → ℕ → List Tree} {some : Bool} {g : Descent Token A} (n : ℕ) → Lays c u some g → Lays c (total u) false (take_at_most n g)
lays_at_most {c = c} {u = u} zero a = lays_given c (total u) [] (λ n. refl)
lays_at_most {c = c} {u = u} (suc n) a = lays_or (lays_turn (total u) listed (lays_less (lays_seq a (lays_at_most n a))) (λ x n. refl)) (lays_given c (total u) [] (λ n. refl))

pub lays_many : {A : Type 0} {c : Text} {u : A → ℕ → List Tree} {some : Bool} {g : Descent Token A} → Lays c u some g → Lays c (total u) false (take_many g)
lays_many a = record { each = λ ts p. (lays_at_most (length ts) a).each ts p }

-- Repeats.

-- what is joined shows nodes that stand on the tokens of both
abbrev pub Joined : {A B : Type 0} → Text → (A → ℕ → List Tree) → (B → ℕ → List Tree) → (List Token → A → B → A) → Type 0
Joined {A = A} {B = B} c u v join = (read : List Token) (left : A) (right : B) → PartOf c.tokens read → Filled true read → RowOn c read (λ n. u left n ++ v right n) → RowOn c read (u (join read left right))

lays_onto : {A B : Type 0} {c : Text} {v : B → ℕ → List Tree} {some : Bool} {h : Descent Token B} (u : A → ℕ → List Tree) (start : List Token) (n : ℕ) (room : A → Bool) (join : List Token → A → B → A) → PartOf c.tokens start → Lays c v some h → Joined c u v join →
    (left : A) (ts before : List Token) → start ≡ before ++ ts → Filled true before → RowOn c before (u left) → Maybe (Laid c u true start) (take_onto start n room join h left ts)
lays_onto u start zero room join p e joins left ts before is filled row = record { read = before; is = is; filled = filled; row = row }
lays_onto {A = A} {c = c} {v = v} {some = some} {h = h} u start (suc n) room join p e joins left ts before is filled row =
    let P : Reading Token A → Type 0 = Laid c u true start in
    let stop : P (left, ts) = record { read = before; is = is; filled = filled; row = row } in
    if_found P (room left) (or_else (bind (h ts) (λ y. take_onto start n room join h (join (tokens_read start y.1) left y.0) y.1)) (Some (left, ts))) (Some (left, ts))
    (or_found P (bind (h ts) (λ y. take_onto start n room join h (join (tokens_read start y.1) left y.0) y.1)) (Some (left, ts))
    (bound (Laid c v some ts) P (λ y. take_onto start n room join h (join (tokens_read start y.1) left y.0) y.1) (h ts) (e.each ts (part_rest c start before ts p is))
    (λ y m.
    let more : start ≡ (before ++ m.read) ++ y.1 = is ∙ ap (λ (us : List Token). before ++ us) m.is ∙ sym (append_assoc before m.read y.1) in
    let part : PartOf c.tokens (before ++ m.read) = part_read c start (before ++ m.read) y.1 p more in
    let fill : Filled true (before ++ m.read) = filled_both true some before m.read filled m.filled in
    lays_onto u start n room join p e joins (join (tokens_read start y.1) left y.0) y.1 (before ++ m.read) more fill
    (subst (λ (us : List Token). RowOn c (before ++ m.read) (u (join us left y.0))) (sym (taken start (before ++ m.read) y.1 more))
    (joins (before ++ m.read) left y.0 part fill (rows_both c before m.read (u left) (v y.0) part row m.row)))))
    stop) stop

-- right sides behind an operand
pub lays_onward : {A B : Type 0} {c : Text} {u : A → ℕ → List Tree} {v : B → ℕ → List Tree} {some : Bool} {g : Descent Token A} {h : Descent Token B} (most : A → List Token → ℕ) (room : A → Bool) (join : List Token → A → B → A) → Lays c u true g → Lays c v some h →
    Joined c u v join → Lays c u true (take_chain most room join g h)
lays_onward {c = c} {u = u} {g = g} {h = h} most room join a e joins = record {
  each = λ ts p.
      bound (Laid c u true ts) (Laid c u true ts) (λ x. take_onto ts (most x.0 x.1) room join h x.0 x.1) (g ts) (a.each ts p)
      (λ x l. lays_onto u ts (most x.0 x.1) room join p e joins x.0 x.1 l.read l.is l.filled l.row);
}

-- what joins a node and what stands behind it is a node over the tokens of both, whose parts these are
abbrev pub Joins : {B : Type 0} → Text → (B → ℕ → List Tree) → (List Token → Tree → B → Tree) → Type 0
Joins {B = B} c v join = Makes c (both (one c) v) (λ (read : List Token) (x : Tree × B). join read x.0 x.1)

joined : {B : Type 0} (c : Text) (v : B → ℕ → List Tree) (join : List Token → Tree → B → Tree) → Joins c v join → Joined c (one c) v join
joined {B = B} c v join h read left right p f r = made_on c (both (one c) v) (λ (read : List Token) (x : Tree × B). join read x.0 x.1) h read (left, right) p f r

pub lays_chain : {B : Type 0} {c : Text} {v : B → ℕ → List Tree} {some : Bool} {g : Descent Token Tree} {h : Descent Token B} (most : Tree → List Token → ℕ) (room : Tree → Bool) (join : List Token → Tree → B → Tree) → Lays c (one c) true g → Lays c v some h →
    Joins c v join → Lays c (one c) true (take_chain most room join g h)
lays_chain {c = c} {v = v} most room join a e joins = lays_onward most room join a e (joined c v join joins)

pub lays_once : {B : Type 0} {c : Text} {v : B → ℕ → List Tree} {some : Bool} {g : Descent Token Tree} {h : Descent Token B} (room : Tree → Bool) (join : List Token → Tree → B → Tree) → Lays c (one c) true g → Lays c v some h →
    Joins c v join → Lays c (one c) true (take_once room join g h)
lays_once {c = c} {v = v} {some = some} {g = g} {h = h} room join a e joins = record {
  each = λ ts p.
      bound (Laid c (one c) true ts) (Laid c (one c) true ts) (λ x. if room x.0 then bind (h x.1) (λ y. Some (join (tokens_read ts y.1) x.0 y.0, y.1)) else None) (g ts) (a.each ts p)
      (λ x l.
      if_found (Laid c (one c) true ts) (room x.0) (bind (h x.1) (λ y. Some (join (tokens_read ts y.1) x.0 y.0, y.1))) None
      (bound (Laid c v some x.1) (Laid c (one c) true ts) (λ y. Some (join (tokens_read ts y.1) x.0 y.0, y.1)) (h x.1) (e.each x.1 (part_rest c ts l.read x.1 p l.is))
      (λ y m.
      let is : ts ≡ (l.read ++ m.read) ++ y.1 = l.is ∙ ap (λ (us : List Token). l.read ++ us) m.is ∙ sym (append_assoc l.read m.read y.1) in
      let part : PartOf c.tokens (l.read ++ m.read) = part_read c ts (l.read ++ m.read) y.1 p is in
      let fill : Filled true (l.read ++ m.read) = filled_both true some l.read m.read l.filled m.filled in
      record {
        read = l.read ++ m.read;
        is = is;
        filled = fill;
        row = subst (λ (us : List Token). RowOn c (l.read ++ m.read) (one c (join us x.0 y.0))) (sym (taken ts (l.read ++ m.read) y.1 is))
            (joined c v join joins (l.read ++ m.read) x.0 y.0 part fill (rows_both c l.read m.read (one c x.0) (v y.0) part l.row m.row));
      })) tt);
}

pub lays_levels : {B R : Type 0} {c : Text} {v : B → ℕ → List Tree} {some : Bool} {first : Descent Token Tree} {right : R → List R → Descent Token B} (most : R → Tree → List Token → ℕ) (room : Tree → Bool) (join : List Token → Tree → B → Tree) → ((r : R) (above : List R) → Lays c v some (right r above)) →
    Joins c v join → Lays c (one c) true first → (rs : List R) → Lays c (one c) true (take_levels most room join right first rs)
lays_levels most room join each joins a [] = a
lays_levels most room join each joins a (r ∷ rs) = lays_chain (most r) room join (lays_levels most room join each joins a rs) (each r rs) joins

-- Groups.

whole_found : {A : Type 0} (c : Text) (u : A → ℕ → List Tree) (some : Bool) (ts : List Token) (a : A) (left : List Token) → Laid c u some ts (a, left) → Maybe (λ a. RowOn c ts (u a)) (whole_or a left None)
whole_found c u some ts a [] l = subst (λ (us : List Token). RowOn c us (u a)) (sym (l.is ∙ append-nil l.read)) l.row
whole_found c u some ts a (t ∷ left) l = tt

complete_found : {A : Type 0} (c : Text) (u : A → ℕ → List Tree) (some : Bool) (ts : List Token) (o : Option (Reading Token A)) → Maybe (Laid c u some ts) o → Maybe (λ a. RowOn c ts (u a)) (complete o)
complete_found c u some ts None h = tt
complete_found c u some ts (Some x) h = whole_found c u some ts x.0 x.1 h

option_found : {A B : Type 0} (P : A → Type 0) (Q : B → Type 0) (f : A → B) (o : Option A) → ((x : A) → P x → Q (f x)) → Maybe P o → Maybe Q (option_map f o)
option_found P Q f None h k = tt
option_found P Q f (Some x) h k = h x k

pub lays_within : {A : Type 0} {c : Text} {u : A → ℕ → List Tree} {some : Bool} {g : Descent Token A} (size : List Token → ℕ) → Lays c u some g → Lays c u false (take_within size g)
lays_within {A = A} {c = c} {u = u} {some = some} {g = g} size a = record {
  each = λ ts p.
      option_found (λ a. RowOn c (take (size ts) ts) (u a)) (Laid c u false ts) (λ a. (a, drop (size ts) ts)) (complete (g (take (size ts) ts)))
      (λ x r. record { read = take (size ts) ts; is = sym (take-append-drop (size ts) ts); filled = tt; row = r })
      (complete_found c u some (take (size ts) ts) (g (take (size ts) ts)) (a.each (take (size ts) ts) (part_take c.tokens (size ts) ts p)));
}

group_row : {A : Type 0} (c : Text) (u : A → ℕ → List Tree) (t : Token) (ts : List Token) → PartOf c.tokens (t ∷ ts) → (x : A) → RowOn c (take (width t) ts) (u x) → RowOn c (t ∷ take (past t) ts) (u x)
group_row c u t ts p x r from n b =
    let rise = part_rise c.tokens (t ∷ ts) c.rise p in
    let hold = part_hold c.tokens (t ∷ ts) c.hold p in
    let inner = r t.end n (begin_taken t.end (width t) ts rise.1.0) in
    row_from c.tokens from t.end (reach t.end (take (past t) ts)) (u x n) (omega (arith, b.0, rise.0))
    (row_to c.tokens t.end (reach t.end (take (width t) ts)) (reach t.end (take (past t) ts)) (u x n) (reach_less t.end (width t) (past t) ts hold.0 rise.1.1 rise.1.0) inner) where
      begin_taken : (from n : ℕ) (ts : List Token) → Begin from ts → Begin from (take n ts)
      begin_taken from n ts b = each_front (λ t. from ≤ t.start) (take n ts) (drop n ts) (subst (λ (us : List Token). Begin from us) (sym (take-append-drop n ts)) b)

inside_found : {A : Type 0} (c : Text) (u : A → ℕ → List Tree) (some : Bool) (g : Descent Token A) (opens : Token → Bool) → Lays c u some g → (ts : List Token) → PartOf c.tokens ts → Maybe (Laid c (λ (z : Token × A). u z.1) true ts) (take_inside opens width past g ts)
inside_found c u some g opens a [] p = tt
inside_found {A = A} c u some g opens a (t ∷ ts) p =
    let L : Reading Token (Token × A) → Type 0 = Laid c (λ (z : Token × A). u z.1) true (t ∷ ts) in
    if_found L (opens t) (option_map (λ a. ((t, a), drop (past t) ts)) (complete (g (take (width t) ts)))) None
    (option_found (λ a. RowOn c (take (width t) ts) (u a)) L (λ a. ((t, a), drop (past t) ts)) (complete (g (take (width t) ts)))
    (λ x r. record { read = t ∷ take (past t) ts; is = ap (λ (us : List Token). t ∷ us) (sym (take-append-drop (past t) ts)); filled = tt; row = group_row c u t ts p x r })
    (complete_found c u some (take (width t) ts) (g (take (width t) ts)) (a.each (take (width t) ts) (part_take c.tokens (width t) ts (part_back c.tokens (t ∷ []) ts p))))) tt

pub lays_inside : {A : Type 0} {c : Text} {u : A → ℕ → List Tree} {some : Bool} {g : Descent Token A} (opens : Token → Bool) → Lays c u some g → Lays c (λ (z : Token × A). u z.1) true (take_inside opens width past g)
lays_inside {c = c} {u = u} {some = some} {g = g} opens a = record { each = inside_found c u some g opens a }

pub lays_before : {A : Type 0} {c : Text} {u : A → ℕ → List Tree} {some : Bool} {g : Descent Token A} (t : Test Token) → Lays c u some g → Lays c u some (take_before t g)
lays_before {c = c} {u = u} {some = some} {g = g} t a = record {
  each = λ ts p. bound (Laid c u some ts) (Laid c u some ts) (λ x. if t x.1 then Some x else None) (g ts) (a.each ts p) (λ x l. if_found (Laid c u some ts) (t x.1) (Some x) None l tt);
}

pub lays_only : {A : Type 0} {c : Text} {u : A → ℕ → List Tree} {some : Bool} {g : Descent Token A} (t : A → Bool) → Lays c u some g → Lays c u some (take_only t g)
lays_only {c = c} {u = u} {some = some} {g = g} t a = record {
  each = λ ts p. bound (Laid c u some ts) (Laid c u some ts) (λ x. if t x.0 then Some x else None) (g ts) (a.each ts p) (λ x l. if_found (Laid c u some ts) (t x.0) (Some x) None l tt);
}

-- Lists.

first_shown : {A B : Type 0} (u : A → ℕ → List Tree) (a : A) (o : Option (B × List A)) (n : ℕ) → total u (first_behind (a, o)) n ≡ u a n ++ if_there (both unshown (total u)) o n
first_shown u a None n = refl
first_shown u a (Some y) n = refl

lays_at_most_elements : {A B : Type 0} {c : Text} {u : A → ℕ → List Tree} {b d : Bool} {g : Descent Token A} {comma : Descent Token B} (n : ℕ) → Lays c u b g → Lays c unshown d comma → Lays c (total u) false (take_at_most_elements n g comma)
lays_at_most_elements {c = c} {u = u} zero a e = lays_given c (total u) [] (λ n. refl)
lays_at_most_elements {c = c} {u = u} (suc n) a e =
    lays_or (lays_turn (total u) first_behind (lays_less (lays_seq a (lays_maybe (lays_seq e (lays_at_most_elements n a e))))) (λ x n. first_shown u x.0 x.1 n))
    (lays_given c (total u) [] (λ n. refl))

pub lays_elements : {A B : Type 0} {c : Text} {u : A → ℕ → List Tree} {b d : Bool} {g : Descent Token A} {comma : Descent Token B} → Lays c u b g → Lays c unshown d comma → Lays c (total u) false (take_elements g comma)
lays_elements a e = record { each = λ ts p. (lays_at_most_elements (length ts) a e).each ts p }

-- Items.

-- what stands for tokens that derive nothing is a node over them without parts
abbrev pub IsBare : Text → (List Token → Tree) → Type 0
IsBare c error = (read : List Token) (n : ℕ) → (place_of (with_lists c.lists n (error read)) ≡ place_over read) × (parts_of (with_lists c.lists n (error read)) ≡ [])

pub bare_on : (c : Text) (error : List Token → Tree) → IsBare c error → (read : List Token) → PartOf c.tokens read → Filled true read → RowOn c read (one c (error read))
bare_on c error h read p f =
    node_on c read p f (λ n. with_lists c.lists n (error read)) (λ n. (h read n).0)
    (λ n from b. subst (λ (ts : List Tree). Row c.tokens from (reach from read) ts) (sym (h read n).1) (none_on c read p from n b))

item_row : (c : Text) (more : List Token → List Tree) (segment : List Token → ℕ) (error : List Token → Tree) → IsBare c error → ((us : List Token) → PartOf c.tokens us → RowOn c us (total (one c) (more us))) → (t : Token) (ts : List Token) → PartOf c.tokens (t ∷ ts) →
    (o : Option (Reading Token Tree)) → Maybe (Laid c (one c) true (t ∷ ts)) o → RowOn c (t ∷ ts) (total (one c) (item_or_error more segment error (t ∷ ts) o))
item_row c more segment error bare each t ts p None h =
    let k = segment (t ∷ ts) in
    let parted : (t ∷ take k ts) ++ drop k ts ≡ t ∷ ts = ap (λ (us : List Token). t ∷ us) (take-append-drop k ts) in
    let part : PartOf c.tokens ((t ∷ take k ts) ++ drop k ts) = subst (λ (us : List Token). PartOf c.tokens us) (sym parted) p in
    subst (λ (us : List Token). RowOn c us (λ n. one c (error (t ∷ take k ts)) n ++ total (one c) (more (drop k ts)) n)) parted
    (rows_both c (t ∷ take k ts) (drop k ts) (one c (error (t ∷ take k ts))) (total (one c) (more (drop k ts))) part
    (bare_on c error bare (t ∷ take k ts) (part_front c.tokens (t ∷ take k ts) (drop k ts) part) tt)
    (each (drop k ts) (part_back c.tokens (t ∷ take k ts) (drop k ts) part)))
item_row c more segment error bare each t ts p (Some x) l =
    subst (λ (us : List Token). RowOn c us (λ n. one c x.0 n ++ total (one c) (more x.1) n)) (sym l.is)
    (rows_both c l.read x.1 (one c x.0) (total (one c) (more x.1)) (subst (λ (us : List Token). PartOf c.tokens us) l.is p) l.row (each x.1 (part_rest c (t ∷ ts) l.read x.1 p l.is)))

items_row : (c : Text) (n : ℕ) (g : Descent Token Tree) (segment : List Token → ℕ) (error : List Token → Tree) → IsBare c error → Lays c (one c) true g → (ts : List Token) → PartOf c.tokens ts → RowOn c ts (total (one c) (take_items_at n g segment error ts))
items_row c zero g segment error bare a ts p = none_on c ts p
items_row c (suc n) g segment error bare a [] p = none_on c [] p
items_row c (suc n) g segment error bare a (t ∷ ts) p =
    item_row c (take_items_at n g segment error) segment error bare (λ us q. items_row c n g segment error bare a us q) t ts p (g (t ∷ ts)) (a.each (t ∷ ts) p)

pub all_items_row : (c : Text) (g : Descent Token Tree) (segment : List Token → ℕ) (error : List Token → Tree) → IsBare c error → Lays c (one c) true g → (ts : List Token) → PartOf c.tokens ts → RowOn c ts (total (one c) (all_items g segment error ts))
all_items_row c g segment error bare a ts p = items_row c (length ts) g segment error bare a ts p

pub lays_items : {c : Text} {g : Descent Token Tree} (segment : List Token → ℕ) (error : List Token → Tree) → IsBare c error → Lays c (one c) true g → Lays c (total (one c)) false (take_items g segment error)
lays_items {c = c} {g = g} segment error bare a = record {
  each = λ ts p. record { read = ts; is = sym (append-nil ts); filled = tt; row = all_items_row c g segment error bare a ts p };
}
