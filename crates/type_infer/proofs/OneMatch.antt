-- Matching ends one way at most, with one list of constraints.
use Rattle.std.specs.Prelude.{◌||◌}
use Rattle.std.proofs.Common.{◌≡◌, ◌<◌, ◌≤◌, Bool, true, false, not, List, Option, Some, None, refl, sym, ap, subst, arith}
use Rattle.dart_types.specs.Ty.{Ty, Types, invalid, never, void, null, interface, function, variable, promoted, nullable}
use Rattle.dart_types.specs.Same.{same_class}
use Rattle.dart_types.specs.Sizes.{size_of, held}
use Rattle.dart_types.specs.Tables.{Table, bound_of}
use Rattle.dart_types.specs.Heads.{is_plain}
use Rattle.dart_types.specs.declared.ids.ClassId.{ClassId}
use Rattle.dart_types.specs.declared.ids.VarId.{VarId}
use Rattle.dart_types.specs.declared.refusal.TheConstants.{NODE_LIMIT}
use Rattle.type_infer.specs.Matching.{End, too_large, is_built, is_as_it_stands, is_leaf, Match, fixed, faced, Face, MatchAll, constrained, open_there, null_at_mark, marked_both, marked_formal, marked_subtype, marked_other, bound_of_other, unbound_other, promoted_other, one_class, other_climbs, formal_climbs, other_too_large, formal_too_large, other_elsewhere, formal_elsewhere, functions, other_signature, leaf, all_matched, open_part, part_matched, part_ended}
use Rattle.type_infer.specs.Holding.{holds_param}
use Rattle.type_infer.specs.Open.{is_open}
use Rattle.type_infer.specs.Pairs.{Pair, paired, signatures_fit}
use Rattle.type_infer.specs.declared.constraints.Constraint.{Constraint}
use Rattle.type_infer.specs.declared.constraints.Side.{Side}
use Rattle.type_infer.specs.declared.constraints.Side.TheVariants.{AtLeast, AtMost}
use Rattle.type_infer.proofs.General.{clash}

-- a class or a function type, with `?` or without, that faces a type that doesn't stand is no leaf
built_no_leaf : {A : Type 0} (side : Side) (t s : Ty) → is_built t ≡ true → is_as_it_stands side s ≡ false → is_leaf side t s ≡ true → A
built_no_leaf side invalid s b k l = cc
built_no_leaf side never s b k l = cc
built_no_leaf side void s b k l = cc
built_no_leaf side null s b k l = cc
built_no_leaf side (interface c ts) s b k l = cc
built_no_leaf side (function r o n e) s b k l = cc
built_no_leaf side (variable x) s b k l = cc
built_no_leaf side (promoted x t) s b k l = cc
built_no_leaf side (nullable t) s b k l = cc

plain_no_leaf : {A : Type 0} (side : Side) (t s : Ty) → is_plain t ≡ true → is_as_it_stands side s ≡ false → is_leaf side t s ≡ true → A
plain_no_leaf side invalid s b k l = cc
plain_no_leaf side never s b k l = cc
plain_no_leaf side void s b k l = cc
plain_no_leaf side null s b k l = cc
plain_no_leaf side (interface c ts) s b k l = cc
plain_no_leaf side (function r o n e) s b k l = cc
plain_no_leaf side (variable x) s b k l = cc
plain_no_leaf side (promoted x t) s b k l = cc
plain_no_leaf side (nullable t) s b k l = cc

-- a class or a function type with `?` isn't taken bare where the other type gives way
kept : {A : Type 0} (b : Bool) → b ≡ true → (false || not b) ≡ true → A
kept true h k = cc
kept false h k = cc

-- a bound is one
same_some : (o : Option Ty) (b c : Ty) → o ≡ Some b → o ≡ Some c → b ≡ c
same_some o b c e f = cc

some_none : {A : Type 0} (o : Option Ty) (b : Ty) → o ≡ Some b → o ≡ None → A
some_none o b e f = cc

module _ (table : Table) (params : List VarId) where
  -- both ends are one, and so are both lists
  abbrev Agree : List Constraint → List Constraint → End → End → Type 0
  Agree cs ds end last = (cs ≡ ds) × (end ≡ last)

  -- a superinterface isn't within the limit and over it
  within_and_over : {A : Type 0} (c : ClassId) (us vs : Types) → us ≡ vs → size_of (interface c us) ≤ NODE_LIMIT → NODE_LIMIT < size_of (interface c vs) → A
  within_and_over c us vs e h k = let l : NODE_LIMIT < size_of (interface c us) = subst (λ (ws : Types). NODE_LIMIT < size_of (interface c ws)) (sym e) k in absurd (omega (arith, h, l))

  mutual
    pub one_match : {side : Side} {t s : Ty} {cs ds : List Constraint} {end last : End} → Match table params side t s cs end → Match table params side t s ds last → Agree cs ds end last
    one_match (fixed h) (fixed k) = (refl, refl)
    one_match (fixed {t = t} h) (faced k n) = clash (holds_param params t) k h
    one_match (faced {t = t} h m) (fixed k) = clash (holds_param params t) h k
    one_match (faced h m) (faced k n) = one_face m n

    one_face : {side : Side} {t s : Ty} {cs ds : List Constraint} {end last : End} → Face table params side t s cs end → Face table params side t s ds last → Agree cs ds end last
    -- a parameter
    one_face (constrained o) (constrained p) = (refl, refl)
    one_face (constrained {s = s} o) (open_there p) = clash (is_open s) p o
    one_face (constrained o) (marked_other b m) = cc
    one_face (constrained o) (bound_of_other b k m) = cc
    one_face (constrained o) (unbound_other b k) = cc
    one_face (constrained o) (promoted_other b m) = cc
    one_face (constrained o) (leaf l) = cc
    one_face (open_there {s = s} o) (constrained p) = clash (is_open s) o p
    one_face (open_there o) (open_there p) = (refl, refl)
    one_face (open_there o) (marked_other b m) = cc
    one_face (open_there o) (bound_of_other b k m) = cc
    one_face (open_there o) (unbound_other b k) = cc
    one_face (open_there o) (promoted_other b m) = cc
    one_face (open_there o) (leaf l) = cc
    -- a formal with `?`
    one_face null_at_mark null_at_mark = (refl, refl)
    one_face null_at_mark (marked_formal b i m) = cc
    one_face null_at_mark (leaf l) = cc
    one_face (marked_both k m) (marked_both l n) = one_face m n
    one_face (marked_both k m) (marked_formal b j n) = cc
    one_face (marked_both {t = t} k m) (marked_subtype b n) = clash (is_plain t) b k
    one_face (marked_both k m) (marked_other b n) = cc
    one_face (marked_both k m) (leaf l) = cc
    one_face (marked_formal b i m) null_at_mark = cc
    one_face (marked_formal b i m) (marked_both k n) = cc
    one_face (marked_formal b i m) (marked_formal k j n) = one_face m n
    one_face (marked_formal b i m) (marked_subtype k n) = cc
    one_face (marked_formal b i m) (marked_other k n) = cc
    one_face (marked_formal {t = t} b i m) (bound_of_other k e n) = kept (is_plain t) k i
    one_face (marked_formal {t = t} b i m) (unbound_other k e) = kept (is_plain t) k i
    one_face (marked_formal {t = t} b i m) (promoted_other k n) = kept (is_plain t) k i
    one_face (marked_formal b i m) (leaf l) = cc
    one_face (marked_subtype {t = t} b m) (marked_both k n) = clash (is_plain t) b k
    one_face (marked_subtype b m) (marked_formal k j n) = cc
    one_face (marked_subtype b m) (marked_subtype k n) = one_face m n
    one_face (marked_subtype b m) (leaf l) = cc
    -- another type that gives way
    one_face (marked_other b m) (constrained o) = cc
    one_face (marked_other b m) (open_there o) = cc
    one_face (marked_other b m) (marked_both k n) = cc
    one_face (marked_other b m) (marked_formal k j n) = cc
    one_face (marked_other b m) (marked_other k n) = one_face m n
    one_face (marked_other {t = t} {s = s} b m) (leaf l) = plain_no_leaf AtMost t (nullable s) b refl l
    one_face (bound_of_other b e m) (constrained o) = cc
    one_face (bound_of_other b e m) (open_there o) = cc
    one_face (bound_of_other b e m) (marked_formal {t = t} k j n) = kept (is_plain t) b j
    one_face (bound_of_other {y = y} {b = u} {t = t} b e m) (bound_of_other {b = v} {cs = ds} {end = last} k f n) =
        one_face m (subst (λ (w : Ty). Face table params AtLeast t w ds last) (same_some (bound_of table y) v u f e) n)
    one_face (bound_of_other {y = y} {b = u} b e m) (unbound_other k f) = some_none (bound_of table y) u e f
    one_face (bound_of_other {y = y} {t = t} b e m) (leaf l) = built_no_leaf AtLeast t (variable y) b refl l
    one_face (unbound_other b e) (constrained o) = cc
    one_face (unbound_other b e) (open_there o) = cc
    one_face (unbound_other b e) (marked_formal {t = t} k j n) = kept (is_plain t) b j
    one_face (unbound_other {y = y} b e) (bound_of_other {b = v} k f n) = some_none (bound_of table y) v f e
    one_face (unbound_other b e) (unbound_other k f) = (refl, refl)
    one_face (unbound_other {y = y} {t = t} b e) (leaf l) = built_no_leaf AtLeast t (variable y) b refl l
    one_face (promoted_other b m) (constrained o) = cc
    one_face (promoted_other b m) (open_there o) = cc
    one_face (promoted_other b m) (marked_formal {t = t} k j n) = kept (is_plain t) b j
    one_face (promoted_other b m) (promoted_other k n) = one_face m n
    one_face (promoted_other {y = y} {u = u} {t = t} b m) (leaf l) = built_no_leaf AtLeast t (promoted y u) b refl l
    -- classes
    one_face (one_class e m) (one_class f n) = one_list m n
    one_face (one_class {c = c} {d = d} e m) (other_climbs f a h n) = clash (same_class c d) e f
    one_face (one_class {c = c} {d = d} e m) (formal_climbs f a h n) = clash (same_class c d) e f
    one_face (one_class {c = c} {d = d} e m) (other_too_large f a h) = clash (same_class c d) e f
    one_face (one_class {c = c} {d = d} e m) (formal_too_large f a h) = clash (same_class c d) e f
    one_face (one_class {c = c} {d = d} e m) (other_elsewhere f n) = clash (same_class c d) e f
    one_face (one_class {c = c} {d = d} e m) (formal_elsewhere f n) = clash (same_class c d) e f
    one_face (one_class e m) (leaf l) = cc
    one_face (other_climbs {c = c} {d = d} e a h m) (one_class f n) = clash (same_class c d) f e
    one_face (other_climbs {ts = ts} {us = us} e a h m) (other_climbs {us = vs} {cs = ds} {end = last} f b k n) =
        one_list m (subst (λ (ws : Types). MatchAll table params (paired AtLeast ts ws) ds last) (a.only vs b.above) n)
    one_face (other_climbs {c = c} {us = us} e a h m) (other_too_large {us = vs} f b k) = within_and_over c us vs (b.only us a.above) h k
    one_face (other_climbs {us = us} e a h m) (other_elsewhere f n) = absurd (n us a)
    one_face (other_climbs e a h m) (leaf l) = cc
    one_face (formal_climbs {c = c} {d = d} e a h m) (one_class f n) = clash (same_class c d) f e
    one_face (formal_climbs {ss = ss} {us = us} e a h m) (formal_climbs {us = vs} {cs = ds} {end = last} f b k n) =
        one_list m (subst (λ (ws : Types). MatchAll table params (paired AtMost ws ss) ds last) (a.only vs b.above) n)
    one_face (formal_climbs {d = d} {us = us} e a h m) (formal_too_large {us = vs} f b k) = within_and_over d us vs (b.only us a.above) h k
    one_face (formal_climbs {us = us} e a h m) (formal_elsewhere f n) = absurd (n us a)
    one_face (formal_climbs e a h m) (leaf l) = cc
    one_face (other_too_large {c = c} {d = d} e a h) (one_class f n) = clash (same_class c d) f e
    one_face (other_too_large {c = c} {us = us} e a h) (other_climbs {us = vs} f b k n) = within_and_over c vs us (a.only vs b.above) k h
    one_face (other_too_large {c = c} {us = us} e a h) (other_too_large {us = vs} f b k) = (refl, ap (λ (ws : Types). too_large (held (size_of (interface c ws)))) (b.only us a.above))
    one_face (other_too_large {us = us} e a h) (other_elsewhere f n) = absurd (n us a)
    one_face (other_too_large e a h) (leaf l) = cc
    one_face (formal_too_large {c = c} {d = d} e a h) (one_class f n) = clash (same_class c d) f e
    one_face (formal_too_large {d = d} {us = us} e a h) (formal_climbs {us = vs} f b k n) = within_and_over d vs us (a.only vs b.above) k h
    one_face (formal_too_large {d = d} {us = us} e a h) (formal_too_large {us = vs} f b k) = (refl, ap (λ (ws : Types). too_large (held (size_of (interface d ws)))) (b.only us a.above))
    one_face (formal_too_large {us = us} e a h) (formal_elsewhere f n) = absurd (n us a)
    one_face (formal_too_large e a h) (leaf l) = cc
    one_face (other_elsewhere {c = c} {d = d} e m) (one_class f n) = clash (same_class c d) f e
    one_face (other_elsewhere e m) (other_climbs {us = vs} f b k n) = absurd (m vs b)
    one_face (other_elsewhere e m) (other_too_large {us = vs} f b k) = absurd (m vs b)
    one_face (other_elsewhere e m) (other_elsewhere f n) = (refl, refl)
    one_face (other_elsewhere e m) (leaf l) = cc
    one_face (formal_elsewhere {c = c} {d = d} e m) (one_class f n) = clash (same_class c d) f e
    one_face (formal_elsewhere e m) (formal_climbs {us = vs} f b k n) = absurd (m vs b)
    one_face (formal_elsewhere e m) (formal_too_large {us = vs} f b k) = absurd (m vs b)
    one_face (formal_elsewhere e m) (formal_elsewhere f n) = (refl, refl)
    one_face (formal_elsewhere e m) (leaf l) = cc
    -- function types
    one_face (functions e m) (functions f n) = one_list m n
    one_face (functions {side = side} {r = r} {o = o} {r' = r'} {o' = o'} {n = n} {n' = n'} e m) (other_signature f) = clash (signatures_fit side r o n r' o' n') e f
    one_face (functions e m) (leaf l) = cc
    one_face (other_signature {side = side} {r = r} {o = o} {r' = r'} {o' = o'} {n = n} {n' = n'} e) (functions f m) = clash (signatures_fit side r o n r' o' n') f e
    one_face (other_signature e) (other_signature f) = (refl, refl)
    one_face (other_signature e) (leaf l) = cc
    -- leaves
    one_face (leaf l) (constrained o) = cc
    one_face (leaf l) (open_there o) = cc
    one_face (leaf l) null_at_mark = cc
    one_face (leaf l) (marked_both k n) = cc
    one_face (leaf l) (marked_formal b j n) = cc
    one_face (leaf l) (marked_subtype b n) = cc
    one_face (leaf {t = t} l) (marked_other {s = s} b n) = plain_no_leaf AtMost t (nullable s) b refl l
    one_face (leaf {t = t} l) (bound_of_other {y = y} b e n) = built_no_leaf AtLeast t (variable y) b refl l
    one_face (leaf {t = t} l) (unbound_other {y = y} b e) = built_no_leaf AtLeast t (variable y) b refl l
    one_face (leaf {t = t} l) (promoted_other {y = y} {u = u} b n) = built_no_leaf AtLeast t (promoted y u) b refl l
    one_face (leaf l) (one_class f n) = cc
    one_face (leaf l) (other_climbs f b k n) = cc
    one_face (leaf l) (formal_climbs f b k n) = cc
    one_face (leaf l) (other_too_large f b k) = cc
    one_face (leaf l) (formal_too_large f b k) = cc
    one_face (leaf l) (other_elsewhere f n) = cc
    one_face (leaf l) (formal_elsewhere f n) = cc
    one_face (leaf l) (functions f n) = cc
    one_face (leaf l) (other_signature f) = cc
    one_face (leaf l) (leaf k) = (refl, refl)

    one_list : {ps : List Pair} {cs ds : List Constraint} {end last : End} → MatchAll table params ps cs end → MatchAll table params ps ds last → Agree cs ds end last
    one_list all_matched all_matched = (refl, refl)
    one_list (open_part o m) (open_part k n) = one_list m n
    one_list (open_part {p = p} o m) (part_matched k n rest) = clash (is_open p.other) o k
    one_list (open_part {p = p} o m) (part_ended k e n) = clash (is_open p.other) o k
    one_list (part_matched {p = p} o m rest) (open_part k n) = clash (is_open p.other) k o
    one_list (part_matched o m rest) (part_matched k n others) =
        let first = one_match m n in
        let last = one_list rest others in
        (let e = first.0 in let f = last.0 in cc, last.1)
    one_list (part_matched o m rest) (part_ended k e n) = absurd (e (sym (one_match m n).1))
    one_list (part_ended {p = p} o e m) (open_part k n) = clash (is_open p.other) k o
    one_list (part_ended o e m) (part_matched k n others) = absurd (e (one_match m n).1)
    one_list (part_ended o e m) (part_ended k f n) = one_match m n
