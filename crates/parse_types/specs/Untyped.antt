-- Where the name of a type would be the whole of it, and neither a name nor `this` stands behind, no type in front of one is read.
use Rattle.std.proofs.Common.{◌≡◌, ℕ, zero, suc, Bool, true, false, not, ◌&&◌, ◌||◌, if◌then◌else◌, List, [], ◌∷◌, drop, Option, Some, None, refl, sym, ap, ◌∙◌, subst}
use denote.Enum.Bare.{same_true}
use Rattle.readings.specs.Readings.{Reading, Test, next, made, behind}
use Rattle.readings.specs.Descent.{Descent, bind, or_else, take_token, take_maybe, take_make, take_turn, take_before, take_onto, ◌▸◌}
use Rattle.readings.specs.Levels.{onto_stays}
use Rattle.dart_tokens.specs.declared.token.Kind.{Kind}
use Rattle.dart_tokens.specs.declared.token.Kind.TheVariants as kind
use Rattle.dart_tokens.specs.contracts.token.Kind as kinds
use Rattle.dart_tokens.specs.Kinds.{is_identifier}
use Rattle.dart_tree.specs.Tree.{Tree}
use Rattle.dart_tree.specs.Heights.{fits}
use Rattle.dart_tokens.specs.declared.grouped_token.GroupedToken.{GroupedToken as Token}
use Rattle.grammar.specs.Tokens.{is, is_name, is_type_name, heads, heads_name}
use Rattle.grammar.specs.Types.{heads_qualified, heads_field, qualified_of, unqualified_of, named_type_of, void_of, first_tail_of, next_tail_of, every_time}
use Rattle.grammar.specs.Descents.{Lower, lower, take_type_arguments, take_type_name, take_question, take_plain_type, take_tail, take_tail_before, take_type}
use Rattle.parse_leaves.specs.Next.{goes_on_type, type_name_size, heads_untyped}

-- a reading, if there is one, leaves these tokens
abbrev Leaves : {A : Type 0} → Option (Reading Token A) → List Token → Type 0
Leaves None us = Unit {0}
Leaves (Some x) us = x.1 ≡ us

leaves_made : {A B : Type 0} (f : List Token → A → B) (ts us : List Token) (o : Option (Reading Token A)) → Leaves o us → Leaves (bind o (λ x. Some (made f ts x))) us
leaves_made f ts us None e = tt
leaves_made f ts us (Some x) e = e

leaves_behind : {A B : Type 0} (a : A) (us : List Token) (o : Option (Reading Token B)) → Leaves o us → Leaves (bind o (λ y. Some (behind a y))) us
leaves_behind a us None e = tt
leaves_behind a us (Some y) e = e

leaves_then : {A B : Type 0} (o : Option (Reading Token A)) (h : Descent Token B) (us vs : List Token) → Leaves o us → Leaves (h us) vs → Leaves (bind o (λ x. bind (h x.1) (λ y. Some (behind x.0 y)))) vs
leaves_then None h us vs e d = tt
leaves_then (Some x) h us vs e d = subst (λ ws. Leaves (bind (h ws) (λ y. Some (behind x.0 y))) vs) (sym e) (leaves_behind x.0 vs (h us) d)

leaves_token : (f : Token → Bool) (t : Token) (ts : List Token) → Leaves (take_token f (t ∷ ts)) ts
leaves_token f t ts = by (f t)
  where
    by : (b : Bool) → Leaves (if b then Some (t, ts) else None) ts
    by true = refl
    by false = tt

-- The name of a type.

name_behind : (b : Bool) (ts : List Token) →
    Leaves (if b then take_turn qualified_of (take_token is_name ▸ take_token (is kind.Period) ▸ take_token is_type_name) ts else take_turn unqualified_of (take_token is_type_name) ts) (drop (if b then 3 else 1) ts)
name_behind true [] = tt
name_behind true (t ∷ []) =
    leaves_made (λ read a. qualified_of a) (t ∷ []) [] ((take_token is_name ▸ take_token (is kind.Period) ▸ take_token is_type_name) (t ∷ []))
    (leaves_then (take_token is_name (t ∷ [])) (take_token (is kind.Period) ▸ take_token is_type_name) [] [] (leaves_token is_name t []) tt)
name_behind true (t ∷ (u ∷ [])) =
    leaves_made (λ read a. qualified_of a) (t ∷ (u ∷ [])) [] ((take_token is_name ▸ take_token (is kind.Period) ▸ take_token is_type_name) (t ∷ (u ∷ [])))
    (leaves_then (take_token is_name (t ∷ (u ∷ []))) (take_token (is kind.Period) ▸ take_token is_type_name) (u ∷ []) [] (leaves_token is_name t (u ∷ []))
    (leaves_then (take_token (is kind.Period) (u ∷ [])) (take_token is_type_name) [] [] (leaves_token (is kind.Period) u []) tt))
name_behind true (t ∷ (u ∷ (v ∷ ts))) =
    leaves_made (λ read a. qualified_of a) (t ∷ (u ∷ (v ∷ ts))) ts ((take_token is_name ▸ take_token (is kind.Period) ▸ take_token is_type_name) (t ∷ (u ∷ (v ∷ ts))))
    (leaves_then (take_token is_name (t ∷ (u ∷ (v ∷ ts)))) (take_token (is kind.Period) ▸ take_token is_type_name) (u ∷ (v ∷ ts)) ts (leaves_token is_name t (u ∷ (v ∷ ts)))
    (leaves_then (take_token (is kind.Period) (u ∷ (v ∷ ts))) (take_token is_type_name) (v ∷ ts) ts (leaves_token (is kind.Period) u (v ∷ ts)) (leaves_token is_type_name v ts)))
name_behind false [] = tt
name_behind false (t ∷ ts) = leaves_made (λ read a. unqualified_of a) (t ∷ ts) ts (take_token is_type_name (t ∷ ts)) (leaves_token is_type_name t ts)

name_leaves : (ts : List Token) → Leaves (take_type_name ts) (drop (type_name_size ts) ts)
unfolding take_type_name
name_leaves ts = name_behind (heads_qualified ts) ts

-- What stands behind it.

no_first : (a b c d : Bool) → not (a || b || c || d) ≡ true → a ≡ false
no_first true b c d e = absurd (cc)
no_first false b c d e = refl

no_second : (a b c d : Bool) → not (a || b || c || d) ≡ true → b ≡ false
no_second true b c d e = absurd (cc)
no_second false true c d e = absurd (cc)
no_second false false c d e = refl

no_third : (a b c d : Bool) → not (a || b || c || d) ≡ true → c ≡ false
no_third true b c d e = absurd (cc)
no_third false true c d e = absurd (cc)
no_third false false true d e = absurd (cc)
no_third false false false d e = refl

no_fourth : (a b c d : Bool) → not (a || b || c || d) ≡ true → d ≡ false
no_fourth true b c d e = absurd (cc)
no_fourth false true c d e = absurd (cc)
no_fourth false false true d e = absurd (cc)
no_fourth false false false true e = absurd (cc)
no_fourth false false false false e = refl

-- a token of a kind that is a name
named_kind : (k : Kind) (t : Token) → is_identifier k ≡ true → is_name t ≡ false → is k t ≡ false
named_kind k t so e = by (is k t) refl
  where
    by : (b : Bool) → is k t ≡ b → b ≡ false
    by true d = absurd (let at : is_name t ≡ true = ap is_identifier (same_true kinds.the_type tt t.kind k d) ∙ so in cc)
    by false d = refl

-- a token of a kind that is no name
unnamed_kind : (k : Kind) (t : Token) → is_identifier k ≡ false → is k t ≡ true → is_name t ≡ false
unnamed_kind k t so e = ap is_identifier (same_true kinds.the_type tt t.kind k e) ∙ so

-- no type arguments, no `?`, no tail, and neither a name nor `this`
record Ends (us : List Token) : Type 0 where
  plain : heads_name us ≡ false
  field : heads_field us ≡ false
  tail : heads kind.Function us ≡ false
  arguments : (l : Lower) → Leaves (take_maybe (take_type_arguments l) us) us
  question : Leaves (take_question (heads kind.Question) us) us

ends : (us : List Token) → next (λ t. not (goes_on_type t)) us ≡ true → Ends us
unfolding take_type_arguments take_question
ends [] e = absurd (cc)
ends (u ∷ us) e =
    let name : is_name u ≡ false = no_first (is_name u) (is kind.Less u) (is kind.Question u) (is kind.This u) e in
    let less : is kind.Less u ≡ false = no_second (is_name u) (is kind.Less u) (is kind.Question u) (is kind.This u) e in
    let question : is kind.Question u ≡ false = no_third (is_name u) (is kind.Less u) (is kind.Question u) (is kind.This u) e in
    let this : is kind.This u ≡ false = no_fourth (is_name u) (is kind.Less u) (is kind.Question u) (is kind.This u) e in
    record {
      plain = name;
      field = rw (name, this) refl;
      tail = named_kind kind.Function u refl name;
      arguments = λ l. rw less refl;
      question = rw question refl;
    }

-- The type.

no_tail : (l : Lower) (question ends : Test Token) (ts : List Token) → heads kind.Function ts ≡ false → take_tail_before l question ends ts ≡ None
unfolding take_tail_before take_tail
no_tail l question ends [] e = refl
no_tail l question ends (t ∷ ts) e = rw e refl

void_behind : (ts us : List Token) → us ≡ drop (type_name_size ts) ts → heads kind.Void ts ≡ true → Leaves (take_turn void_of (take_token (is kind.Void)) ts) us
void_behind [] us e d = tt
void_behind (t ∷ ts) us e d =
    let name : is_name t ≡ false = unnamed_kind kind.Void t refl d in
    let same : us ≡ ts = e ∙ rw name refl in
    leaves_made (λ read a. void_of a) (t ∷ ts) us (take_token (is kind.Void) (t ∷ ts)) (subst (λ ws. Leaves (take_token (is kind.Void) (t ∷ ts)) ws) (sym same) (leaves_token (is kind.Void) t ts))

plain_behind : (l : Lower) (ts us : List Token) → us ≡ drop (type_name_size ts) ts → Ends us → Leaves (take_make named_type_of (take_type_name ▸ take_maybe (take_type_arguments l) ▸ take_question (heads kind.Question)) ts) us
plain_behind l ts us e stop =
    leaves_made named_type_of ts us ((take_type_name ▸ take_maybe (take_type_arguments l) ▸ take_question (heads kind.Question)) ts)
    (leaves_then (take_type_name ts) (take_maybe (take_type_arguments l) ▸ take_question (heads kind.Question)) us us (subst (λ ws. Leaves (take_type_name ts) ws) (sym e) (name_leaves ts))
    (leaves_then (take_maybe (take_type_arguments l) us) (take_question (heads kind.Question)) us us (stop.arguments l) stop.question))

plain_leaves : (l : Lower) (ts us : List Token) → us ≡ drop (type_name_size ts) ts → Ends us → Leaves (take_plain_type l (heads kind.Question) ts) us
unfolding take_plain_type
plain_leaves l ts us e stop = by (heads kind.Void ts) refl
  where
    by : (b : Bool) → heads kind.Void ts ≡ b →
        Leaves (if b then take_turn void_of (take_token (is kind.Void)) ts else take_make named_type_of (take_type_name ▸ take_maybe (take_type_arguments l) ▸ take_question (heads kind.Question)) ts) us
    by true d = void_behind ts us e d
    by false d = plain_behind l ts us e stop

-- what is asked for doesn't stand behind the type
unmet : (stop : Test Token) (n : ℕ) (l : Lower) (ends : Test Token) (us : List Token) (start : List Token) (o : Option (Reading Token Tree)) → Leaves o us → Ends us → stop us ≡ false →
    bind (bind o (λ x. take_onto start (every_time x.0 x.1) (fits n) next_tail_of (take_tail_before l (heads kind.Question) ends) x.0 x.1)) (λ x. if stop x.1 then Some x else None) ≡ None
unmet stop n l ends us start None e end d = refl
unmet stop n l ends us start (Some x) e end d =
    let tail : take_tail_before l (heads kind.Question) ends x.1 ≡ None = no_tail l (heads kind.Question) ends x.1 (ap (heads kind.Function) e ∙ end.tail) in
    let plain : stop x.1 ≡ false = ap stop e ∙ d in
    ap (λ o. bind o (λ x. if stop x.1 then Some x else None)) (onto_stays start (every_time x.0 x.1) (fits n) next_tail_of (take_tail_before l (heads kind.Question) ends) x.0 x.1 tail) ∙ rw plain refl

no_type : (stop : Test Token) (n : ℕ) (l : Lower) (ends : Test Token) (ts us : List Token) → us ≡ drop (type_name_size ts) ts → Ends us → stop us ≡ false → heads kind.Function ts ≡ false → take_before stop (take_type n l (heads kind.Question) ends) ts ≡ None
unfolding take_type
no_type stop n l ends ts us e end d first =
    ap (λ (o : Option (Reading Token Tree)). bind (bind o (λ x. take_onto ts (every_time x.0 x.1) (fits n) next_tail_of (take_tail_before l (heads kind.Question) ends) x.0 x.1)) (λ x. if stop x.1 then Some x else None))
    (ap (λ o. or_else (bind o (λ x. Some (made first_tail_of ts x))) (take_plain_type l (heads kind.Question) ts)) (no_tail l (heads kind.Question) ends ts first))
    ∙ unmet stop n l ends us ts (take_plain_type l (heads kind.Question) ts) (plain_leaves l ts us e end) end d

both_first : (a b : Bool) → (not a && b) ≡ true → a ≡ false
both_first true b e = absurd (cc)
both_first false b e = refl

both_second : (a b : Bool) → (not a && b) ≡ true → b ≡ true
both_second true b e = absurd (cc)
both_second false b e = e

untyped_before : (stop : Test Token) (n : ℕ) (ts : List Token) → ((us : List Token) → Ends us → stop us ≡ false) → heads_untyped ts ≡ true → take_before stop (lower n).named ts ≡ None
unfolding lower
untyped_before stop zero ts ended e = refl
untyped_before stop (suc n) ts ended e =
    let rest : Bool = next (λ t. not (goes_on_type t)) (drop (type_name_size ts) ts) in
    let end : Ends (drop (type_name_size ts) ts) = ends (drop (type_name_size ts) ts) (both_second (heads kind.Function ts) rest e) in
    no_type stop n (lower n) heads_field ts (drop (type_name_size ts) ts) refl end (ended (drop (type_name_size ts) ts) end) (both_first (heads kind.Function ts) rest e)

-- in front of a name
pub untyped_name : (n : ℕ) (ts : List Token) → heads_untyped ts ≡ true → take_before heads_name (lower n).named ts ≡ None
untyped_name n ts e = untyped_before heads_name n ts (λ us end. end.plain) e

-- in front of a parameter's name
pub untyped_field : (n : ℕ) (ts : List Token) → heads_untyped ts ≡ true → take_before heads_field (lower n).named ts ≡ None
untyped_field n ts e = untyped_before heads_field n ts (λ us end. end.field) e
