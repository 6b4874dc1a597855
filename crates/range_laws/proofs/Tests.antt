-- Tests of the tokens that come next see no ranges; operators see where a `>` adjoins the next token.
use Rattle.std.proofs.Common.{◌≡◌, ℕ, zero, suc, Bool, true, false, ◌||◌, not, ◌&&◌, List, [], ◌∷◌, Option, Some, None, length, take, drop, if◌then◌else◌, refl, sym, ◌∙◌, subst}
use Rattle.std.specs.Option.{option_map_or}
use Rattle.readings.specs.Readings.{Test, next, either}
use Rattle.dart_tokens.specs.declared.token.Kind.{Kind}
use Rattle.dart_tokens.specs.declared.token.Kind.TheVariants as kind
use Rattle.dart_tree.specs.declared.places.Span.{Span}
use Rattle.dart_tokens.specs.declared.grouped_token.GroupedToken.{GroupedToken as Token}
use Rattle.grammar.specs.declared.level.Setting.{Setting}
use Rattle.grammar.specs.declared.level.Setting.TheVariants as setting
use Rattle.grammar.specs.declared.level.Sign.{Sign}
use Rattle.grammar.specs.declared.level.Sign.TheVariants as sign
use Rattle.dart_tree.specs.declared.operators.BinaryOperatorKind.TheVariants.{Greater, GreaterOrEqual}
use Rattle.grammar.specs.Tokens.{adjoins, is, is_either, is_name, is_type_name, heads, heads_name, first_then, group_then, anything, past, span_over}
use Rattle.grammar.specs.Types.{heads_qualified, heads_required, heads_field, goes_on_parameter}
use Rattle.grammar.specs.Outline.{Way, onward, ◌⨾◌, way_or, either_way, behind_or, perhaps, go_on, repeated, some_more, over, over_group, over_name, over_angles, over_parameter, over_tail, over_plain, over_type, behind_arguments}
use Rattle.grammar.specs.Parameters.{at_end, group_holds, over_piece, over_value, over_field, over_declared, over_untyped, begins_parameter, heads_name_end, heads_parameter, fills_brackets, heads_optional, fills_parentheses}
use Rattle.grammar.specs.Operators.{shift_at, greater_at, sign_at, heads_sign, read_sign, take_sign}
use Rattle.grammar.specs.Expressions.{goes_on, heads_cast, heads_rest, heads_brace, heads_body, heads_parentheses, heads_closure, begins_expression, heads_tail, heads_choice, heads_nullable, heads_label, heads_use, heads_generic, behind_call, heads_call}
use Rattle.grammar.specs.Statements.{segment_at, segment, case_size_at, case_size}
use Rattle.grammar.specs.Declarations.{heads_getter, heads_setter, is_class, begins_static, heads_static, word_at, class_word, heads_class, heads_word}
use Rattle.grammar.specs.Descents.{begins_string, begins_prefix}
use Rattle.range_laws.proofs.Follow.{Matched, Readers, Alike, agree_length, alike_behind, alike_drop, alike_take, Both, Found, Follows, Blind, BlindTo, option_found}

-- Tokens.

pub blind_is : (k : Kind) → BlindTo (is k)
blind_is k t u w = rw w.kind refl

pub blind_either : (j k : Kind) → BlindTo (is_either j k)
blind_either j k t u w = rw w.kind refl

pub blind_name : BlindTo is_name
blind_name t u w = rw w.kind refl

pub blind_type_name : BlindTo is_type_name
blind_type_name t u w = rw w.kind refl

pub blind_string : BlindTo begins_string
blind_string t u w = rw w.kind refl

pub blind_prefix : BlindTo begins_prefix
blind_prefix t u w = rw w.kind refl

pub blind_class : (class : Option ℕ) → BlindTo (is_class class)
blind_class None t u w = refl
blind_class (Some word) t u w = rw (w.kind, w.word) refl

-- Tests.

pub blind_next : (r : Readers) (f : Token → Bool) → BlindTo f → Blind r (next f)
blind_next r f b [] [] a = refl
blind_next r f b [] (u ∷ us) a = absurd a.agree
blind_next r f b (t ∷ ts) [] a = absurd a.agree
blind_next r f b (t ∷ ts) (u ∷ us) a = b t u a.agree.0

pub blind_heads : (r : Readers) (k : Kind) → Blind r (heads k)
blind_heads r k = blind_next r (is k) (blind_is k)

pub blind_heads_name : (r : Readers) → Blind r heads_name
blind_heads_name r = blind_next r is_name blind_name

pub blind_anything : (r : Readers) → Blind r anything
blind_anything r ts us a = refl

pub blind_first : (r : Readers) (f : Token → Bool) (c : Test Token) → BlindTo f → Blind r c → Blind r (first_then f c)
blind_first r f c b d [] [] a = refl
blind_first r f c b d [] (u ∷ us) a = absurd a.agree
blind_first r f c b d (t ∷ ts) [] a = absurd a.agree
blind_first r f c b d (t ∷ ts) (u ∷ us) a = rw (b t u a.agree.0, d ts us (alike_behind r t u ts us a)) refl

pub blind_group : (r : Readers) (f : Token → Bool) (c : Test Token) → BlindTo f → Blind r c → Blind r (group_then f c)
blind_group r f c b d [] [] a = refl
blind_group r f c b d [] (u ∷ us) a = absurd a.agree
blind_group r f c b d (t ∷ ts) [] a = absurd a.agree
blind_group r f c b d (t ∷ ts) (u ∷ us) a = rw (b t u a.agree.0, a.agree.0.past, d (drop (past u) ts) (drop (past u) us) (alike_drop r (past u) ts us (alike_behind r t u ts us a))) refl

pub blind_or : (r : Readers) (c d : Test Token) → Blind r c → Blind r d → Blind r (λ ts. c ts || d ts)
blind_or r c d b e ts us a = rw (b ts us a, e ts us a) refl

blind_and : (r : Readers) (c d : Test Token) → Blind r c → Blind r d → Blind r (λ ts. c ts && d ts)
blind_and r c d b e ts us a = rw (b ts us a, e ts us a) refl

blind_not : (r : Readers) (c : Test Token) → Blind r c → Blind r (λ ts. not (c ts))
blind_not r c b ts us a = rw (b ts us a) refl

pub blind_qualified : (r : Readers) → Blind r heads_qualified
blind_qualified r = blind_first r is_name (first_then (is kind.Period) (next is_type_name)) blind_name (blind_first r (is kind.Period) (next is_type_name) (blind_is kind.Period) (blind_next r is_type_name blind_type_name))

pub blind_required : (r : Readers) → Blind r heads_required
blind_required r = blind_first r (is kind.Required) (next goes_on_parameter) (blind_is kind.Required) (blind_next r goes_on_parameter (λ t u w. rw w.kind refl))

pub blind_field : (r : Readers) → Blind r heads_field
blind_field r = blind_next r (λ t. is_name t || is kind.This t) (λ t u w. rw w.kind refl)

pub blind_label : (r : Readers) → Blind r heads_label
blind_label r = blind_first r is_name (heads kind.Colon) blind_name (blind_heads r kind.Colon)

pub blind_getter : (r : Readers) → Blind r heads_getter
blind_getter r = blind_first r (is kind.Get) heads_name (blind_is kind.Get) (blind_heads_name r)

pub blind_setter : (r : Readers) → Blind r heads_setter
blind_setter r = blind_first r (is kind.Set) heads_name (blind_is kind.Set) (blind_heads_name r)

pub blind_static : (r : Readers) → Blind r heads_static
blind_static r = blind_first r (is kind.Static) (next begins_static) (blind_is kind.Static) (blind_next r begins_static (λ t u w. rw w.kind refl))

pub blind_heads_class : (r : Readers) → Blind r heads_class
blind_heads_class r = blind_or r (heads kind.Class) (first_then (is kind.Abstract) (heads kind.Class)) (blind_heads r kind.Class) (blind_first r (is kind.Abstract) (heads kind.Class) (blind_is kind.Abstract) (blind_heads r kind.Class))

pub blind_word : (r : Readers) (k : Kind) → Blind r (heads_word (is k))
blind_word r k = blind_first r (is k) heads_name (blind_is k) (blind_heads_name r)

pub blind_body : (r : Readers) → Blind r (either (heads kind.OpenBrace) (heads kind.Arrow))
blind_body r = blind_or r (heads kind.OpenBrace) (heads kind.Arrow) (blind_heads r kind.OpenBrace) (blind_heads r kind.Arrow)

-- Operators.

shift_same : (t v : Token) (ts us : List Token) → Matched (t ∷ ts) (v ∷ us) → is kind.Greater t ≡ true → shift_at t ts ≡ shift_at v us
shift_same t v [] [] a g = refl
shift_same t v [] (w ∷ us) a g = absurd a.1.1
shift_same t v (s ∷ ts) [] a g = absurd a.1.1
shift_same t v (s ∷ ts) (w ∷ us) a g = rw (a.1.0 g, blind_is kind.Equals s w a.1.1.0) refl

choice_same : {A : Type 0} (b c : Bool) (x y z w : A) → (c ≡ true → y ≡ z) → (if b then x else if c then y else w) ≡ (if b then x else if c then z else w)
choice_same true c x y z w h = refl
choice_same false true x y z w h = h refl
choice_same false false x y z w h = refl

second_true : (a b : Bool) → (a && b) ≡ true → b ≡ true
second_true true b e = e
second_true false b e = absurd (cc)

greater_same : (t v : Token) (ts us : List Token) → Matched (t ∷ ts) (v ∷ us) → is kind.Greater t ≡ true → greater_at t ts ≡ greater_at v us
greater_same t v [] [] a g = refl
greater_same t v [] (w ∷ us) a g = absurd a.1.1
greater_same t v (s ∷ ts) [] a g = absurd a.1.1
greater_same t v (s ∷ ts) (w ∷ us) a g =
    rw (a.1.0 g, blind_is kind.Equals s w a.1.1.0, blind_is kind.Greater s w a.1.1.0)
    (choice_same (adjoins v w && is kind.Equals w) (adjoins v w && is kind.Greater w) (sign.Binary GreaterOrEqual, 1) (shift_at s ts) (shift_at w us) (sign.Binary Greater, 0)
    (λ c. shift_same s w ts us a.1.1 (blind_is kind.Greater s w a.1.1.0 ∙ second_true (adjoins v w) (is kind.Greater w) c)))

sign_by : (t u : Token) (ts us : List Token) → Matched (t ∷ ts) (u ∷ us) → (b : Bool) → is kind.Greater t ≡ b → sign_at (t ∷ ts) ≡ sign_at (u ∷ us)
sign_by t u ts us a true e = let other : is kind.Greater u ≡ true = sym (blind_is kind.Greater t u a.0) ∙ e in rw (e, other, greater_same t u ts us a e) refl
sign_by t u ts us a false e = let other : is kind.Greater u ≡ false = sym (blind_is kind.Greater t u a.0) ∙ e in rw (e, other, a.0.kind) refl

sign_same : (ts us : List Token) → Matched ts us → sign_at ts ≡ sign_at us
sign_same [] [] a = refl
sign_same [] (u ∷ us) a = absurd a
sign_same (t ∷ ts) [] a = absurd a
sign_same (t ∷ ts) (u ∷ us) a = sign_by t u ts us a (is kind.Greater t) refl

pub blind_sign : (r : Readers) (f : Sign → Bool) → Blind r (heads_sign f)
blind_sign r f ts us a = rw (sign_same ts us a.agree) refl

sign_found : {A : Type 0} (r : Readers) (R : A → A → Type 0) (of : Span → Sign → Option A) → ((span other : Span) (s : Sign) → Both R (of span s) (of other s)) → (ts us : List Token) → Alike r ts us → (o : Option (Sign × ℕ)) →
    Both (Found r R) (option_map_or (read_sign of ts) o None) (option_map_or (read_sign of us) o None)
sign_found r R of h ts us a None = tt
sign_found r R of h ts us a (Some s) =
    option_found R (Found r R) (λ a. (a, drop (suc s.1) ts)) (λ a. (a, drop (suc s.1) us)) (of (span_over (take (suc s.1) ts)) s.0) (of (span_over (take (suc s.1) us)) s.0) (λ x y p. (p, alike_drop r (suc s.1) ts us a))
    (h (span_over (take (suc s.1) ts)) (span_over (take (suc s.1) us)) s.0)

pub follows_sign : {A : Type 0} (r : Readers) (R : A → A → Type 0) (of : Span → Sign → Option A) → ((span other : Span) (s : Sign) → Both R (of span s) (of other s)) → Follows r R (take_sign of)
follows_sign {A = A} r R of h = record { each = follow } where
  follow : (ts us : List Token) → Alike r ts us → Both (Found r R) (take_sign of ts) (take_sign of us)
  follow [] [] a = tt
  follow [] (u ∷ us) a = absurd a.agree
  follow (t ∷ ts) [] a = absurd a.agree
  follow (t ∷ ts) (u ∷ us) a =
      subst (λ (o : Option (Sign × ℕ)). Both (Found r R) (take_sign of (t ∷ ts)) (option_map_or (read_sign of (u ∷ us)) o None)) (sign_same (t ∷ ts) (u ∷ us) a.agree) (sign_found r R of h (t ∷ ts) (u ∷ us) a (sign_at (t ∷ ts)))

-- Ways over types.

abbrev Goes : Readers → Way → Type 0
Goes r w = (ts us : List Token) → Alike r ts us → Both (Alike r) (w ts) (w us)

onward_goes : (r : Readers) (w : Way) → Goes r w → (o p : Option (List Token)) → Both (Alike r) o p → Both (Alike r) (onward o w) (onward p w)
onward_goes r w g None None b = tt
onward_goes r w g None (Some us) b = absurd b
onward_goes r w g (Some ts) None b = absurd b
onward_goes r w g (Some ts) (Some us) b = g ts us b

seq_goes : (r : Readers) (v w : Way) → Goes r v → Goes r w → Goes r (v ⨾ w)
seq_goes r v w g h ts us a = onward_goes r w h (v ts) (v us) (g ts us a)

or_goes : (r : Readers) (o p q s : Option (List Token)) → Both (Alike r) o q → Both (Alike r) p s → Both (Alike r) (way_or o p) (way_or q s)
or_goes r None p None s h k = k
or_goes r None p (Some y) s h k = absurd h
or_goes r (Some x) p None s h k = absurd h
or_goes r (Some x) p (Some y) s h k = h

either_goes : (r : Readers) (v w : Way) → Goes r v → Goes r w → Goes r (either_way v w)
either_goes r v w g h ts us a = or_goes r (v ts) (w ts) (v us) (w us) (g ts us a) (h ts us a)

behind_goes : (r : Readers) (o p : Option (List Token)) (ts us : List Token) → Both (Alike r) o p → Alike r ts us → Alike r (behind_or o ts) (behind_or p us)
behind_goes r None None ts us b a = a
behind_goes r None (Some y) ts us b a = absurd b
behind_goes r (Some x) None ts us b a = absurd b
behind_goes r (Some x) (Some y) ts us b a = b

perhaps_goes : (r : Readers) (w : Way) → Goes r w → Goes r (perhaps w)
perhaps_goes r w g ts us a = behind_goes r (w ts) (w us) ts us (g ts us a) a

on_goes : (r : Readers) (f : List Token → List Token) → ((ts us : List Token) → Alike r ts us → Alike r (f ts) (f us)) → (o p : Option (List Token)) (ts us : List Token) → Both (Alike r) o p → Alike r ts us → Alike r (go_on f o ts) (go_on f p us)
on_goes r f g None None ts us b a = a
on_goes r f g None (Some y) ts us b a = absurd b
on_goes r f g (Some x) None ts us b a = absurd b
on_goes r f g (Some x) (Some y) ts us b a = g x y b

repeated_goes : (r : Readers) (n : ℕ) (w : Way) → Goes r w → (ts us : List Token) → Alike r ts us → Alike r (repeated n w ts) (repeated n w us)
repeated_goes r zero w g ts us a = a
repeated_goes r (suc n) w g ts us a = on_goes r (repeated n w) (repeated_goes r n w g) (w ts) (w us) ts us (g ts us a) a

more_goes : (r : Readers) (w : Way) → Goes r w → Goes r (some_more w)
more_goes r w g ts us a = subst (λ (n : ℕ). Alike r (repeated (length ts) w ts) (repeated n w us)) (agree_length ts us a.agree) (repeated_goes r (length ts) w g ts us a)

if_goes : (r : Readers) (b c : Bool) (o p q s : Option (List Token)) → b ≡ c → Both (Alike r) o q → Both (Alike r) p s → Both (Alike r) (if b then o else p) (if c then q else s)
if_goes r true true o p q s e h k = h
if_goes r true false o p q s e h k = absurd (cc)
if_goes r false true o p q s e h k = absurd (cc)
if_goes r false false o p q s e h k = k

over_goes : (r : Readers) (f : Token → Bool) → BlindTo f → Goes r (over f)
over_goes r f b [] [] a = tt
over_goes r f b [] (u ∷ us) a = absurd a.agree
over_goes r f b (t ∷ ts) [] a = absurd a.agree
over_goes r f b (t ∷ ts) (u ∷ us) a = if_goes r (f t) (f u) (Some ts) None (Some us) None (b t u a.agree.0) (alike_behind r t u ts us a) tt

group_goes : (r : Readers) → Goes r over_group
group_goes r [] [] a = tt
group_goes r [] (u ∷ us) a = absurd a.agree
group_goes r (t ∷ ts) [] a = absurd a.agree
group_goes r (t ∷ ts) (u ∷ us) a =
    if_goes r (is kind.OpenParenthesis t) (is kind.OpenParenthesis u) (Some (drop (past t) ts)) None (Some (drop (past u) us)) None (blind_is kind.OpenParenthesis t u a.agree.0)
    (subst (λ (n : ℕ). Alike r (drop (past t) ts) (drop n us)) a.agree.0.past (alike_drop r (past t) ts us (alike_behind r t u ts us a))) tt

name_goes : (r : Readers) → Goes r over_name
name_goes r ts us a =
    if_goes r (heads_qualified ts) (heads_qualified us) ((over is_name ⨾ over (is kind.Period) ⨾ over is_type_name) ts) (over is_type_name ts) ((over is_name ⨾ over (is kind.Period) ⨾ over is_type_name) us) (over is_type_name us)
    (blind_qualified r ts us a)
    (seq_goes r (over is_name) (over (is kind.Period) ⨾ over is_type_name) (over_goes r is_name blind_name) (seq_goes r (over (is kind.Period)) (over is_type_name) (over_goes r (is kind.Period) (blind_is kind.Period)) (over_goes r is_type_name blind_type_name)) ts us a)
    (over_goes r is_type_name blind_type_name ts us a)

kind_goes : (r : Readers) (k : Kind) → Goes r (over (is k))
kind_goes r k = over_goes r (is k) (blind_is k)

angles_go : (r : Readers) (w : Way) → Goes r w → Goes r (over_angles w)
angles_go r w g =
    seq_goes r (over (is kind.Less)) (w ⨾ some_more (over (is kind.Comma) ⨾ w) ⨾ over (is kind.Greater)) (kind_goes r kind.Less)
    (seq_goes r w (some_more (over (is kind.Comma) ⨾ w) ⨾ over (is kind.Greater)) g
    (seq_goes r (some_more (over (is kind.Comma) ⨾ w)) (over (is kind.Greater)) (more_goes r (over (is kind.Comma) ⨾ w) (seq_goes r (over (is kind.Comma)) w (kind_goes r kind.Comma) g)) (kind_goes r kind.Greater)))

parameter_goes : (r : Readers) (w : Way) → Goes r w → Goes r (over_parameter w)
parameter_goes r w g =
    seq_goes r (over is_type_name) (perhaps (over (is kind.Extends) ⨾ w)) (over_goes r is_type_name blind_type_name) (perhaps_goes r (over (is kind.Extends) ⨾ w) (seq_goes r (over (is kind.Extends)) w (kind_goes r kind.Extends) g))

tail_goes : (r : Readers) (w : Way) → Goes r w → Goes r (over_tail w)
tail_goes r w g =
    seq_goes r (over (is kind.Function)) (perhaps (over_angles (over_parameter w)) ⨾ over_group ⨾ perhaps (over (is kind.Question))) (kind_goes r kind.Function)
    (seq_goes r (perhaps (over_angles (over_parameter w))) (over_group ⨾ perhaps (over (is kind.Question))) (perhaps_goes r (over_angles (over_parameter w)) (angles_go r (over_parameter w) (parameter_goes r w g)))
    (seq_goes r over_group (perhaps (over (is kind.Question))) (group_goes r) (perhaps_goes r (over (is kind.Question)) (kind_goes r kind.Question))))

plain_goes : (r : Readers) (w : Way) → Goes r w → Goes r (over_plain w)
plain_goes r w g ts us a =
    let rest : Way = over_name ⨾ perhaps (over_angles w) ⨾ perhaps (over (is kind.Question)) in
    if_goes r (heads kind.Void ts) (heads kind.Void us) (over (is kind.Void) ts) (rest ts) (over (is kind.Void) us) (rest us) (blind_heads r kind.Void ts us a) (kind_goes r kind.Void ts us a)
    (seq_goes r over_name (perhaps (over_angles w) ⨾ perhaps (over (is kind.Question))) (name_goes r)
    (seq_goes r (perhaps (over_angles w)) (perhaps (over (is kind.Question))) (perhaps_goes r (over_angles w) (angles_go r w g)) (perhaps_goes r (over (is kind.Question)) (kind_goes r kind.Question))) ts us a)

type_goes : (r : Readers) (n : ℕ) → Goes r (over_type n)
unfolding over_type
type_goes r zero ts us a = tt
type_goes r (suc n) ts us a =
    let w : Way = over_type n in
    seq_goes r (either_way (over_tail w) (over_plain w)) (some_more (over_tail w)) (either_goes r (over_tail w) (over_plain w) (tail_goes r w (type_goes r n)) (plain_goes r w (type_goes r n))) (more_goes r (over_tail w) (tail_goes r w (type_goes r n))) ts us a

arguments_go : (r : Readers) → Goes r behind_arguments
unfolding behind_arguments
arguments_go r = angles_go r (over_type 200) (type_goes r 200)

map_blind : (r : Readers) (c : Test Token) → Blind r c → (o p : Option (List Token)) → Both (Alike r) o p → option_map_or c o false ≡ option_map_or c p false
map_blind r c b None None h = refl
map_blind r c b None (Some y) h = absurd h
map_blind r c b (Some x) None h = absurd h
map_blind r c b (Some x) (Some y) h = b x y h

-- Parameters by their tokens.

blind_end : (r : Readers) → Blind r at_end
blind_end r [] [] a = refl
blind_end r [] (u ∷ us) a = absurd a.agree
blind_end r (t ∷ ts) [] a = absurd a.agree
blind_end r (t ∷ ts) (u ∷ us) a = refl

blind_held : (r : Readers) (f : Token → Bool) (c : Test Token) → BlindTo f → Blind r c → Blind r (group_holds f c)
blind_held r f c b d [] [] a = refl
blind_held r f c b d [] (u ∷ us) a = absurd a.agree
blind_held r f c b d (t ∷ ts) [] a = absurd a.agree
blind_held r f c b d (t ∷ ts) (u ∷ us) a = rw (b t u a.agree.0, a.agree.0.width, d (take u.width ts) (take u.width us) (alike_take r u.width ts us (alike_behind r t u ts us a))) refl

piece_goes : (r : Readers) → Goes r over_piece
piece_goes r [] [] a = tt
piece_goes r [] (u ∷ us) a = absurd a.agree
piece_goes r (t ∷ ts) [] a = absurd a.agree
piece_goes r (t ∷ ts) (u ∷ us) a =
    if_goes r (is kind.Comma t || is_either kind.Question kind.Colon t) (is kind.Comma u || is_either kind.Question kind.Colon u) None (Some (drop (past t) ts)) None (Some (drop (past u) us)) (rw a.agree.0.kind refl) tt
    (subst (λ (n : ℕ). Alike r (drop (past t) ts) (drop n us)) a.agree.0.past (alike_drop r (past t) ts us (alike_behind r t u ts us a)))

value_goes : (r : Readers) → Goes r over_value
value_goes r = more_goes r (either_way behind_arguments over_piece) (either_goes r behind_arguments over_piece (arguments_go r) (piece_goes r))

field_goes : (r : Readers) → Goes r over_field
field_goes r =
    seq_goes r (perhaps (over (is kind.This) ⨾ over (is kind.Period))) (over is_name)
    (perhaps_goes r (over (is kind.This) ⨾ over (is kind.Period)) (seq_goes r (over (is kind.This)) (over (is kind.Period)) (kind_goes r kind.This) (kind_goes r kind.Period))) (over_goes r is_name blind_name)

declared_goes : (r : Readers) → Goes r over_declared
declared_goes r = either_goes r (over_type 200 ⨾ over_field) over_field (seq_goes r (over_type 200) over_field (type_goes r 200) (field_goes r)) (field_goes r)

untyped_goes : (r : Readers) → Goes r over_untyped
untyped_goes r =
    seq_goes r over_field (perhaps (over (is kind.Equals) ⨾ over_value) ⨾ over (is kind.Comma)) (field_goes r)
    (seq_goes r (perhaps (over (is kind.Equals) ⨾ over_value)) (over (is kind.Comma))
    (perhaps_goes r (over (is kind.Equals) ⨾ over_value) (seq_goes r (over (is kind.Equals)) over_value (kind_goes r kind.Equals) (value_goes r))) (kind_goes r kind.Comma))

blind_default : (r : Readers) → Blind r (λ us. option_map_or (λ vs. not (heads kind.Colon vs)) (over_value us) false)
blind_default r ts us a = map_blind r (λ vs. not (heads kind.Colon vs)) (blind_not r (heads kind.Colon) (blind_heads r kind.Colon)) (over_value ts) (over_value us) (value_goes r ts us a)

blind_name_end : (r : Readers) → Blind r heads_name_end
blind_name_end r ts us a =
    rw (
      blind_end r ts us a,
      blind_next r (is_either kind.Comma kind.OpenBrace) (blind_either kind.Comma kind.OpenBrace) ts us a,
      blind_first r (is kind.Equals) (λ us. option_map_or (λ vs. not (heads kind.Colon vs)) (over_value us) false) (blind_is kind.Equals) (blind_default r) ts us a,
    ) refl

blind_parameter : (r : Readers) (c : Test Token) → Blind r c → Blind r (heads_parameter c)
blind_parameter r c b ts us a =
    rw (blind_next r begins_parameter (λ t u w. rw w.kind refl) ts us a, blind_required r ts us a, map_blind r c b (over_declared ts) (over_declared us) (declared_goes r ts us a)) refl

blind_brackets : (r : Readers) → Blind r fills_brackets
blind_brackets r ts us a =
    map_blind r (λ us. at_end us || heads_parameter heads_name_end us) (blind_or r at_end (heads_parameter heads_name_end) (blind_end r) (blind_parameter r heads_name_end (blind_name_end r)))
    (some_more over_untyped ts) (some_more over_untyped us) (more_goes r over_untyped (untyped_goes r) ts us a)

blind_optional : (r : Readers) → Blind r heads_optional
blind_optional r =
    let f : Token → Bool = is_either kind.OpenBracket kind.OpenBrace in
    blind_and r (group_holds f fills_brackets) (group_then f at_end) (blind_held r f fills_brackets (blind_either kind.OpenBracket kind.OpenBrace) (blind_brackets r)) (blind_group r f at_end (blind_either kind.OpenBracket kind.OpenBrace) (blind_end r))

blind_parentheses : (r : Readers) → Blind r fills_parentheses
unfolding fills_parentheses
blind_parentheses r ts us a =
    rw (
      blind_end r ts us a,
      blind_optional r ts us a,
      blind_parameter r (λ us. heads_name_end us || heads_optional us) (blind_or r heads_name_end heads_optional (blind_name_end r) (blind_optional r)) ts us a,
    ) refl

-- Tests of expressions.

pub blind_generic : (r : Readers) → Blind r heads_generic
unfolding heads_generic
blind_generic r =
    blind_first r is_name (λ ts. option_map_or heads_use (behind_arguments ts) false) blind_name
    (λ ts us a. map_blind r heads_use (blind_next r (is_either kind.OpenParenthesis kind.Period) (blind_either kind.OpenParenthesis kind.Period)) (behind_arguments ts) (behind_arguments us) (arguments_go r ts us a))

blind_cast : (r : Readers) → Blind r heads_cast
blind_cast r =
    blind_first r (is kind.As) (either (heads kind.Void) heads_name) (blind_is kind.As)
    (blind_or r (heads kind.Void) heads_name (blind_heads r kind.Void) (blind_heads_name r))

blind_rest : (r : Readers) → Blind r heads_rest
blind_rest r ts us a = rw (blind_next r goes_on (λ t u w. rw w.kind refl) ts us a, blind_cast r ts us a, sign_same ts us a.agree) refl

blind_brace : (r : Readers) (m : Setting) → Blind r (heads_brace m)
blind_brace r setting.Plain = blind_heads r kind.OpenBrace
blind_brace r setting.Listed = blind_heads r kind.OpenBrace
blind_brace r setting.Initializer = blind_group r (is kind.OpenBrace) heads_rest (blind_is kind.OpenBrace) (blind_rest r)
blind_brace r setting.Default = blind_heads r kind.OpenBrace

blind_heads_body : (r : Readers) (m : Setting) → Blind r (heads_body m)
blind_heads_body r m = blind_or r (heads kind.Arrow) (heads_brace m) (blind_heads r kind.Arrow) (blind_brace r m)

blind_before_body : (r : Readers) (m : Setting) → Blind r (heads_parentheses m)
blind_before_body r setting.Plain = blind_anything r
blind_before_body r setting.Listed = blind_anything r
blind_before_body r setting.Initializer = blind_anything r
blind_before_body r setting.Default = blind_held r (is kind.OpenParenthesis) fills_parentheses (blind_is kind.OpenParenthesis) (blind_parentheses r)

pub blind_closure : (r : Readers) (m : Setting) → Blind r (heads_closure m)
blind_closure r m =
    blind_and r (group_then (is kind.OpenParenthesis) (heads_body m)) (heads_parentheses m)
    (blind_group r (is kind.OpenParenthesis) (heads_body m) (blind_is kind.OpenParenthesis) (blind_heads_body r m)) (blind_before_body r m)

blind_behind : (r : Readers) (m : Setting) → Blind r (behind_call m)
blind_behind r setting.Plain = blind_anything r
blind_behind r setting.Listed = blind_not r (heads_body setting.Plain) (blind_heads_body r setting.Plain)
blind_behind r setting.Initializer = blind_anything r
blind_behind r setting.Default = blind_anything r

pub blind_call : (r : Readers) (m : Setting) → Blind r (heads_call m)
unfolding heads_call
blind_call r m ts us a =
    map_blind r (group_then (is kind.OpenParenthesis) (behind_call m)) (blind_group r (is kind.OpenParenthesis) (behind_call m) (blind_is kind.OpenParenthesis) (blind_behind r m)) (behind_arguments ts) (behind_arguments us) (arguments_go r ts us a)

blind_tail : (r : Readers) → Blind r heads_tail
blind_tail r = blind_first r (is kind.Function) (next (is_either kind.OpenParenthesis kind.Less)) (blind_is kind.Function) (blind_next r (is_either kind.OpenParenthesis kind.Less) (blind_either kind.OpenParenthesis kind.Less))

blind_choice : (r : Readers) (m : Setting) → Blind r (heads_choice m)
blind_choice r m ts us a = rw (blind_next r begins_expression (λ t u w. rw w.kind refl) ts us a, blind_tail r ts us a, blind_heads r kind.OpenBrace ts us a, blind_brace r m ts us a) refl

pub blind_nullable : (r : Readers) (m : Setting) → Blind r (heads_nullable m)
blind_nullable r m = blind_first r (is kind.Question) (λ ts. not (heads_choice m ts)) (blind_is kind.Question) (blind_not r (heads_choice m) (blind_choice r m))

-- Segments, cases and the name of a class.

segments_same : (r : Readers) (n : ℕ) (ts us : List Token) → Alike r ts us → segment_at n ts ≡ segment_at n us
segments_same r zero ts us a = refl
segments_same r (suc n) [] [] a = refl
segments_same r (suc n) [] (u ∷ us) a = absurd a.agree
segments_same r (suc n) (t ∷ ts) [] a = absurd a.agree
segments_same r (suc n) (t ∷ ts) (u ∷ us) a =
    rw (a.agree.0.past, a.agree.0.kind, segments_same r n (drop (past u) ts) (drop (past u) us) (alike_drop r (past u) ts us (alike_behind r t u ts us a))) refl

pub same_segment : (r : Readers) (ts us : List Token) → Alike r ts us → segment ts ≡ segment us
same_segment r ts us a = rw (agree_length ts us a.agree, segments_same r (length us) ts us a) refl

cases_same : (r : Readers) (n : ℕ) (ts us : List Token) → Alike r ts us → case_size_at n ts ≡ case_size_at n us
cases_same r zero ts us a = refl
cases_same r (suc n) [] [] a = refl
cases_same r (suc n) [] (u ∷ us) a = absurd a.agree
cases_same r (suc n) (t ∷ ts) [] a = absurd a.agree
cases_same r (suc n) (t ∷ ts) (u ∷ us) a =
    rw (a.agree.0.past, a.agree.0.kind, cases_same r n (drop (past u) ts) (drop (past u) us) (alike_drop r (past u) ts us (alike_behind r t u ts us a))) refl

pub same_case_size : (r : Readers) (ts us : List Token) → Alike r ts us → case_size ts ≡ case_size us
same_case_size r ts us a = rw (agree_length ts us a.agree, cases_same r (length us) ts us a) refl

words_same : (n : ℕ) (ts us : List Token) → Matched ts us → word_at n ts ≡ word_at n us
words_same n [] [] a = refl
words_same n [] (u ∷ us) a = absurd a
words_same n (t ∷ ts) [] a = absurd a
words_same zero (t ∷ ts) (u ∷ us) a = rw a.0.word refl
words_same (suc n) (t ∷ ts) (u ∷ us) a = words_same n ts us a.1.1

pub same_class_word : (r : Readers) (ts us : List Token) → Alike r ts us → class_word ts ≡ class_word us
same_class_word r ts us a = rw (blind_heads r kind.Abstract ts us a, words_same 2 ts us a.agree, words_same 1 ts us a.agree) refl
