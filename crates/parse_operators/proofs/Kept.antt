-- What is kept of the places of a text.
use Rattle.std.proofs.Common.{◌≡◌, ℕ, ◌-◌, ◌≤◌, Bool, true, false, cond, List, length, drop, Option, Some, None, option_map, refl, sym, ap, subst, ◌∙◌}
use Rattle.std.specs.Prelude.{IfSome}
use Rattle.std.specs.BTreeMap.{BTreeMap, get, is_at}
use Rattle.std.specs.Map.{lookup}
use Rattle.std.specs.Ordering.{nat_cmp, is_eq}
use Rattle.std.proofs.lemmas.Map.Lookups.{exact_unsigned}
use Rattle.std.proofs.lemmas.Map.Views.{tells_apart}
use Rattle.readings.specs.Readings.{Reading}
use Rattle.readings.specs.Values.{Maybe}
use Rattle.dart_tokens.specs.declared.grouped_token.GroupedToken.{GroupedToken as Token}
use Rattle.grammar.specs.declared.level.Level.{Level}
use Rattle.grammar.specs.declared.level.Setting.TheVariants as setting
use Rattle.grammar.specs.Descents.{lower, take_right, take_cascade_section}
use Rattle.grammar.specs.Operators.{table}
use Rattle.parse_leaves.specs.Next.{next_level}
use Rattle.last_parts.specs.LastParts.{IsLast, Leaves, last_of, last_twice, left_of}
use Rattle.last_parts.specs.Expressions.{right_leaves, cascade_section_leaves}
use Rattle.parse_operators.specs.declared.extents.Extent.{Extent}
use Rattle.parse_operators.specs.Ends.{seen, side_extent, section_extent, rank, behind, behind_at, Places, behind_place, IsBehind, IsKnown}

-- The table.

put_at : (s : Places) (old : BTreeMap ℕ (Option (Extent × ℕ))) (left q : ℕ) (found kept : Option (Extent × ℕ)) (b : Bool) → is_eq (nat_cmp left q) ≡ b → IsBehind s left found → IsKnown s old →
    cond b (Some found) (get nat_cmp old q) ≡ Some kept → IsBehind s q kept
put_at s old left q found kept true d this known e =
    let there : left ≡ q = tells_apart exact_unsigned left q d in
    let same : found ≡ kept = cc in
    subst (λ (k : ℕ). IsBehind s k kept) there (subst (λ (o : Option (Extent × ℕ)). IsBehind s left o) same this)
put_at s old left q found kept false d this known e = known.each q kept e

-- one place more
pub known_more : (s : Places) (old new : BTreeMap ℕ (Option (Extent × ℕ))) (left : ℕ) (found : Option (Extent × ℕ)) → IsBehind s left found → IsKnown s old →
    ((q : ℕ) → get nat_cmp new q ≡ cond (is_eq (nat_cmp left q)) (Some found) (get nat_cmp old q)) → IsKnown s new
known_more s old new left found this known updates = record { each = λ q kept e. put_at s old left q found kept (is_eq (nat_cmp left q)) refl this known (sym (updates q) ∙ e) }

-- the places of before
pub known_still : (s : Places) (old new : BTreeMap ℕ (Option (Extent × ℕ))) → IsKnown s old → new.entries ≡ old.entries → IsKnown s new
known_still s old new known e = record { each = λ q kept d. known.each q kept (ap (lookup (is_at (nat_cmp q))) (sym e) ∙ d) }

-- what is found in the table is so
pub known_at : (s : Places) (places : BTreeMap ℕ (Option (Extent × ℕ))) (left : ℕ) (found : Option (Option (Extent × ℕ))) → IsKnown s places → found ≡ get nat_cmp places left → IfSome found (λ kept. IsBehind s left kept)
known_at s places left None known e = tt
known_at s places left (Some kept) known e = known.each left kept (sym e)

-- Places.

seen_leaves : {A : Type 0} (view : A → Extent) (ts : List Token) (o : Option (Reading Token A)) → Maybe (λ x. IsLast x.1 ts) o → Maybe (λ (x : Reading Token Extent). IsLast x.1 ts) (seen view o)
seen_leaves view ts None h = tt
seen_leaves view ts (Some x) h = h

behind_leaves_at : (n : ℕ) (which : Option Level) → Leaves (behind_at n which)
behind_leaves_at n None = record { each = λ ts. seen_leaves section_extent ts (take_cascade_section setting.Plain (lower n) ts) ((cascade_section_leaves n setting.Plain).each ts) }
behind_leaves_at n (Some which) = record { each = λ ts. seen_leaves side_extent ts (take_right setting.Plain (lower n) which (drop (rank which) table) ts) ((right_leaves n setting.Plain which (drop (rank which) table)).each ts) }

-- what stands behind an operand leaves a last part of the text
pub behind_last : (all ts us : List Token) (n : ℕ) (extent : Extent) → IsLast ts all → behind n ts ≡ Some (extent, us) → IsLast us all
behind_last all ts us n extent last e = last_twice last (left_of (behind_leaves_at n (next_level ts)) ts (extent, us) e)

place_same : (s : Places) (ts : List Token) → IsLast ts s.tokens → behind_place s (length ts) ≡ option_map (λ x. (x.0, length x.1)) (behind s.room ts)
place_same s ts last = ap (λ (us : List Token). option_map (λ (x : Reading Token Extent). (x.0, length x.1)) (behind s.room us)) (sym (last_of last))

none_at : {A B : Type 0} (f : A → B) (o : Option A) → None ≡ option_map f o → o ≡ None
none_at f None e = refl
none_at f (Some x) e = absurd (cc)

same_pair : (x y : Extent × ℕ) → ◌≡◌ {A = Option (Extent × ℕ)} (Some x) (Some y) → x ≡ y
same_pair x y e = cc

some_at : (o : Option (Reading Token Extent)) (x : Extent × ℕ) → ◌≡◌ {A = Option (Extent × ℕ)} (Some x) (option_map (λ (y : Reading Token Extent). (y.0, length y.1)) o) → (us : List Token) × (o ≡ Some (x.0, us)) × (length us ≡ x.1)
some_at None x e = absurd (cc)
some_at (Some y) x e =
    let same : x ≡ (y.0, length y.1) = same_pair x (y.0, length y.1) e in
    (y.1, ap (λ (z : Extent). Some (z, y.1)) (sym (ap (λ (p : Extent × ℕ). p.0) same)), sym (ap (λ (p : Extent × ℕ). p.1) same))

-- nothing stands there
pub kept_none : (s : Places) (n : ℕ) (ts : List Token) → s.room ≡ n → IsLast ts s.tokens → behind n ts ≡ None → IsBehind s (length ts) None
kept_none s n ts room last e = record {
  same = sym (place_same s ts last ∙ ap (λ (k : ℕ). option_map (λ (x : Reading Token Extent). (x.0, length x.1)) (behind k ts)) room ∙ ap (option_map (λ (x : Reading Token Extent). (x.0, length x.1))) e);
  deep = tt;
}

pub known_none : (s : Places) (n : ℕ) (ts : List Token) → s.room ≡ n → IsLast ts s.tokens → IsBehind s (length ts) None → behind n ts ≡ None
known_none s n ts room last kept = ap (λ (k : ℕ). behind k ts) (sym room) ∙ none_at (λ (x : Reading Token Extent). (x.0, length x.1)) (behind s.room ts) (kept.same ∙ place_same s ts last)

-- something stands there
pub kept_some : (s : Places) (n : ℕ) (ts us : List Token) (extent : Extent) → s.room ≡ n → IsLast ts s.tokens → behind n ts ≡ Some (extent, us) → extent.height ≤ 200 → IsBehind s (length ts) (Some (extent, length us))
kept_some s n ts us extent room last e deep = record {
  same = sym (place_same s ts last ∙ ap (λ (k : ℕ). option_map (λ (x : Reading Token Extent). (x.0, length x.1)) (behind k ts)) room ∙ ap (option_map (λ (x : Reading Token Extent). (x.0, length x.1))) e);
  deep = deep;
}

pub known_some : (s : Places) (n : ℕ) (ts us : List Token) (extent : Extent) (after : ℕ) → s.room ≡ n → IsLast ts s.tokens → IsBehind s (length ts) (Some (extent, after)) → us ≡ drop (length s.tokens - after) s.tokens → behind n ts ≡ Some (extent, us)
known_some s n ts us extent after room last kept at =
    let found = some_at (behind s.room ts) (extent, after) (kept.same ∙ place_same s ts last) in
    let left : IsLast found.0 s.tokens = behind_last s.tokens ts found.0 s.room extent last found.1 in
    ap (λ (k : ℕ). behind k ts) (sym room) ∙ found.1 ∙ ap (λ (vs : List Token). Some (extent, vs)) (last_of left ∙ ap (λ (k : ℕ). drop (length s.tokens - k) s.tokens) found.2 ∙ sym at)
