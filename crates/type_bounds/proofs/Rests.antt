-- Lists of bounds that grow at their end, while what is left of two lists gets shorter.
use Rattle.std.proofs.Common.{◌≡◌, ℕ, ◌+◌, ◌<◌, ◌≤◌, Bool, List, length, drop, get_or, refl, sym, ◌∙◌, ap, subst, drop-cons, add-one, true, Some, None}
use Rattle.std.proofs.lemmas.List.{drop_all}
use Rattle.std.specs.Prelude.{◌&&◌, ◌||◌, bytes_eq}
use Rattle.dart_types.specs.Ty.{Ty, Types, Named, no_more, more, no_named, more_named, types_of, join}
use Rattle.dart_types.specs.Named.{named_of, type_named}
use Rattle.dart_types.specs.Sub.{is_required}
use Rattle.dart_types.specs.declared.types.NamedType.{NamedType}
use Rattle.dart_types.specs.Tables.{Table}
use Rattle.type_bounds.specs.NamedView.{join_named}
use Rattle.type_bounds.specs.Bounds.{Upper, Uppers, no_upper, one_upper, UpperNamed, no_upper_name, upper_name, Lower, LowerParams, left_ends, right_ends, one_lower, LowerNamed, no_lower_name, lower_name, other_name}

-- from a place on: what stands there, and what is behind it
types_from : (xs : List Ty) (i : ℕ) (x : Ty) → i < length xs → x ≡ get_or xs i x → types_of (drop i xs) ≡ more x (types_of (drop (i + 1) xs))
types_from xs i x lt is =
    ap types_of (drop-cons xs i x lt)
    ∙ ap (λ (n : ℕ). more (get_or xs i x) (types_of (drop n xs))) (sym (add-one i))
    ∙ ap (λ (y : Ty). more y (types_of (drop (i + 1) xs))) (sym is)

types_end : (xs : List Ty) (i : ℕ) → length xs ≤ i → types_of (drop i xs) ≡ no_more
types_end xs i le = ap types_of (drop_all i xs le)

named_from : (ns : List NamedType) (i : ℕ) (n : NamedType) → i < length ns → n ≡ get_or ns i n → named_of (drop i ns) ≡ more_named n.name n.required n.ty (named_of (drop (i + 1) ns))
named_from ns i n lt is =
    ap named_of (drop-cons ns i n lt)
    ∙ ap (λ (k : ℕ). more_named (get_or ns i n).name (get_or ns i n).required (get_or ns i n).ty (named_of (drop k ns))) (sym (add-one i))
    ∙ ap (λ (m : NamedType). more_named m.name m.required m.ty (named_of (drop (i + 1) ns))) (sym is)

named_end : (ns : List NamedType) (i : ℕ) → length ns ≤ i → named_of (drop i ns) ≡ no_named
named_end ns i le = ap named_of (drop_all i ns le)

join-nothing : (us : Types) → join us no_more ≡ us
join-nothing no_more = refl
join-nothing (more u us) = ap (more u) (join-nothing us)

join-one : (us : Types) (u : Ty) (vs : Types) → join us (more u vs) ≡ join (join us (more u no_more)) vs
join-one no_more u vs = refl
join-one (more t us) u vs = ap (more t) (join-one us u vs)

join_named-nothing : (us : Named) → join_named us no_named ≡ us
join_named-nothing no_named = refl
join_named-nothing (more_named n r u us) = ap (more_named n r u) (join_named-nothing us)

join_named-one : (us : Named) (n : List ℕ) (r : Bool) (u : Ty) (vs : Named) → join_named us (more_named n r u vs) ≡ join_named (join_named us (more_named n r u no_named)) vs
join_named-one no_named n r u vs = refl
join_named-one (more_named m q t us) n r u vs = ap (more_named m q t) (join_named-one us n r u vs)

-- with whatever the rest allows behind them, types are what the whole asks for
abbrev pub Completes : (rest whole : Types → Type 0) → Types → Type 0
Completes rest whole us = (vs : Types) → rest vs → whole (join us vs)

abbrev pub CompletesNamed : (rest whole : Named → Type 0) → Named → Type 0
CompletesNamed rest whole us = (vs : Named) → rest vs → whole (join_named us vs)

-- at the end nothing is left
pub completed : (rest whole : Types → Type 0) (us : Types) → rest no_more → Completes rest whole us → whole us
completed rest whole us r c = subst whole (join-nothing us) (c no_more r)

pub completed_named : (rest whole : Named → Type 0) (us : Named) → rest no_named → CompletesNamed rest whole us → whole us
completed_named rest whole us r c = subst whole (join_named-nothing us) (c no_named r)

-- one more goes from the rest to the types
pub one_more : (rest less whole : Types → Type 0) (us : Types) (u : Ty) → ((vs : Types) → less vs → rest (more u vs)) → Completes rest whole us → Completes less whole (join us (more u no_more))
one_more rest less whole us u step c vs r = subst whole (join-one us u vs) (c (more u vs) (step vs r))

pub one_more_named : (rest less whole : Named → Type 0) (us : Named) (n : List ℕ) (r : Bool) (u : Ty) → ((vs : Named) → less vs → rest (more_named n r u vs)) → CompletesNamed rest whole us → CompletesNamed less whole (join_named us (more_named n r u no_named))
one_more_named rest less whole us n r u step c vs k = subst whole (join_named-one us n r u vs) (c (more_named n r u vs) (step vs k))

module _ (table : Table) where
  module _ (xs ys : List Ty) (i : ℕ) where
    -- at the end of either list
    pub uppers_end : length xs ≤ i → length ys ≤ i → Uppers table (types_of (drop i xs)) (types_of (drop i ys)) no_more
    uppers_end h k = rw (types_end xs i h, types_end ys i k) no_upper

    pub lowers_end : length xs ≤ i → LowerParams table (types_of (drop i xs)) (types_of (drop i ys)) no_more
    lowers_end h = rw (types_end xs i h) left_ends

    pub lowers_end_right : (x : Ty) → i < length xs → x ≡ get_or xs i x → length ys ≤ i → LowerParams table (types_of (drop i xs)) (types_of (drop i ys)) no_more
    lowers_end_right x h is k = rw (types_from xs i x h is, types_end ys i k) right_ends

    -- from one place to the next
    module _ (x y u : Ty) (h : i < length xs) (k : i < length ys) (is : x ≡ get_or xs i x) (is' : y ≡ get_or ys i y) where
      pub uppers_step : Upper table x y u → (vs : Types) → Uppers table (types_of (drop (i + 1) xs)) (types_of (drop (i + 1) ys)) vs → Uppers table (types_of (drop i xs)) (types_of (drop i ys)) (more u vs)
      uppers_step a vs rest = rw (types_from xs i x h is, types_from ys i y k is') (one_upper a rest)

      pub lowers_step : Lower table x y u → (vs : Types) → LowerParams table (types_of (drop (i + 1) xs)) (types_of (drop (i + 1) ys)) vs → LowerParams table (types_of (drop i xs)) (types_of (drop i ys)) (more u vs)
      lowers_step a vs rest = rw (types_from xs i x h is, types_from ys i y k is') (one_lower a rest)

  module _ (ns ms : List NamedType) (i : ℕ) where
    pub upper_names_end : length ns ≤ i → length ms ≤ i → UpperNamed table (named_of (drop i ns)) (named_of (drop i ms)) no_named
    upper_names_end h k = rw (named_end ns i h, named_end ms i k) no_upper_name

    pub lower_names_end : (ms : Named) → length ns ≤ i → LowerNamed table (named_of (drop i ns)) ms no_named
    lower_names_end ms h = rw (named_end ns i h) no_lower_name

    module _ (n : NamedType) (h : i < length ns) (is : n ≡ get_or ns i n) where
      pub upper_names_step : (m : NamedType) (u : Ty) → i < length ms → m ≡ get_or ms i m → bytes_eq n.name m.name ≡ true → Upper table n.ty m.ty u → (vs : Named) → UpperNamed table (named_of (drop (i + 1) ns)) (named_of (drop (i + 1) ms)) vs → UpperNamed table (named_of (drop i ns)) (named_of (drop i ms)) (more_named n.name (n.required && m.required) u vs)
      upper_names_step m u k is' same a vs rest = rw (named_from ns i n h is, named_from ms i m k is') (upper_name same a rest)

      pub lower_names_step : (ms : Named) (t u : Ty) (q : Bool) → q ≡ is_required ms n.name → type_named ms n.name ≡ Some t → Lower table n.ty t u → (vs : Named) → LowerNamed table (named_of (drop (i + 1) ns)) ms vs → LowerNamed table (named_of (drop i ns)) ms (more_named n.name (n.required || q) u vs)
      lower_names_step ms t u q r e a vs rest =
          rw (named_from ns i n h is)
          (subst (λ (p : Bool). LowerNamed table (more_named n.name n.required n.ty (named_of (drop (i + 1) ns))) ms (more_named n.name (n.required || p) u vs)) (sym r) (lower_name e a rest))

      pub other_names_step : (ms : Named) → type_named ms n.name ≡ None → (vs : Named) → LowerNamed table (named_of (drop (i + 1) ns)) ms vs → LowerNamed table (named_of (drop i ns)) ms vs
      other_names_step ms e vs rest = rw (named_from ns i n h is) (other_name e rest)
