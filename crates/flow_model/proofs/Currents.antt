-- What tests promote a local to, and models that agree on what is known of one.
use Rattle.std.proofs.Common.{◌≡◌, ◌≤◌, Bool, true, false, ◌&&◌, not, List, [], ◌∷◌, ◌++◌, length, if◌then◌else◌, Option, None, Some, refl, sym, ap, ◌∙◌, arith}
use Rattle.std.specs.Prelude.{◌||◌}
use Rattle.std.specs.Option.{option_map, option_map_or}
use Rattle.dart_types.specs.Ty.{Ty, invalid, never, void, null, interface, function, variable, promoted, nullable}
use Rattle.dart_types.specs.Same.{same_type}
use Rattle.dart_types.specs.Tables.{Table, bound_of}
use Rattle.dart_types.specs.Sub.{Sub, reflexivity}
use Rattle.dart_types.specs.declared.ids.VarId.{VarId}
use Rattle.type_bounds.specs.NonNull.{non_null_of}
use Rattle.type_bounds.specs.Laws.{BoundLaws}
use Rattle.flow_model.specs.TypeTests.{proper_sub, is_formed, is_in}
use Rattle.flow_model.specs.Flow.{FlowModel, facts_of, last_or, current_of, current_in}
use Rattle.flow_model.specs.Promote.{promoted_facts, narrowed_variable, by_variable, tested_as, promote_facts, without_null_of, non_null_facts, below_current, append_facts}
use Rattle.flow_model.specs.Assign.{kept_chain}
use Rattle.flow_model.specs.Chains.{Descends}
use Rattle.flow_model.specs.Order.{kept_in, tested_in}
use Rattle.flow_model.specs.declared.locals.LocalId.{LocalId}
use Rattle.flow_model.specs.declared.locals.Facts.{Facts}
use Rattle.flow_model.proofs.SameTypes.{same_type-refl, equal_from_same_type}
use Rattle.flow_model.proofs.JoinLaws.{is_in-union}
use Rattle.flow_model.proofs.SaysMore.{right_true}
use Rattle.flow_model.proofs.Descents.{tested_below, without_null_below, known_below}

-- what two models say alike of a local is the same of its facts in both
alike : {X : Type 0} (read : Facts → X) (a b : FlowModel) (var : LocalId) → option_map read (facts_of a var) ≡ option_map read (facts_of b var) → (l m : Facts) → facts_of a var ≡ Some l → facts_of b var ≡ Some m → read l ≡ read m
alike read a b var same l m is_l is_m =
    let both : Some (read l) ≡ Some (read m) = sym (ap (option_map read) is_l) ∙ (same ∙ ap (option_map read) is_m) in
    cc

-- its current type
pub current_alike : (a b : FlowModel) (var : LocalId) → current_in a var ≡ current_in b var → (l m : Facts) → facts_of a var ≡ Some l → facts_of b var ≡ Some m → current_of l ≡ current_of m
current_alike a b var same l m is_l is_m = alike current_of a b var same l m is_l is_m

-- the types that it was tested for
pub tested_alike : (a b : FlowModel) (var : LocalId) → tested_in a var ≡ tested_in b var → (l m : Facts) → facts_of a var ≡ Some l → facts_of b var ≡ Some m → l.tested ≡ m.tested
tested_alike a b var same l m is_l is_m = alike (λ f. f.tested) a b var same l m is_l is_m

-- the type that a written value leaves it
pub kept_alike : (table : Table) (written : Ty) (a b : FlowModel) (var : LocalId) → kept_in table written a var ≡ kept_in table written b var → (l m : Facts) → facts_of a var ≡ Some l → facts_of b var ≡ Some m → last_or l.ty (kept_chain table written l) ≡ last_or m.ty (kept_chain table written m)
kept_alike table written a b var same l m is_l is_m =
    alike (λ f. last_or f.ty (kept_chain table written f)) a b var same l m is_l is_m

-- the last of two lists, one behind the other
last_or-append : (t : Ty) (us vs : List Ty) → last_or t (us ++ vs) ≡ last_or (last_or t us) vs
last_or-append t [] vs = refl
last_or-append t (u ∷ us) vs = last_or-append u us vs

-- a promotion to one type, of a local that isn't captured
promotes_to : (types : List Ty) (t : Ty) (l : Facts) → l.captured ≡ false → types ≡ t ∷ [] → current_of (promoted_facts types l) ≡ t
promotes_to types t l free one =
    last_or-append l.ty l.chain (if l.captured then [] else types) ∙ (rw (free, one) refl)

module _ (table : Table) where
  -- a tested type is of interest
  pub test_is_of_interest : (to : Ty) (l : Facts) → is_in (promote_facts table to l).tested to ≡ true
  test_is_of_interest to l =
      let one : is_in (to ∷ []) to ≡ true = rw (same_type-refl to) refl in
      is_in-union l.tested (to ∷ []) to ∙ right_true (is_in l.tested to) (is_in (to ∷ []) to) one

  -- a test promotes to its type
  pub test_promotes : (to : Ty) (l : Facts) → l.captured ≡ false → proper_sub table to (current_of l) ≡ true → current_of (promote_facts table to l) ≡ to
  test_promotes to l free below =
      let one : tested_as table to (current_of l) ≡ to ∷ [] = rw below refl in
      promotes_to (tested_as table to (current_of l)) to l free one

  -- so does a type that is known without a test
  pub append_promotes : (to : Ty) (l : Facts) → l.captured ≡ false → proper_sub table to (current_of l) ≡ true → current_of (append_facts table to l) ≡ to
  append_promotes to l free below =
      let one : below_current table to (current_of l) ≡ to ∷ [] = rw below refl in
      promotes_to (below_current table to (current_of l)) to l free one

  -- the step of the next lemma
  without_null_at : (l : Facts) (same : Bool) → same_type (non_null_of table (current_of l)) (current_of l) ≡ same → l.captured ≡ false → is_formed (non_null_of table (current_of l)) ≡ true → current_of (non_null_facts table l) ≡ non_null_of table (current_of l)
  without_null_at l true e free formed =
      let none : without_null_of table (current_of l) ≡ [] = rw e refl in
      last_or-append l.ty l.chain (if l.captured then [] else without_null_of table (current_of l))
      ∙ ((rw (free, none) refl) ∙ sym (equal_from_same_type (non_null_of table (current_of l)) (current_of l) e))
  without_null_at l false e free formed =
      let one : without_null_of table (current_of l) ≡ non_null_of table (current_of l) ∷ [] = rw (e, formed) refl in
      promotes_to (without_null_of table (current_of l)) (non_null_of table (current_of l)) l free one

  -- a local that isn't null has its type without null
  pub non_null_promotes : (l : Facts) → l.captured ≡ false → is_formed (non_null_of table (current_of l)) ≡ true → current_of (non_null_facts table l) ≡ non_null_of table (current_of l)
  non_null_promotes l = without_null_at l (same_type (non_null_of table (current_of l)) (current_of l)) refl

  -- a test promotes to one type at most
  one_if : (t : Ty) (b : Bool) → length (if b then t ∷ [] else []) ≤ 1
  one_if t true = omega arith
  one_if t false = omega arith

  one_unless : (t : Ty) (b : Bool) → length (if b then [] else t ∷ []) ≤ 1
  one_unless t true = omega arith
  one_unless t false = omega arith

  one_either : (us vs : List Ty) (b : Bool) → length us ≤ 1 → length vs ≤ 1 → length (if b then us else vs) ≤ 1
  one_either us vs true first second = first
  one_either us vs false first second = second

  bound_one : (x : VarId) (to : Ty) (bound : Option Ty) → length (option_map_or (narrowed_variable table (promoted x to) to) bound []) ≤ 1
  bound_one x to None = omega arith
  bound_one x to (Some b) = one_if (promoted x to) (proper_sub table to b && is_formed (promoted x to))

  by_variable_one : (to t : Ty) → length (by_variable table to t) ≤ 1
  by_variable_one to invalid = omega arith
  by_variable_one to never = omega arith
  by_variable_one to void = omega arith
  by_variable_one to null = omega arith
  by_variable_one to (interface c ts) = omega arith
  by_variable_one to (function r o n e) = omega arith
  by_variable_one to (variable x) = bound_one x to (bound_of table x)
  by_variable_one to (promoted x u) = one_if (promoted x to) (proper_sub table to u && is_formed (promoted x to))
  by_variable_one to (nullable u) = omega arith

  tested_one : (to t : Ty) → length (tested_as table to t) ≤ 1
  tested_one to t = one_either (to ∷ []) (by_variable table to t) (proper_sub table to t) (omega arith) (by_variable_one to t)

  without_null_one : (t : Ty) → length (without_null_of table t) ≤ 1
  without_null_one t = one_unless (non_null_of table t) (same_type (non_null_of table t) t || not (is_formed (non_null_of table t)))

  known_one : (to t : Ty) → length (below_current table to t) ≤ 1
  known_one to t = one_if to (proper_sub table to t)

  -- and that one is below
  last_below : (t : Ty) (us : List Ty) → length us ≤ 1 → Descends table t us → Sub table (last_or t us) t
  last_below t [] one down = reflexivity
  last_below t (u ∷ []) one down = down.0
  last_below t (u ∷ v ∷ us) one down = absurd (omega arith)

  last_below_if : (t : Ty) (us : List Ty) (captured : Bool) → length us ≤ 1 → Descends table t us → Sub table (last_or t (if captured then [] else us)) t
  last_below_if t us true one down = reflexivity
  last_below_if t us false one down = last_below t us one down

  -- a promotion to a type below the current one
  promoted_narrows : (types : List Ty) (l : Facts) → length types ≤ 1 → Descends table (current_of l) types → Sub table (current_of (promoted_facts types l)) (current_of l)
  promoted_narrows types l one down =
      rw (last_or-append l.ty l.chain (if l.captured then [] else types)) (last_below_if (current_of l) types l.captured one down)

  module _ (laws : BoundLaws table) where
    -- a test
    pub test_narrows : (to : Ty) (l : Facts) → Sub table (current_of (promote_facts table to l)) (current_of l)
    test_narrows to l =
        promoted_narrows (tested_as table to (current_of l)) l (tested_one to (current_of l)) (tested_below table laws to (current_of l))

    -- that it isn't null
    pub non_null_narrows : (l : Facts) → Sub table (current_of (non_null_facts table l)) (current_of l)
    non_null_narrows l =
        promoted_narrows (without_null_of table (current_of l)) l (without_null_one (current_of l)) (without_null_below table laws (current_of l))

    -- that it has a type
    pub append_narrows : (to : Ty) (l : Facts) → Sub table (current_of (append_facts table to l)) (current_of l)
    append_narrows to l =
        promoted_narrows (below_current table to (current_of l)) l (known_one to (current_of l)) (known_below table laws to (current_of l))
