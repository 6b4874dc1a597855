-- What steps append to a chain is a proper subtype of the current type.
use Rattle.std.proofs.Common.{◌≡◌, ◌≢◌, Bool, true, false, ◌&&◌, not, List, [], ◌∷◌, if◌then◌else◌, Option, Some, None, refl, sym, ap, ◌∙◌}
use Rattle.std.specs.Prelude.{◌||◌, All}
use Rattle.std.specs.List.{list_all}
use Rattle.std.specs.Option.{option_map_or}
use Rattle.std.proofs.lemmas.List.Elements.{All-nil, All-cons, All-weaker, filter_passes}
use Rattle.std.proofs.lemmas.Bool.{and_parts}
use Rattle.dart_types.specs.Ty.{Ty, invalid, never, void, null, interface, function, variable, promoted, nullable}
use Rattle.dart_types.specs.Same.{same_type}
use Rattle.dart_types.specs.Tables.{Table, bound_of}
use Rattle.dart_types.specs.Sub.{reflexivity, left_promoted_variable, left_promoted_type, right_promoted}
use Rattle.dart_types.specs.SubTest.{sub}
use Rattle.dart_types.specs.declared.ids.VarId.{VarId}
use Rattle.type_bounds.specs.NonNull.{non_null_of}
use Rattle.type_bounds.specs.Laws.{BoundLaws}
use Rattle.flow_model.specs.TypeTests.{proper_sub, is_formed, is_in}
use Rattle.flow_model.specs.Promote.{narrowed_variable, by_variable, tested_as, without_null_of, below_current}
use Rattle.flow_model.specs.Assign.{between_of, least_of, appended_of}
use Rattle.flow_model.specs.Chains.{IsProperSubtype}
use Rattle.flow_model.proofs.SameTypes.{same_type-refl}
use Rattle.flow_model.proofs.WrittenTypes.{All-found}

-- types that the test tells apart are different
apart : (s t : Ty) → same_type s t ≡ false → s ≢ t
apart s t differ equal =
    let alike : same_type s t ≡ true = ap (λ u. same_type s u) (sym equal) ∙ same_type-refl s in
    let both : true ≡ false = sym alike ∙ differ in
    cc

-- a test that fails, from its negation
from_not : (b : Bool) → not b ≡ true → b ≡ false
from_not true h = cc
from_not false h = refl

-- neither of two tests holds
neither : (a b : Bool) → (a || b) ≡ false → a ≡ false
neither true b h = cc
neither false b h = refl

module _ (table : Table) (laws : BoundLaws table) where
  -- a type that passes the test is a proper subtype
  proper_from_test : (s t : Ty) → proper_sub table s t ≡ true → IsProperSubtype table t s
  proper_from_test s t h =
      let both = and_parts (sub table s t) (not (same_type s t)) h in
      record { subtype = laws.rows.sub_sound s t both.0; other = apart s t (from_not (same_type s t) both.1) }

  -- all types of a list are proper subtypes of one
  abbrev pub AreProper : Ty → List Ty → Type 0
  AreProper t types = All (IsProperSubtype table t) types

  -- one type, if a test holds
  one_if : (s t : Ty) (b : Bool) → (b ≡ true → IsProperSubtype table t s) → AreProper t (if b then s ∷ [] else [])
  one_if s t true proper = All-cons (IsProperSubtype table t) s [] (proper refl) (All-nil (IsProperSubtype table t))
  one_if s t false proper = All-nil (IsProperSubtype table t)

  -- one type, if a test fails
  one_unless : (s t : Ty) (b : Bool) → (b ≡ false → IsProperSubtype table t s) → AreProper t (if b then [] else s ∷ [])
  one_unless s t true proper = All-nil (IsProperSubtype table t)
  one_unless s t false proper = All-cons (IsProperSubtype table t) s [] (proper refl) (All-nil (IsProperSubtype table t))

  -- either of two lists
  either_proper : (t : Ty) (ss us : List Ty) (b : Bool) → (b ≡ true → AreProper t ss) → AreProper t us → AreProper t (if b then ss else us)
  either_proper t ss us true first second = first refl
  either_proper t ss us false first second = second

  -- what a known type of a variable promotes it to
  variable_proper : (x : VarId) (to known t : Ty) → (IsProperSubtype table known to → IsProperSubtype table t (promoted x to)) → AreProper t (narrowed_variable table (promoted x to) to known)
  variable_proper x to known t by_known =
      one_if (promoted x to) t (proper_sub table to known && is_formed (promoted x to))
      (λ h. by_known (proper_from_test to known (and_parts (proper_sub table to known) (is_formed (promoted x to)) h).0))

  -- `X & T` is a proper subtype of X
  below_variable : (x : VarId) (to : Ty) → IsProperSubtype table (variable x) (promoted x to)
  below_variable x to = record { subtype = left_promoted_variable reflexivity; other = λ same. cc }

  -- by its bound
  bound_proper : (x : VarId) (to : Ty) (bound : Option Ty) → AreProper (variable x) (option_map_or (narrowed_variable table (promoted x to) to) bound [])
  bound_proper x to None = All-nil (IsProperSubtype table (variable x))
  bound_proper x to (Some b) = variable_proper x to b (variable x) (λ below. below_variable x to)

  -- `X & T` is a proper subtype of `X & U` where T is one of U
  below_promoted : (x : VarId) (to u : Ty) → IsProperSubtype table u to → IsProperSubtype table (promoted x u) (promoted x to)
  below_promoted x to u below = record {
    subtype = right_promoted (left_promoted_variable reflexivity) (left_promoted_type below.subtype);
    other = λ same. (let equal : to ≡ u = cc in below.other equal);
  }

  -- what a test promotes a variable to
  by_variable_proper : (to t : Ty) → AreProper t (by_variable table to t)
  by_variable_proper to invalid = All-nil (IsProperSubtype table invalid)
  by_variable_proper to never = All-nil (IsProperSubtype table never)
  by_variable_proper to void = All-nil (IsProperSubtype table void)
  by_variable_proper to null = All-nil (IsProperSubtype table null)
  by_variable_proper to (interface c ts) = All-nil (IsProperSubtype table (interface c ts))
  by_variable_proper to (function r o n e) = All-nil (IsProperSubtype table (function r o n e))
  by_variable_proper to (variable x) = bound_proper x to (bound_of table x)
  by_variable_proper to (promoted x u) = variable_proper x to u (promoted x u) (below_promoted x to u)
  by_variable_proper to (nullable u) = All-nil (IsProperSubtype table (nullable u))

  -- what a test promotes to
  pub tested_proper : (to t : Ty) → AreProper t (tested_as table to t)
  tested_proper to t =
      either_proper t (to ∷ []) (by_variable table to t) (proper_sub table to t)
      (λ h. All-cons (IsProperSubtype table t) to [] (proper_from_test to t h) (All-nil (IsProperSubtype table t)))
      (by_variable_proper to t)

  -- the type without null
  pub without_null_proper : (t : Ty) → AreProper t (without_null_of table t)
  without_null_proper t =
      let bare = non_null_of table t in
      one_unless bare t (same_type bare t || not (is_formed bare))
      (λ h. record { subtype = laws.non_null_below t; other = apart bare t (neither (same_type bare t) (not (is_formed bare)) h) })

  -- a type that is known without a test
  pub known_proper : (to t : Ty) → AreProper t (below_current table to t)
  known_proper to t = one_if to t (proper_sub table to t) (proper_from_test to t)

  -- what a write promotes to
  pub appended_proper : (written t : Ty) (interest : List Ty) → AreProper t (appended_of table written t interest)
  appended_proper written t interest =
      let between = between_of table written t interest in
      let passes = filter_passes (λ u. sub table written u && proper_sub table u t) interest in
      either_proper t (written ∷ []) (least_of table between) (is_in interest written && proper_sub table written t)
      (λ h. All-cons (IsProperSubtype table t) written [] (proper_from_test written t (and_parts (is_in interest written) (proper_sub table written t) h).1) (All-nil (IsProperSubtype table t)))
      (All-found (IsProperSubtype table t) (λ u. list_all (sub table u) between) between
      (All-weaker (λ u. (sub table written u && proper_sub table u t) ≡ true) (IsProperSubtype table t)
      (λ u h. proper_from_test u t (and_parts (sub table written u) (proper_sub table u t) h).1)
      between passes))
