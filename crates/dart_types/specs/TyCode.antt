-- A type is stored as the list of its marks, each part before what it is a part of.
use Rattle.std.specs.Prelude.{◌≡◌, ℕ, List, [], ◌∷◌, refl, Bool, true}
use Rattle.std.proofs.Common.{zero, suc, ap, ◌∙◌}
use Rattle.std.specs.Coded.{Coded, code_by, coded×, coded_ℕ, coded_bool, coded_list}
use Rattle.dart_types.specs.declared.ids.ClassId.{ClassId}
use Rattle.dart_types.specs.declared.ids.VarId.{VarId}
use Rattle.dart_types.specs.Ty.{Ty, Types, Named, invalid, never, void, null, interface, function, variable, promoted, nullable, no_more, more, no_named, more_named}

-- the mark of a node
pub data Mark : Type 0 where
  is_invalid : Mark
  is_never : Mark
  is_void : Mark
  is_null : Mark
  is_interface : ClassId → Mark
  is_function : Mark
  is_variable : VarId → Mark
  is_promoted : VarId → Mark
  is_nullable : Mark
  is_no_more : Mark
  is_more : Mark
  is_no_named : Mark
  is_more_named : List ℕ → Bool → Mark

-- a mark as numbers: its place above, an id, a name and a flag
abbrev pub Numbers : Type 0
Numbers = ℕ × ((ℕ × ℕ) × (List ℕ × Bool))

abbrev plain : ℕ → Numbers
plain n = (n, ((0, 0), ([], true)))

abbrev pub numbers_of : Mark → Numbers
numbers_of is_invalid = plain 0
numbers_of is_never = plain 1
numbers_of is_void = plain 2
numbers_of is_null = plain 3
numbers_of (is_interface c) = (4, ((c.lib.0, c.index), ([], true)))
numbers_of is_function = plain 5
numbers_of (is_variable x) = (6, ((x.lib.0, x.index), ([], true)))
numbers_of (is_promoted x) = (7, ((x.lib.0, x.index), ([], true)))
numbers_of is_nullable = plain 8
numbers_of is_no_more = plain 9
numbers_of is_more = plain 10
numbers_of is_no_named = plain 11
numbers_of (is_more_named n r) = (12, ((0, 0), (n, r)))

abbrev class_at : ℕ × ℕ → ClassId
class_at p = record { lib = record { 0 = p.0 }; index = p.1 }

abbrev var_at : ℕ × ℕ → VarId
var_at p = record { lib = record { 0 = p.0 }; index = p.1 }

abbrev pub mark_at : ℕ → (ℕ × ℕ) → List ℕ → Bool → Mark
mark_at zero i n r = is_invalid
mark_at (suc zero) i n r = is_never
mark_at (suc (suc zero)) i n r = is_void
mark_at (suc (suc (suc zero))) i n r = is_null
mark_at (suc (suc (suc (suc zero)))) i n r = is_interface (class_at i)
mark_at (suc (suc (suc (suc (suc zero))))) i n r = is_function
mark_at (suc (suc (suc (suc (suc (suc zero)))))) i n r = is_variable (var_at i)
mark_at (suc (suc (suc (suc (suc (suc (suc zero))))))) i n r = is_promoted (var_at i)
mark_at (suc (suc (suc (suc (suc (suc (suc (suc zero)))))))) i n r = is_nullable
mark_at (suc (suc (suc (suc (suc (suc (suc (suc (suc zero))))))))) i n r = is_no_more
mark_at (suc (suc (suc (suc (suc (suc (suc (suc (suc (suc zero)))))))))) i n r = is_more
mark_at (suc (suc (suc (suc (suc (suc (suc (suc (suc (suc (suc zero))))))))))) i n r = is_no_named
mark_at (suc (suc (suc (suc (suc (suc (suc (suc (suc (suc (suc (suc k)))))))))))) i n r = is_more_named n r

pub mark_at-numbers_of : (m : Mark) → mark_at (numbers_of m).0 (numbers_of m).1.0 (numbers_of m).1.1.0 (numbers_of m).1.1.1 ≡ m
mark_at-numbers_of is_invalid = refl
mark_at-numbers_of is_never = refl
mark_at-numbers_of is_void = refl
mark_at-numbers_of is_null = refl
mark_at-numbers_of (is_interface c) = refl
mark_at-numbers_of is_function = refl
mark_at-numbers_of (is_variable x) = refl
mark_at-numbers_of (is_promoted x) = refl
mark_at-numbers_of is_nullable = refl
mark_at-numbers_of is_no_more = refl
mark_at-numbers_of is_more = refl
mark_at-numbers_of is_no_named = refl
mark_at-numbers_of (is_more_named n r) = refl

abbrev pub mark_code : Coded Mark
mark_code =
    code_by Numbers (coded× coded_ℕ (coded× (coded× coded_ℕ coded_ℕ) (coded× (coded_list coded_ℕ) coded_bool))) numbers_of (λ p. mark_at p.0 p.1.0 p.1.1.0 p.1.1.1) mark_at-numbers_of

abbrev pub Marks : Type 0
Marks = List Mark

abbrev mutual
  -- the marks of a type, and then further ones
  pub marks_of : Ty → Marks → Marks
  marks_of invalid ms = is_invalid ∷ ms
  marks_of never ms = is_never ∷ ms
  marks_of void ms = is_void ∷ ms
  marks_of null ms = is_null ∷ ms
  marks_of (interface c ts) ms = marks_of_all ts (is_interface c ∷ ms)
  marks_of (function r o n e) ms = marks_of_all r (marks_of_all o (marks_of_named n (marks_of e (is_function ∷ ms))))
  marks_of (variable x) ms = is_variable x ∷ ms
  marks_of (promoted x t) ms = marks_of t (is_promoted x ∷ ms)
  marks_of (nullable t) ms = marks_of t (is_nullable ∷ ms)

  pub marks_of_all : Types → Marks → Marks
  marks_of_all no_more ms = is_no_more ∷ ms
  marks_of_all (more t ts) ms = marks_of t (marks_of_all ts (is_more ∷ ms))

  pub marks_of_named : Named → Marks → Marks
  marks_of_named no_named ms = is_no_named ∷ ms
  marks_of_named (more_named n r t ts) ms = marks_of t (marks_of_named ts (is_more_named n r ∷ ms))

-- what was read so far, the last first
pub data Stack : Type 0 where
  empty : Stack
  one : Ty → Stack → Stack
  all : Types → Stack → Stack
  names : Named → Stack → Stack

abbrev pub top_one : Stack → Ty
top_one empty = invalid
top_one (one t s) = t
top_one (all ts s) = invalid
top_one (names ns s) = invalid

abbrev pub top_all : Stack → Types
top_all empty = no_more
top_all (one t s) = no_more
top_all (all ts s) = ts
top_all (names ns s) = no_more

abbrev pub top_names : Stack → Named
top_names empty = no_named
top_names (one t s) = no_named
top_names (all ts s) = no_named
top_names (names ns s) = ns

abbrev pub below : Stack → Stack
below empty = empty
below (one t s) = s
below (all ts s) = s
below (names ns s) = s

-- the stack after a mark: the parts on it become what the mark says
abbrev pub read_mark : Mark → Stack → Stack
read_mark is_invalid s = one invalid s
read_mark is_never s = one never s
read_mark is_void s = one void s
read_mark is_null s = one null s
read_mark (is_interface c) s = one (interface c (top_all s)) (below s)
read_mark is_function s =
    one (function (top_all (below (below (below s)))) (top_all (below (below s))) (top_names (below s)) (top_one s)) (below (below (below (below s))))
read_mark (is_variable x) s = one (variable x) s
read_mark (is_promoted x) s = one (promoted x (top_one s)) (below s)
read_mark is_nullable s = one (nullable (top_one s)) (below s)
read_mark is_no_more s = all no_more s
read_mark is_more s = all (more (top_one (below s)) (top_all s)) (below (below s))
read_mark is_no_named s = names no_named s
read_mark (is_more_named n r) s = names (more_named n r (top_one (below s)) (top_names s)) (below (below s))

abbrev pub read : Marks → Stack → Stack
read [] s = s
read (m ∷ ms) s = read ms (read_mark m s)

mutual
  -- reading the marks of a type puts the type on the stack
  pub read-marks_of : (t : Ty) (ms : Marks) (s : Stack) → read (marks_of t ms) s ≡ read ms (one t s)
  read-marks_of invalid ms s = refl
  read-marks_of never ms s = refl
  read-marks_of void ms s = refl
  read-marks_of null ms s = refl
  read-marks_of (interface c ts) ms s = read-marks_of_all ts (is_interface c ∷ ms) s
  read-marks_of (function r o n e) ms s =
      read-marks_of_all r (marks_of_all o (marks_of_named n (marks_of e (is_function ∷ ms)))) s
      ∙ (read-marks_of_all o (marks_of_named n (marks_of e (is_function ∷ ms))) (all r s)
      ∙ (read-marks_of_named n (marks_of e (is_function ∷ ms)) (all o (all r s))
      ∙ read-marks_of e (is_function ∷ ms) (names n (all o (all r s)))))
  read-marks_of (variable x) ms s = refl
  read-marks_of (promoted x t) ms s = read-marks_of t (is_promoted x ∷ ms) s
  read-marks_of (nullable t) ms s = read-marks_of t (is_nullable ∷ ms) s

  pub read-marks_of_all : (ts : Types) (ms : Marks) (s : Stack) → read (marks_of_all ts ms) s ≡ read ms (all ts s)
  read-marks_of_all no_more ms s = refl
  read-marks_of_all (more t ts) ms s =
      read-marks_of t (marks_of_all ts (is_more ∷ ms)) s ∙ read-marks_of_all ts (is_more ∷ ms) (one t s)

  pub read-marks_of_named : (ts : Named) (ms : Marks) (s : Stack) → read (marks_of_named ts ms) s ≡ read ms (names ts s)
  read-marks_of_named no_named ms s = refl
  read-marks_of_named (more_named n r t ts) ms s =
      read-marks_of t (marks_of_named ts (is_more_named n r ∷ ms)) s ∙ read-marks_of_named ts (is_more_named n r ∷ ms) (one t s)

abbrev pub type_of_marks : Marks → Ty
type_of_marks ms = top_one (read ms empty)

-- the marks of a type give it back
pub type_of_marks-marks_of : (t : Ty) → type_of_marks (marks_of t []) ≡ t
type_of_marks-marks_of t = ap top_one (read-marks_of t [] empty)

-- how a type is stored
abbrev pub type_code : Coded Ty
type_code = code_by Marks (coded_list mark_code) (λ t. marks_of t []) type_of_marks type_of_marks-marks_of
