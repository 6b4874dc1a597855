-- What the definitions say of a few calls.
use Rattle.std.proofs.Common.{◌≡◌, List, [], ◌∷◌, ◌++◌, None, Ok, Err, refl, arith}
use Rattle.dart_types.specs.Ty.{Ty, Types, null, interface, variable, nullable, no_more, more}
use Rattle.dart_types.specs.Heads.{object}
use Rattle.dart_types.specs.SubTest.{sub}
use Rattle.dart_types.specs.Superinterfaces.{supertype}
use Rattle.dart_types.specs.Tables.{Table}
use Rattle.dart_types.specs.Sub.{Sub, right_top, left_null, right_object, left_nullable, right_nullable, right_promoted, reflexivity}
use Rattle.dart_types.specs.declared.ids.VarId.{VarId}
use Rattle.dart_types.specs.declared.ids.TheConstants.{CORE, OBJECT}
use Rattle.dart_types.specs.declared.class_rows.ClassRow.{ClassRow}
use Rattle.dart_types.specs.Measure.{measure, weight_of, deepness_of, heaviest_of, step_of, ranks_of}
use Rattle.type_bounds.specs.Bounds.{upper_apart, null_right}
use Rattle.type_bounds.specs.BoundsOf.{upper_of, lower_of}
use Rattle.type_bounds.specs.Common.{IsAbove}
use Rattle.type_infer.specs.Above.{IsOnlyAbove}
use Rattle.type_infer.specs.Pairs.{Pair, paired}
use Rattle.type_infer.specs.Matching.{ended, Match, faced, constrained, other_elsewhere}
use Rattle.type_infer.specs.Solutions.{Solution, by_upper, no_other, one_other}
use Rattle.type_infer.specs.Inference.{context_pair, Gathered, none_left, one_pair, Inferred, by_constraints, one_given, all_given, refused_here, solved, outside, no_bound}
use Rattle.type_infer.specs.InferenceOf.{inferred_of, context_of_argument}
use Rattle.type_infer.specs.MatchOf.{match_of}
use Rattle.type_infer.specs.declared.constraints.Side.TheVariants.{AtLeast}
use Rattle.type_infer.specs.declared.contexts.TheConstants.{OPEN_PARAMETER}
use Rattle.type_infer.specs.declared.constraints.Constraint.{Constraint}
use Rattle.type_infer.specs.declared.refusal.InferRefusal.TheVariants.{NoSolution, Unconstrained}

abbrev int : Ty
int = interface (record { lib = CORE; index = 5 }) no_more

-- the parameter T
abbrev t : VarId
t = record { lib = CORE; index = 1 }

abbrev object_row : ClassRow
object_row = record { id = OBJECT; params = []; supers = []; depth = 0 }

abbrev int_row : ClassRow
int_row = record { id = record { lib = CORE; index = 5 }; params = []; supers = object ∷ []; depth = 1 }

-- rows in which T has this bound
abbrev rows_with : Ty → Table
rows_with bound = record { classes = object_row ∷ int_row ∷ []; vars = record { var = t; bound = bound } ∷ [] }

-- a call with the result T, no context, and the formals T and T for arguments of the types int and Null
abbrev int_and_null : List Pair
int_and_null = context_pair (variable t) None ++ paired AtLeast (more (variable t) (more (variable t) no_more)) (more int (more null no_more))

abbrev at_least : Ty → Constraint
at_least s = record { param = t; side = AtLeast; ty = s }

gathered : (table : Table) → Gathered table (t ∷ []) int_and_null (Ok (at_least int ∷ at_least null ∷ []))
gathered table = one_pair (faced refl (constrained refl)) tt (one_pair (faced refl (constrained refl)) tt none_left)

-- Null is no subtype of int, nor of Object
null_not_int : (bound : Ty) → Sub (rows_with bound) null int → ⊥
null_not_int bound (right_top e) = cc
null_not_int bound (right_object e p) = cc

null_not_object : (bound : Ty) → Sub (rows_with bound) null object → ⊥
null_not_object bound (right_top e) = cc
null_not_object bound (right_object e p) = cc

-- int is no subtype of Null
int_not_null : (bound : Ty) → Sub (rows_with bound) int null → ⊥
int_not_null bound (right_top e) = cc
int_not_null bound (right_object e p) = cc

-- T is at least int and Null, so it is `int?`
solution : (bound : Ty) → Solution (rows_with bound) (at_least int ∷ at_least null ∷ []) t (Ok (nullable int))
solution bound =
    by_upper refl
    (one_other (omega arith) (upper_apart (int_not_null bound, null_not_int bound) null_right) (no_other (omega arith)))

-- which is within the bound `Object?`
nullable_int : Inferred (rows_with (nullable object)) (t ∷ []) int_and_null (Ok (nullable int ∷ []))
nullable_int =
    by_constraints (gathered (rows_with (nullable object)))
    (one_given (solved (solution (nullable object)) (omega arith) (right_top refl)) all_given)

-- null is below what a nullable type is below
nullable_null : (table : Table) {v t : Ty} → Sub table (nullable v) t → Sub table null t
nullable_null table reflexivity = left_null
nullable_null table (right_top e) = right_top e
nullable_null table (right_object e p) = cc
nullable_null table (left_nullable a b) = b
nullable_null table (right_nullable a) = right_nullable (nullable_null table a)
nullable_null table (right_promoted a b) = right_promoted (nullable_null table a) (nullable_null table b)

-- and not within the bound Object
no_solution : Inferred (rows_with object) (t ∷ []) int_and_null (Err (NoSolution t))
no_solution =
    by_constraints (gathered (rows_with object))
    (refused_here (outside (solution object) (omega arith) (λ a. null_not_object object (nullable_null (rows_with object) a))))

-- with neither formals nor a context nothing tells T
unconstrained : Inferred (rows_with (nullable object)) (t ∷ []) (context_pair (variable t) None ++ paired AtLeast no_more no_more) (Err (Unconstrained t))
unconstrained = by_constraints none_left (refused_here (no_bound (refl, refl) refl))

-- a class `Box<T>`, and one that is a `Box<int>` and a `Box<Object>` at once, which is an error
abbrev box_of : Ty → Ty
box_of arg = interface (record { lib = CORE; index = 9 }) (more arg no_more)

abbrev both_row : ClassRow
both_row = record { id = record { lib = CORE; index = 11 }; params = []; supers = box_of int ∷ box_of object ∷ []; depth = 2 }

abbrev while_edited : Table
while_edited = record { classes = object_row ∷ int_row ∷ record { id = record { lib = CORE; index = 9 }; params = t ∷ []; supers = object ∷ []; depth = 1 } ∷ both_row ∷ []; vars = [] }

-- both are superinterfaces, so none is the only one
a_box_of_int : IsAbove while_edited both_row.id no_more (box_of int)
a_box_of_int = record { row = both_row; row_is = refl; counted = refl; over = box_of int; superinterface = (supertype both_row refl (0, omega arith, refl), omega arith); is = refl }

a_box_of_object : IsAbove while_edited both_row.id no_more (box_of object)
a_box_of_object = record { row = both_row; row_is = refl; counted = refl; over = box_of object; superinterface = (supertype both_row refl (1, omega arith, refl), omega arith); is = refl }

none_alone : (us : Types) → IsOnlyAbove while_edited both_row.id no_more (record { lib = CORE; index = 9 }) us → ⊥
none_alone us a =
    let one = a.only (more int no_more) a_box_of_int in
    let two = a.only (more object no_more) a_box_of_object in
    cc

-- T isn't constrained where `Box<T>` faces the class, and the two fit if they are subtypes as they stand
several_boxes : Match while_edited (t ∷ []) AtLeast (box_of (variable t)) (interface both_row.id no_more) [] (ended (sub while_edited (interface both_row.id no_more) (box_of (variable t))))
several_boxes = faced refl (other_elsewhere refl none_alone)

-- the same answers, as they are computed
computed_nullable : inferred_of (rows_with (nullable object)) (t ∷ []) (variable t) None (variable t ∷ variable t ∷ []) (int ∷ null ∷ []) ≡ Ok (nullable int ∷ [])
unfolding inferred_of match_of upper_of lower_of sub measure weight_of deepness_of heaviest_of step_of ranks_of
computed_nullable = refl

computed_no_solution : inferred_of (rows_with object) (t ∷ []) (variable t) None (variable t ∷ variable t ∷ []) (int ∷ null ∷ []) ≡ Err (NoSolution t)
unfolding inferred_of match_of upper_of lower_of sub measure weight_of deepness_of heaviest_of step_of ranks_of
computed_no_solution = refl

computed_unconstrained : inferred_of (rows_with (nullable object)) (t ∷ []) (variable t) None [] [] ≡ Err (Unconstrained t)
unfolding inferred_of match_of upper_of lower_of sub measure weight_of deepness_of heaviest_of step_of ranks_of
computed_unconstrained = refl

-- the second argument has the context int by the first, and the first one has an open one
computed_context : context_of_argument (rows_with object) (t ∷ []) (variable t) None (variable t ∷ variable t ∷ []) (int ∷ []) ≡ Ok int
unfolding context_of_argument match_of upper_of lower_of sub measure weight_of deepness_of heaviest_of step_of ranks_of
computed_context = refl

computed_open : context_of_argument (rows_with object) (t ∷ []) (variable t) None (variable t ∷ []) [] ≡ Ok (variable OPEN_PARAMETER)
unfolding context_of_argument match_of upper_of lower_of sub measure weight_of deepness_of heaviest_of step_of ranks_of
computed_open = refl

-- and of two superinterfaces of one class none is the only one
computed_boxes : (match_of while_edited (t ∷ []) AtLeast (box_of (variable t)) (interface both_row.id no_more)).constraints ≡ []
unfolding match_of upper_of lower_of sub measure weight_of deepness_of heaviest_of step_of ranks_of
computed_boxes = refl
