-- What is left of a type, by its cases.
use Rattle.std.proofs.Common.{◌≡◌, Bool, true, false, ◌∙◌, ap, cond}
use Rattle.dart_types.specs.Ty.{Ty, invalid, never, void, null, interface, function, variable, promoted, nullable}
use Rattle.dart_types.specs.Normal.{nullable_of}
use Rattle.dart_types.specs.Tables.{Table}
use Rattle.dart_types.specs.SubTest.{sub}
use Rattle.type_bounds.specs.Factor.{unless_below, with_null, factor_of}

unless_true : (table : Table) (s t left : Ty) → sub table s t ≡ true → unless_below table s t left ≡ never
unless_true table s t left h = ap (λ (b : Bool). cond b never left) h

unless_false : (table : Table) (s t left : Ty) → sub table s t ≡ false → unless_below table s t left ≡ left
unless_false table s t left h = ap (λ (b : Bool). cond b never left) h

-- nothing is left of a subtype
pub below_leaves : (table : Table) (s t : Ty) → sub table s t ≡ true → factor_of table s t ≡ never
below_leaves table invalid t h = unless_true table invalid t invalid h
below_leaves table never t h = unless_true table never t never h
below_leaves table void t h = unless_true table void t void h
below_leaves table null t h = unless_true table null t null h
below_leaves table (interface c ts) t h = unless_true table (interface c ts) t (interface c ts) h
below_leaves table (function r o n e) t h = unless_true table (function r o n e) t (function r o n e) h
below_leaves table (variable x) t h = unless_true table (variable x) t (variable x) h
below_leaves table (promoted x u) t h = unless_true table (promoted x u) t (promoted x u) h
below_leaves table (nullable r) t h = unless_true table (nullable r) t (with_null table t (factor_of table r t)) h

-- of `R?` is left what is left of R, where null is a value of t
pub marked_leaves : (table : Table) (r t : Ty) → sub table (nullable r) t ≡ false → sub table null t ≡ true → factor_of table (nullable r) t ≡ factor_of table r t
marked_leaves table r t h k = unless_false table (nullable r) t (with_null table t (factor_of table r t)) h ∙ ap (λ (b : Bool). cond b (factor_of table r t) (nullable_of (factor_of table r t))) k

-- else null too
pub marked_leaves_null : (table : Table) (r t : Ty) → sub table (nullable r) t ≡ false → sub table null t ≡ false → factor_of table (nullable r) t ≡ nullable_of (factor_of table r t)
marked_leaves_null table r t h k = unless_false table (nullable r) t (with_null table t (factor_of table r t)) h ∙ ap (λ (b : Bool). cond b (factor_of table r t) (nullable_of (factor_of table r t))) k
