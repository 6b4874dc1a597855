-- What is left of a type where a value of it hasn't another type, the `factor` of Dart.
use Rattle.std.specs.Prelude.{if◌then◌else◌}
use Rattle.dart_types.specs.Ty.{Ty, invalid, never, void, null, interface, function, variable, promoted, nullable}
use Rattle.dart_types.specs.Normal.{nullable_of}
use Rattle.dart_types.specs.Tables.{Table}
use Rattle.dart_types.specs.SubTest.{sub}

-- nothing is left of a subtype of t; of another type there is left what is said
abbrev pub unless_below : Table → Ty → Ty → Ty → Ty
unless_below table s t left = if sub table s t then never else left

-- `R?`, of which this is left of R: null is left too, unless it is a value of t
abbrev pub with_null : Table → Ty → Ty → Ty
with_null table t left = if sub table null t then left else nullable_of left

-- what is left of s without t
abbrev pub factor_of : Table → Ty → Ty → Ty
factor_of table invalid t = unless_below table invalid t invalid
factor_of table never t = unless_below table never t never
factor_of table void t = unless_below table void t void
factor_of table null t = unless_below table null t null
factor_of table (interface c ts) t = unless_below table (interface c ts) t (interface c ts)
factor_of table (function r o n e) t = unless_below table (function r o n e) t (function r o n e)
factor_of table (variable x) t = unless_below table (variable x) t (variable x)
factor_of table (promoted x u) t = unless_below table (promoted x u) t (promoted x u)
factor_of table (nullable r) t = unless_below table (nullable r) t (with_null table t (factor_of table r t))
