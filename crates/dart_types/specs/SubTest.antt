-- Subtyping as a test, for definitions that compute.
use Rattle.std.specs.Prelude.{ℕ, Bool, true, false, ◌&&◌, ◌||◌, nat_eq, nat_le, List, length, bytes_eq}
use Rattle.std.specs.List.{list_any}
use Rattle.std.specs.Option.{option_map_or}
use Rattle.std.proofs.Common.{zero, suc}
use Rattle.dart_types.specs.Ty.{Ty, Types, Named, invalid, never, void, null, interface, function, variable, promoted, nullable, no_more, more, no_named, more_named, count, join}
use Rattle.dart_types.specs.Same.{same_class, same_type}
use Rattle.dart_types.specs.Heads.{object, is_object, is_function_class}
use Rattle.dart_types.specs.Substitution.{put_all, by_params}
use Rattle.dart_types.specs.Kept.{kept_of}
use Rattle.dart_types.specs.Tables.{Table, class_of, bound_of}
use Rattle.dart_types.specs.Sub.{required_in}
use Rattle.dart_types.specs.Measure.{measure}
use Rattle.dart_types.specs.declared.ids.ClassId.{ClassId}
use Rattle.dart_types.specs.declared.ids.VarId.{VarId}

-- whether `below` holds pair by pair of two lists that are as long
abbrev pub pairwise : (Ty → Ty → Bool) → Types → Types → Bool
pairwise below no_more no_more = true
pairwise below no_more (more t ts) = false
pairwise below (more s ss) no_more = false
pairwise below (more s ss) (more t ts) = below s t && pairwise below ss ts

-- whether `below` holds of each type of the first list and that at its place in the second, which may go on
abbrev pub params_fit : (Ty → Ty → Bool) → Types → Types → Bool
params_fit below no_more ss = true
params_fit below (more t ts) no_more = false
params_fit below (more t ts) (more s ss) = below t s && params_fit below ts ss

-- whether `below` holds of the type and that of a named parameter of this name in the list
abbrev pub name_fits : (Ty → Ty → Bool) → List ℕ → Ty → Named → Bool
name_fits below m t no_named = false
name_fits below m t (more_named n r s ss) = (bytes_eq n m && below t s) || name_fits below m t ss

-- whether that is so of each named parameter of the first list in the second
abbrev pub named_fit : (Ty → Ty → Bool) → Named → Named → Bool
named_fit below no_named ss = true
named_fit below (more_named m r t ts) ss = name_fits below m t ss && named_fit below ts ss

-- whether an interface is below another of its class, where `below` tells of the arguments
abbrev pub by_arguments : (Ty → Ty → Bool) → ClassId → Types → Ty → Bool
by_arguments below c ss invalid = false
by_arguments below c ss never = false
by_arguments below c ss void = false
by_arguments below c ss null = false
by_arguments below c ss (interface d ts) = same_class c d && pairwise below ss ts
by_arguments below c ss (function r o n e) = false
by_arguments below c ss (variable x) = false
by_arguments below c ss (promoted x t) = false
by_arguments below c ss (nullable t) = false

-- whether a superinterface of a class, with these arguments put in for its parameters, is below another type of its class
abbrev pub is_super_below : (Ty → Ty → Bool) → List VarId → Types → Ty → Ty → Bool
is_super_below below ps ss t invalid = false
is_super_below below ps ss t never = false
is_super_below below ps ss t void = false
is_super_below below ps ss t null = false
is_super_below below ps ss t (interface d us) = by_arguments below d (put_all (by_params ps ss) us) t
is_super_below below ps ss t (function r o n e) = false
is_super_below below ps ss t (variable x) = false
is_super_below below ps ss t (promoted x u) = false
is_super_below below ps ss t (nullable u) = false

-- whether an interface is below a type by a superinterface that its class keeps
abbrev pub by_superinterfaces : Table → (Ty → Ty → Bool) → ClassId → Types → Ty → Bool
by_superinterfaces table below c ss t =
    option_map_or (λ row. nat_eq (count ss) (length row.params) && list_any (is_super_below below row.params ss t) (kept_of table c)) (class_of table c) false

-- whether a function type is below another, where `below` tells of parameters and results
abbrev pub by_signature : (Ty → Ty → Bool) → Types → Types → Named → Ty → Ty → Bool
by_signature below r o n e invalid = false
by_signature below r o n e never = false
by_signature below r o n e void = false
by_signature below r o n e null = false
by_signature below r o n e (interface c ts) = false
by_signature below r o n e (function r' o' n' e') =
    nat_le (count r) (count r') && params_fit below (join r' o') (join r o) && named_fit below n' n && required_in n n' && below e e'
by_signature below r o n e (variable x) = false
by_signature below r o n e (promoted x t) = false
by_signature below r o n e (nullable t) = false

-- whether a rule on the form of the left type gives s <: t
abbrev pub by_left : Table → (Ty → Ty → Bool) → Ty → Ty → Bool
by_left table below invalid t = false
by_left table below never t = true
by_left table below void t = below (nullable object) t
by_left table below null t = false
by_left table below (interface c ss) t = is_object t || by_arguments below c ss t || by_superinterfaces table below c ss t
by_left table below (function r o n e) t = is_object t || is_function_class t || by_signature below r o n e t
by_left table below (variable x) t = option_map_or (λ b. below b t) (bound_of table x) false
by_left table below (promoted x u) t = below (variable x) t || below u t
by_left table below (nullable u) t = below u t && below null t

-- whether the type is Null
abbrev pub is_null : Ty → Bool
is_null invalid = false
is_null never = false
is_null void = false
is_null null = true
is_null (interface c ts) = false
is_null (function r o n e) = false
is_null (variable x) = false
is_null (promoted x t) = false
is_null (nullable t) = false

-- whether a rule on the form of the right type gives s <: t
abbrev pub by_right : (Ty → Ty → Bool) → Ty → Ty → Bool
by_right below s invalid = false
by_right below s never = false
by_right below s void = true
by_right below s null = false
by_right below s (interface c ts) = false
by_right below s (function r o n e) = false
by_right below s (variable x) = false
by_right below s (promoted x u) = below s (variable x) && below s u
by_right below s (nullable u) = is_object u || is_null s || below s u

-- whether s <: t has a derivation of so many rules at most, one above another
abbrev pub derives : Table → ℕ → Ty → Ty → Bool
derives table zero s t = false
derives table (suc n) s t = same_type s t || by_left table (derives table n) s t || by_right (derives table n) s t

-- whether s is a subtype of t
unfoldable pub sub : Table → Ty → Ty → Bool
sub table s t = derives table (suc (measure table s t)) s t
