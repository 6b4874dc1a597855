-- The superinterface of a class with arguments that is of another class.
use Rattle.std.specs.Prelude.{◌≡◌, ◌<◌, ◌≤◌, true, List, Contains, Option, Some, None, Result, Ok, Err}
use Rattle.dart_types.specs.Ty.{Ty, Types, invalid, never, void, null, interface, function, variable, promoted, nullable, no_more}
use Rattle.dart_types.specs.Same.{same_class}
use Rattle.dart_types.specs.Sizes.{size_of, held}
use Rattle.dart_types.specs.Superinterfaces.{interface_with}
use Rattle.dart_types.specs.Tables.{Table}
use Rattle.dart_types.specs.declared.class_arguments.Arguments.{Arguments}
use Rattle.dart_types.specs.declared.ids.ClassId.{ClassId}
use Rattle.dart_types.specs.declared.refusal.TypeRefusal.{TypeRefusal}
use Rattle.dart_types.specs.declared.refusal.TypeRefusal.TheVariants.{TooLarge, Memory}
use Rattle.dart_types.specs.declared.refusal.TheConstants.{NODE_LIMIT}
use Rattle.dart_types.specs.declared.superinterfaces.Superinterface.{Superinterface}
use Rattle.type_bounds.specs.Common.{IsAbove}

-- the arguments of a class; no other type has some
abbrev pub arguments_of : Ty → Types
arguments_of invalid = no_more
arguments_of never = no_more
arguments_of void = no_more
arguments_of null = no_more
arguments_of (interface c ts) = ts
arguments_of (function r o n e) = no_more
arguments_of (variable x) = no_more
arguments_of (promoted x t) = no_more
arguments_of (nullable t) = no_more

-- of the superinterfaces of a class with the arguments ts one is of the class d, and one only; its arguments are us
pub record IsOnlyAbove (table : Table) (c : ClassId) (ts : Types) (d : ClassId) (us : Types) : Type 0 where
  pub above : IsAbove table c ts (interface d us)
  pub only : (vs : Types) → IsAbove table c ts (interface d vs) → vs ≡ us

-- an entry of the list is of the class d, and all that are of it are one type where their class has these arguments
pub record IsOnlyEntry (list : List Superinterface) (d : ClassId) (a : Arguments) (s : Superinterface) : Type 0 where
  pub listed : Contains list s
  pub of_class : same_class s.class d ≡ true
  pub only : (o : Superinterface) → Contains list o → same_class o.class d ≡ true → interface_with a o ≡ interface_with a s

-- no entry of the list is so
abbrev pub HasNoOnlyEntry : List Superinterface → ClassId → Arguments → Type 0
HasNoOnlyEntry list d a = (s : Superinterface) → IsOnlyEntry list d a s → ⊥

-- what a call answers that forms the only superinterface of the class d, if there is one: it is within the limit, or has more nodes than a type may have; only want of memory is free
abbrev pub FormsAbove : Table → ClassId → Types → ClassId → Result (Option Ty) TypeRefusal → Type 0
FormsAbove table c ts d (Ok None) = (us : Types) → IsOnlyAbove table c ts d us → ⊥
FormsAbove table c ts d (Ok (Some t)) = (t ≡ interface d (arguments_of t)) × IsOnlyAbove table c ts d (arguments_of t) × (size_of (interface d (arguments_of t)) ≤ NODE_LIMIT)
FormsAbove table c ts d (Err (TooLarge nodes)) = (us : Types) × IsOnlyAbove table c ts d us × (NODE_LIMIT < size_of (interface d us)) × (nodes ≡ held (size_of (interface d us)))
FormsAbove table c ts d (Err Memory) = Unit {0}
