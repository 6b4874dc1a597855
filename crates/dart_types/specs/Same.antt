-- Whether two ids, or two types, are the same.
use Rattle.std.specs.Prelude.{Bool, true, false, ◌&&◌, nat_eq, not, bytes_eq, if◌then◌else◌}
use Rattle.dart_types.specs.Ty.{Ty, Types, Named, invalid, never, void, null, interface, function, variable, promoted, nullable, no_more, more, no_named, more_named}
use Rattle.dart_types.specs.declared.ids.ClassId.{ClassId}
use Rattle.dart_types.specs.declared.ids.VarId.{VarId}

-- whether two classes are the same
abbrev pub same_class : ClassId → ClassId → Bool
same_class c d = nat_eq c.lib.0 d.lib.0 && nat_eq c.index d.index

-- whether two type variables are the same
abbrev pub same_var : VarId → VarId → Bool
same_var x y = nat_eq x.lib.0 y.lib.0 && nat_eq x.index y.index

-- whether both are true or both are false
abbrev pub same_bool : Bool → Bool → Bool
same_bool a b = if a then b else not b

abbrev mutual
  -- whether two types are the same
  pub same_type : Ty → Ty → Bool
  same_type invalid invalid = true
  same_type never never = true
  same_type void void = true
  same_type null null = true
  same_type (interface c ss) (interface d ts) = same_class c d && same_types ss ts
  same_type (function r o n e) (function r' o' n' e') = same_types r r' && same_types o o' && same_named n n' && same_type e e'
  same_type (variable x) (variable y) = same_var x y
  same_type (promoted x s) (promoted y t) = same_var x y && same_type s t
  same_type (nullable s) (nullable t) = same_type s t
  same_type _ _ = false

  -- whether two lists have the same types, in the same order
  pub same_types : Types → Types → Bool
  same_types no_more no_more = true
  same_types (more s ss) (more t ts) = same_type s t && same_types ss ts
  same_types _ _ = false

  -- whether two lists have the same named parameters, in the same order
  pub same_named : Named → Named → Bool
  same_named no_named no_named = true
  same_named (more_named m q s ss) (more_named n r t ts) = bytes_eq m n && same_bool q r && same_type s t && same_named ss ts
  same_named _ _ = false
