-- A superinterface of a class with arguments is a supertype.
use Rattle.std.proofs.Common.{sym, subst}
use Rattle.dart_types.specs.Ty.{Ty, Types, interface}
use Rattle.dart_types.specs.Tables.{Table}
use Rattle.dart_types.specs.Sub.{Sub}
use Rattle.dart_types.specs.declared.ids.ClassId.{ClassId}
use Rattle.dart_types.specs.Laws.{RowLaws}
use Rattle.type_bounds.specs.Common.{IsAbove}

pub is_above : (table : Table) → RowLaws table → (c : ClassId) (ts : Types) (u : Ty) → IsAbove table c ts u → Sub table (interface c ts) u
is_above table laws c ts u a =
    subst (λ (k : Ty). Sub table (interface c ts) k) (sym a.is) (laws.kept_normal_below c ts a.row a.over a.row_is a.counted a.superinterface)
