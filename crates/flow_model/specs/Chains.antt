-- The order of the types that a local is promoted to.
use Rattle.std.specs.Prelude.{◌≢◌, List, [], ◌∷◌, All}
use Rattle.dart_types.specs.Ty.{Ty}
use Rattle.dart_types.specs.Tables.{Table}
use Rattle.dart_types.specs.Sub.{Sub}
use Rattle.flow_model.specs.Flow.{FlowModel}
use Rattle.flow_model.specs.declared.locals.Facts.{Facts}

-- s is a subtype of t, and another type
pub record IsProperSubtype (table : Table) (t s : Ty) : Type 0 where
  pub subtype : Sub table s t
  pub other : s ≢ t

-- each of the types is a subtype of the one before it, and the first of them of t
abbrev pub Descends : Table → Ty → List Ty → Type 0
Descends table t [] = Unit {0}
Descends table t (u ∷ us) = Sub table u t × Descends table u us

-- each type that a local is promoted to is a subtype of the one before it, and the first of the declared type
abbrev pub HasDescendingChain : Table → Facts → Type 0
HasDescendingChain table l = Descends table l.ty l.chain

-- it is so of each local
abbrev pub HasDescendingChains : Table → FlowModel → Type 0
HasDescendingChains table m = All (HasDescendingChain table) m.locals
