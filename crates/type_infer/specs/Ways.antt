-- What a type gives way to where it faces a class or a function type.
use Rattle.std.specs.Prelude.{◌≡◌, ◌<◌, Bool, true, false, Option, Some, None}
use Rattle.dart_types.specs.Ty.{Ty, variable, promoted, nullable}
use Rattle.dart_types.specs.Marks.{is_marked}
use Rattle.dart_types.specs.Tables.{Table, bound_of}
use Rattle.dart_types.specs.Measure.{deepness_of}
use Rattle.dart_types.specs.declared.ids.VarId.{VarId}
use Rattle.type_infer.specs.Matching.{is_as_it_stands}
use Rattle.type_infer.specs.declared.constraints.Side.{Side}
use Rattle.type_infer.specs.declared.constraints.Side.TheVariants.{AtLeast, AtMost}
use Rattle.type_infer.specs.declared.ways.Way.{Way}
use Rattle.type_infer.specs.declared.ways.Way.TheVariants.{Stands, Nothing, Next}

-- a subtype that is a variable gives way to its bound, and `X & U` to U; a supertype with `?` gives way to its bare type; so it goes on until a type stands, or a variable has no bound
pub data GivesWay (table : Table) : Side → Ty → Option Ty → Type 0 where
  stands : {side : Side} {s : Ty} → is_as_it_stands side s ≡ true → GivesWay table side s (Some s)
  to_bound : {y : VarId} {b : Ty} {last : Option Ty} → bound_of table y ≡ Some b → GivesWay table AtLeast b last → GivesWay table AtLeast (variable y) last
  to_nothing : {y : VarId} → bound_of table y ≡ None → GivesWay table AtLeast (variable y) None
  to_promoted : {y : VarId} {u : Ty} {last : Option Ty} → GivesWay table AtLeast u last → GivesWay table AtLeast (promoted y u) last
  to_bare : {s : Ty} {last : Option Ty} → GivesWay table AtMost s last → GivesWay table AtMost (nullable s) last

-- a type stands, or gives way to nothing, or to a less deep one first
abbrev pub IsWay : Table → Side → Ty → Way → Type 0
IsWay table side s Stands = is_as_it_stands side s ≡ true
IsWay table side s Nothing = GivesWay table side s None
IsWay table side s (Next next) =
    (deepness_of table next.now < deepness_of table s) × ((last : Option Ty) → GivesWay table side next.now last → GivesWay table side s last)

-- what a subtype gives way to where a class or a function type with `?` is to be its supertype: its own `?` goes too; where the formal is no such type, it stands
pub data WayAtMark (table : Table) : Bool → Ty → Option Ty → Type 0 where
  kept : {s : Ty} → WayAtMark table false s (Some s)
  to_none : {s : Ty} → GivesWay table AtLeast s None → WayAtMark table true s None
  to_last : {s last : Ty} → GivesWay table AtLeast s (Some last) → is_marked last ≡ false → WayAtMark table true s (Some last)
  past_mark : {s u : Ty} {last : Option Ty} → GivesWay table AtLeast s (Some (nullable u)) → WayAtMark table true u last → WayAtMark table true s last
