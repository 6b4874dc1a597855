-- What a type gives way to.
use Rattle.std.specs.declared.rc.Rc.{Rc}
use Rattle.std.proofs.Common.{Global, ◌≡◌, ◌<◌, ◌≤◌, Option, Some, None, false, refl, ap, subst, arith}
use Rattle.dart_types.specs.Ty.{Ty, variable, promoted, nullable}
use Rattle.dart_types.specs.Heads.{is_plain}
use Rattle.dart_types.specs.Marks.{is_marked}
use Rattle.dart_types.specs.Node.{type_of}
use Rattle.dart_types.specs.declared.types.DartType.{DartType}
use Rattle.dart_types.specs.declared.types.TypeNode.{TypeNode}
use Rattle.dart_types.specs.declared.types.TypeNode.TheVariants.{Invalid, Never, Void, Null, Interface, Function, Var, Promoted, Nullable}
use Rattle.type_infer.specs.Matching.{gives_way_at_mark}
use Rattle.dart_types.specs.Tables.{Table, bound_of}
use Rattle.dart_types.specs.Measure.{deepness_of}
use Rattle.dart_types.specs.declared.ids.VarId.{VarId}
use Rattle.dart_types.specs.Laws.{RowLaws}
use Rattle.type_infer.specs.Ways.{GivesWay, stands, to_bound, to_nothing, to_promoted, to_bare, WayAtMark, kept}
use Rattle.type_infer.specs.declared.constraints.Side.{Side}
use Rattle.type_infer.specs.declared.constraints.Side.TheVariants.{AtLeast, AtMost}

-- a type gives way to a less deep one first
abbrev pub GivesWayTo : Table → Side → Ty → Ty → Type 0
GivesWayTo table side s next = (deepness_of table next < deepness_of table s) × ((last : Option Ty) → GivesWay table side next last → GivesWay table side s last)

pub way_to_nothing : (table : Table) (x : VarId) (s : Ty) (side : Side) → side ≡ AtLeast → s ≡ variable x → bound_of table x ≡ None → GivesWay table side s None
way_to_nothing table x s side is e k = rw (is, e) (to_nothing k)

-- a type without `?`, by what it is not
pub unmarked_node : (n : TypeNode) → ((u : Rc DartType Global) → n ≡ Nullable u → ⊥) → is_marked (type_of n) ≡ false
unmarked_node Invalid h = refl
unmarked_node Never h = refl
unmarked_node Void h = refl
unmarked_node Null h = refl
unmarked_node (Interface c ts) h = refl
unmarked_node (Function f) h = refl
unmarked_node (Var x) h = refl
unmarked_node (Promoted x u) h = refl
unmarked_node (Nullable u) h = absurd (h u refl)

-- what gives no way stands
pub stands_there : (table : Table) (side : Side) (t s : Ty) → side ≡ AtMost → WayAtMark table (gives_way_at_mark side t) s (Some s)
stands_there table side t s is = rw is kept

pub stands_beside : (table : Table) (side : Side) (t s : Ty) → side ≡ AtLeast → is_plain t ≡ false → WayAtMark table (gives_way_at_mark side t) s (Some s)
stands_beside table side t s is e = rw is (rw e kept)

module _ (table : Table) (laws : RowLaws table) where
  pub way_to_bound : (x : VarId) (b s : Ty) (side : Side) → side ≡ AtLeast → s ≡ variable x → bound_of table x ≡ Some b → GivesWayTo table side s b
  way_to_bound x b s side is e k = rw (is, e) (omega (arith, laws.bound_deepness x b k), λ last g. to_bound k g)

  promoted_deepness : (x : VarId) (u : Ty) → deepness_of table u < deepness_of table (promoted x u)
  unfolding deepness_of
  promoted_deepness x u = omega arith

  nullable_deepness : (u : Ty) → deepness_of table u < deepness_of table (nullable u)
  unfolding deepness_of
  nullable_deepness u = omega arith

  pub way_to_promoted : (x : VarId) (u s : Ty) (side : Side) → side ≡ AtLeast → s ≡ promoted x u → GivesWayTo table side s u
  way_to_promoted x u s side is e = rw (is, e) (promoted_deepness x u, λ last g. to_promoted g)

  pub way_to_bare : (u s : Ty) (side : Side) → side ≡ AtMost → s ≡ nullable u → GivesWayTo table side s u
  way_to_bare u s side is e = rw (is, e) (nullable_deepness u, λ last g. to_bare g)

  -- what a type gives way to is no deeper
  pub way_no_deeper : {side : Side} {s : Ty} {last : Option Ty} → GivesWay table side s last → (u : Ty) → last ≡ Some u → deepness_of table u ≤ deepness_of table s
  way_no_deeper {s = s} (stands k) u e = let is : s ≡ u = cc in subst (λ (v : Ty). deepness_of table v ≤ deepness_of table s) is (omega arith)
  way_no_deeper (to_bound {y = y} {b = b} k g) u e = omega (arith, way_no_deeper g u e, laws.bound_deepness y b k)
  way_no_deeper (to_nothing k) u e = cc
  way_no_deeper (to_promoted {y = y} {u = v} g) u e = omega (arith, way_no_deeper g u e, promoted_deepness y v)
  way_no_deeper (to_bare {s = v} g) u e = omega (arith, way_no_deeper g u e, nullable_deepness v)

  pub past_mark_falls : (s last u : Ty) → GivesWay table AtLeast s (Some last) → last ≡ nullable u → deepness_of table u < deepness_of table s
  past_mark_falls s last u g e = omega (arith, way_no_deeper g last refl, nullable_deepness u, ap (deepness_of table) e)
