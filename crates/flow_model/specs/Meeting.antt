-- Where two paths meet in what is known on one of them.
use Rattle.std.specs.Prelude.{◌≡◌, List, length}
use Rattle.flow_model.specs.Join.{join_locals}
use Rattle.flow_model.specs.declared.join.Path.{Path}
use Rattle.flow_model.specs.declared.join.Path.TheVariants.{First, Second}
use Rattle.flow_model.specs.declared.locals.Facts.{Facts}

-- what is known on one of two paths
abbrev pub on_path : {X : Type 0} → Path → X → X → X
on_path First a b = a
on_path Second a b = b

-- whether a local has a value, has none, and is captured is known alike
pub record HaveSameFlags (l m : Facts) : Type 0 where
  pub assigned : l.assigned ≡ m.assigned
  pub unassigned : l.unassigned ≡ m.unassigned
  pub captured : l.captured ≡ m.captured

-- the locals of two paths are as many, and where they meet is known what is known on one of the paths
pub record JoinTo (path : Path) (ls ms : List Facts) : Type 0 where
  pub as_many : length ls ≡ length ms
  pub joined : join_locals ls ms ≡ on_path path ls ms
