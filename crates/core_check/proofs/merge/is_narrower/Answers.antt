use Rattle.core_check.proofs.Walks.{declared_below}
use Rattle.core_check.proofs.merge.is_narrower.Goals as goal

-- declared types are below each other
pub returns-then-has_declared-2 : goal.returns-then-has_declared-2
returns-then-has_declared-2 c = λ sure. declared_below _ c.know_rows.ensures _ _ _ (c.has_declared.ensures c.if-has_declared.true) (c.has_declared-then-has_declared.ensures c.if-has_declared-2.true)
