use Rattle.last_parts.specs.LastParts.{last_of, left_of}
use Rattle.last_parts.specs.Expressions.{leaves_below}
use Rattle.last_parts.proofs.laws.expressions_leave_last_parts.Goals as goal

pub returns : goal.returns
returns c = λ room setting tokens read e. last_of {us = read.1} {ts = tokens} (left_of ((leaves_below room).expression setting) tokens read e)
