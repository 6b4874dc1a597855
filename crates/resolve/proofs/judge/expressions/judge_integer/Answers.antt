use Rattle.std.proofs.Common.{sym, ◌∙◌}
use Rattle.resolve.specs.Points.{known, surroundings}
use Rattle.resolve.proofs.Forms.{integer_in_range, integer_out_of_range}
use Rattle.resolve.proofs.judge.expressions.judge_integer.Goals as goal

pub returns-then-has_value : goal.returns-then-has_value
returns-then-has_value c =
    let s = surroundings c.args.point in
    integer_in_range c.of_type-then-has_value.result c.args.faults.now.items s c.args.at c.args.word (known c.args.point) c.in_ok-clone.field-0.value _
    (sym (c.has_value.ensures c.args.point.names.now) ∙ c.if-has_value.true)
    (c.in_ok-ty.ensures ∙ c.int.ensures)
    c.in_ok-clone.ensures.cases
    c.of_type-then-has_value.ensures.row
    c.of_type-then-has_value.ensures.place

pub returns : goal.returns
returns c =
    let s = surroundings c.args.point in
    integer_out_of_range c.faulty.result c.args.faults.now.items c.faulty.new.faults.items s c.args.at c.args.word (known c.args.point)
    (sym (c.has_value.ensures c.args.point.names.now) ∙ c.if-has_value.false)
    c.faulty.ensures
