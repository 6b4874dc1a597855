use Rattle.std.proofs.Common.{Some, ◌∙◌, ap}
use Rattle.directives.proofs.Spelling.{spelled, not_spelled}
use Rattle.directives.proofs.uri.text_of_units.Goals as goal

pub returns-in-Ok : goal.returns-in-Ok
returns-in-Ok c =
    ap (λ text. Some text) c.from_string.ensures
    ∙ spelled c.args.units.now c.in_ok-text.field-0 c.in-Ok.text c.in_ok-text.ensures.chars c.in_ok-text.ensures.unpaired c.in-Ok.is

pub returns-in-Err : goal.returns-in-Err
returns-in-Err c = not_spelled c.args.units.now c.in_ok-text.field-0 c.in-Err.field-0 c.in_ok-text.ensures.unpaired c.in-Err.is
