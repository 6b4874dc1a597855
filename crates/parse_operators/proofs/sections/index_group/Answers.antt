-- The index is read to its bracket's end, or nothing is.
use Rattle.std.proofs.Common.{sym, ◌∙◌}
use Rattle.dart_tokens.specs.declared.token.Kind.TheVariants as kind
use Rattle.grammar.specs.declared.level.Setting.TheVariants as setting
use Rattle.grammar.specs.Descents.{lower, take_expression}
use Rattle.parse_leaves.specs.Groups.{group_missing, tested_cut, tested_whole}
use Rattle.parse_operators.proofs.sections.index_group.Goals as goal

pub returns-then-not-is_empty-clause-reading : goal.returns-then-not-is_empty-clause-reading
returns-then-not-is_empty-clause-reading g c =
    tested_cut kind.OpenBracket (take_expression (g.B.Below.room c.args.below.now) setting.Plain (lower (g.B.Below.room c.args.below.now))) c.args.tokens.now c.in-Some.inside.now c.in-Some.rest.now c.in-Ok.left.now c.in-Some.opening c.in-Ok.found c.in-Some.ensures c.in-Ok.ensures.reading (sym c.is_empty.ensures ∙ c.if-not-is_empty.true)

pub returns-else-not-is_empty-clause-reading : goal.returns-else-not-is_empty-clause-reading
returns-else-not-is_empty-clause-reading g c =
    tested_whole kind.OpenBracket (take_expression (g.B.Below.room c.args.below.now) setting.Plain (lower (g.B.Below.room c.args.below.now))) c.args.tokens.now c.in-Some.inside.now c.in-Some.rest.now c.in-Ok.left.now c.in-Some.opening c.in-Ok.found c.in-Some.ensures c.in-Ok.ensures.reading (sym c.is_empty.ensures ∙ c.if-not-is_empty.false)

pub returns-in-Err-NoReading-clause-reading : goal.returns-in-Err-NoReading-clause-reading
returns-in-Err-NoReading-clause-reading g c =
    group_missing kind.OpenBracket (take_expression (g.B.Below.room c.args.below.now) setting.Plain (lower (g.B.Below.room c.args.below.now))) c.args.tokens.now c.in-Some.inside.now c.in-Some.rest.now c.in-Some.opening c.in-Some.ensures (rw c.in-Err-NoReading.field-0-is at c.in-Err-NoReading.ensures.reading)
