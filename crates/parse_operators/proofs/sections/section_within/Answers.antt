-- A value is assigned to the target that has been read.
use Rattle.std.proofs.Common.{◌≡◌, ◌≤◌, true, false, sym, ap, ◌∙◌, arith}
use Rattle.grammar.specs.declared.level.Setting.TheVariants as setting
use Rattle.grammar.specs.Expressions.{is_open}
use Rattle.grammar.specs.Descents.{lower, take_expression}
use Rattle.parse_operators.proofs.Behind.{gives_section, section_deep}
use Rattle.parse_operators.proofs.sections.section_within.Goals as goal

pub returns-in-Ok-clause-reading : goal.returns-in-Ok-clause-reading
returns-in-Ok-clause-reading g c =
    let still : is_open (g.B.Below.room c.args.below.now) c.in_ok-target.target ≡ true =
    ap (λ k. is_open k c.in_ok-target.target) (sym c.room.ensures) ∙ sym c.is_open.ensures.open ∙ c.if-not-is_open.false in
    gives_section _ c.assignment.result (g.B.Below.room c.args.below.now) c.args.setting (lower (g.B.Below.room c.args.below.now)) (take_expression (g.B.Below.room c.args.below.now) setting.Plain (lower (g.B.Below.room c.args.below.now))) c.args.tokens.now c.in_ok-target.rest.now c.in-Ok.after.now
    c.in_ok-target.target c.in-Ok.value c.in-Ok.operator c.in_ok-target.ensures.reading still c.in-Ok.ensures.reading c.assignment.ensures.reading

pub returns-in-Ok-clause-deep : goal.returns-in-Ok-clause-deep
returns-in-Ok-clause-deep g c =
    let less : c.in_ok-target.height ≤ g.B.Below.room c.args.below.now = omega (arith, c.room.ensures, c.is_open.ensures.within c.if-not-is_open.false) in
    c.assignment.ensures.deep (g.B.Below.room c.args.below.now) less c.in-Ok.ensures.deep.1

pub returns-then-not-is_open-clause-reading : goal.returns-then-not-is_open-clause-reading
returns-then-not-is_open-clause-reading g c =
    let full : is_open (g.B.Below.room c.args.below.now) c.in_ok-target.target ≡ false =
    ap (λ k. is_open k c.in_ok-target.target) (sym c.room.ensures) ∙ sym c.is_open.ensures.open ∙ c.if-not-is_open.true in
    section_deep (g.B.Below.room c.args.below.now) c.args.setting (lower (g.B.Below.room c.args.below.now)) (take_expression (g.B.Below.room c.args.below.now) setting.Plain (lower (g.B.Below.room c.args.below.now))) c.args.tokens.now c.in_ok-target.rest.now c.in_ok-target.target
    c.in_ok-target.ensures.reading full
