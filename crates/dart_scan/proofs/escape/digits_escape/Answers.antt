use Rattle.std.proofs.Common.{ap, ◌∙◌, take_while, arith}
use Rattle.dart_scan.specs.Characters.{is_hexadecimal_digit}
use Rattle.dart_scan.proofs.EscapeLemmas.{few_digits, digits-whole}
use Rattle.dart_scan.proofs.escape.digits_escape.Goals as goal

pub returns-then-digits-count-clause-escape : goal.returns-then-digits-count-clause-escape
returns-then-digits-count-clause-escape c =
    digits-whole c.args.count c.args.units.now c.hexadecimal_digits-digits.result.now c.hexadecimal_value.result
    (c.hexadecimal_digits-digits.ensures.digits ∙ ap (take_while is_hexadecimal_digit) c.first_units.ensures) c.if-digits-count.true c.hexadecimal_value.ensures.value c.hexadecimal_value.ensures.small c.requires

pub returns-then-digits-count-clause-small : goal.returns-then-digits-count-clause-small
returns-then-digits-count-clause-small c =
    omega (arith, few_digits c.hexadecimal_value.result _ c.hexadecimal_value.ensures.small (omega (arith, c.requires, c.if-digits-count.true)))
