use Rattle.std.proofs.Common.{sym, ap, ◌∙◌, take}
use Rattle.dart_scan.specs.Characters.{is_hexadecimal_digit}
use Rattle.dart_scan.proofs.EscapeLemmas.{all_digits}
use Rattle.dart_scan.specs.Utf8Lemmas.{take_run}
use Rattle.dart_scan.proofs.escape.hexadecimal_digits.Goals as goal

pub returns-clause-digits : goal.returns-clause-digits
returns-clause-digits c =
    c.split_at.ensures.front ∙ ap (λ n. take n c.args.units.now) c.hexadecimal_size.ensures.size ∙ sym (take_run is_hexadecimal_digit c.args.units.now)

pub returns-clause-all : goal.returns-clause-all
returns-clause-all c =
    all_digits c.args.units.now _ (c.split_at.ensures.front ∙ ap (λ n. take n c.args.units.now) c.hexadecimal_size.ensures.size ∙ sym (take_run is_hexadecimal_digit c.args.units.now))
