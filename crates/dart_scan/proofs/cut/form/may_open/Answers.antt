use Rattle.std.proofs.Common.{length, sym, ◌∙◌, arith}
use Rattle.std.proofs.lemmas.Bool.{eqb-true}
use Rattle.dart_scan.proofs.FirstByteLemmas.{no_string, no_string_at_end}
use Rattle.dart_scan.proofs.cut.form.may_open.Goals as goal

pub returns-then-is_empty : goal.returns-then-is_empty
returns-then-is_empty c = λ _. no_string_at_end c.args.text.now (omega (arith, eqb-true (length c.args.text.now) 0 (sym c.is_empty.ensures ∙ c.if-is_empty.true)))

pub returns : goal.returns
returns c = λ none. no_string c.args.text.now (sym c.begins_opening.ensures ∙ none)
