use Rattle.std.proofs.Common.{◌≡◌, ◌∙◌, [], sym}
use Rattle.rule_tests.proofs.Faultless.{none_of_length, faultless}
use Rattle.rule_tests.proofs.program_tests.program_in.Goals as goal

pub program_of-requires-clause-faultless : goal.program_of-requires-clause-faultless
program_of-requires-clause-faultless c =
    let none : c.as_slice.result.now ≡ [] = none_of_length c.as_slice.result.now (sym c.is_empty.ensures ∙ c.if-not-is_empty.false) in
    faultless _ c.as_bytes.result.now _ (c.as_bytes.ensures.value ∙ c.as_str.ensures.same) c.no_diagnostics_means_no_faults.ensures c.in_ok-checked.ensures.check (sym c.as_slice.ensures ∙ none)
