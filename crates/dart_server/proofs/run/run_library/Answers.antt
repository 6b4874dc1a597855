use Rattle.std.proofs.Common.{◌≡◌, ◌≢◌, ◌∙◌, List, [], None, Some, option_map, sym, ap, subst}
use Rattle.std.specs.Option.{option_copied}
use Rattle.judgement.specs.declared.fault.Fault.{Fault}
use Rattle.check_library.specs.Diagnostics.{diagnostics}
use Rattle.check_library.specs.Checked.{IsCheckOf, main_of_checked}
use Rattle.core_machine.specs.State.{run_of}
use Rattle.dart_server.specs.declared.status.Status.TheVariants.{Refused}
use Rattle.dart_server.specs.Run.{no_main_line, Prints, RunGives, UnbuiltGives}
use Rattle.dart_server.specs.Writes.{Says, Writes}
use Rattle.dart_server.proofs.WritesLemmas.{writes_map}
use Rattle.dart_server.proofs.ProgramLemmas.{none_of_length, some_of_length, faultless, given_by_unit, given_by_program, given_by_unbuilt}
use Rattle.dart_server.proofs.run.run_library.Goals as goal

pub returns-then-not-is_empty-clause-writes : goal.returns-then-not-is_empty-clause-writes
returns-then-not-is_empty-clause-writes g c =
    let same : c.as_slice.result.now ≡ diagnostics c.args.text.now = c.as_slice.ensures ∙ c.in_ok-checked.ensures.diagnostics in
    let some : c.as_slice.result.now ≢ [] = some_of_length c.as_slice.result.now (sym c.is_empty.ensures ∙ c.if-not-is_empty.true) in
    subst (λ (found : List Fault). Writes (RunGives c.args.text.now c.args.has_main c.args.steps found) (g.K.Sink.written c.args.sink.now) (g.K.Sink.written c.refuse_unbuilt.new.sink) c.refuse_unbuilt.result) same
    (writes_map (UnbuiltGives c.args.has_main) (RunGives c.args.text.now c.args.has_main c.args.steps c.as_slice.result.now) _ _ _
    (given_by_unbuilt c.args.text.now c.args.has_main c.args.steps c.as_slice.result.now some) c.refuse_unbuilt.ensures.writes)

pub program_of-requires-clause-faultless : goal.program_of-requires-clause-faultless
program_of-requires-clause-faultless g c =
    let none : c.as_slice.result.now ≡ [] = none_of_length c.as_slice.result.now (sym c.is_empty.ensures ∙ c.if-not-is_empty.false) in
    faultless c.args.text.now _ c.in_ok-checked.ensures.check (sym c.as_slice.ensures ∙ none)

pub returns-in-Some-clause-writes : goal.returns-in-Some-clause-writes
returns-in-Some-clause-writes g c =
    let none : c.as_slice.result.now ≡ [] = none_of_length c.as_slice.result.now (sym c.is_empty.ensures ∙ c.if-not-is_empty.false) in
    let check : IsCheckOf c.args.text.now c.in_ok-checked.checked = c.in_ok-checked.ensures.check in
    let body : option_map (λ main. main.1) (main_of_checked c.in_ok-checked.checked) ≡ Some c.in-Some.body.now = sym c.main.ensures ∙ ap option_copied c.in-Some.is in
    writes_map (Prints (run_of c.in_ok-program-in-Some.program c.args.steps)) _ _ _ _
    (λ output status prints. given_by_unit c.args.text.now c.args.has_main c.args.steps c.in_ok-checked.checked (Some c.in-Some.body.now) check (sym c.as_slice.ensures ∙ none) body output status
    (given_by_program c.args.text.now c.args.steps c.in_ok-checked.checked c.in-Some.body.now c.in_ok-program-in-Some.program check c.in_ok-program-in-Some.ensures.program c.in_ok-program-in-Some.ensures.sound output status prints))
    c.run_program.ensures.writes

pub returns-clause-writes : goal.returns-clause-writes
returns-clause-writes g c =
    let none : c.as_slice.result.now ≡ [] = none_of_length c.as_slice.result.now (sym c.is_empty.ensures ∙ c.if-not-is_empty.false) in
    let check : IsCheckOf c.args.text.now c.in_ok-checked.checked = c.in_ok-checked.ensures.check in
    let body : option_map (λ main. main.1) (main_of_checked c.in_ok-checked.checked) ≡ None = sym c.main.ensures ∙ ap option_copied c.in-None.is in
    writes_map (Says no_main_line Refused) _ _ _ _
    (λ output status says. given_by_unit c.args.text.now c.args.has_main c.args.steps c.in_ok-checked.checked None check (sym c.as_slice.ensures ∙ none) body output status says)
    c.say.ensures.writes
