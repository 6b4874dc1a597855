use Rattle.core_emit.proofs.Emits.{emits}
use Rattle.core_emit.proofs.laws.points_of_code_are_fine.Goals as goal

pub returns : goal.returns
returns c g id code after next old same pass all inside is =
    let gives = emits c.args._program.now g id same code after next old pass all inside is in
    record { fine = gives.fine; entry_in = gives.entry_in; entry_facts = gives.entry_facts; kept = gives.kept.facts }
