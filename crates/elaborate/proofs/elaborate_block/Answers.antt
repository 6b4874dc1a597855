use Rattle.std.proofs.Common.{◌≡◌, ℕ, ◌≤◌, true, List, [], length, sym, ap, subst, ◌∙◌}
use Rattle.std.specs.Prelude.{All}
use Rattle.dart_scan.specs.Scanned.{tokens_of}
use Rattle.dart_tree.specs.Tree.{block, trees_of}
use Rattle.dart_tree.specs.Numbers.{nodes_in}
use Rattle.dart_types.specs.FormedTable.{FormedTable}
use Rattle.judgement.specs.NodeFacts.{NodeFacts}
use Rattle.judgement.specs.Surroundings.{of_body}
use Rattle.flow_model.specs.Flow.{start_of}
use Rattle.judgement.specs.declared.meaning.Meaning.{Meaning}
use Rattle.built_forms.specs.Forms.{is_statement}
use Rattle.check_library.specs.Units.{judged_by, outside_of, unit_of_text}
use Rattle.core_check.specs.Accepted.{IsAccepted}
use Rattle.core_check.specs.WellFormed.{IsWellFormed}
use Rattle.elaborate.specs.Elaborated.{program_of}
use Rattle.elaborate.proofs.Accepted.{elaborated_is}
use Rattle.elaborate.proofs.SaidNodes.{each_number}
use Rattle.elaborate.proofs.Sources.{count_fits, faultless_is, fits, is_block_of, is_numbered, nodes_are, numbered_at, points_few, statement_built}
use Rattle.elaborate.proofs.elaborate_block.Goals as goal

pub build_program-requires-clause-from : goal.build_program-requires-clause-from
build_program-requires-clause-from c =
    let faultless = c.requires.faultless in
    let checked = c.args.checked.now in
    let body = block c.args.at (trees_of c.args.statements.now) in
    let numbers = is_numbered faultless.text checked faultless.check body c.requires.body c.numbering_laws.ensures.anew in
    let own = numbered_at numbers.first c.args.at (trees_of c.args.statements.now) numbers.is in
    let once = c.each_node_is_spoken_of_once.ensures (of_body checked.rows.table checked.unit.words checked.forms.outside.items) body c.args.at.node.0 (start_of []) own in
    let typed = c.deref.ensures.value ∙ nodes_are faultless.text checked faultless.check body c.requires.body in
    let from = each_number (λ n. c.args.at.node.0 ≤ n) _ once.from_first in
    subst (All (λ (said : NodeFacts). c.args.at.node.0 ≤ said.node.0)) (sym typed) (λ k d lt. (from k d lt).0)

pub build_program-requires-clause-fits : goal.build_program-requires-clause-fits
build_program-requires-clause-fits c =
    let check = c.requires.faultless.check in
    let numbers = is_numbered c.requires.faultless.text c.args.checked.now check (block c.args.at (trees_of c.args.statements.now)) c.requires.body c.numbering_laws.ensures.anew in
    fits (nodes_in (block c.args.at (trees_of c.args.statements.now))) (nodes_in (unit_of_text c.requires.faultless.text)) (length (tokens_of c.requires.faultless.text)) numbers.fewer check.few check.short

pub programs_of_bodies_are_accepted-requires-clause-few : goal.programs_of_bodies_are_accepted-requires-clause-few
programs_of_bodies_are_accepted-requires-clause-few c =
    let check = c.requires.faultless.check in
    let numbers = is_numbered c.requires.faultless.text c.args.checked.now check (block c.args.at (trees_of c.args.statements.now)) c.requires.body c.numbering_laws.ensures.anew in
    count_fits (length c.in_ok-program.program.points) (nodes_in (block c.args.at (trees_of c.args.statements.now))) (nodes_in (unit_of_text c.requires.faultless.text)) (length (tokens_of c.requires.faultless.text)) c.in_ok-program.ensures.few numbers.fewer check.few check.short

pub returns-clause-program : goal.returns-clause-program
returns-clause-program c =
    let checked = c.args.checked.now in
    let body = block c.args.at (trees_of c.args.statements.now) in
    let typed = c.deref.ensures.value ∙ nodes_are c.requires.faultless.text checked c.requires.faultless.check body c.requires.body in
    let outside = checked.forms.outside.items in
    let nodes = (judged_by checked.rows.table checked.unit.words outside body).nodes in
    c.in_ok-program.ensures.program
    ∙ ap (λ (rows : FormedTable). program_of rows (record { words = c.as_slice-words.result.now; first = c.args.at.node.0; typed = c.deref.result.now }) body) c.in_ok-rows.ensures
    ∙ ap (λ (words : List (List ℕ)). program_of checked.rows (record { words = words; first = c.args.at.node.0; typed = c.deref.result.now }) body) c.as_slice-words.ensures
    ∙ ap (λ (nodes : List NodeFacts). program_of checked.rows (record { words = checked.unit.words; first = c.args.at.node.0; typed = nodes }) body) typed
    ∙ sym (elaborated_is checked.rows checked.unit.words outside body)

both : (c : goal.After-programs_of_bodies_are_accepted) → IsAccepted c.in_ok-program.program × IsWellFormed c.in_ok-program.program
both c =
    let text = c.requires.faultless.text in
    let check = c.requires.faultless.check in
    let checked = c.args.checked.now in
    let body = block c.args.at (trees_of c.args.statements.now) in
    let outside = checked.forms.outside.items in
    let numbers = is_numbered text checked check body c.requires.body c.numbering_laws.ensures.anew in
    let own = numbered_at numbers.first c.args.at (trees_of c.args.statements.now) numbers.is in
    let built = statement_built (outside_of text) body (is_block_of text checked check body c.requires.body c.built_bodies_are_blocks.ensures.blocks) in
    c.programs_of_bodies_are_accepted.ensures.accepted checked.unit.words outside c.args.at (trees_of c.args.statements.now)
    (subst (λ (meanings : List Meaning). is_statement meanings body ≡ true) (sym check.outside) built)
    (faultless_is text checked check body c.requires.body c.requires.faultless.none) own (returns-clause-program c)

pub returns-clause-well_formed : goal.returns-clause-well_formed
returns-clause-well_formed c = (both c).1

pub returns-clause-accepted : goal.returns-clause-accepted
returns-clause-accepted c = (both c).0

pub returns-clause-few : goal.returns-clause-few
returns-clause-few c text check =
    let body = block c.args.at (trees_of c.args.statements.now) in
    let numbers = is_numbered text c.args.checked.now check body c.requires.body c.numbering_laws.ensures.anew in
    points_few (length c.in_ok-program.program.points) (nodes_in body) (nodes_in (unit_of_text text)) (length (tokens_of text)) c.in_ok-program.ensures.few numbers.fewer check.few
