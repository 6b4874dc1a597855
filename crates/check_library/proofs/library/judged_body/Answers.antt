use Rattle.std.proofs.Common.{◌≡◌, ◌∙◌, List, IfOk, sym, ap, subst}
use Rattle.dart_tree.specs.Tree.{Tree, block, trees_of}
use Rattle.dart_tree.specs.View.{body_of}
use Rattle.resolve.specs.Said.{kept}
use Rattle.check_library.specs.Units.{judged_by}
use Rattle.check_library.proofs.library.judged_body.Goals as goal

pub returns-clause-faults : goal.returns-clause-faults
returns-clause-faults c =
    let same : block c.in-Block.at (trees_of c.deref.result.now) ≡ c.args.body.now = ap (λ (ts : List Tree). block c.in-Block.at (trees_of ts)) c.deref.ensures.value ∙ sym (ap body_of c.in-Block.is) ∙ c.body.view_is in
    subst (λ (t : Tree). IfOk c.judge_body.result (λ found. found.faults.items ≡ (judged_by c.args.rows.now.table c.args.words.now c.args.outside.now t).faults)) same c.judge_body.ensures.faults

pub returns-clause-nodes : goal.returns-clause-nodes
returns-clause-nodes c =
    let same : block c.in-Block.at (trees_of c.deref.result.now) ≡ c.args.body.now = ap (λ (ts : List Tree). block c.in-Block.at (trees_of ts)) c.deref.ensures.value ∙ sym (ap body_of c.in-Block.is) ∙ c.body.view_is in
    subst (λ (t : Tree). IfOk c.judge_body.result (λ found. found.nodes ≡ kept c.args.keep (judged_by c.args.rows.now.table c.args.words.now c.args.outside.now t).nodes)) same c.judge_body.ensures.nodes
