use Rattle.std.proofs.Common.{◌≡◌, [], List, None, ap, ◌∙◌, arith}
use Rattle.std.proofs.lemmas.Result.{IfOk-weaker, on_ok_weaker}
use Rattle.dart_tree.specs.Tree.{block, trees_of}
use Rattle.flow_model.specs.Flow.{FlowModel}
use Rattle.core_ir.specs.declared.points.Point.{Point}
use Rattle.core_ir.specs.declared.points.Term.TheVariants.{End}
use Rattle.core_emit.specs.Emitted.{emit, made, with_point}
use Rattle.elaborate.specs.Elaborated.{main_function, points_of}
use Rattle.elaborate.specs.Known.{facts}
use Rattle.elaborate.proofs.MadeCode.{code_few, end_first, points_made}
use Rattle.elaborate.proofs.program.points_of.Goals as goal

pub emit-requires : goal.emit-requires
emit-requires c =
    let body = block c.args.at (trees_of c.args.statements.now) in
    omega (arith, end_first c.in_ok-facts.facts c.in_ok-end.end c.args.points.now.items c.add_point.new.points.items c.requires.none c.in_ok-end.ensures, code_few c.args.said.now body c.in_ok-code.code c.in_ok-code.ensures, c.requires.fits)

pub returns-clause-points : goal.returns-clause-points
returns-clause-points c =
    let body = block c.args.at (trees_of c.args.statements.now) in
    let known = c.in_ok-facts.ensures ∙ ap (λ (m : FlowModel). facts c.args.said.now m []) c.known_behind.ensures in
    let end = c.in_ok-end.ensures ∙ ap (λ (ps : List Point). with_point main_function None c.in_ok-facts.facts End ps) c.requires.none in
    IfOk-weaker c.emit.result
    (λ entry. made c.emit.new.points.items entry ≡ emit main_function c.in_ok-code.code c.in_ok-end.end c.add_point.new.points.items)
    (λ entry. made c.emit.new.points.items entry ≡ points_of c.args.said.now body)
    (λ entry is. is ∙ points_made c.args.said.now body c.in_ok-code.code c.in_ok-facts.facts c.in_ok-end.end c.add_point.new.points.items c.in_ok-code.ensures known end)
    c.emit.ensures.made

pub returns-clause-few : goal.returns-clause-few
returns-clause-few c =
    let body = block c.args.at (trees_of c.args.statements.now) in
    on_ok_weaker c.emit.result
    (λ long.
    omega (arith, long, end_first c.in_ok-facts.facts c.in_ok-end.end c.args.points.now.items c.add_point.new.points.items c.requires.none c.in_ok-end.ensures, code_few c.args.said.now body c.in_ok-code.code c.in_ok-code.ensures))
    c.emit.ensures.long
