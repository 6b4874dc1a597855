use Rattle.std.proofs.Common.{refl, sym, ap, ◌∙◌, Option}
use Rattle.dart_tree.specs.Tree.{Tree, part_of, variable}
use Rattle.resolve.specs.Points.{known, surroundings}
use Rattle.resolve.proofs.Declarations.{of_declaration, of_initialization}
use Rattle.resolve.proofs.judge.statements.declare_variable.Goals as goal

pub returns-in_ok-say-in-None : goal.returns-in_ok-say-in-None
returns-in_ok-say-in-None c =
    let s = surroundings c.args.point in
    let declared = record c.args.found.now { faults = c.declare.new.faults } in
    of_declaration c.args.found.now declared c.say.new.found s c.args.ty.now c.args.variable.now c.variable.inside.at c.variable.inside.name c.declared_local.result (known c.args.point) c.in_ok-after-in-None.after.value
    (ap (λ (o : Option Tree). variable c.variable.inside.at c.variable.inside.name (part_of o)) (sym c.in-None.is) ∙ c.variable.view_is)
    c.declared_local.ensures
    refl
    c.in_ok-after-in-None.ensures
    c.in_ok-say-in-None.ensures.faults
    c.in_ok-say-in-None.ensures.nodes

pub returns-in_ok-say-in-Some : goal.returns-in_ok-say-in-Some
returns-in_ok-say-in-Some c =
    let s = surroundings c.args.point in
    let declared = record c.judge_expression.new.found { faults = c.initialize.new.faults } in
    of_initialization c.args.found.now c.judge_expression.new.found declared c.say-in-Some.new.found s c.args.ty.now c.args.variable.now c.in-Some.value c.variable.inside.at c.variable.inside.name c.declared_local.result c.in_ok-value-in-Some.value (known c.args.point) c.in_ok-after-in-Some.after.value
    (ap (λ (o : Option Tree). variable c.variable.inside.at c.variable.inside.name (part_of o)) (sym c.in-Some.is) ∙ c.variable.view_is)
    c.declared_local.ensures
    c.in_ok-value-in-Some.ensures
    refl
    c.in_ok-after-in-Some.ensures
    c.in_ok-say-in-Some.ensures.faults
    c.in_ok-say-in-Some.ensures.nodes
