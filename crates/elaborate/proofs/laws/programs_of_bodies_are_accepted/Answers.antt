use Rattle.std.proofs.Common.{◌+◌, ◌≤◌, ◌^◌, List, [], length, refl, sym, subst, ◌∙◌}
use Rattle.dart_tree.specs.Tree.{block}
use Rattle.dart_tree.specs.Numbers.{nodes_in}
use Rattle.flow_model.specs.Flow.{start_of}
use Rattle.judgement.specs.Surroundings.{of_body}
use Rattle.judgement.specs.Judgement.{run}
use Rattle.core_ir.specs.Program.{Program}
use Rattle.core_check.specs.Accepted.{IsAccepted}
use Rattle.core_check.specs.WellFormed.{IsWellFormed}
use Rattle.core_ir.specs.PointFacts.{PointFacts}
use Rattle.core_ir.specs.declared.points.Point.{Point}
use Rattle.core_ir.specs.declared.points.PointId.{PointId}
use Rattle.core_emit.specs.Code.{Code}
use Rattle.core_emit.specs.Emitted.{EmitsFinePoints, EmitsFormedPoints}
use Rattle.elaborate.specs.Elaborated.{main_function, sources_of}
use Rattle.elaborate.proofs.Given.{Laws, around}
use Rattle.elaborate.proofs.Accepted.{accepted, elaborated_is, setting_of, well_formed}
use Rattle.elaborate.proofs.SaidNodes.{all_said}
use Rattle.elaborate.proofs.laws.programs_of_bodies_are_accepted.Goals as goal

pub returns : goal.returns
returns c = record {
  accepted = λ words outside at statements built none numbers given.
      let rows = c.args._rows.now in
      let body = block at statements in
      let is = given ∙ elaborated_is rows words outside body in
      let x = sources_of rows words outside body in
      let setting = setting_of rows x outside body in
      let s = of_body rows.table words outside in
      let typed = (run s body (start_of [])).nodes in
      let out = c.core_row_laws.ensures.nothing_out in
      let laws : Laws setting = record {
        types = c.row_laws.ensures;
        out = out;
        put_tells = c.put_tells.ensures;
        changed = c.a_step_changes_one_local.ensures.own;
        unchanged = c.a_step_changes_one_local.ensures.others;
        declared = c.declare_adds_one_local.ensures.own;
        undeclared = c.declare_adds_one_local.ensures.others;
        written = c.writes_tell.ensures.types;
        reflexive = c.models_are_ordered.ensures.reflexive;
        first_joins = c.both_ends_imply_their_join.ensures.first;
        second_joins = c.both_ends_imply_their_join.ensures.second;
        ends = c.steps_say_more_or_less.ensures.end;
        assigned = c.steps_keep_the_scope.ensures.assign;
        values = λ names tree. c.rules_step.ensures.values out (around setting names) tree refl;
        conditions = λ names tree. c.rules_step.ensures.conditions out (around setting names) tree refl;
        statements = λ names tree. c.rules_step.ensures.statements out (around setting names) tree refl;
        blocks = λ names tree. c.rules_step.ensures.blocks out (around setting names) tree refl;
        branches = λ names part. c.rules_step.ensures.branches out (around setting names) part refl;
        loops = λ names at condition body. c.rules_step.ensures.loops out (around setting names) at condition body refl;
        hides_block = λ names trees hides built. c.scopes_hide_nothing.ensures.statements (around setting names) trees built hides;
        hides_branch = λ names tree hides built. c.scopes_hide_nothing.ensures.block (around setting names) tree built hides;
        jumps = λ names tree m. c.no_form_jumps.ensures.statement (around setting names) tree m;
      } in
      let once = c.each_node_is_spoken_of_once.ensures s body at.node.0 (start_of []) numbers in
      let said = all_said setting (at.node.0 + nodes_in body) refl once (c.what_is_said_is_found_by_number.ensures typed at.node.0 (at.node.0 + nodes_in body) once) in
      let fine = subst (λ (p : Program). (code : Code) (after : PointFacts) (next : PointId) (points : List Point) → EmitsFinePoints p setting.g main_function code after next points) is
      (λ code after next points. c.points_of_code_are_fine.ensures setting.g main_function code after next points) in
      let formed = subst (λ (p : Program). (code : Code) (next : PointId) (points : List Point) → EmitsFormedPoints p setting.g main_function code next points) is
      (λ code next points. c.points_of_code_are_well_formed.ensures setting.g main_function code next points) in
      let hides = c.scopes_hide_nothing.ensures.start rows.table words outside in
      let few = subst (λ (p : Program). length p.points ≤ 2 ^ 32) is c.requires.few in
      let int_apart = c.core_row_laws.ensures.integers_apart in
      let bool_apart = c.core_row_laws.ensures.truths_apart in (
        subst IsAccepted (sym is) (accepted rows x outside at statements laws hides built none said fine formed few int_apart bool_apart),
        subst IsWellFormed (sym is) (well_formed rows x outside at statements laws hides built none said fine formed few int_apart bool_apart),
      );
}
