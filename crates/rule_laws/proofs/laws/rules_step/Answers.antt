use Rattle.std.proofs.Common.{◌≡◌, sym, subst}
use Rattle.dart_types.specs.Superinterfaces.{LeavesNothingOut}
use Rattle.dart_types.specs.Tables.{Table}
use Rattle.judgement.specs.DeclaredNames.{names_declared, within}
use Rattle.judgement.specs.Surroundings.{Surroundings}
use Rattle.built_forms.specs.Forms.{is_error, is_statement}
use Rattle.rule_laws.proofs.ScopeNames.{or_statement}
use Rattle.rule_laws.proofs.StepLaws.{StepLaws}
use Rattle.rule_laws.proofs.StepExpressions.{condition_steps, value_steps}
use Rattle.rule_laws.proofs.StepStatements.{branch_runs, closed, loop_turns, statement_runs, statements_run}
use Rattle.rule_laws.proofs.laws.rules_step.Goals as goal

-- the laws over the rows of the surroundings
laws_there : (table : Table) (s : Surroundings) → s.table ≡ table → StepLaws table → StepLaws s.table
laws_there table s same laws = subst StepLaws (sym same) laws

pub returns : goal.returns
returns c =
    let table = c.args._rows.now.table in
    let of_table : LeavesNothingOut table → StepLaws table = λ nothing. record {
      scopes = record {
        at_end = c.steps_keep_the_scope.ensures.end;
        at_test = c.steps_keep_the_scope.ensures.non_null;
        at_write = c.steps_keep_the_scope.ensures.assign;
        at_loop = c.steps_keep_the_scope.ensures.conservative_join;
        at_join = c.steps_keep_the_scope.ensures.join;
        undone = c.end_undoes_declare.ensures;
      };
      chains = record {
        at_declaration = c.chains_descend.ensures.declare;
        at_end = c.chains_descend.ensures.end;
        at_test = c.chains_descend.ensures.non_null;
        at_write = c.chains_descend.ensures.assign nothing;
        at_loop = c.chains_descend.ensures.conservative_join;
        at_join = c.chains_descend.ensures.join nothing;
      };
      order = record {
        reflexive = c.models_are_ordered.ensures.reflexive;
        transitive = c.models_are_ordered.ensures.transitive;
        at_end = c.steps_keep_the_order.ensures.end;
        at_loop = c.steps_keep_the_order.ensures.conservative_join;
        at_join = c.both_ends_imply_their_join.ensures.most;
        at_test = c.steps_say_more_or_less.ensures.non_null;
        at_write = c.steps_say_more_or_less.ensures.assign;
        at_code = c.steps_say_more_or_less.ensures.conservative_join;
        at_exit = c.steps_say_more_or_less.ensures.exit;
        added = c.conservative_joins_add_up.ensures;
      };
      same = c.row_laws.ensures.types.equal_from_same_type;
    } in
    let there = λ (nothing : LeavesNothingOut table) (s : Surroundings) (same : s.table ≡ table). laws_there table s same (of_table nothing) in
    record {
      values = λ nothing s tree same wanted m h none plain. value_steps s (there nothing s same) tree wanted m plain;
      conditions = λ nothing s tree same m h none plain. condition_steps s (there nothing s same) tree m plain;
      statements = λ nothing s tree same m free h none plain. statement_runs s (there nothing s same) tree m free (or_statement (is_error tree) (is_statement s.outside tree) h) none plain;
      lists = λ nothing s trees same m free h none plain. statements_run s (there nothing s same) trees m free h none plain;
      blocks = λ nothing s tree same m free h none plain.
          closed s (there nothing s same) tree (statement_runs (within s (names_declared tree)) (there nothing s same) tree) m free h none plain;
      branches = λ nothing s part same m free h none plain. branch_runs s (there nothing s same) part m free h none plain;
      loops = λ nothing s at condition body same m free h none plain. loop_turns s (there nothing s same) at condition body m free h none plain;
    }
