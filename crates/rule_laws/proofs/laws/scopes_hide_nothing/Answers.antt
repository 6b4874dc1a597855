use Rattle.built_forms.specs.Forms.{is_error, is_statement}
use Rattle.rule_laws.proofs.ScopeNames.{nothing_hidden, or_statement, block_is_statement, statement_hides_nothing, statements_hide_nothing}
use Rattle.rule_laws.proofs.laws.scopes_hide_nothing.Goals as goal

pub returns : goal.returns
returns c = record {
  start = λ table words outside. nothing_hidden table words outside;
  statement = λ s tree h. statement_hides_nothing s tree (or_statement (is_error tree) (is_statement s.outside tree) h);
  block = λ s tree h. statement_hides_nothing s tree (or_statement (is_error tree) (is_statement s.outside tree) (block_is_statement s.outside tree h));
  statements = λ s trees h. statements_hide_nothing s trees h;
}
