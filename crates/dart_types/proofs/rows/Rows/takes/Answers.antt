use Rattle.dart_types.proofs.Steps.{granted, through}
use Rattle.dart_types.proofs.rows.Rows.takes.Goals as goal

-- all tests were passed, and the last decides
pub returns : goal.returns
returns c =
    through (λ vars. record {
      classes_in_order = granted c.are_classes_in_order.ensures c.if-not-are_classes_in_order.false;
      vars_in_order = granted c.are_vars_in_order.ensures c.if-not-are_vars_in_order.false;
      classes_apart = granted c.are_classes_apart.ensures c.if-not-are_classes_apart.false;
      vars_apart = granted c.are_vars_apart.ensures c.if-not-are_vars_apart.false;
      classes = granted c.are_formed_classes.ensures c.if-not-are_formed_classes.false;
      vars = vars;
    }) (λ f. f.vars) c.are_formed_vars.ensures
