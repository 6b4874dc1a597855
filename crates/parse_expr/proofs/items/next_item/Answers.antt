-- Behind an error it is still known what stands behind operands.
use Rattle.std.proofs.Common.{Option, sym, subst}
use Rattle.parse_operators.specs.Ends.{Places}
use Rattle.parse_expr.specs.Attempts.{Serves}
use Rattle.parse_expr.proofs.Attempts.{serves_on}
use Rattle.parse_expr.proofs.items.next_item.Goals as goal

pub returns-then-branch-clause-served : goal.returns-then-branch-clause-served
returns-then-branch-clause-served c =
    let served : Serves c.is_known_error.new.known c.args.room c.args.tokens.now = subst (λ (k : Option Places). Serves k c.args.room c.args.tokens.now) (sym c.in_ok-is_known_error.ensures.kept) c.requires.served in
    serves_on c.is_known_error.new.known c.args.room c.args.tokens.now c.in_ok-error.rest.now served c.in_ok-error.ensures.rest

pub returns-in_ok-error-in-Err-NoReading-clause-served : goal.returns-in_ok-error-in-Err-NoReading-clause-served
returns-in_ok-error-in-Err-NoReading-clause-served c =
    serves_on c.keep_from.new.known c.args.room c.args.tokens.now c.in_ok-error-in-Err-NoReading.rest.now c.keep_from.ensures c.in_ok-error-in-Err-NoReading.ensures.rest
