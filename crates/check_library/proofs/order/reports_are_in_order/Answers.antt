use Rattle.check_library.proofs.Reports.{found, reported, rising}
use Rattle.check_library.proofs.order.reports_are_in_order.Goals as goal

pub returns-clause-rising : goal.returns-clause-rising
returns-clause-rising c = rising c.args._faults.now

pub returns-clause-same : goal.returns-clause-same
returns-clause-same c fault = (found c.args._faults.now fault, reported c.args._faults.now fault)
