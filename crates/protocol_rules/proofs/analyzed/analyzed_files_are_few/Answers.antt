use Rattle.protocol_rules.proofs.CountLemmas.{analyzed_are_counted, analyzed_are_few}
use Rattle.protocol_rules.proofs.analyzed.analyzed_files_are_few.Goals as goal

pub returns-clause-parts : goal.returns-clause-parts
returns-clause-parts c = analyzed_are_counted c.args.contents.now

pub returns-clause-few : goal.returns-clause-few
returns-clause-few c = analyzed_are_few c.args.contents.now c.are_within_limits.ensures.within c.are_within_limits.ensures.order
