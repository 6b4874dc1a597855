use Rattle.std.proofs.Common.{rules}
use Rattle.dart_uri.specs.References.{located}
use Rattle.dart_uri.proofs.reference.located.Goals as goal

pub returns-then-has_more_parts : goal.returns-then-has_more_parts
unfolding located
returns-then-has_more_parts c = search rules

pub returns-in-Some : goal.returns-in-Some
unfolding located
returns-in-Some c = search rules

pub returns-then-has_scheme : goal.returns-then-has_scheme
unfolding located
returns-then-has_scheme c = search rules

pub returns-in-Some-after_front : goal.returns-in-Some-after_front
unfolding located
returns-in-Some-after_front c = search rules

pub returns : goal.returns
unfolding located
returns c = search rules
