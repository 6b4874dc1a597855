-- The surroundings of a point, from what the judge holds.
use Rattle.judgement.specs.Surroundings.{Names, Surroundings}
use Rattle.resolve.specs.declared.judge.Context.{Context}

-- the classes, the lexemes of words and their meanings outside of the body, and the locals in scope
abbrev pub around : Context → Names → Surroundings
around context names = record { table = context.rows.now.table; words = context.words.now; outside = context.outside.now; names = names }
