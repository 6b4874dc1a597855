use Rattle.std.proofs.Common.{◌∙◌, ap}
use Rattle.clap.specs.Simple.{matches_of}
use Rattle.clap.specs.Words.{App, found_of, takes}
use Rattle.command_words.specs.Parsers.{texts_in}
use Rattle.command_words.proofs.StepLemmas.{ToRun}
use Rattle.command_words.proofs.ReadLemmas.{all_found, taken}
use Rattle.command_words.proofs.parsers.run_matches.Goals as goal

pub matches_in-requires : goal.matches_in-requires
matches_in-requires c = ap (λ (app : App). takes app (texts_in c.args.words.now)) c.in_ok-parser.ensures ∙ taken ToRun (texts_in c.args.words.now) c.requires

pub returns-in-Ok : goal.returns-in-Ok
returns-in-Ok c = all_found ToRun (texts_in c.args.words.now) (found_of c.in-Ok.found) (c.in-Ok.ensures.ok ∙ ap (λ (app : App). matches_of app (texts_in c.args.words.now)) c.in_ok-parser.ensures)
