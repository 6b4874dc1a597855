use Rattle.std.proofs.Common.{sym, ap, ◌∙◌}
use Rattle.std.proofs.lemmas.Bool.{cond-true}
use Rattle.text_places.proofs.TextLemmas.{any_where_some}
use Rattle.text_places.proofs.text_places.TextPlaces.add.Goals as goal

pub returns-in-Some-clause-texts : goal.returns-in-Some-clause-texts
returns-in-Some-clause-texts c = sym (cond-true _ _ _ (any_where_some c.args.text.now c.args.self.now c.in-Some.place c.in-Some.ensures))
