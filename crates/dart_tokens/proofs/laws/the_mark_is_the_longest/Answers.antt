use Rattle.std.proofs.Common.{refl}
use Rattle.dart_tokens.specs.Marks.{marks}
use Rattle.dart_tokens.specs.MarkLemmas.{found_among, first_longest}
use Rattle.dart_tokens.proofs.laws.the_mark_is_the_longest.Goals as goal

pub returns : goal.returns
returns c = record { among = found_among marks c.args._text.now; longest = first_longest 3 marks c.args._text.now refl }
