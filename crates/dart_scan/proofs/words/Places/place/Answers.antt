use Rattle.std.proofs.Common.{◌≡◌, ◌≤◌, arith, length, bytes_eq, ap}
use Rattle.std.specs.List.{position_or_len}
use Rattle.std.proofs.lemmas.List.Sums.{prefix_len-le-length}
use Rattle.std.proofs.lemmas.Result.{IfOk-weaker, on_ok_weaker}
use Rattle.dart_scan.specs.Scanned.{with_word}
use Rattle.dart_scan.proofs.WordLemmas.{few_with_word}
use Rattle.dart_scan.proofs.words.Places.place.Goals as goal

pub returns-clause-few : goal.returns-clause-few
returns-clause-few c =
    let few = few_with_word c.self.inside.texts c.args.word.now in
    let old : length c.self.inside.texts ≡ length c.args.self.now = ap length c.self.view_is in
    on_ok_weaker c.add.result (λ is. let size : length c.add.new.self ≡ length (with_word c.self.inside.texts c.args.word.now) = ap length is in omega (arith, few, size, old)) c.add.ensures.texts

pub returns-clause-within : goal.returns-clause-within
returns-clause-within c =
    let most : position_or_len (bytes_eq c.args.word.now) c.self.inside.texts ≤ length c.self.inside.texts = prefix_len-le-length _ c.self.inside.texts in
    let old : length c.self.inside.texts ≡ length c.args.self.now = ap length c.self.view_is in
    IfOk-weaker c.add.result _ _ (λ place is. omega (arith, is, most, old)) c.add.ensures.place
