use Rattle.std.proofs.Common.{arith}
use Rattle.dart_scan.proofs.CuttingLemmas.{begins-before}
use Rattle.dart_scan.proofs.CuttingViews.{on-ok, string-quotes, string-expression, string-name, string-never}
use Rattle.dart_scan.proofs.cut.cutting.Cutting.string.Goals as goal

pub abandon-requires-clause-start : goal.abandon-requires-clause-start
abandon-requires-clause-start c = omega (arith, begins-before c.args.self.now c.args.string c.args.begun c.requires.sound c.requires.string)

pub returns-in-Quotes : goal.returns-in-Quotes
returns-in-Quotes c =
    on-ok c.close.result c.close.ensures
    (λ made. string-quotes c.args.self.now c.close.new.self c.args.string c.args.begun c.plain_size.result c.rest-rest.result.now c.rest-rest.ensures.rest c.requires.sound c.requires.string c.plain_size.ensures.size c.in-Quotes.ensures made)

pub returns-in-Expression : goal.returns-in-Expression
returns-in-Expression c =
    on-ok c.interpolate.result c.interpolate.ensures
    (λ made. string-expression c.args.self.now c.interpolate.new.self c.args.string c.args.begun c.plain_size.result c.rest-rest.result.now c.rest-rest.ensures.rest c.requires.sound c.requires.string c.plain_size.ensures.size c.in-Expression.ensures made)

pub returns-in-Name : goal.returns-in-Name
returns-in-Name c =
    on-ok c.name.result c.name.ensures
    (λ made. string-name c.args.self.now c.name.new.self c.args.string c.args.begun c.plain_size.result c.in-Name.name c.rest-rest.result.now c.rest-rest.ensures.rest c.requires.sound c.requires.string c.plain_size.ensures.size c.in-Name.ensures made)

pub returns-in-Never : goal.returns-in-Never
returns-in-Never c =
    on-ok c.abandon.result c.abandon.ensures
    (λ made. string-never c.args.self.now c.abandon.new.self c.args.string c.args.begun c.plain_size.result c.rest-rest.result.now c.rest-rest.ensures.rest c.requires.sound c.requires.string c.plain_size.ensures.size c.in-Never.ensures made)
