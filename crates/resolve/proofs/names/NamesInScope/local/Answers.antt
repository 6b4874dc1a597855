use Rattle.std.proofs.Common.{◌∙◌, ap}
use Rattle.std.specs.FinMap.{get}
use Rattle.resolve.proofs.Meanings.{lookup-get}
use Rattle.resolve.proofs.names.NamesInScope.local.Goals as goal

pub returns : goal.returns
returns c =
    c.copied.ensures
    ∙ c.get.ensures.value
    ∙ lookup-get c.args.word c.self.inside.locals.entries
    ∙ ap (λ names. get names c.args.word) c.self.view_is
