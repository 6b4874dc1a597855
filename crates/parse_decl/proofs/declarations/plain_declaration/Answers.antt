-- What was found is a declaration.
use Rattle.grammar.specs.Descents.{lower}
use Rattle.parse_decl.specs.Parts.{declaration_form_of}
use Rattle.parse_decl.proofs.PlainDeclarations.{plain_declaration_found}
use Rattle.parse_decl.proofs.declarations.plain_declaration.Goals as goal

pub returns : goal.returns
returns g c =
    plain_declaration_found c.args.in_core (lower (g.B.Below.room c.args.below.now)) c.args.tokens.now c.in_ok-found.rest.now c.in_ok-found.found (declaration_form_of c.plain_form.result) c.in_ok-found.ensures c.plain_form.ensures
