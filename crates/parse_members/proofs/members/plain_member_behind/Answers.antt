-- What was found is a member.
use Rattle.grammar.specs.Descents.{lower}
use Rattle.parse_members.specs.Parts.{member_form_of}
use Rattle.parse_members.proofs.PlainMembers.{plain_member_found}
use Rattle.parse_members.proofs.members.plain_member_behind.Goals as goal

pub returns : goal.returns
returns g c =
    plain_member_found c.args.bodies.in_core c.args.is_static c.args.bodies.without_body (lower (g.B.Below.room c.args.below.now)) c.args.start.now c.in_ok-found.rest.now c.in_ok-found.found (member_form_of c.plain_form.result) c.in_ok-found.ensures c.plain_form.ensures
