-- What the parser holds of a member before it is made.
use Rattle.grammar.specs.Declarations.{Signature, getting, setting_of, plain, Member, constructed, made_by_factory, method, fields, operated_by}
use Rattle.parse_members.specs.declared.parts.Signature.{Signature as ReadSignature}
use Rattle.parse_members.specs.declared.parts.Signature.TheVariants as read_signature
use Rattle.parse_members.specs.declared.parts.MemberForm.{MemberForm}
use Rattle.parse_members.specs.declared.parts.MemberForm.TheVariants as read_member

abbrev pub signature_of : ReadSignature → Signature
signature_of (read_signature.Getter name body) = getting name body
signature_of (read_signature.Setter name parameters body) = setting_of name parameters body
signature_of (read_signature.Plain name type_parameters parameters body) = plain name type_parameters.items parameters body

abbrev pub member_form_of : MemberForm → Member
member_form_of (read_member.Constructor name parameters initializers body) = constructed name parameters initializers.items body
member_form_of (read_member.Factory name parameters body) = made_by_factory name parameters body
member_form_of (read_member.Method is_static function) = method is_static function
member_form_of (read_member.Fields is_static variables) = fields is_static variables
member_form_of (read_member.Operator result name parameters body) = operated_by result name parameters body
