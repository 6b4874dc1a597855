-- Where a type stands, as far as that decides what belongs to it.
use Rattle.readings.specs.Readings.{Test}
use Rattle.dart_tokens.specs.declared.token.Kind.TheVariants as kind
use Rattle.dart_tokens.specs.declared.grouped_token.GroupedToken.{GroupedToken as Token}
use Rattle.grammar.specs.Tokens.{heads, anything}
use Rattle.grammar.specs.Types.{heads_field}
use Rattle.grammar.specs.Expressions.{heads_nullable}
use Rattle.parse_leaves.specs.declared.type_leaves.TypePlace.{TypePlace}
use Rattle.parse_leaves.specs.declared.type_leaves.TypePlace.TheVariants as place

-- before which tokens a `?` belongs to the type
abbrev pub question_of : TypePlace → Test Token
question_of place.Anywhere = heads kind.Question
question_of (place.Tested m) = heads_nullable m
question_of place.Named = heads kind.Question

-- before which tokens the tail of a function type is read
abbrev pub ends_of : TypePlace → Test Token
ends_of place.Anywhere = anything
ends_of (place.Tested m) = anything
ends_of place.Named = heads_field
