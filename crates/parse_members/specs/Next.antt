-- What comes next: the name of a variable, or the parameters of a constructor.
use Rattle.std.specs.Prelude.{Bool, ◌||◌}
use Rattle.readings.specs.Readings.{Test, next}
use Rattle.dart_tokens.specs.declared.token.Kind.TheVariants as kind
use Rattle.dart_tokens.specs.declared.grouped_token.GroupedToken.{GroupedToken as Token}
use Rattle.grammar.specs.Tokens.{is, is_name, first_then, group_then}

-- behind a name: variables go on with this token, or end before it
abbrev pub goes_on_variable : Token → Bool
goes_on_variable t = is kind.Equals t || is kind.Comma t || is kind.Semicolon t

-- the name of a variable comes next, by the token behind it
abbrev pub heads_variable : Test Token
heads_variable = first_then is_name (next goes_on_variable)

-- behind its parameters a constructor goes on with this token
abbrev pub goes_on_constructor : Token → Bool
goes_on_constructor t = is kind.Colon t || is kind.OpenBrace t || is kind.Semicolon t

-- behind its name a constructor goes on with these tokens
abbrev pub heads_constructor : Test Token
heads_constructor = group_then (is kind.OpenParenthesis) (next goes_on_constructor)
