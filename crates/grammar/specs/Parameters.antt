-- Parameters by their tokens, whatever stands in the groups in them: so the parentheses of a closure are told from others, and no text is read for it. What may be parameters counts as parameters, also where it may be an expression.
use Rattle.std.specs.Prelude.{Bool, true, false, if◌then◌else◌, not, ◌&&◌, ◌||◌, [], ◌∷◌, take, drop, Some, None}
use Rattle.std.specs.Option.{option_map_or}
use Rattle.readings.specs.Readings.{Test, next}
use Rattle.dart_tokens.specs.declared.token.Kind.TheVariants as kind
use Rattle.dart_tokens.specs.declared.grouped_token.GroupedToken.{GroupedToken as Token}
use Rattle.grammar.specs.Tokens.{is, is_either, is_name, heads, first_then, group_then, width, past}
use Rattle.grammar.specs.Types.{heads_required}
use Rattle.grammar.specs.Outline.{Way, ◌⨾◌, either_way, perhaps, some_more, over, over_type, behind_arguments}

-- nothing comes next
abbrev pub at_end : Test Token
at_end [] = true
at_end (t ∷ ts) = false

-- the next token opens a group of the kind, and what stands in it passes
abbrev pub group_holds : (Token → Bool) → Test Token → Test Token
group_holds f c [] = false
group_holds f c (t ∷ ts) = f t && c (take (width t) ts)

-- over a token or a whole group, but over neither a `,` nor a sign of a conditional
abbrev pub over_piece : Way
over_piece [] = None
over_piece (t ∷ ts) = if is kind.Comma t || is_either kind.Question kind.Colon t then None else Some (drop (past t) ts)

-- over a value, up to a `,` or the first sign of a conditional outside brackets
abbrev pub over_value : Way
over_value = some_more (either_way behind_arguments over_piece)

-- ('this' '.')? identifier
abbrev pub over_field : Way
over_field = perhaps (over (is kind.This) ⨾ over (is kind.Period)) ⨾ over is_name

-- type? ('this' '.')? identifier
abbrev pub over_declared : Way
over_declared = either_way (over_type 200 ⨾ over_field) over_field

-- ('this' '.')? identifier ('=' value)? ','
abbrev pub over_untyped : Way
over_untyped = over_field ⨾ perhaps (over (is kind.Equals) ⨾ over_value) ⨾ over (is kind.Comma)

-- a parameter begins with this token, and no expression does
abbrev pub begins_parameter : Token → Bool
begins_parameter t = is_either kind.At kind.Final t || is_either kind.Var kind.Void t

-- what may stand behind a parameter's name: nothing, a `,`, named parameters, or a default value, behind which no `:` stands as it would if a `?` before the name were a conditional's
abbrev pub heads_name_end : Test Token
heads_name_end ts = at_end ts || next (is_either kind.Comma kind.OpenBrace) ts || first_then (is kind.Equals) (λ us. option_map_or (λ vs. not (heads kind.Colon vs)) (over_value us) false) ts

-- a parameter comes next whose name stands before what passes
abbrev pub heads_parameter : (behind : Test Token) → Test Token
heads_parameter behind ts = next begins_parameter ts || heads_required ts || option_map_or behind (over_declared ts) false

-- optional parameters fill brackets: some without a type, and then nothing or another one
abbrev pub fills_brackets : Test Token
fills_brackets ts = option_map_or (λ us. at_end us || heads_parameter heads_name_end us) (some_more over_untyped ts) false

-- optional parameters come next, and nothing behind them
abbrev pub heads_optional : Test Token
heads_optional ts = group_holds (is_either kind.OpenBracket kind.OpenBrace) fills_brackets ts && group_then (is_either kind.OpenBracket kind.OpenBrace) at_end ts

-- parameters fill parentheses
unfoldable pub fills_parentheses : Test Token
fills_parentheses ts = at_end ts || heads_optional ts || heads_parameter (λ us. heads_name_end us || heads_optional us) ts
