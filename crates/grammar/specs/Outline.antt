-- Types by their tokens, whatever stands in the groups in them: so it is told where a `<` opens type arguments, and no text is read for it.
use Rattle.std.specs.Prelude.{ℕ, zero, suc, Bool, List, [], ◌∷◌, Option, Some, None, drop, length, if◌then◌else◌}
use Rattle.dart_tokens.specs.declared.token.Kind.TheVariants as kind
use Rattle.dart_tokens.specs.declared.grouped_token.GroupedToken.{GroupedToken as Token}
use Rattle.grammar.specs.Tokens.{is, is_name, is_type_name, heads, past}
use Rattle.grammar.specs.Types.{heads_qualified}

-- a way over tokens: what comes behind those that it goes over, if it can
abbrev pub Way : Type 0
Way = List Token → Option (List Token)

abbrev pub onward : Option (List Token) → Way → Option (List Token)
onward None w = None
onward (Some ts) w = w ts

infixr 6 ◌⨾◌
-- one way after the other
abbrev pub ◌⨾◌ : Way → Way → Way
(v ⨾ w) ts = onward (v ts) w

abbrev pub way_or : Option (List Token) → Option (List Token) → Option (List Token)
way_or None other = other
way_or (Some us) other = Some us

-- one way, or else another
abbrev pub either_way : Way → Way → Way
either_way v w ts = way_or (v ts) (w ts)

abbrev pub behind_or : Option (List Token) → List Token → List Token
behind_or None ts = ts
behind_or (Some us) ts = us

-- a way where it can be gone
abbrev pub perhaps : Way → Way
perhaps w ts = Some (behind_or (w ts) ts)

abbrev pub go_on : (List Token → List Token) → Option (List Token) → List Token → List Token
go_on f None ts = ts
go_on f (Some us) ts = f us

-- a way as often as it can be gone, and at most n times
abbrev pub repeated : ℕ → Way → List Token → List Token
repeated zero w ts = ts
repeated (suc n) w ts = go_on (repeated n w) (w ts) ts

-- a way as often as it can be gone
abbrev pub some_more : Way → Way
some_more w ts = Some (repeated (length ts) w ts)

-- over a token
abbrev pub over : (Token → Bool) → Way
over f [] = None
over f (t ∷ ts) = if f t then Some ts else None

-- over parentheses, whatever stands in them
abbrev pub over_group : Way
over_group [] = None
over_group (t ∷ ts) = if is kind.OpenParenthesis t then Some (drop (past t) ts) else None

-- (identifier '.')? identifier
abbrev pub over_name : Way
over_name ts = if heads_qualified ts then (over is_name ⨾ over (is kind.Period) ⨾ over is_type_name) ts else over is_type_name ts

-- '<', one or more with commas between them, '>'
abbrev pub over_angles : Way → Way
over_angles w = over (is kind.Less) ⨾ w ⨾ some_more (over (is kind.Comma) ⨾ w) ⨾ over (is kind.Greater)

-- identifier ('extends' type)?
abbrev pub over_parameter : Way → Way
over_parameter type = over is_type_name ⨾ perhaps (over (is kind.Extends) ⨾ type)

-- 'Function' type-parameters? '(' .. ')' '?'?
abbrev pub over_tail : Way → Way
over_tail type = over (is kind.Function) ⨾ perhaps (over_angles (over_parameter type)) ⨾ over_group ⨾ perhaps (over (is kind.Question))

-- 'void' | name type-arguments? '?'?
abbrev pub over_plain : Way → Way
over_plain type ts =
    if heads kind.Void ts then over (is kind.Void) ts else (over_name ⨾ perhaps (over_angles type) ⨾ perhaps (over (is kind.Question))) ts

-- the tail of a function type or a plain type, and tails behind it, where at most n types stand in one another
unfoldable pub over_type : ℕ → Way
over_type zero ts = None
over_type (suc n) ts = (either_way (over_tail (over_type n)) (over_plain (over_type n)) ⨾ some_more (over_tail (over_type n))) ts

-- what comes behind type arguments, at most 200 in one another
unfoldable pub behind_arguments : Way
behind_arguments ts = over_angles (over_type 200) ts
