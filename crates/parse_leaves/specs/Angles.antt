-- What stands between angle brackets.
use Rattle.grammar.specs.Outline.{Way, over_parameter}
use Rattle.parse_leaves.specs.declared.outline.Angles.{Angles}
use Rattle.parse_leaves.specs.declared.outline.Angles.TheVariants as angles

-- types, or the names of types with their bounds
abbrev pub inside_angles : Angles → Way → Way
inside_angles angles.Arguments type = type
inside_angles angles.Parameters type = over_parameter type
