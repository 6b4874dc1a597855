use Rattle.std.proofs.Common.{◌≡◌, map, drop}
use Rattle.dart_tokens.specs.declared.token.Kind.TheVariants as kind
use Rattle.dart_tokens.specs.Words.{kind_beside}
use Rattle.dart_tokens.proofs.word.kind_among.Given as goal

abbrev pub invariant-loop-name : goal.invariant-loop-name
invariant-loop-name l =
    kind_beside l.word kind.Identifier (map (λ row. (row.0.now, row.1)) l.rows) ≡ kind_beside l.word kind.Identifier (map (λ row. (row.0.now, row.1)) (drop l.name-index l.rows))
