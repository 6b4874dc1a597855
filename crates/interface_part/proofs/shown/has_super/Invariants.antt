use Rattle.std.proofs.Common.{◌≡◌, drop}
use Rattle.std.specs.List.{list_any}
use Rattle.dart_tokens.specs.declared.token.Kind.TheVariants as kind
use Rattle.interface_part.specs.Interface.{is}
use Rattle.interface_part.proofs.shown.has_super.Given as goal

abbrev pub invariant-loop-token : goal.invariant-loop-token
invariant-loop-token l = list_any (is kind.Super) l.tokens ≡ list_any (is kind.Super) (drop l.token-index l.tokens)
