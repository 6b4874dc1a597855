use Rattle.std.proofs.Common.{◌≡◌, ◌++◌, map, take}
use Rattle.dart_tokens.specs.Read.{without_group}
use Rattle.dart_tokens.proofs.tokens.add_read.Given as goal

abbrev pub invariant-loop-token : goal.invariant-loop-token
invariant-loop-token l = l.all.items ≡ l.initial.all.items ++ map without_group (take l.token-index l.read)
