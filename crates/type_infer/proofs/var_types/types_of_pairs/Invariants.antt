use Rattle.std.proofs.Common.{◌≡◌, map}
use Rattle.type_infer.proofs.var_types.types_of_pairs.Given as goal

abbrev pub invariant-loop-pair : goal.invariant-loop-pair
invariant-loop-pair l = l.types ≡ map (λ p. p.1) l.yielded
