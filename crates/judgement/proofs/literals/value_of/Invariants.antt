use Rattle.std.proofs.Common.{◌≡◌, ◌<◌, ◌^◌, drop}
use Rattle.judgement.specs.Literals.{number_behind}
use Rattle.judgement.proofs.literals.value_of.Given as goal

abbrev pub invariant-loop-digit : goal.invariant-loop-digit
invariant-loop-digit l = record {
  fits : l.number < 2 ^ 64;
  reached : number_behind l.base 0 l.digits ≡ number_behind l.base l.number (drop l.digit-index l.digits);
}
