use Rattle.std.proofs.Common.{◌≡◌, ◌∷◌, arith}
use Rattle.std.proofs.lemmas.Grind.{common_steps}
use Rattle.std.proofs.lemmas.Map.Iter.{rest_more}
use Rattle.std.specs.Map.Iter.{deref_pair}
use Rattle.proto_json.proofs.parameters.read_files.Goals as goal

pub loop-path-preserved : goal.loop-path-preserved
loop-path-preserved c =
    let e : c.loop-path.path-iterator ≡ (c.in-Some.path.now, c.in-Some.value.now) ∷ c.next.new.self = rest_more deref_pair _ _ _ (c.in-Some.path, c.in-Some.value) c.in-Some.is c.next.ensures.steps in
    grind (arith, common_steps, e)
