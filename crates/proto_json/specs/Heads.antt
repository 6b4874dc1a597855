-- The parts of a request as the program holds them.
use Rattle.std.specs.Prelude.{option_map}
use Rattle.serde_json.specs.View.{view}
use Rattle.proto_json.specs.Requests.{Head}
use Rattle.proto_json.specs.declared.request.Head as lent

-- the parts that are lent, with the parameters as data
abbrev pub head_view : lent.Head → Head
head_view h = record { id = h.id.now; method = h.method.now; params = option_map (λ p. view p.now) h.params }
