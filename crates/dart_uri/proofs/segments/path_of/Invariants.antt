use Rattle.std.proofs.Common.{◌≡◌, ◌∷◌, map, take, string_bytes}
use Rattle.std.specs.List.{concat}
use Rattle.fault_io.specs.Paths.{slash}
use Rattle.dart_uri.proofs.segments.path_of.Given as goal

abbrev pub invariant-loop-segment : goal.invariant-loop-segment
invariant-loop-segment l = string_bytes l.path ≡ concat (map (λ segment. slash ∷ segment) (map (λ s. s.now) (take l.segment-index l.segments)))
