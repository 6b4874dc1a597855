use Rattle.std.proofs.Common.{◌≡◌, map, option_map}
use Rattle.dart_uri.specs.Segments.{segments_of, walked, pieces_after, left_in}
use Rattle.dart_uri.proofs.segments.walk.Given as goal

abbrev pub invariant-loop-rest : goal.invariant-loop-rest
invariant-loop-rest l =
    walked (map (λ s. s.now) l.fn.path.items) (segments_of l.fn.text) ≡ walked (map (λ s. s.now) l.path.items) (pieces_after (option_map (λ rest. rest.now) l.rest))

abbrev pub decreases-loop-rest : goal.decreases-loop-rest
decreases-loop-rest l = left_in (option_map (λ rest. rest.now) l.rest)
