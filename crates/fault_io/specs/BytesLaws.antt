-- Laws of the definitions on bytes that are told.
use Rattle.std.specs.Prelude.{◌≡◌, ℕ, ◌+◌, List, [], ◌++◌, Option, None, Some, refl}
use Rattle.std.proofs.Common.{ap, append_assoc}
use Rattle.std.proofs.lemmas.List.{append-nil, drop-drop}
use Rattle.fault_io.specs.Bytes.{and_then, without_first}

-- nothing more
pub and_then-nil : (told : Option (List ℕ)) → and_then told [] ≡ told
and_then-nil None = refl
and_then-nil (Some xs) = ap (λ ys. Some ys) (append-nil xs)

-- more, and more again
pub and_then-and_then : (told : Option (List ℕ)) (a b : List ℕ) → and_then (and_then told a) b ≡ and_then told (a ++ b)
and_then-and_then None a b = refl
and_then-and_then (Some xs) a b = ap (λ ys. Some ys) (append_assoc xs a b)

-- first n lost, then m
pub without_first-without_first : (m n : ℕ) (told : Option (List ℕ)) → without_first m (without_first n told) ≡ without_first (n + m) told
without_first-without_first m n None = refl
without_first-without_first m n (Some xs) = ap (λ ys. Some ys) (drop-drop m n xs)
