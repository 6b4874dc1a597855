-- The hashes of texts, and the slots that they name.
use Rattle.std.specs.Prelude.{ℕ, ◌-◌, ◌/◌, ◌^◌, List, bit_and}
use Rattle.std.specs.Hash.FoldHasher as folding

-- the hash of a text
unfoldable pub hash_of : List ℕ → ℕ
hash_of text = folding.finish (folding.write folding.initial text)

-- the half of a hash that its slots keep
abbrev pub tag_of : (hash : ℕ) → ℕ
tag_of hash = hash / 2 ^ 32

-- the first of the slots that a hash names, under a mask
abbrev pub first_of : (hash mask : ℕ) → ℕ
first_of hash mask = bit_and (bit_and hash (2 ^ 32 - 1)) mask
