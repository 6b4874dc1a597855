-- Names as texts.
use Rattle.std.specs.Prelude.{ℕ, Bool, ◌++◌, ◌||◌, List, codes, bytes_eq, nat_eq}
use Rattle.std.specs.List.{starts_with}

-- the name of the setter that goes with a name
abbrev pub setter_of : List ℕ → List ℕ
setter_of name = name ++ codes "="

-- whether the second text is the name of the setter that goes with the first
abbrev pub is_setter_of : List ℕ → List ℕ → Bool
is_setter_of name setter = bytes_eq (setter_of name) setter

-- a name is its library's own where it begins with `_`
abbrev pub is_private : List ℕ → Bool
is_private name = starts_with nat_eq name (codes "_")

-- a written name means itself and the setter that goes with it
abbrev pub means : List ℕ → List ℕ → Bool
means written name = bytes_eq written name || is_setter_of written name
