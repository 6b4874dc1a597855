-- Types in which `X & U` is read as X, in lists.
use Rattle.std.proofs.Common.{◌≡◌, ℕ, zero, suc, ◌+◌, ◌<◌, List, [], ◌∷◌, ◌++◌, map, take, length, get_or, refl, sym, ◌∙◌, ap, subst, arith, add-one}
use Rattle.std.specs.Prelude.{All}
use Rattle.std.proofs.lemmas.List.{length-map, get_or-map, get_or-take, length-take, get_or_default}
use Rattle.dart_types.specs.Ty.{Ty, more, more_named, height_of, heights_of, heights_of_named, types_of}
use Rattle.dart_types.specs.Named.{named_of, names_of, IsNameBefore, AreInOrder}
use Rattle.dart_types.specs.declared.types.NamedType.{NamedType}
use Rattle.type_infer.specs.Promotions.{unpromoted, unpromoted_all, unpromoted_named}

-- a type of a list is less high than the list
pub height_below : (ts : List Ty) (i : ℕ) (t : Ty) → i < length ts → t ≡ get_or ts i t → height_of t < heights_of (types_of ts)
height_below [] i t lt is = absurd (omega arith)
height_below (u ∷ ts) zero t lt is = omega (arith, ap height_of is)
height_below (u ∷ ts) (suc i) t lt is = omega (arith, height_below ts i t (omega arith) is)

pub height_below_named : (ns : List NamedType) (i : ℕ) (n : NamedType) → i < length ns → n ≡ get_or ns i n → height_of n.ty < heights_of_named (named_of ns)
height_below_named [] i n lt is = absurd (omega arith)
height_below_named (m ∷ ns) zero n lt is = omega (arith, ap (λ (k : NamedType). height_of k.ty) is)
height_below_named (m ∷ ns) (suc i) n lt is = omega (arith, height_below_named ns i n (omega arith) is)

-- the types of a list, read
pub types_of-read : (ts : List Ty) → types_of (map unpromoted ts) ≡ unpromoted_all (types_of ts)
types_of-read [] = refl
types_of-read (t ∷ ts) = ap (more (unpromoted t)) (types_of-read ts)

-- a named parameter with its type read
abbrev pub read_param : NamedType → NamedType
read_param n = record { name = n.name; required = n.required; ty = unpromoted n.ty }

pub named_of-read : (ns : List NamedType) → named_of (map read_param ns) ≡ unpromoted_named (named_of ns)
named_of-read [] = refl
named_of-read (n ∷ ns) = ap (more_named n.name n.required (unpromoted n.ty)) (named_of-read ns)

names_of-read : (ns : List NamedType) → names_of (map read_param ns) ≡ names_of ns
names_of-read [] = refl
names_of-read (n ∷ ns) = ap (λ ms. n.name ∷ ms) (names_of-read ns)

names_of-take : (i : ℕ) (ns : List NamedType) → names_of (take i ns) ≡ take i (names_of ns)
names_of-take zero ns = refl
names_of-take (suc i) [] = refl
names_of-take (suc i) (n ∷ ns) = ap (λ ms. n.name ∷ ms) (names_of-take i ns)

-- one more of what is made of a list's elements
map-take-suc : {X Y : Type 0} (f : X → Y) (xs : List X) (i : ℕ) (x : X) → i < length xs → x ≡ get_or xs i x → map f (take i xs) ++ (f x ∷ []) ≡ map f (take (suc i) xs)
map-take-suc f [] i x h e = absurd (omega arith)
map-take-suc f (y ∷ ys) zero x h e = ap (λ z. f z ∷ []) e
map-take-suc f (y ∷ ys) (suc i) x h e = ap (λ zs. f y ∷ zs) (map-take-suc f ys i x (omega arith) e)

pub map-take-next : {X Y : Type 0} (f : X → Y) (xs : List X) (i : ℕ) (x : X) → i < length xs → x ≡ get_or xs i x → map f (take i xs) ++ (f x ∷ []) ≡ map f (take (i + 1) xs)
map-take-next f xs i x h e = rw (add-one i) (map-take-suc f xs i x h e)

-- the names of the parameters read so far come before that of the next one
pub names_before : (ns : List NamedType) (i : ℕ) (n : NamedType) → AreInOrder (names_of ns) → i < length ns → n ≡ get_or ns i n → All (λ before. IsNameBefore before n.name) (names_of (map read_param (take i ns)))
names_before ns i n order lt is = subst (λ (names : List (List ℕ)). All (λ before. IsNameBefore before n.name) names) (sym (names_of-read (take i ns) ∙ names_of-take i ns)) at
  where
    within : i < length (names_of ns)
    within = rw (length-map ns (λ (m : NamedType). m.name)) lt

    here : n.name ≡ get_or (names_of ns) i n.name
    here = ap (λ (m : NamedType). m.name) is ∙ sym (get_or-map (λ (m : NamedType). m.name) ns i n n.name lt)

    at : All (λ before. IsNameBefore before n.name) (take i (names_of ns))
    at k d short =
        let size = length-take i (names_of ns) in
        let less : k < i = omega (arith, size) in
        let there : get_or (take i (names_of ns)) k d ≡ get_or (names_of ns) k d = get_or-take i (names_of ns) k d less in
        let name : n.name ≡ get_or (names_of ns) i d = here ∙ get_or_default (names_of ns) i n.name d within in
        subst (λ (m : List ℕ). IsNameBefore m n.name) (sym there)
        (subst (λ (m : List ℕ). IsNameBefore (get_or (names_of ns) k d) m) (sym name) (order k i d less within))
