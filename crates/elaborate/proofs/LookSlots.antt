-- The types of slots, as what is said of nodes is put one after another.
use Rattle.std.proofs.Common.{◌≡◌, ◌≢◌, ℕ, zero, suc, ◌+◌, ◌-◌, ◌<◌, ◌≤◌, Bool, true, false, nat_eq, nat_le, List, [], ◌∷◌, drop, length, get_or, set, map, Option, Some, None, refl, sym, ap, ◌∙◌, arith, if◌then◌else◌}
use Rattle.std.specs.List.{range_with_len}
use Rattle.std.specs.Option.{option_map_or}
use Rattle.std.proofs.lemmas.Bool.Decides.{nat_tests}
use Rattle.std.proofs.lemmas.List.{get_or-set_same, get_or-set_other, same_lists}
use Rattle.std.proofs.lemmas.List.FromFn.{length-map-range_with_len, get_or-map-range_with_len}
use Rattle.std.proofs.Math.ListN.{length-set}
use Rattle.dart_types.specs.Ty.{Ty}
use Rattle.flow_model.specs.Flow.{declared_in}
use Rattle.flow_model.specs.declared.locals.LocalId.{LocalId}
use Rattle.judgement.specs.NodeFacts.{NodeFacts}
use Rattle.elaborate.specs.Sources.{local_meant}
use Rattle.elaborate.specs.Elaborated.{slot_type, type_by, type_of_local}
use Rattle.elaborate.specs.Lookups.{with_declared, with_type}

-- the type of the slot of the node with a number, where another is put before for the node with the number n
abbrev put_at : ℕ → Ty → (ℕ → Ty) → ℕ → Ty
put_at n ty before m = if nat_eq n m then ty else before m

-- a type that is put in a list of the types of so many slots
put_pointwise : (first count n : ℕ) (ty : Ty) (before : ℕ → Ty) (k : ℕ) (d : Ty) (within : k < count) (b : Bool) → nat_eq n (first + k) ≡ b → (c : Bool) → nat_le first n ≡ c
    → get_or (if c then set (map before (range_with_len first count)) (n - first) ty else map before (range_with_len first count)) k d ≡ (if b then ty else before (first + k))
put_pointwise first count n ty before k d within true is true from =
    let same : n - first ≡ k = grind (arith, nat_tests) in
    ap (λ (i : ℕ). get_or (set (map before (range_with_len first count)) i ty) k d) same
    ∙ get_or-set_same (map before (range_with_len first count)) k ty d (omega (arith, length-map-range_with_len before first count))
put_pointwise first count n ty before k d within true is false from = absurd (grind (arith, nat_tests))
put_pointwise first count n ty before k d within false is true from =
    let other : k ≢ n - first = λ e. grind (arith, nat_tests) in
    get_or-set_other (map before (range_with_len first count)) (n - first) k ty d other ∙ get_or-map-range_with_len before first count k (first + k) d within refl
put_pointwise first count n ty before k d within false is false from = get_or-map-range_with_len before first count k (first + k) d within refl

length_put : (first n : ℕ) (ty : Ty) (slots : List Ty) (c : Bool) → length (if c then set slots (n - first) ty else slots) ≡ length slots
length_put first n ty slots true = length-set slots (n - first) ty
length_put first n ty slots false = refl

pub put_is : (first count n : ℕ) (ty : Ty) (before : ℕ → Ty) → with_type first n ty (map before (range_with_len first count)) ≡ map (put_at n ty before) (range_with_len first count)
put_is first count n ty before =
    let slots = map before (range_with_len first count) in
    let as_many : length (with_type first n ty slots) ≡ count = length_put first n ty slots (nat_le first n) ∙ length-map-range_with_len before first count in
    same_lists _ _
    (as_many ∙ sym (length-map-range_with_len (put_at n ty before) first count))
    (λ k d within.
    let below : k < count = omega (arith, as_many, within) in
    put_pointwise first count n ty before k d below _ refl _ refl ∙ sym (get_or-map-range_with_len (put_at n ty before) first count k (first + k) d below refl))

-- maps of functions that agree everywhere
map_same : (f g : ℕ → Ty) → ((m : ℕ) → f m ≡ g m) → (ns : List ℕ) → map f ns ≡ map g ns
map_same f g same [] = refl
map_same f g same (n ∷ ns) = ap (λ (t : Ty). t ∷ map f ns) (same n) ∙ ap (λ (ts : List Ty). g n ∷ ts) (map_same f g same ns)

-- What is said with a type.
typed_here : (n : ℕ) (ty : Ty) (rest : Ty) (b : Bool) → option_map_or (λ (t : Ty). t) (if b then Some ty else None) rest ≡ (if b then ty else rest)
typed_here n ty rest true = refl
typed_here n ty rest false = refl

pub typed_put : (first count n : ℕ) (ty : Ty) (said : NodeFacts) (rest : List NodeFacts) (slots : List Ty) → said.ty ≡ Some ty → said.node.0 ≡ n → slots ≡ map (slot_type rest) (range_with_len first count)
    → with_type first n ty slots ≡ map (slot_type (said ∷ rest)) (range_with_len first count)
typed_put first count n ty said rest slots has is before =
    ap (with_type first n ty) before
    ∙ put_is first count n ty (slot_type rest)
    ∙ map_same (put_at n ty (slot_type rest)) (slot_type (said ∷ rest))
    (λ m.
    sym (typed_here n ty (slot_type rest m) (nat_eq n m))
    ∙ ap (λ (k : ℕ). option_map_or (λ (t : Ty). t) (if nat_eq k m then Some ty else None) (slot_type rest m)) (sym is)
    ∙ ap (λ (o : Option Ty). option_map_or (λ (t : Ty). t) (type_by m said o) (slot_type rest m)) (sym has))
    (range_with_len first count)

-- What is said without one: of a node that declares a local, or another.
declared_here : (n m : ℕ) (by : Option Ty) (rest : Ty) (b : Bool) → option_map_or (λ (t : Ty). t) (if b then by else None) rest ≡ (if b then option_map_or (λ (t : Ty). t) by rest else rest)
declared_here n m by rest true = refl
declared_here n m by rest false = refl

nothing_here : (b : Bool) (rest : Ty) → rest ≡ option_map_or (λ (t : Ty). t) (if b then None else None) rest
nothing_here true rest = refl
nothing_here false rest = refl

pub declared_put : (first count : ℕ) (var : LocalId) (by : Option Ty) (said : NodeFacts) (rest : List NodeFacts) (slots : List Ty) → said.ty ≡ None → Some var ≡ local_meant said.element → declared_in said.after var ≡ by
    → slots ≡ map (slot_type rest) (range_with_len first count)
    → with_declared first var.0 by slots ≡ map (slot_type (said ∷ rest)) (range_with_len first count)
declared_put first count var (Some ty) said rest slots none means is before =
    ap (with_type first var.0 ty) before
    ∙ put_is first count var.0 ty (slot_type rest)
    ∙ map_same (put_at var.0 ty (slot_type rest)) (slot_type (said ∷ rest))
    (λ m.
    sym (declared_here var.0 m (Some ty) (slot_type rest m) (nat_eq var.0 m))
    ∙ ap (λ (o : Option Ty). option_map_or (λ (t : Ty). t) (if nat_eq var.0 m then o else None) (slot_type rest m)) (sym is)
    ∙ ap (λ (o : Option LocalId). option_map_or (λ (t : Ty). t) (type_of_local m said o) (slot_type rest m)) means
    ∙ ap (λ (o : Option Ty). option_map_or (λ (t : Ty). t) (type_by m said o) (slot_type rest m)) (sym none))
    (range_with_len first count)
declared_put first count var None said rest slots none means is before =
    before
    ∙ map_same (slot_type rest) (slot_type (said ∷ rest))
    (λ m.
    nothing_here (nat_eq var.0 m) (slot_type rest m)
    ∙ ap (λ (o : Option Ty). option_map_or (λ (t : Ty). t) (if nat_eq var.0 m then o else None) (slot_type rest m)) (sym is)
    ∙ ap (λ (o : Option LocalId). option_map_or (λ (t : Ty). t) (type_of_local m said o) (slot_type rest m)) means
    ∙ ap (λ (o : Option Ty). option_map_or (λ (t : Ty). t) (type_by m said o) (slot_type rest m)) (sym none))
    (range_with_len first count)

pub nothing_put : (first count : ℕ) (said : NodeFacts) (rest : List NodeFacts) (slots : List Ty) → said.ty ≡ None → None ≡ local_meant said.element
    → slots ≡ map (slot_type rest) (range_with_len first count) → slots ≡ map (slot_type (said ∷ rest)) (range_with_len first count)
nothing_put first count said rest slots none means before =
    before
    ∙ map_same (slot_type rest) (slot_type (said ∷ rest))
    (λ m.
    ap (λ (o : Option LocalId). option_map_or (λ (t : Ty). t) (type_of_local m said o) (slot_type rest m)) means
    ∙ ap (λ (o : Option Ty). option_map_or (λ (t : Ty). t) (type_by m said o) (slot_type rest m)) (sym none))
    (range_with_len first count)

-- from the index before one on
from_at : (xs : List NodeFacts) (j : ℕ) (x : NodeFacts) → j < length xs → x ≡ get_or xs j x → drop j xs ≡ x ∷ drop (suc j) xs
from_at [] j x within is = absurd (omega arith)
from_at (y ∷ xs) zero x within is = ap (λ z. z ∷ xs) (sym is)
from_at (y ∷ xs) (suc j) x within is = from_at xs j x (omega arith) is

pub from_before : (xs : List NodeFacts) (i : ℕ) (x : NodeFacts) → 0 < i → i ≤ length xs → x ≡ get_or xs (i - 1) x → drop (i - 1) xs ≡ x ∷ drop i xs
from_before xs i x some within is = let same : suc (i - 1) ≡ i = omega arith in from_at xs (i - 1) x (omega arith) is ∙ ap (λ k. x ∷ drop k xs) same
