-- Lists of types compared place by place, as the test of subtyping goes through them.
use Rattle.std.proofs.Common.{◌≡◌, ℕ, zero, suc, ◌+◌, ◌<◌, ◌≤◌, ◌++◌, List, [], ◌∷◌, length, drop, get_or, Some, None, refl, sym, ◌∙◌, ap, subst, arith, drop-cons, add-one, inl, inr}
use Rattle.std.specs.Prelude.{slice_get}
use Rattle.std.specs.Option.{option_map}
use Rattle.std.proofs.lemmas.List.{drop_all, get_or_default, get_or_append_left, get_or-append-add, length-append}
use Rattle.std.proofs.lemmas.Option.{slice_get_cases}
use Rattle.dart_types.specs.Ty.{Ty, Types, Named, no_more, more, types_of, join, count, invalid}
use Rattle.dart_types.specs.Named.{named_of}
use Rattle.dart_types.specs.Substitution.{put, put_all, put_named}
use Rattle.dart_types.specs.Tables.{Table}
use Rattle.dart_types.specs.Sub.{Sub, Subs, SubParams, SubNamed, HasNamed, none_left, one_left, no_param, one_param, no_name, one_name}
use Rattle.dart_types.specs.declared.ids.VarId.{VarId}
use Rattle.dart_types.specs.declared.types.NamedType.{NamedType}
use Rattle.dart_types.proofs.MeasureParts.{HasType, at_first, at_later}

-- the types of two lists, with those put in that the variables stand for
pub put_all-append : (σ : VarId → Ty) (xs ys : List Ty) → put_all σ (types_of (xs ++ ys)) ≡ join (put_all σ (types_of xs)) (put_all σ (types_of ys))
put_all-append σ [] ys = refl
put_all-append σ (x ∷ xs) ys = ap (λ (ts : Types). more (put σ x) ts) (put_all-append σ xs ys)

pub count-types_of : (σ : VarId → Ty) (xs : List Ty) → count (put_all σ (types_of xs)) ≡ length xs
count-types_of σ [] = refl
count-types_of σ (x ∷ xs) = omega (arith, count-types_of σ xs)

-- the type at a place is one of the list
pub has_type : (σ : VarId → Ty) (xs : List Ty) (i : ℕ) (d : Ty) → i < length xs → HasType (put_all σ (types_of xs)) (put σ (get_or xs i d))
has_type σ [] i d lt = absurd (omega arith)
has_type σ (x ∷ xs) zero d lt = at_first
has_type σ (x ∷ xs) (suc i) d lt = at_later (has_type σ xs i d (omega arith))

-- from a place on: the type there, and those behind it
from_place : (σ : VarId → Ty) (xs : List Ty) (i : ℕ) (d : Ty) → i < length xs → put_all σ (types_of (drop i xs)) ≡ more (put σ (get_or xs i d)) (put_all σ (types_of (drop (i + 1) xs)))
from_place σ xs i d lt = ap (λ (ts : List Ty). put_all σ (types_of ts)) (drop-cons xs i d lt) ∙ ap (λ (n : ℕ). more (put σ (get_or xs i d)) (put_all σ (types_of (drop n xs)))) (sym (add-one i))

past_end : (σ : VarId → Ty) (xs : List Ty) (i : ℕ) → length xs ≤ i → put_all σ (types_of (drop i xs)) ≡ no_more
past_end σ xs i le = ap (λ (ts : List Ty). put_all σ (types_of ts)) (drop_all i xs le)

-- an element, if it is there, with a function
pub none_there : {X : Type 0} (f : Ty → X) (xs : List Ty) (i : ℕ) → None ≡ option_map f (slice_get xs i) → length xs ≤ i
none_there {X} f xs i e = elim (slice_get_cases xs i).1 [ inl p ↦ at p.2 | inr p ↦ p.0 ]
  where
    at : {x : Ty} → slice_get xs i ≡ Some x → length xs ≤ i
    at {x} k = let none : None ≡ Some (f x) = e ∙ ap (option_map f) k in cc

pub some_there : {X : Type 0} (f : Ty → X) (xs : List Ty) (i : ℕ) (y : X) → Some y ≡ option_map f (slice_get xs i) → (i < length xs) × (y ≡ f (get_or xs i invalid))
some_there {X} f xs i y e = elim (slice_get_cases xs i).1 [ inl p ↦ at p.1 p.0 p.2 p.3 | inr p ↦ past p.1 ]
  where
    at : i < length xs → (x : Ty) → slice_get xs i ≡ Some x → get_or xs i x ≡ x → (i < length xs) × (y ≡ f (get_or xs i invalid))
    at lt x k is =
        let h : Some y ≡ Some (f x) = e ∙ ap (option_map f) k in
        let g : y ≡ f x = cc in
        (lt, g ∙ ap f (sym is) ∙ ap f (get_or_default xs i x invalid lt))

    past : slice_get xs i ≡ None → (i < length xs) × (y ≡ f (get_or xs i invalid))
    past k = let some : Some y ≡ None = e ∙ ap (option_map f) k in cc

module _ (table : Table) (σ τ : VarId → Ty) (xs ys : List Ty) where
  abbrev Left : ℕ → Types
  Left i = put_all σ (types_of (drop i xs))

  abbrev Right : ℕ → Types
  Right i = put_all τ (types_of (drop i ys))

  abbrev At : ℕ → Ty → Ty → Type 0
  At i d e = Sub table (put σ (get_or xs i d)) (put τ (get_or ys i e))

  pub subs_end : (i : ℕ) → length xs ≤ i → length ys ≤ i → Subs table (Left i) (Right i)
  subs_end i h k = rw (past_end σ xs i h, past_end τ ys i k) none_left

  pub subs_step : (i : ℕ) (d e : Ty) → i < length xs → i < length ys → At i d e → Subs table (Left (i + 1)) (Right (i + 1)) → Subs table (Left i) (Right i)
  subs_step i d e h k a rest = rw (from_place σ xs i d h, from_place τ ys i e k) (one_left a rest)

  pub params_end : (i : ℕ) (ss : Types) → length xs ≤ i → SubParams table (Left i) ss
  params_end i ss h = rw (past_end σ xs i h) no_param

  pub params_step : (i : ℕ) (d e : Ty) → i < length xs → i < length ys → At i d e → SubParams table (Left (i + 1)) (Right (i + 1)) → SubParams table (Left i) (Right i)
  params_step i d e h k a rest = rw (from_place σ xs i d h, from_place τ ys i e k) (one_param a rest)

-- what is said of whole lists is said of each place
pub subs_at : (table : Table) (σ τ : VarId → Ty) (xs ys : List Ty) (i : ℕ) (d e : Ty) → Subs table (put_all σ (types_of xs)) (put_all τ (types_of ys)) → i < length xs → Sub table (put σ (get_or xs i d)) (put τ (get_or ys i e))
subs_at table σ τ [] ys i d e a lt = absurd (omega arith)
subs_at table σ τ (x ∷ xs) [] i d e a lt = elim a [ ]
subs_at table σ τ (x ∷ xs) (y ∷ ys) zero d e (one_left a rest) lt = a
subs_at table σ τ (x ∷ xs) (y ∷ ys) (suc i) d e (one_left a rest) lt = subs_at table σ τ xs ys i d e rest (omega arith)

pub subs_length : (table : Table) (σ τ : VarId → Ty) (xs ys : List Ty) → Subs table (put_all σ (types_of xs)) (put_all τ (types_of ys)) → length xs ≡ length ys
subs_length table σ τ [] [] a = refl
subs_length table σ τ [] (y ∷ ys) a = elim a [ ]
subs_length table σ τ (x ∷ xs) [] a = elim a [ ]
subs_length table σ τ (x ∷ xs) (y ∷ ys) (one_left a rest) = omega (arith, subs_length table σ τ xs ys rest)

pub params_at : (table : Table) (σ τ : VarId → Ty) (xs ys : List Ty) (i : ℕ) (d e : Ty) → SubParams table (put_all σ (types_of xs)) (put_all τ (types_of ys)) → i < length xs → (i < length ys) × Sub table (put σ (get_or xs i d)) (put τ (get_or ys i e))
params_at table σ τ [] ys i d e a lt = absurd (omega arith)
params_at table σ τ (x ∷ xs) [] i d e a lt = elim a [ ]
params_at table σ τ (x ∷ xs) (y ∷ ys) zero d e (one_param a rest) lt = (omega arith, a)
params_at table σ τ (x ∷ xs) (y ∷ ys) (suc i) d e (one_param a rest) lt = let p = params_at table σ τ xs ys i d e rest (omega arith) in (omega (arith, p.0), p.1)

-- named parameters, whose types are compared with those of their names
pub names_end : (table : Table) (σ : VarId → Ty) (ns : List NamedType) (i : ℕ) (ss : Named) → length ns ≤ i → SubNamed table (put_named σ (named_of (drop i ns))) ss
names_end table σ ns i ss h = subst (λ (ms : List NamedType). SubNamed table (put_named σ (named_of ms)) ss) (sym (drop_all i ns h)) no_name

pub names_step : (table : Table) (σ : VarId → Ty) (ns : List NamedType) (i : ℕ) (d : NamedType) (ss : Named) (s : Ty) → i < length ns → HasNamed ss (get_or ns i d).name s → Sub table (put σ (get_or ns i d).ty) s → SubNamed table (put_named σ (named_of (drop (i + 1) ns))) ss → SubNamed table (put_named σ (named_of (drop i ns))) ss
names_step table σ ns i d ss s lt has a rest =
    subst (λ (ms : List NamedType). SubNamed table (put_named σ (named_of ms)) ss) (sym (drop-cons ns i d lt))
    (one_name s has a (subst (λ (n : ℕ). SubNamed table (put_named σ (named_of (drop n ns))) ss) (add-one i) rest))

pub names_at : (table : Table) (σ : VarId → Ty) (ns : List NamedType) (i : ℕ) (d : NamedType) (ss : Named) → SubNamed table (put_named σ (named_of ns)) ss → i < length ns → (s : Ty) × HasNamed ss (get_or ns i d).name s × Sub table (put σ (get_or ns i d).ty) s
names_at table σ [] i d ss a lt = absurd (omega arith)
names_at table σ (n ∷ ns) zero d ss (one_name s has a rest) lt = (s, has, a)
names_at table σ (n ∷ ns) (suc i) d ss (one_name s has a rest) lt = names_at table σ ns i d ss rest (omega arith)

-- the required parameters, then the optional ones
pub joined : (table : Table) (σ τ : VarId → Ty) (a b c d : List Ty) → SubParams table (put_all σ (types_of (a ++ b))) (put_all τ (types_of (c ++ d))) → SubParams table (join (put_all σ (types_of a)) (put_all σ (types_of b))) (join (put_all τ (types_of c)) (put_all τ (types_of d)))
joined table σ τ a b c d p =
    subst (λ (ts : Types). SubParams table ts (join (put_all τ (types_of c)) (put_all τ (types_of d)))) (put_all-append σ a b)
    (subst (λ (ts : Types). SubParams table (put_all σ (types_of (a ++ b))) ts) (put_all-append τ c d) p)

pub parted : (table : Table) (σ τ : VarId → Ty) (a b c d : List Ty) → SubParams table (join (put_all σ (types_of a)) (put_all σ (types_of b))) (join (put_all τ (types_of c)) (put_all τ (types_of d))) → SubParams table (put_all σ (types_of (a ++ b))) (put_all τ (types_of (c ++ d)))
parted table σ τ a b c d p =
    subst (λ (ts : Types). SubParams table ts (put_all τ (types_of (c ++ d)))) (sym (put_all-append σ a b))
    (subst (λ (ts : Types). SubParams table (join (put_all σ (types_of a)) (put_all σ (types_of b))) ts) (sym (put_all-append τ c d)) p)

-- the place of a required parameter among all, and of an optional one
pub required_place : (σ : VarId → Ty) (a b : List Ty) (i : ℕ) (d : Ty) → i < length a → put σ (get_or a i d) ≡ put σ (get_or (a ++ b) i invalid)
required_place σ a b i d lt = ap (put σ) (sym (get_or_append_left a b d i lt) ∙ get_or_default (a ++ b) i d invalid (rw (length-append a b) (omega arith)))

pub optional_place : (σ : VarId → Ty) (a b : List Ty) (i : ℕ) (d : Ty) → i < length b → put σ (get_or b i d) ≡ put σ (get_or (a ++ b) (length a + i) invalid)
optional_place σ a b i d lt = ap (put σ) (sym (get_or-append-add a b i d) ∙ get_or_default (a ++ b) (length a + i) d invalid (rw (length-append a b) (omega arith)))
