-- The tests of signatures, over lists of parameters as the code keeps them.
use Rattle.std.proofs.Common.{◌≡◌, ℕ, zero, suc, ◌<◌, get_or, Bool, true, false, nat_eq, nat_lt, List, [], ◌∷◌, length, Some, None, refl, sym, ◌∙◌, ap, cond, arith}
use Rattle.std.specs.Prelude.{◌&&◌, bytes_eq, find}
use Rattle.std.specs.Option.{option_map}
use Rattle.std.proofs.lemmas.Bool.Decides.{nat_tests}
use Rattle.std.proofs.lemmas.Bool.{and_parts, false_from_ne_true}
use Rattle.dart_types.specs.Ty.{Ty, types_of, count}
use Rattle.dart_types.specs.Named.{named_of, type_named}
use Rattle.dart_types.specs.declared.types.FunctionType.{FunctionType}
use Rattle.dart_types.specs.declared.types.NamedType.{NamedType}
use Rattle.type_bounds.specs.Signatures.{same_names, some_type, some_named, have_lower}
use Rattle.type_bounds.proofs.General.{nat_from_test, nat_eq-refl, count-types_of}

-- the type of a name is that of the parameter that is found
type_found : (ns : List NamedType) (m : List ℕ) → type_named (named_of ns) m ≡ option_map (λ n. n.ty) (find (λ n. bytes_eq n.name m) ns)
type_found [] m = refl
type_found (n ∷ ns) m = at (bytes_eq n.name m) (type_found ns m)
  where
    at : (b : Bool) → type_named (named_of ns) m ≡ option_map (λ n. n.ty) (find (λ n. bytes_eq n.name m) ns) → cond b (Some n.ty) (type_named (named_of ns) m) ≡ option_map (λ n. n.ty) (cond b (Some n) (find (λ n. bytes_eq n.name m) ns))
    at true e = refl
    at false e = e

pub type_none : (ns : List NamedType) (m : List ℕ) → find (λ n. bytes_eq n.name m) ns ≡ None → type_named (named_of ns) m ≡ None
type_none ns m e = type_found ns m ∙ ap (option_map (λ n. n.ty)) e

pub type_some : (ns : List NamedType) (m : List ℕ) (u : NamedType) → find (λ n. bytes_eq n.name m) ns ≡ Some u → type_named (named_of ns) m ≡ Some u.ty
type_some ns m u e = type_found ns m ∙ ap (option_map (λ n. n.ty)) e

-- lists of other lengths have other names
pub same_length : (ns ms : List NamedType) → same_names (named_of ns) (named_of ms) ≡ true → length ns ≡ length ms
same_length [] [] h = refl
same_length [] (m ∷ ms) h = cc
same_length (n ∷ ns) [] h = cc
same_length (n ∷ ns) (m ∷ ms) h =
    let e = same_length ns ms (and_parts (bytes_eq n.name m.name) (same_names (named_of ns) (named_of ms)) h).1 in
    omega (arith, e)

pub names_differ : (ns ms : List NamedType) → (length ns ≡ length ms → ⊥) → same_names (named_of ns) (named_of ms) ≡ false
names_differ ns ms n = false_from_ne_true (same_names (named_of ns) (named_of ms)) (λ h. n (same_length ns ms h))

pub counts_same : (r r' : List Ty) → length r ≡ length r' → nat_eq (count (types_of r)) (count (types_of r')) ≡ true
counts_same r r' e = ap (λ k. nat_eq k (count (types_of r'))) (count-types_of r ∙ (e ∙ sym (count-types_of r'))) ∙ nat_eq-refl (count (types_of r'))

pub counts_differ : (r r' : List Ty) → (length r ≡ length r' → ⊥) → nat_eq (count (types_of r)) (count (types_of r')) ≡ false
counts_differ r r' n =
    false_from_ne_true (nat_eq (count (types_of r)) (count (types_of r'))) (λ h. n (sym (count-types_of r) ∙ (nat_from_test (count (types_of r)) (count (types_of r')) h ∙ count-types_of r')))

pub and_first : (a b : Bool) → a ≡ false → false ≡ (a && b)
and_first true b h = cc
and_first false b h = refl

pub and_false : (a : Bool) → false ≡ (a && false)
and_false true = refl
and_false false = refl

pub and_second : (a b : Bool) → a ≡ true → b ≡ (a && b)
and_second true b h = refl
and_second false b h = cc

pub some_of : (ts : List Ty) → nat_lt 0 (length ts) ≡ some_type (types_of ts)
some_of [] = refl
some_of (t ∷ ts) = grind (arith, nat_tests)

pub some_named_of : (ns : List NamedType) → nat_lt 0 (length ns) ≡ some_named (named_of ns)
some_named_of [] = refl
some_named_of (n ∷ ns) = grind (arith, nat_tests)

-- what a lower bound asks for, over lists as the code keeps them
pub have_lower_counts : (f g : FunctionType) → have_lower (types_of f.required) (types_of f.optional) (named_of f.named) (types_of g.required) (types_of g.optional) (named_of g.named) ≡ true → (length f.required ≡ length g.required) × (length f.optional ≡ length g.optional) × (same_names (named_of f.named) (named_of g.named) ≡ true)
have_lower_counts f g h =
    let names = same_names (named_of f.named) (named_of g.named) in
    let a = and_parts (nat_eq (count (types_of f.required)) (count (types_of g.required))) (nat_eq (count (types_of f.optional)) (count (types_of g.optional)) && names) h in
    let b = and_parts (nat_eq (count (types_of f.optional)) (count (types_of g.optional))) names a.1 in
    (same_count f.required g.required a.0, same_count f.optional g.optional b.0, b.1)
  where
    same_count : (r r' : List Ty) → nat_eq (count (types_of r)) (count (types_of r')) ≡ true → length r ≡ length r'
    same_count r r' e = sym (count-types_of r) ∙ (nat_from_test (count (types_of r)) (count (types_of r')) e ∙ count-types_of r')

pub same_named_lists : {ns ns' ms ms' : List NamedType} → ns ≡ ns' → ms ≡ ms' → same_names (named_of ns') (named_of ms') ≡ true → same_names (named_of ns) (named_of ms) ≡ true
same_named_lists {ns' = ns'} {ms = ms} e f h =
    ap (λ (vs : List NamedType). same_names (named_of vs) (named_of ms)) e ∙ ap (λ (vs : List NamedType). same_names (named_of ns') (named_of vs)) f ∙ h

-- the names at one place
pub names_at : (ns ms : List NamedType) (i : ℕ) (d e : NamedType) → same_names (named_of ns) (named_of ms) ≡ true → i < length ns → bytes_eq (get_or ns i d).name (get_or ms i e).name ≡ true
names_at [] ms i d e h lt = absurd (omega arith)
names_at (n ∷ ns) [] i d e h lt = cc
names_at (n ∷ ns) (m ∷ ms) zero d e h lt = (and_parts (bytes_eq n.name m.name) (same_names (named_of ns) (named_of ms)) h).0
names_at (n ∷ ns) (m ∷ ms) (suc i) d e h lt = names_at ns ms i d e (and_parts (bytes_eq n.name m.name) (same_names (named_of ns) (named_of ms)) h).1 (omega arith)
