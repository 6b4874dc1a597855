-- The first mark that a text begins with.
use Rattle.std.proofs.Common.{◌≡◌, ℕ, zero, suc, ◌<◌, ◌≤◌, Bool, true, false, ◌&&◌, List, [], ◌∷◌, Option, Some, None, if◌then◌else◌, nat_eq, nat_le, length, take, get_or, refl, ap, arith}
use Rattle.std.proofs.lemmas.Bool.{and_parts, leb-true}
use Rattle.std.proofs.lemmas.List.Elements.{Contains-append_right}
use Rattle.std.proofs.lemmas.Slice.Eq.{bytes_eq-Decides}
use Rattle.std.specs.Prelude.{Contains, IfSome, IsSomeAnd}
use Rattle.std.specs.List.{starts_with}
use Rattle.dart_tokens.specs.declared.token.Kind.{Kind}
use Rattle.dart_tokens.specs.Marks.{first_among}

-- what is found is a mark of the table, with its kind
pub found_among : (table : List (List ℕ × Kind)) (text : List ℕ) → IfSome (first_among table text) (λ found. Contains table (take found.1 text, found.0))
found_among [] text = tt
found_among (mark ∷ more) text = either (starts_with nat_eq text mark.0) refl (found_among more text)
  where
    later : (o : Option (Kind × ℕ)) → IfSome o (λ found. Contains more (take found.1 text, found.0)) → IfSome o (λ found. Contains (mark ∷ more) (take found.1 text, found.0))
    later None h = tt
    later (Some found) h = Contains-append_right (mark ∷ []) more (take found.1 text, found.0) h

    either : (begins : Bool) → starts_with nat_eq text mark.0 ≡ begins → IfSome (first_among more text) (λ found. Contains more (take found.1 text, found.0)) →
        IfSome (if begins then Some (mark.1, length mark.0) else first_among more text) (λ found. Contains (mark ∷ more) (take found.1 text, found.0))
    either true e h =
        let same : mark.0 ≡ take (length mark.0) text = (bytes_eq-Decides mark.0 (take (length mark.0) text)).0 e in
        let here : mark ≡ (take (length mark.0) text, mark.1) = ap (λ (name : List ℕ). (name, mark.1)) same in
        (0, omega arith, here)
    either false e h = later (first_among more text) h

-- In a table in which no mark is longer than one before it, the first that fits is the longest.

abbrev are_no_longer : ℕ → List (List ℕ × Kind) → Bool
are_no_longer size [] = true
are_no_longer size (mark ∷ more) = nat_le (length mark.0) size && are_no_longer (length mark.0) more

no_longer_than : (size : ℕ) (table : List (List ℕ × Kind)) → are_no_longer size table ≡ true → (k : ℕ) (d : List ℕ × Kind) → k < length table → length (get_or table k d).0 ≤ size
no_longer_than size [] e k d h = absurd (omega (arith, h))
no_longer_than size (mark ∷ more) e zero d h = leb-true (length mark.0) size (and_parts (nat_le (length mark.0) size) (are_no_longer (length mark.0) more) e).0
no_longer_than size (mark ∷ more) e (suc k) d h =
    let parts = and_parts (nat_le (length mark.0) size) (are_no_longer (length mark.0) more) e in
    omega (arith, leb-true (length mark.0) size parts.0, no_longer_than (length mark.0) more parts.1 k d (omega (arith, h)))

abbrev IsLongest : (size : ℕ) → Option (Kind × ℕ) → Type 0
IsLongest size o = IsSomeAnd o (λ found. size ≤ found.1)

pub first_longest : (size : ℕ) (table : List (List ℕ × Kind)) (text : List ℕ) → are_no_longer size table ≡ true → (k : ℕ) (d : List ℕ × Kind) → k < length table →
    starts_with nat_eq text (get_or table k d).0 ≡ true → IsLongest (length (get_or table k d).0) (first_among table text)
first_longest size [] text e k d h begins = absurd (omega (arith, h))
first_longest size (mark ∷ more) text e zero d h begins = rw begins (omega arith)
first_longest size (mark ∷ more) text e (suc k) d h begins =
    let inside : k < length more = omega (arith, h) in
    let later = and_parts (nat_le (length mark.0) size) (are_no_longer (length mark.0) more) e in
    either (starts_with nat_eq text mark.0) (no_longer_than (length mark.0) more later.1 k d inside) (first_longest (length mark.0) more text later.1 k d inside begins)
  where
    either : (found : Bool) → length (get_or more k d).0 ≤ length mark.0 → IsLongest (length (get_or more k d).0) (first_among more text) →
        IsLongest (length (get_or more k d).0) (if found then Some (mark.1, length mark.0) else first_among more text)
    either true a b = a
    either false a b = b
