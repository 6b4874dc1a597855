-- The kind of a mark, from the first mark that its bytes begin with.
use Rattle.std.proofs.Common.{◌≡◌, ℕ, ◌+◌, ◌<◌, ◌≤◌, ◌==◌, Bool, true, false, cond, ◌&&◌, List, [], ◌∷◌, ◌++◌, length, drop, nat_le, nat_eq, bytes_eq, Option, Some, None, if◌then◌else◌, refl, sym, ap, ◌∙◌, arith, append-nil, length-append}
use Rattle.std.specs.List.{list_all, starts_with}
use Rattle.std.proofs.lemmas.Bool.{false≢true, and_parts, leb-true, false_from_ne_true, eq-eqb, ne_eqb}
use Rattle.std.proofs.lemmas.Bool.Decides.{Decides-eqb}
use Rattle.std.proofs.lemmas.List.{drop_all}
use Rattle.std.proofs.lemmas.Slice.Eq.{bytes_eq-Decides, starts_is}
use Rattle.dart_tokens.specs.declared.token.Kind.{Kind}
use Rattle.dart_tokens.specs.declared.token.Kind.TheVariants.{Identifier}
use Rattle.dart_tokens.specs.Marks.{marks, first_among, first_mark}
use Rattle.dart_tokens.specs.Words.{kind_beside}

-- no row has more than so many bytes
abbrev none_longer : ℕ → List (List ℕ × Kind) → Bool
none_longer size table = list_all (λ row. nat_le (length row.0) size) table

-- longer rows stand before shorter ones
abbrev longer_first : List (List ℕ × Kind) → Bool
longer_first [] = true
longer_first (row ∷ more) = none_longer (length row.0) more && longer_first more

-- the kind of a mark that was found, if it is the whole
abbrev pub kind_if_whole : List ℕ → Option (Kind × ℕ) → Kind
kind_if_whole mark None = Identifier
kind_if_whole mark (Some found) = if found.1 == length mark then found.0 else Identifier

-- what is longer than all rows is none of them
none-equal : (size : ℕ) (table : List (List ℕ × Kind)) (mark : List ℕ) → none_longer size table ≡ true → size < length mark → kind_beside mark Identifier table ≡ Identifier
none-equal size [] mark h less = refl
none-equal size (row ∷ more) mark h less =
    let parts = and_parts _ _ h in
    let short : length row.0 ≤ size = leb-true _ _ parts.0 in
    let other : bytes_eq mark row.0 ≡ false = false_from_ne_true (bytes_eq mark row.0)
    (λ e. let sizes : length mark ≡ length row.0 = ap length ((bytes_eq-Decides mark row.0).0 e) in omega arith) in
    rw other (none-equal size more mark parts.1 less)

-- a mark that only begins with a row is longer
longer-than-front : (front mark : List ℕ) → bytes_eq mark front ≡ false → mark ≡ front ++ drop (length front) mark → length front < length mark
longer-than-front front mark e same =
    let sizes : length mark ≡ length front + length (drop (length front) mark) = ap length same ∙ length-append front (drop (length front) mark) in
    let apart : length front ≡ length mark → false ≡ true = λ h.
    let none : drop (length front) mark ≡ [] = drop_all (length front) mark (omega arith) in
    sym e ∙ (bytes_eq-Decides mark front).1 (same ∙ ap (λ more. front ++ more) none ∙ append-nil front) in
    let differ : length front ≡ length mark → ⊥ = λ h. false≢true (apart h) in
    omega arith

whole-case : (row : List ℕ × Kind) (more : List (List ℕ × Kind)) (mark : List ℕ) → none_longer (length row.0) more ≡ true → (equal begins : Bool) → bytes_eq mark row.0 ≡ equal → starts_with nat_eq mark row.0 ≡ begins
    → kind_beside mark Identifier more ≡ kind_if_whole mark (first_among more mark)
    → cond equal row.1 (kind_beside mark Identifier more) ≡ kind_if_whole mark (cond begins (Some (row.1, length row.0)) (first_among more mark))
whole-case row more mark h true true e b rest =
    let same : mark ≡ row.0 = (bytes_eq-Decides mark row.0).0 e in
    let sizes : (length row.0 == length mark) ≡ true = eq-eqb (length row.0) (length mark) (ap length (sym same)) in
    rw sizes refl
whole-case row more mark h true false e b rest =
    let same : mark ≡ row.0 = (bytes_eq-Decides mark row.0).0 e in
    absurd (false≢true ((starts_is Decides-eqb mark row.0 false (sym b)).1 [] (same ∙ sym (append-nil row.0))))
whole-case row more mark h false true e b rest =
    let less : length row.0 < length mark = longer-than-front row.0 mark e ((starts_is Decides-eqb mark row.0 true (sym b)).0 refl) in
    let part : (length row.0 == length mark) ≡ false = ne_eqb (length row.0) (length mark) (λ same. omega arith) in
    rw part (none-equal (length row.0) more mark h less)
whole-case row more mark h false false e b rest = rest

kind-whole : (table : List (List ℕ × Kind)) (mark : List ℕ) → longer_first table ≡ true → kind_beside mark Identifier table ≡ kind_if_whole mark (first_among table mark)
kind-whole [] mark h = refl
kind-whole (row ∷ more) mark h =
    let parts = and_parts _ _ h in
    whole-case row more mark parts.0 (bytes_eq mark row.0) (starts_with nat_eq mark row.0) refl refl (kind-whole more mark parts.1)

-- the kind beside a mark
pub kind_of_mark-whole : (mark : List ℕ) → kind_beside mark Identifier marks ≡ kind_if_whole mark (first_mark mark)
kind_of_mark-whole mark = kind-whole marks mark refl
