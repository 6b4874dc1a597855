-- The names of the last packages of a list.
use Rattle.std.proofs.Common.{◌≡◌, ◌∙◌, refl, sym, ℕ, zero, suc, ◌<◌, Bool, List, [], ◌∷◌, true, false, not, cond, ◌||◌, ◌&&◌, length, drop, get_or, drop-cons, ap, bytes_eq, Bor}
use Rattle.std.proofs.lemmas.Bool.{and_right}
use Rattle.std.proofs.lemmas.Map.Text.{is_eq-slice_cmp}
use Rattle.std.specs.BTreeSet.{BTreeSet, contains_by, Updates}
use Rattle.std.specs.Cmp.Lexicographic.{slice_cmp}
use Rattle.std.specs.Ordering.{nat_cmp}
use Rattle.std.specs.declared.cmp.Ordering.{Ordering}
use Rattle.load_files.specs.declared.packages.Package.{Package}
use Rattle.packages_file.specs.PackagesFile.{are_distinct, is_named}

-- a set of names has this one
abbrev pub has_name : BTreeSet (Bor (List ℕ)) → Bor (List ℕ) → Bool
has_name names name = contains_by (λ key. slice_cmp nat_cmp name.now key.now) names

-- a set has the names of these packages, and no two of them have the same name
abbrev pub AreNames : BTreeSet (Bor (List ℕ)) → List Package → Type 0
AreNames names packages = ((name : Bor (List ℕ)) → has_name names name ≡ is_named name.now packages) × (are_distinct packages ≡ true)

-- where two of the last packages have one name, two of all have it
not_distinct : (n : ℕ) (packages : List Package) → are_distinct (drop n packages) ≡ false → are_distinct packages ≡ false
not_distinct zero packages h = h
not_distinct (suc n) [] h = h
not_distinct (suc n) (first ∷ rest) h =
    and_right (not (is_named first.name rest)) (are_distinct rest) (not_distinct n rest h)

-- names are told apart by their bytes
abbrev by_name : Bor (List ℕ) → Bor (List ℕ) → Ordering
by_name name other = slice_cmp nat_cmp name.now other.now

either : (b c : Bool) → cond b true c ≡ (b || c)
either true c = refl
either false c = refl

-- a set with one name more has this one and those from before
has_name_insert : (old new : BTreeSet (Bor (List ℕ))) (added : Bor (List ℕ)) → Updates by_name old new added true → (name : Bor (List ℕ)) → has_name new name ≡ (bytes_eq added.now name.now || has_name old name)
has_name_insert old new added h name =
    h.0 name ∙ ap (λ same. cond same true (has_name old name)) (is_eq-slice_cmp added.now name.now) ∙ either (bytes_eq added.now name.now) (has_name old name)

-- whether a package's name is new among the names of those after it
is_new : (old : BTreeSet (Bor (List ℕ))) (first : Package) (name : Bor (List ℕ)) (rest : List Package) (new : Bool) → name.now ≡ first.name → AreNames old rest → not (has_name old name) ≡ new → not (is_named first.name rest) ≡ new
is_new old first name rest new is h apart =
    ap (λ key. not (is_named key rest)) (sym is) ∙ ap not (sym (h.0 name)) ∙ apart

-- the names with that of the package before
pub one_more : (old new : BTreeSet (Bor (List ℕ))) (first : Package) (name : Bor (List ℕ)) (rest : List Package) → name.now ≡ first.name → AreNames old rest → not (has_name old name) ≡ true → Updates by_name old new name true → AreNames new (first ∷ rest)
one_more old new first name rest is h apart updates =
    ((λ other. has_name_insert old new name updates other ∙ ap (λ key. bytes_eq key other.now || has_name old other) is ∙ ap (λ known. bytes_eq first.name other.now || known) (h.0 other)), ap (λ is_apart. is_apart && are_distinct rest) (is_new old first name rest true is h apart) ∙ h.1)

-- a name that comes again
pub comes_again : (n : ℕ) (packages : List Package) (old : BTreeSet (Bor (List ℕ))) (first : Package) (name : Bor (List ℕ)) (rest : List Package) → drop n packages ≡ (first ∷ rest) → name.now ≡ first.name → AreNames old rest → not (has_name old name) ≡ false → are_distinct packages ≡ false
comes_again n packages old first name rest here is h apart =
    not_distinct n packages (ap are_distinct here ∙ ap (λ is_apart. is_apart && are_distinct rest) (is_new old first name rest false is h apart))

-- the package before the last packages
pub one_before : (packages : List Package) (j i : ℕ) (first : Package) → suc j ≡ i → j < length packages → first ≡ get_or packages j first → drop j packages ≡ (first ∷ drop i packages)
one_before packages j i first next within is =
    drop-cons packages j first within ∙ ap (λ found. found ∷ drop (suc j) packages) (sym is) ∙ ap (λ n. first ∷ drop n packages) next
