-- Names that come before those that are left.
use Rattle.std.proofs.Common.{◌≡◌, ℕ, ◌+◌, ◌<◌, ◌≤◌, Bool, List, [], ◌∷◌, length, get_or, Option, Some, None, sym, ◌∙◌, subst, arith}
use Rattle.std.proofs.lemmas.List.{get_or_default}
use Rattle.std.proofs.lemmas.List.Elements.{All-nil, All-cons}
use Rattle.std.specs.Prelude.{All, AllPairs}
use Rattle.dart_types.specs.Ty.{Ty, Named, no_named, more_named}
use Rattle.dart_types.specs.Named.{named_of, names_of, IsNameBefore, AreInOrder}
use Rattle.dart_types.specs.declared.types.NamedType.{NamedType}
use Rattle.type_bounds.specs.NamedView.{AreNamedFormed, AreBefore, join_named}
use Rattle.type_bounds.proofs.General.{AllPairs-map}
use Rattle.type_bounds.proofs.Rests.{CompletesNamed}

-- each name of these parameters comes before this one
abbrev pub IsEachBefore : Named → List ℕ → Type 0
IsEachBefore no_named m = Unit {0}
IsEachBefore (more_named n r t ns) m = IsNameBefore n m × IsEachBefore ns m

each-with : (us : Named) (n : List ℕ) (r : Bool) (t : Ty) (m : List ℕ) → IsEachBefore us m → IsNameBefore n m → IsEachBefore (join_named us (more_named n r t no_named)) m
each-with no_named n r t m h k = (k, tt)
each-with (more_named l q s us) n r t m h k = (h.0, each-with us n r t m h.1 k)

all_before : (xs : List NamedType) (m : List ℕ) → IsEachBefore (named_of xs) m → All (λ before. IsNameBefore before m) (names_of xs)
all_before [] m h = All-nil (λ before. IsNameBefore before m)
all_before (x ∷ xs) m h = All-cons (λ before. IsNameBefore before m) x.name (names_of xs) h.0 (all_before xs m h.1)

-- so do those that are formed
pub before_formed : (o : Option (List NamedType)) (us : Named) (m : List ℕ) → AreNamedFormed o us → IsEachBefore us m → AreBefore o m
before_formed None us m f h = tt
before_formed (Some xs) us m f h = all_before xs m (subst (λ (ns : Named). IsEachBefore ns m) (sym f.0) h)

-- each comes before the names of a list from a place on
abbrev pub AreBeforeFrom : Named → List NamedType → ℕ → Type 0
AreBeforeFrom us ns i = (k : ℕ) (d : NamedType) → i ≤ k → k < length ns → IsEachBefore us (get_or ns k d).name

pub before_later : (us : Named) (ns : List NamedType) (i : ℕ) → AreBeforeFrom us ns i → AreBeforeFrom us ns (i + 1)
before_later us ns i h k d le lt = h k d (omega arith) lt

-- the name at the place joins them, in a list whose names are in order
pub before_with : (us : Named) (ns : List NamedType) (i : ℕ) (n : NamedType) (r : Bool) (t : Ty) → AreInOrder (names_of ns) → i < length ns → n ≡ get_or ns i n → AreBeforeFrom us ns i → AreBeforeFrom (join_named us (more_named n.name r t no_named)) ns (i + 1)
before_with us ns i n r t order within is h k e le lt =
    each-with us n.name r t (get_or ns k e).name (h k e (omega arith) lt) here
  where
    pairs : AllPairs (λ (a b : NamedType). IsNameBefore a.name b.name) ns
    pairs = AllPairs-map (λ (n : NamedType). n.name) IsNameBefore ns order

    here : IsNameBefore n.name (get_or ns k e).name
    here = subst (λ (m : NamedType). IsNameBefore m.name (get_or ns k e).name) (get_or_default ns i e n within ∙ sym is) (pairs i k e (omega arith) lt)

-- with whatever the rest allows behind them, parameters are what the whole asks for, and their names come before those that are left
abbrev pub NamedSoFar : (rest whole : Named → Type 0) → List NamedType → ℕ → Named → Type 0
NamedSoFar rest whole ns i us = CompletesNamed rest whole us × AreBeforeFrom us ns i
