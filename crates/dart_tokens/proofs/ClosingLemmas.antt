-- What becomes of the partners when groups end.
use Rattle.std.proofs.Common.{◌≡◌, ℕ, ◌==◌, Bool, true, false, ◌&&◌, not, List, [], ◌∷◌, Option, Some, None, if◌then◌else◌, length, set, get_or, refl, subst, sym, ◌∙◌, arith, length-set, get_or-set_same, get_or-set_other}
use Rattle.std.proofs.lemmas.Bool.{cases_eq, eq-eqb, ne_eqb}
use Rattle.std.proofs.Math.Logic.{⊎_elim}
use denote.Enum.Bare.{sameb}
use Rattle.dart_tokens.specs.contracts.bracket.Bracket.{the_type}
use Rattle.dart_tokens.specs.declared.bracket.Bracket.{Bracket as BracketWord}
use Rattle.dart_tokens.specs.declared.bracket.Bracket.TheVariants as word
use Rattle.dart_tokens.specs.Groups.{Bracket, Interpolation, Open, is_same, is_open, behind_closed}
use Rattle.dart_tokens.specs.Stack.{BeganBefore, bracket_of}
use Rattle.dart_tokens.specs.Pairing.{EndsAt, is_ended}
use Rattle.dart_tokens.proofs.OpenLemmas.{none_open, BeganBefore-later, BeganBefore-closed}

-- the partners when the nearest open group of a kind is closed at a place: it and those inside it end there
abbrev pub ended : (place : ℕ) → Bracket → List Open → List (Option ℕ) → List (Option ℕ)
ended place bracket [] partners = partners
ended place bracket (group ∷ outer) partners =
    let now = set partners group.place (Some place) in
    if is_same bracket group.bracket then now else ended place bracket outer now

length_either : {A : Type 0} (found : Bool) (xs ys zs : List A) → length xs ≡ length zs → length ys ≡ length zs → length (if found then xs else ys) ≡ length zs
length_either true xs ys zs a b = a
length_either false xs ys zs a b = b

pub length-ended : (place : ℕ) (bracket : Bracket) (around : List Open) (partners : List (Option ℕ)) → length (ended place bracket around partners) ≡ length partners
length-ended place bracket [] partners = refl
length-ended place bracket (group ∷ outer) partners =
    let now : List (Option ℕ) = set partners group.place (Some place) in
    let same : length now ≡ length partners = length-set partners group.place (Some place) in
    length_either (is_same bracket group.bracket) now (ended place bracket outer now) partners same (length-ended place bracket outer now ∙ same)

abbrev EndsWhere : (place : ℕ) (around after : List Open) (old new : List (Option ℕ)) → Type 0
EndsWhere place around after old new = (k : ℕ) → get_or new k None ≡ (if is_ended k around after then Some place else get_or old k None)

neither : {A : Type 0} (b : Bool) (x y z : A) → z ≡ y → z ≡ (if b && not b then x else y)
neither true x y z e = e
neither false x y z e = e

-- the innermost group ends, and those around it stay open
ends_one : (place : ℕ) (group : Open) (outer : List Open) (partners : List (Option ℕ)) → BeganBefore (length partners) (group ∷ outer) → EndsWhere place (group ∷ outer) outer partners (set partners group.place (Some place))
ends_one place group outer partners began k = ⊎_elim
    (λ e. let here : (group.place == k) ≡ true = eq-eqb group.place k e in
    let closed : is_open k outer ≡ false = none_open group.place k outer began.1 (omega (arith, e)) in
    rw (here, closed, sym e) (get_or-set_same partners group.place (Some place) None began.0))
    (λ ne. let there : (group.place == k) ≡ false = ne_eqb group.place k ne in
    rw there (neither (is_open k outer) (Some place) (get_or partners k None) (get_or (set partners group.place (Some place)) k None) (get_or-set_other partners group.place k (Some place) None (λ e. ne (sym e)))))
    (cases_eq group.place k)

-- the innermost group ends, and some of those around it
ends_more : (place : ℕ) (group : Open) (outer after : List Open) (partners new : List (Option ℕ)) → BeganBefore (length partners) (group ∷ outer) → BeganBefore group.place after →
    EndsWhere place outer after (set partners group.place (Some place)) new → EndsWhere place (group ∷ outer) after partners new
ends_more place group outer after partners new began after_began rest k = ⊎_elim
    (λ e. let here : (group.place == k) ≡ true = eq-eqb group.place k e in
    let closed : is_open k outer ≡ false = none_open group.place k outer began.1 (omega (arith, e)) in
    let gone : is_open k after ≡ false = none_open group.place k after after_began (omega (arith, e)) in
    let left : get_or new k None ≡ get_or (set partners group.place (Some place)) k None = rw closed at (rest k) in
    rw (here, gone) (left ∙ rw (sym e) (get_or-set_same partners group.place (Some place) None began.0)))
    (λ ne. let there : (group.place == k) ≡ false = ne_eqb group.place k ne in
    let other : get_or (set partners group.place (Some place)) k None ≡ get_or partners k None = get_or-set_other partners group.place k (Some place) None (λ e. ne (sym e)) in
    rw (there, ← other) (rest k))
    (cases_eq group.place k)

ends_where : (place : ℕ) (bracket : Bracket) (around after : List Open) (partners : List (Option ℕ)) → BeganBefore (length partners) around → behind_closed bracket around ≡ Some after →
    EndsWhere place around after partners (ended place bracket around partners)
ends_where place bracket [] after partners began h = absurd (cc)
ends_where place bracket (group ∷ outer) after partners began h =
    let now : List (Option ℕ) = set partners group.place (Some place) in
    let outer_began : BeganBefore (length now) outer = rw length-set (BeganBefore-later group.place (length partners) outer (omega (arith, began.0)) began.1) in
    step (is_same bracket group.bracket) (is_same Interpolation group.bracket) (λ e. ends_where place bracket outer after now outer_began e) h
  where
    step : (found border : Bool) → (behind_closed bracket outer ≡ Some after → EndsWhere place outer after (set partners group.place (Some place)) (ended place bracket outer (set partners group.place (Some place)))) →
        (if found then Some outer else (if border then None else behind_closed bracket outer)) ≡ Some after →
        EndsWhere place (group ∷ outer) after partners (if found then set partners group.place (Some place) else ended place bracket outer (set partners group.place (Some place)))
    step true border more e =
        let same : outer ≡ after = cc in
        subst (λ (x : List Open). EndsWhere place (group ∷ outer) x partners (set partners group.place (Some place))) same (ends_one place group outer partners began)
    step false true more e = absurd (cc)
    step false false more e = ends_more place group outer after partners (ended place bracket outer (set partners group.place (Some place))) began (rw e at (BeganBefore-closed bracket group.place outer began.1)) (more e)

-- what the end of groups at a place leaves of the partners
pub EndsAt-ended : (place : ℕ) (bracket : Bracket) (around after : List Open) (partners : List (Option ℕ)) → BeganBefore (length partners) around → behind_closed bracket around ≡ Some after →
    EndsAt place around after partners (ended place bracket around partners)
EndsAt-ended place bracket around after partners began h = record { count = length-ended place bracket around partners; at = ends_where place bracket around after partners began h }

-- the test of the code for equal kinds
pub sameb-bracket_of : (a b : BracketWord) → sameb the_type a b ≡ is_same (bracket_of b) (bracket_of a)
sameb-bracket_of word.Round word.Round = refl
sameb-bracket_of word.Round _ = refl
sameb-bracket_of word.Square word.Square = refl
sameb-bracket_of word.Square _ = refl
sameb-bracket_of word.Curly word.Curly = refl
sameb-bracket_of word.Curly _ = refl
sameb-bracket_of word.Interpolation word.Interpolation = refl
sameb-bracket_of word.Interpolation _ = refl
