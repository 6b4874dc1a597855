-- Levels of operators, climbed from the one that binds most on.
use Rattle.std.proofs.Common.{◌≡◌, ℕ, zero, suc, ◌-◌, ◌<◌, ◌≤◌, Bool, false, List, [], ◌∷◌, length, drop, get_or, Option, Some, None, refl, sym, ap, ◌∙◌, arith}
use Rattle.std.proofs.Math.Seq.{drop-cons}
use Rattle.dart_tree.specs.Tree.{Tree}
use Rattle.readings.specs.Readings.{Reading}
use Rattle.readings.specs.Descent.{bind, take_onto, climb}
use Rattle.readings.specs.Levels.{onto_stays}
use Rattle.dart_tokens.specs.declared.grouped_token.GroupedToken.{GroupedToken as Token}
use Rattle.grammar.specs.declared.level.Level.{Level}
use Rattle.grammar.specs.declared.level.Setting.{Setting}
use Rattle.grammar.specs.Expressions.{times_behind, side_with, is_open}
use Rattle.grammar.specs.Descents.{Lower, take_right}
use Rattle.parse_leaves.specs.Next.{next_level, is_level}
use Rattle.parse_operators.proofs.Next.{no_right}

-- what the levels behind so many of a table make of an operand
abbrev pub climbed : ℕ → Setting → Lower → List Token → ℕ → List Level → Reading Token Tree → Option (Reading Token Tree)
climbed n m l start less levels x = climb (times_behind m) (is_open n) side_with (take_right m l) start (drop less levels) x

none_behind : {A : Type 0} (n : ℕ) (xs : List A) → n ≡ length xs → drop n xs ≡ []
none_behind n [] e = rw e refl
none_behind n (x ∷ xs) e = rw e (none_behind (length xs) xs refl)

pub level_at : (levels : List Level) (less more : ℕ) (which other : Level) → 0 < more → more ≤ length levels → less ≡ more - 1 → which ≡ get_or levels less other → drop less levels ≡ which ∷ drop more levels
level_at levels less more which other some few last at =
    let within : less < length levels = omega (arith, some, few, last) in
    let behind : suc less ≡ more = omega (arith, some, last) in
    drop-cons levels less other within ∙ ap (λ k. get_or levels less other ∷ drop k levels) behind ∙ ap (λ w. w ∷ drop more levels) (sym at)

-- behind all levels the operand stays as it is
pub climb_begins : (n : ℕ) (m : Setting) (l : Lower) (start : List Token) (more : ℕ) (levels : List Level) (left : Tree) (ts : List Token) → more ≡ length levels → climbed n m l start more levels (left, ts) ≡ Some (left, ts)
climb_begins n m l start more levels left ts e = ap (λ (rs : List Level). climb (times_behind m) (is_open n) side_with (take_right m l) start rs (left, ts)) (none_behind more levels e)

-- one more level
pub climb_goes : (n : ℕ) (m : Setting) (l : Lower) (start : List Token) (less more : ℕ) (levels : List Level) (which : Level) (x : Reading Token Tree) (left new : Tree) (us vs : List Token) → climbed n m l start more levels x ≡ Some (left, us) →
    0 < more → more ≤ length levels → less ≡ more - 1 → which ≡ get_or levels less which → take_onto start (times_behind m which left us) (is_open n) side_with (take_right m l which (drop more levels)) left us ≡ Some (new, vs) →
    climbed n m l start less levels x ≡ Some (new, vs)
climb_goes n m l start less more levels which x left new us vs so some few last at found =
    ap (λ (rs : List Level). climb (times_behind m) (is_open n) side_with (take_right m l) start rs x) (level_at levels less more which which some few last at)
    ∙ ap (λ o. bind o (λ y. take_onto start (times_behind m which y.0 y.1) (is_open n) side_with (take_right m l which (drop more levels)) y.0 y.1)) so ∙ found

-- with no level left it is the whole table
pub climb_ends : (n : ℕ) (m : Setting) (l : Lower) (start : List Token) (more : ℕ) (levels : List Level) (x : Reading Token Tree) (left : Tree) (us : List Token) → climbed n m l start more levels x ≡ Some (left, us) → more ≡ 0 →
    climb (times_behind m) (is_open n) side_with (take_right m l) start levels x ≡ Some (left, us)
climb_ends n m l start more levels x left us so e = ap (λ k. climb (times_behind m) (is_open n) side_with (take_right m l) start (drop k levels) x) (sym e) ∙ so

-- a level that doesn't come next
pub climb_passes : (n : ℕ) (m : Setting) (l : Lower) (start : List Token) (less more : ℕ) (levels : List Level) (which other : Level) (x : Reading Token Tree) (left : Tree) (us : List Token) (found : Option Level) (comes : Bool) → climbed n m l start more levels x ≡ Some (left, us) →
    0 < more → more ≤ length levels → less ≡ more - 1 → which ≡ get_or levels less other → found ≡ next_level us → comes ≡ is_level which found → comes ≡ false → climbed n m l start less levels x ≡ Some (left, us)
climb_passes n m l start less more levels which other x left us found comes so some few last at next test passed =
    let none : is_level which (next_level us) ≡ false = ap (is_level which) (sym next) ∙ sym test ∙ passed in
    ap (λ (rs : List Level). climb (times_behind m) (is_open n) side_with (take_right m l) start rs x) (level_at levels less more which other some few last at)
    ∙ ap (λ o. bind o (λ y. take_onto start (times_behind m which y.0 y.1) (is_open n) side_with (take_right m l which (drop more levels)) y.0 y.1)) so
    ∙ onto_stays start (times_behind m which left us) (is_open n) side_with (take_right m l which (drop more levels)) left us (no_right m l which (drop more levels) us none)

-- with nothing of a level next it is the whole table
pub climb_done : (n : ℕ) (m : Setting) (l : Lower) (start : List Token) (more : ℕ) (levels : List Level) (x : Reading Token Tree) (left : Tree) (us : List Token) → climbed n m l start more levels x ≡ Some (left, us) → next_level us ≡ None →
    climb (times_behind m) (is_open n) side_with (take_right m l) start levels x ≡ Some (left, us)
climb_done n m l start zero levels x left us so none = so
climb_done n m l start (suc more) [] x left us so none = so
climb_done n m l start (suc more) (r ∷ rs) x left us so none =
    ap (λ o. bind o (λ y. take_onto start (times_behind m r y.0 y.1) (is_open n) side_with (take_right m l r rs) y.0 y.1)) (climb_done n m l start more rs x left us so none)
    ∙ onto_stays start (times_behind m r left us) (is_open n) side_with (take_right m l r rs) left us (no_right m l r rs us (ap (is_level r) none))
