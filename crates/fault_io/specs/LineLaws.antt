-- Laws of the definitions on lines and readings.
use Rattle.std.specs.Prelude.{◌≡◌, ℕ, ◌+◌, ◌-◌, ◌≤◌, Bool, true, false, List, [], ◌∷◌, ◌++◌, take, drop, refl}
use Rattle.std.proofs.Common.{eqb, sym, ◌∙◌, ap, arith, append_assoc}
use Rattle.std.proofs.lemmas.Bool.{or_parts}
use Rattle.std.proofs.Math.Seq.{take-add}
use Rattle.fault_io.specs.Lines.{has_line_feed, lines_of, begin_line}
use Rattle.fault_io.specs.Reading.{Reading, unread}

-- the lines of a line that ends, and what follows
pub lines_of-line : (ended : Bool) (line rest : List ℕ) → has_line_feed line ≡ false → lines_of ended (line ++ 10 ∷ rest) ≡ line ∷ lines_of ended rest
lines_of-line ended [] rest h = refl
lines_of-line ended (x ∷ line) rest h =
    let p = or_parts (eqb x 10) (has_line_feed line) h in
    let f : eqb x 10 ≡ false = p.0 in
    rw f (ap (λ ls. begin_line ended x ls) (lines_of-line ended line rest p.1))

-- bytes that don't end their line are none
pub lines_of-open : (xs : List ℕ) → has_line_feed xs ≡ false → lines_of false xs ≡ []
lines_of-open [] h = refl
lines_of-open (x ∷ xs) h =
    let p = or_parts (eqb x 10) (has_line_feed xs) h in
    let f : eqb x 10 ≡ false = p.0 in
    rw f (ap (λ ls. begin_line false x ls) (lines_of-open xs p.1))

-- at the end of all bytes they are one
pub lines_of-last : (x : ℕ) (xs : List ℕ) → has_line_feed (x ∷ xs) ≡ false → lines_of true (x ∷ xs) ≡ (x ∷ xs) ∷ []
lines_of-last x [] h =
    let p = or_parts (eqb x 10) false h in
    let f : eqb x 10 ≡ false = p.0 in
    rw f refl
lines_of-last x (y ∷ ys) h =
    let p = or_parts (eqb x 10) (has_line_feed (y ∷ ys)) h in
    let f : eqb x 10 ≡ false = p.0 in
    rw f (ap (λ ls. begin_line true x ls) (lines_of-last y ys p.1))

-- what is unread at first: what was taken since, and what is unread after that
pub unread_split : (r0 r : Reading) (xs : List ℕ) → r.budget ≡ r0.budget → r0.taken ≤ r.taken → r.taken ≤ r.budget
    → unread r0 xs ≡ (r0.kept ++ take (r.taken - r0.taken) xs) ++ take (r.budget - r.taken) (drop (r.taken - r0.taken) xs)
unread_split r0 r xs b t w =
    let e : r0.budget - r0.taken ≡ (r.taken - r0.taken) + (r.budget - r.taken) = omega arith in
    let s : take (r0.budget - r0.taken) xs ≡ take (r.taken - r0.taken) xs ++ take (r.budget - r.taken) (drop (r.taken - r0.taken) xs) = rw e (take-add (r.taken - r0.taken) (r.budget - r.taken) xs) in
    ap (λ ys. r0.kept ++ ys) s ∙ sym (append_assoc r0.kept _ _)
