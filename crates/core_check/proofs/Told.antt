-- What a check tells of the faults of several parts.
use Rattle.std.proofs.Common.{◌≡◌, ℕ, zero, suc, ◌<◌, List, [], ◌∷◌, ◌++◌, length, get_or, drop, arith, sym, ◌∙◌, ap, subst, drop-cons, below_more}
use Rattle.std.specs.Prelude.{flat_map, Result, Ok, Err, IsErrAnd}
use Rattle.core_check.specs.Faults.{Fault, of_slots}
use Rattle.core_check.specs.declared.misses.Miss.{Miss}
use Rattle.core_check.specs.declared.misses.Miss.TheVariants.{Fails, Memory}
use Rattle.core_check.specs.Checks.{IsFor, Tells}

-- a result that holds a miss tells of what the miss is for
pub told : (r : Result (Unit {0}) Miss) (miss : Miss) (faults : List Fault) → IsErrAnd r (λ e. e ≡ miss) → IsFor miss faults → Tells r faults
told (Ok _) miss faults e h = absurd e
told (Err found) miss faults e h = subst (λ (m : Miss). IsFor m faults) (sym e) h

-- a miss for the first of some faults is for the first of these and more
pub for_front : (miss : Miss) (xs ys : List Fault) → IsFor miss xs → IsFor miss (xs ++ ys)
for_front (Fails e f) [] ys h = absurd cc
for_front (Fails e f) (x ∷ xs) ys h = h
for_front Memory xs ys h = tt

-- a miss for the first of some faults is for the first of all, where there are none before these
pub for_behind : (miss : Miss) (xs ys : List Fault) → xs ≡ [] → IsFor miss ys → IsFor miss (xs ++ ys)
for_behind miss xs ys e h = subst (λ (zs : List Fault). IsFor miss (zs ++ ys)) (sym e) h

-- a miss for a slot is for all slots, where those before it have no faults
pub for_slot : (miss : Miss) (n i : ℕ) (faults : ℕ → List Fault) → i < n → of_slots i faults ≡ [] → IsFor miss (faults i) → IsFor miss (of_slots n faults)
for_slot miss zero i faults lt e h = absurd (omega arith)
for_slot miss (suc n) i faults lt e h =
    below_more (λ k. of_slots k faults ≡ [] → IsFor miss (faults k) → IsFor miss (of_slots n faults ++ faults n)) n
    (λ k below none found. for_front miss (of_slots n faults) (faults n) (for_slot miss n k faults below none found))
    (λ none found. for_behind miss (of_slots n faults) (faults n) none found)
    i (omega arith) e h

-- a miss for one item is for all, where those before it have no faults
pub for_item : {X : Type 0} (faults : X → List Fault) (xs : List X) (i : ℕ) (x : X) (miss : Miss) → i < length xs → x ≡ get_or xs i x → flat_map faults xs ≡ flat_map faults (drop i xs) → IsFor miss (faults x) → IsFor miss (flat_map faults xs)
for_item faults xs i x miss lt is e h =
    subst (IsFor miss)
    (sym (e ∙ ap (λ l. flat_map faults l) (drop-cons xs i x lt ∙ ap (λ y. y ∷ drop (suc i) xs) (sym is))))
    (for_front miss (faults x) (flat_map faults (drop (suc i) xs)) h)
