-- The tokens of a segment: so many before it, and so many in it.
use Rattle.std.proofs.Common.{◌≡◌, ℕ, zero, suc, ◌+◌, ◌<◌, ◌≤◌, Bool, true, false, not, ◌&&◌, nat_lt, if◌then◌else◌, List, [], ◌∷◌, length, refl, ap, ◌∙◌, arith}
use Rattle.std.specs.List.{AllWithin, filter}
use Rattle.dart_tree.specs.declared.places.Place.{Place}
use Rattle.dart_tokens.specs.declared.grouped_token.GroupedToken.{GroupedToken as Token}
use Rattle.grammar.specs.Whole.{tokens_over}
use Rattle.segment_faults.specs.declared.fault.SegmentFault.{SegmentFault}
use Rattle.segment_faults.specs.Faults.{fault_of}
use Rattle.dart_parse.specs.declared.faults.TreeFault.{TreeFault}
use Rattle.dart_parse.specs.Faults.{begin_before, fault_over}

counted_by : (p : Token → Bool) (xs : List Token) (n : ℕ) → n ≤ length xs → AllWithin (λ t. p t ≡ true) xs 0 n → AllWithin (λ t. p t ≡ false) xs n (length xs) → n ≡ length (filter p xs)
counted_by p [] zero few before behind = refl
counted_by p [] (suc n) few before behind = absurd (omega (arith, few))
counted_by p (x ∷ xs) zero few before behind =
    rw (behind 0 x (omega arith) (omega arith)) (counted_by p xs 0 (omega arith) (λ k d low high. absurd (omega (arith, high))) (λ k d low high. behind (suc k) d (omega arith) (omega (arith, high))))
counted_by p (x ∷ xs) (suc n) few before behind =
    rw (before 0 x (omega arith) (omega arith))
    (ap suc (counted_by p xs n (omega (arith, few)) (λ k d low high. before (suc k) d (omega arith) (omega (arith, high))) (λ k d low high. behind (suc k) d (omega (arith, low)) (omega (arith, high)))))

-- those that begin before an offset
pub counted : (offset : ℕ) (text : List Token) (n : ℕ) → n ≤ length text → AllWithin (λ t. nat_lt t.start offset ≡ true) text 0 n → AllWithin (λ t. nat_lt t.start offset ≡ false) text n (length text) → n ≡ begin_before offset text
counted offset text n few before behind = counted_by (λ t. nat_lt t.start offset) text n few before behind

one_more : (a b : Bool) (vs us : List Token) (m : ℕ) (t : Token) → length vs + length us ≤ m → length (if a then t ∷ vs else vs) + length (if not a && b then t ∷ us else us) ≤ suc m
one_more true b vs us m t h = omega (arith, h)
one_more false true vs us m t h = omega (arith, h)
one_more false false vs us m t h = omega (arith, h)

-- those before a place and those at it are no more than all
pub within : (text : List Token) (at : Place) → begin_before at.span.start text + length (tokens_over text at) ≤ length text
within [] at = omega arith
within (t ∷ ts) at = one_more (nat_lt t.start at.span.start) (nat_lt t.start at.span.end) (filter (λ u. nat_lt u.start at.span.start) ts) (tokens_over ts at) (length ts) t (within ts at)

abbrev here : Place → SegmentFault → TreeFault
here at fault = record { span = at.span; fault = fault }

-- what is wrong with a segment that is known by these numbers
pub told : (text : List Token) (at : Place) (first count : ℕ) (fault : SegmentFault) → first ≡ begin_before at.span.start text → count ≡ length (tokens_over text at) → fault ≡ fault_of text first count → here at fault ≡ fault_over text at
told text at first count fault before over found =
    ap (here at) (found ∙ ap (λ n. fault_of text n count) before ∙ ap (fault_of text (begin_before at.span.start text)) over)
