-- Pieces that are added to a cut, and the strings that stay open.
use Rattle.std.proofs.Common.{◌≡◌, ℕ, zero, suc, ◌+◌, ◌-◌, ◌≤◌, ◌<◌, ◌==◌, false, List, [], ◌∷◌, ◌++◌, length, take, drop, if◌then◌else◌, refl, sym, ap, subst, ◌∙◌, arith, length-append, length-drop, length-take, append_assoc, append-nil}
use Rattle.std.specs.Prelude.{All, slice_range}
use Rattle.std.proofs.lemmas.List.{take-take, take-append-le, take_all}
use Rattle.std.proofs.lemmas.List.Elements.{All-push}
use Rattle.std.proofs.lemmas.List.Sums.{sum_by_push}
use Rattle.std.proofs.Math.Seq.{take-add}
use Rattle.dart_scan.specs.declared.piece.Class.{Class}
use Rattle.dart_scan.specs.declared.piece.Class.TheVariants.{StringOpening, StringPart}
use Rattle.dart_scan.specs.declared.piece.Piece.{Piece}
use Rattle.dart_scan.specs.declared.cut.strings.OpenString.{OpenString}
use Rattle.dart_scan.specs.Pieces.{Spelled, spelled, part_before}
use Rattle.dart_scan.specs.Openings.{shape}
use Rattle.dart_scan.specs.Cutting.{Cut, rest_of, size_of, all_suspended, Nested, added, with_part}
use Rattle.dart_scan.proofs.RangeLemmas.{range-take, spelled-push}

-- Strings that stay open don't change while pieces are added.

pub same-front : (k s : ℕ) (pieces base : List Piece) → take k pieces ≡ base → s ≤ length base → take s pieces ≡ take s base
same-front k s pieces base e h =
    let few : s ≤ k = omega (arith, h, ap length e, length-take k pieces) in
    sym (take-take s k pieces few) ∙ ap (take s) e

pub all-same : (text : List ℕ) (k : ℕ) (pieces base : List Piece) (end braces : ℕ) (opened : List OpenString) → take k pieces ≡ base → Nested text base end opened
    → all_suspended text pieces end braces opened ≡ all_suspended text base end braces opened
unfolding all_suspended Nested
all-same text k pieces base end braces [] e n = refl
all-same text k pieces base end braces (string ∷ around) e n =
    ap (λ ps. record { form = shape string.form; before = spelled ps text; reach = slice_range text string.start end; beyond = slice_range text end string.outside; braces = braces } ∷ all_suspended text ps string.outside string.braces around)
    (same-front k string.pieces pieces base e n.0.few)

pub nested-same : (text : List ℕ) (k : ℕ) (pieces base : List Piece) (end : ℕ) (opened : List OpenString) → take k pieces ≡ base → Nested text base end opened → Nested text pieces end opened
unfolding Nested
nested-same text k pieces base end [] e n = n
nested-same text k pieces base end (string ∷ around) e n =
    let same : take string.pieces pieces ≡ take string.pieces base = same-front k string.pieces pieces base e n.0.few in (
      record {
        some = n.0.some;
        short = n.0.short;
        few = omega (arith, n.0.few, ap length e, length-take k pieces);
        start = ap size_of same ∙ n.0.start;
        forward = n.0.forward;
        outside = n.0.outside;
        braces = n.0.braces;
      },
      subst (λ ps. Nested text ps string.outside around) (sym same) n.1,
    )

pub nested-within : (text : List ℕ) (pieces : List Piece) (end : ℕ) (opened : List OpenString) → Nested text pieces end opened → end ≤ length text
unfolding Nested
nested-within text pieces end [] n = omega (arith, n)
nested-within text pieces end (string ∷ around) n = omega (arith, n.0.outside, nested-within text (take string.pieces pieces) string.outside around n.1)

-- the pieces are as many bytes as stand before the next one
pub record Counted (cut : Cut) : Type 0 where
  pub pieces : size_of cut.pieces ≡ cut.at
  pub some : All (λ piece. 0 < piece.size) cut.pieces

-- A cut grows by pieces.
pub record Grows (old new : Cut) (ps : List Spelled) : Type 0 where
  pub counted : Counted new
  pub spells : spelled new.pieces old.text ≡ spelled old.pieces old.text ++ ps
  pub kept : take (length old.pieces) new.pieces ≡ old.pieces
  pub more : length old.pieces ≤ length new.pieces

pub grows-added : (old : Cut) (class : Class) (size : ℕ) → Counted old → 1 ≤ size → size ≤ old.end - old.at → Grows old (added class size old) ((class, take size (rest_of old)) ∷ [])
grows-added old class size c some within = record {
  counted = record {
    pieces = sum_by_push (λ (p : Piece). p.size) old.pieces (record { class = class; size = size }) ∙ ap (λ n. n + size) c.pieces;
    some = All-push (λ (p : Piece). 0 < p.size) old.pieces (record { class = class; size = size }) c.some some;
  };
  spells = spelled-push old.pieces (record { class = class; size = size }) old.text
      ∙ ap (λ bytes. spelled old.pieces old.text ++ (class, bytes) ∷ []) (ap (λ n. take size (drop n old.text)) c.pieces ∙ sym (range-take old.text old.at old.end size within));
  kept = take-append-le (length old.pieces) old.pieces (record { class = class; size = size } ∷ []) (omega arith) ∙ take_all (length old.pieces) old.pieces (omega arith);
  more = omega (arith, length-append old.pieces (record { class = class; size = size } ∷ []));
}

pub grows-twice : (old between new : Cut) (ps qs : List Spelled) → between.text ≡ old.text → Grows old between ps → Grows between new qs → Grows old new (ps ++ qs)
grows-twice old between new ps qs e f g = record {
  counted = g.counted;
  spells = sym (ap (spelled new.pieces) e) ∙ g.spells ∙ ap (λ t. spelled between.pieces t ++ qs) e ∙ ap (λ xs. xs ++ qs) f.spells ∙ append_assoc (spelled old.pieces old.text) ps qs;
  kept = same-front (length between.pieces) (length old.pieces) new.pieces between.pieces g.kept f.more ∙ f.kept;
  more = omega (arith, f.more, g.more);
}

-- The part of a string before an interpolation.

part-is : (begun plain : List ℕ) → 1 ≤ length begun + length plain → part_before begun plain ≡ ((if length begun == 0 then StringPart else StringOpening), begun ++ plain) ∷ []
part-is [] [] h = absurd (omega (arith, h))
part-is [] (b ∷ plain) h = refl
part-is (b ∷ begun) plain h = let test : (suc (length begun) == 0) ≡ false = grind arith in rw test refl

pub part-at : (begun size : ℕ) (cut : Cut) → (with_part begun size cut).at ≡ cut.at + size
part-at begun zero cut = omega arith
part-at begun (suc size) cut = let test : (suc size == 0) ≡ false = grind arith in rw test refl

pub part-text : (begun size : ℕ) (cut : Cut) → (with_part begun size cut).text ≡ cut.text
part-text begun zero cut = refl
part-text begun (suc size) cut = let test : (suc size == 0) ≡ false = grind arith in rw test refl

pub part-end : (begun size : ℕ) (cut : Cut) → (with_part begun size cut).end ≡ cut.end
part-end begun zero cut = refl
part-end begun (suc size) cut = let test : (suc size == 0) ≡ false = grind arith in rw test refl

pub part-line : (begun size : ℕ) (cut : Cut) → (with_part begun size cut).line ≡ cut.line
part-line begun zero cut = refl
part-line begun (suc size) cut = let test : (suc size == 0) ≡ false = grind arith in rw test refl

-- no bytes are no part
no-part : (begun plain : List ℕ) → length begun + length plain ≡ 0 → part_before begun plain ≡ []
no-part [] [] h = refl
no-part [] (b ∷ plain) h = absurd (omega (arith, h))
no-part (b ∷ begun) plain h = absurd (omega (arith, h))

grows-none : (old : Cut) (ps : List Spelled) → Counted old → ps ≡ [] → Grows old old ps
grows-none old ps c e = record {
  counted = c;
  spells = sym (append-nil (spelled old.pieces old.text)) ∙ ap (λ qs. spelled old.pieces old.text ++ qs) (sym e);
  kept = take_all (length old.pieces) old.pieces (omega arith);
  more = omega arith;
}

pub grows-part : (old : Cut) (begun size : ℕ) → Counted old → begun + size ≤ length (rest_of old) → length (rest_of old) ≡ old.end - old.at
    → Grows old (with_part begun (begun + size) old) (part_before (take begun (rest_of old)) (take size (drop begun (rest_of old))))
grows-part old begun size c within sized =
    of (begun + size) refl
  where
    front : length (take begun (rest_of old)) ≡ begun
    front = omega (arith, within, length-take begun (rest_of old))

    back : length (take size (drop begun (rest_of old))) ≡ size
    back = omega (arith, within, length-take size (drop begun (rest_of old)), length-drop begun (rest_of old))

    joined : take begun (rest_of old) ++ take size (drop begun (rest_of old)) ≡ take (begun + size) (rest_of old)
    joined = sym (take-add begun size (rest_of old))

    of : (all : ℕ) → begun + size ≡ all → Grows old (with_part begun all old) (part_before (take begun (rest_of old)) (take size (drop begun (rest_of old))))
    of zero e = grows-none old _ c (no-part (take begun (rest_of old)) (take size (drop begun (rest_of old))) (omega (arith, front, back, e)))
    of (suc n) e =
        let fits : suc n ≤ old.end - old.at = omega (arith, within, sized, e) in
        let some : 1 ≤ length (take begun (rest_of old)) + length (take size (drop begun (rest_of old))) = omega (arith, front, back, e) in
        let test : (suc n == 0) ≡ false = grind arith in
        let is : added (if begun == 0 then StringPart else StringOpening) (suc n) old ≡ with_part begun (suc n) old = rw test refl in
        subst (λ new. Grows old new (part_before (take begun (rest_of old)) (take size (drop begun (rest_of old))))) is
        (subst (λ ps. Grows old (added (if begun == 0 then StringPart else StringOpening) (suc n) old) ps)
        (sym (part-is (take begun (rest_of old)) (take size (drop begun (rest_of old))) some
        ∙ ap (λ m. ((if m == 0 then StringPart else StringOpening), take begun (rest_of old) ++ take size (drop begun (rest_of old))) ∷ []) front
        ∙ ap (λ bytes. ((if begun == 0 then StringPart else StringOpening), bytes) ∷ []) (joined ∙ ap (λ m. take m (rest_of old)) e)))
        (grows-added old (if begun == 0 then StringPart else StringOpening) (suc n) c (omega arith) fits))
