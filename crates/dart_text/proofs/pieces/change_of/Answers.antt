use Rattle.std.proofs.Common.{◌≡◌, ◌+◌, length, inr, refl, sym, ap, ◌∙◌, List, ℕ, arith}
use Rattle.std.specs.List.{replace_range}
use Rattle.std.proofs.lemmas.Result.{err_from_is_err_and}
use Rattle.dart_text.proofs.PieceLemmas.{units_in-le, past_all, middle_fits, middle_ends, middle_refused, part_within, too_long, is_change}
use Rattle.dart_text.proofs.pieces.change_of.Goals as goal

pub returns-then-end-all-clause-err : goal.returns-then-end-all-clause-err
returns-then-end-all-clause-err c =
    inr
    (past_all c.args.pieces.now c.args.offset c.args.count c.saturating_add-end.result c.measured-all.result.units c.args.with.now c.measured-all.ensures.units c.saturating_add-end.ensures c.if-end-all.true)

pub joined-requires : goal.joined-requires
joined-requires c = middle_fits c.args.pieces.now c.requires c.front_before-front.result c.pieces_to-last.result c.front_before-front.ensures.front c.pieces_to-last.ensures.onward

pub part_of-requires-clause-short : goal.part_of-requires-clause-short
part_of-requires-clause-short c =
    let fits = middle_fits c.args.pieces.now c.requires c.front_before-front.result c.pieces_to-last.result c.front_before-front.ensures.front c.pieces_to-last.ensures.onward in
    omega (arith, ap (λ (l : List ℕ). length l) (c.as_str.ensures.value ∙ c.in_ok-text.ensures))

pub part_of-requires-clause-ends : goal.part_of-requires-clause-ends
part_of-requires-clause-ends c =
    middle_ends c.args.pieces.now c.requires c.front_before-front.result c.pieces_to-last.result c.front_before-front.ensures.front c.pieces_to-last.ensures.onward c.as_str.result.now (c.as_str.ensures.value ∙ c.in_ok-text.ensures)
    c.saturating_add-end.result c.pieces_to-last.ensures.reached

pub returns-in_err-part-clause-err : goal.returns-in_err-part-clause-err
returns-in_err-part-clause-err c =
    let sum : c.saturating_add-end.result ≡ c.args.offset + c.args.count = omega (arith, c.saturating_add-end.ensures, c.measured-all.ensures.units, units_in-le c.args.pieces.now) in
    let left = err_from_is_err_and c.from_residual-in_err-part.result c.from_residual-in_err-part.ensures.1 in
    rw (left.1, left.2)
    (inr
    (middle_refused c.args.pieces.now c.requires c.front_before-front.result c.pieces_to-last.result c.front_before-front.ensures.front c.pieces_to-last.ensures.onward c.as_str.result.now (c.as_str.ensures.value ∙ c.in_ok-text.ensures)
    c.args.offset c.args.count c.saturating_add-end.result sum c.args.with.now c.in_err-part.field-0.0 c.in_err-part.ensures.err))

pub overflow_sub-bytes-2 : goal.overflow_sub-bytes-2
overflow_sub-bytes-2 c =
    let sum : c.saturating_add-end.result ≡ c.args.offset + c.args.count = omega (arith, c.saturating_add-end.ensures, c.measured-all.ensures.units, units_in-le c.args.pieces.now) in
    omega (
      arith,
      c.measured-all.ensures.bytes,
      part_within c.args.pieces.now c.requires c.front_before-front.result c.pieces_to-last.result c.front_before-front.ensures.front c.pieces_to-last.ensures.onward c.as_str.result.now (c.as_str.ensures.value ∙ c.in_ok-text.ensures)
          c.args.offset c.args.count c.saturating_add-end.result sum c.in_ok-part.part c.in_ok-part.ensures.ok c.args.with.now c.utf8.with,
    )

pub returns-then-bytes-gt-MAX_TEXT-clause-err : goal.returns-then-bytes-gt-MAX_TEXT-clause-err
returns-then-bytes-gt-MAX_TEXT-clause-err c =
    let sum : c.saturating_add-end.result ≡ c.args.offset + c.args.count = omega (arith, c.saturating_add-end.ensures, c.measured-all.ensures.units, units_in-le c.args.pieces.now) in
    inr
    (too_long c.args.pieces.now c.requires c.front_before-front.result c.pieces_to-last.result c.front_before-front.ensures.front c.pieces_to-last.ensures.onward c.as_str.result.now (c.as_str.ensures.value ∙ c.in_ok-text.ensures)
    c.args.offset c.args.count c.saturating_add-end.result sum c.in_ok-part.part c.in_ok-part.ensures.ok c.args.with.now c.utf8.with _
    (omega (arith, c.measured-all.ensures.bytes)) (omega arith))

pub returns-clause-ok : goal.returns-clause-ok
returns-clause-ok c =
    let sum : c.saturating_add-end.result ≡ c.args.offset + c.args.count = omega (arith, c.saturating_add-end.ensures, c.measured-all.ensures.units, units_in-le c.args.pieces.now) in
    is_change c.args.pieces.now c.requires c.front_before-front.result c.pieces_to-last.result c.front_before-front.ensures.front c.pieces_to-last.ensures.onward c.as_str.result.now (c.as_str.ensures.value ∙ c.in_ok-text.ensures)
    c.args.offset c.args.count c.saturating_add-end.result sum c.in_ok-part.part c.in_ok-part.ensures.ok c.args.with.now c.utf8.with
    (record { first = c.front_before-front.result.pieces; last = c.pieces_to-last.result; text = c.replace_range.new.self }) refl refl c.pieces_to-last.ensures.within
    (c.in_ok-replace_range.ensures.bytes ∙ ap (λ (l : List ℕ). replace_range l c.in_ok-part.part.start c.in_ok-part.part.end c.args.with.now) (sym c.as_str.ensures.value))
    (omega (arith, c.measured-all.ensures.bytes))
