use Rattle.std.proofs.Common.{ℕ, false, sym, ap, ◌∙◌, arith}
use Rattle.dart_scan.specs.declared.piece.Class.TheVariants.{Word}
use Rattle.dart_scan.specs.declared.piece.Piece.{Piece}
use Rattle.dart_scan.specs.PieceLemmas.{piece_least}
use Rattle.dart_scan.proofs.FirstByteLemmas.{word_first, comment_first, mark_first}
use Rattle.dart_scan.proofs.cut.lexeme.piece_at.Goals as goal

abbrev word_of : ℕ → Piece
word_of size = record { class = Word; size = size }

pub returns-then-word-gt0-clause-piece : goal.returns-then-word-gt0-clause-piece
returns-then-word-gt0-clause-piece c =
    let size = c.word_size-word.ensures.size in
    ap word_of size ∙ sym (word_first c.args.text.now (omega (arith, size, c.if-word-gt0.true)))

pub returns-then-begins_beside_marks-clause-piece : goal.returns-then-begins_beside_marks-clause-piece
returns-then-begins_beside_marks-clause-piece c =
    c.comment_or_lexeme.ensures.piece
    ∙ sym (comment_first c.args.text.now (omega (arith, c.word_size-word.ensures.size, c.if-word-gt0.false)) (omega (arith, c.blanks-blanks.ensures.size, c.if-blanks-gt0.false)))

pub returns-then-begins_beside_marks-clause-some : goal.returns-then-begins_beside_marks-clause-some
returns-then-begins_beside_marks-clause-some c =
    let same = c.comment_or_lexeme.ensures.piece
    ∙ sym (comment_first c.args.text.now (omega (arith, c.word_size-word.ensures.size, c.if-word-gt0.false)) (omega (arith, c.blanks-blanks.ensures.size, c.if-blanks-gt0.false))) in
    omega (arith, ap (λ (p : Piece). p.size) same, piece_least false c.args.text.now c.requires)

pub returns-clause-piece : goal.returns-clause-piece
returns-clause-piece c =
    c.mark.ensures.piece
    ∙ sym (mark_first c.args.text.now c.requires (omega (arith, c.word_size-word.ensures.size, c.if-word-gt0.false)) (omega (arith, c.blanks-blanks.ensures.size, c.if-blanks-gt0.false))
    (sym c.begins_beside_marks.ensures ∙ c.if-begins_beside_marks.false))
