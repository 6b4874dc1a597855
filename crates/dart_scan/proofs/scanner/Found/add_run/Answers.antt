use Rattle.std.proofs.Common.{◌≡◌, ◌+◌, ◌<◌, ℕ, List, get_or, sym, ap, ◌∙◌, subst, arith}
use Rattle.std.specs.Str.{IsAscii, IsUtf8, IsCharBoundary}
use Rattle.std.proofs.lemmas.List.{get_or_default}
use Rattle.std.proofs.lemmas.Str.{IsAscii-drop, IsAscii-take, IsUtf8-drop}
use Rattle.dart_scan.specs.declared.piece.Class.TheVariants.{Gap}
use Rattle.dart_scan.specs.declared.piece.Piece.{Piece}
use Rattle.dart_scan.specs.StringTexts.{AreTexts}
use Rattle.dart_scan.proofs.ScanLemmas.{ahead, Turn, next_boundary, texts-next, size-next, size-from, tokens-turn, words-turn, faults-turn, tokens-run, words-run, faults-run}
use Rattle.dart_scan.proofs.scanner.Found.add_run.Goals as goal

pub split_at-requires : goal.split_at-requires
split_at-requires c =
    let list = c.args.run.now in
    let piece : Piece = get_or list c.loop-piece.piece-index (record { class = Gap; size = 0 }) in
    next_boundary list c.loop-piece.piece-index piece c.loop-piece.rest.now c.loop-piece-test.true (get_or_default list c.loop-piece.piece-index _ piece c.loop-piece-test.true)
    c.loop-piece.invariant.cover c.loop-piece.invariant.utf8 c.loop-piece.invariant.texts

pub units_in-requires : goal.units_in-requires
units_in-requires c = λ is. let U : List ℕ → Type 0 = IsAscii in subst U (sym c.split_at.ensures.front) (IsAscii-take c.loop-piece.rest.now _ (c.loop-piece.invariant.ascii is))

pub loop-piece-preserved : goal.loop-piece-preserved
loop-piece-preserved c =
    let list = c.args.run.now in
    let at = c.loop-piece.piece-index in
    let rest = c.loop-piece.rest.now in
    let bytes = c.split_at.result.0.now in
    let after = c.split_at.result.1.now in
    let end = c.loop-piece.start + c.units_in.result in
    let piece : Piece = get_or list at (record { class = Gap; size = 0 }) in
    let here : piece ≡ get_or list at piece = get_or_default list at (record { class = Gap; size = 0 }) piece c.loop-piece-test.true in
    let turn : Turn list at piece c.loop-piece.start rest bytes after end = record {
      within = c.loop-piece-test.true;
      here = here;
      front = c.split_at.ensures.front;
      back = c.split_at.ensures.back;
      end_is = ap (λ n. c.loop-piece.start + n) c.units_in.ensures.count;
    } in
    let size = size-next list at piece c.loop-piece-test.true here in
    let boundary : IsCharBoundary rest piece.size = next_boundary list at piece rest c.loop-piece-test.true here c.loop-piece.invariant.cover c.loop-piece.invariant.utf8 c.loop-piece.invariant.texts in
    let texts = texts-next list at piece rest c.loop-piece-test.true here c.loop-piece.invariant.texts in
    let some : 0 < piece.size = c.requires.some at (record { class = Gap; size = 0 }) c.loop-piece-test.true in
    let T : List ℕ → Type 0 = IsUtf8 in
    let U : List ℕ → Type 0 = IsAscii in
    let A : List ℕ → Type 0 = λ more. AreTexts (ahead list (at + 1) more) in
    record {
      place = c.split_at.ensures.back ∙ size-from list at piece c.args.text.now rest c.loop-piece-test.true here c.loop-piece.invariant.place;
      within = omega (arith, c.loop-piece.invariant.within, c.split_at.ensures.front_len, c.split_at.ensures.back_len, c.units_in.ensures.within);
      cover = omega (arith, size, c.loop-piece.invariant.cover, c.split_at.ensures.back_len);
      few_words = omega (arith, c.loop-piece.invariant.few_words, c.in_ok-add.ensures.few_words, c.split_at.ensures.back_len, some);
      few_tokens = omega (arith, c.loop-piece.invariant.few_tokens, c.in_ok-add.ensures.few_tokens, c.split_at.ensures.back_len, some);
      ascii = λ is. subst U (sym c.split_at.ensures.back) (IsAscii-drop rest piece.size (c.loop-piece.invariant.ascii is));
      utf8 = subst T (sym c.split_at.ensures.back) (IsUtf8-drop rest piece.size c.loop-piece.invariant.utf8 boundary);
      texts = subst A (sym c.split_at.ensures.back) texts.1;
      tokens = λ later. tokens-turn list at piece c.loop-piece.start rest bytes after end _ _ _ _ _ turn c.in_ok-add.ensures.tokens c.in_ok-add.ensures.words later (c.loop-piece.invariant.tokens later);
      words = λ later. words-turn list at piece c.loop-piece.start rest bytes after end _ _ _ turn c.in_ok-add.ensures.words later (c.loop-piece.invariant.words later);
      faults = λ later. faults-turn list at piece c.loop-piece.start rest bytes after end _ _ _ turn c.in_ok-add.ensures.faults later (c.loop-piece.invariant.faults later);
    }

pub returns-clause-tokens : goal.returns-clause-tokens
returns-clause-tokens c = λ later. tokens-run c.args.run.now c.loop-piece.piece-index c.loop-piece.start c.loop-piece.rest.now later _ _ _ c.loop-piece-test.false (c.loop-piece.invariant.tokens later)

pub returns-clause-words : goal.returns-clause-words
returns-clause-words c = λ later. words-run c.args.run.now c.loop-piece.piece-index c.loop-piece.start c.loop-piece.rest.now later _ _ c.loop-piece-test.false (c.loop-piece.invariant.words later)

pub returns-clause-faults : goal.returns-clause-faults
returns-clause-faults c = λ later. faults-run c.args.run.now c.loop-piece.piece-index c.loop-piece.start c.loop-piece.rest.now later _ _ c.loop-piece-test.false (c.loop-piece.invariant.faults later)
