use Rattle.std.proofs.Common.{◌≡◌, ◌<◌, ◌++◌, ℕ, List, [], length, drop, sym, ap, ◌∙◌, subst, arith, IfOk, length-drop, vec_len}
use Rattle.std.specs.Prelude.{Bool, MatchBool}
use Rattle.std.specs.Str.{IsAscii, IsNotAscii, IsUtf8}
use Rattle.std.proofs.lemmas.Bool.{eqb-true, eqb-false}
use Rattle.std.proofs.lemmas.Str.{IsAscii-drop}
use Rattle.dart_tokens.specs.declared.token.Token.{Token}
use Rattle.dart_tokens.specs.declared.scanned.LexFault.{LexFault}
use Rattle.dart_tokens.specs.Groups.{faults_of as faults_of_groups}
use Rattle.dart_scan.specs.declared.piece.Piece.{Piece}
use Rattle.dart_scan.specs.Cutting.{size_of, to_come}
use Rattle.dart_scan.specs.Pieces.{Spelled, spelled, pieces}
use Rattle.dart_scan.specs.Runs.{IsRun}
use Rattle.dart_scan.specs.Scanned.{lexemes_from, tokens_behind, words_behind, faults_from}
use Rattle.dart_scan.specs.StringTexts.{AreTexts, pieces-texts}
use Rattle.dart_scan.proofs.RunLemmas.{run_here, run_left}
use Rattle.dart_scan.proofs.ScanLemmas.{tokens-begin, words-begin, faults-begin, tokens-end, words-end, faults-end, texts-parts, some-size, no_pieces}
use Rattle.dart_scan.proofs.scanner.scan_grouped.Goals as goal

pub runs-init : goal.runs-init
runs-init c =
    let text = c.args.text.now in
    let lent = c.as_str-text.result.now in
    let same : c.as_bytes.result.now ≡ text = c.as_bytes.ensures.value ∙ c.as_str-text.ensures.same in
    let come : to_come c.in_ok-cutting.cutting ≡ pieces text = c.in_ok-cutting.ensures.same ∙ ap pieces same in
    let U : List ℕ → Type 0 = IsUtf8 in
    record {
      sound = c.in_ok-cutting.ensures.sound;
      text = c.in_ok-cutting.ensures.text ∙ c.as_bytes.ensures.value;
      within = omega (arith, ap length c.as_str-text.ensures.same);
      few_words = omega (arith, ap length c.as_str-text.ensures.same, ap length c.new.ensures);
      few_tokens = omega (arith, ap length c.as_str-text.ensures.same, ap length c.in_ok-with_room.ensures);
      ascii = λ is. subst (λ (b : Bool). MatchBool b (IsAscii lent) (IsNotAscii lent)) is c.is_ascii-is_ascii.ensures.cases;
      utf8 = c.as_str-text.utf8;
      texts = subst AreTexts (sym come) (pieces-texts text (subst U c.as_str-text.ensures.same c.as_str-text.utf8));
      tokens = tokens-begin text _ _ _ come c.in_ok-with_room.ensures c.new.ensures;
      words = words-begin text _ _ come c.new.ensures;
      faults = faults-begin text _ _ come c.new-2.ensures.items;
    }

pub returns-then-is_empty-clause-tokens : goal.returns-then-is_empty-clause-tokens
returns-then-is_empty-clause-tokens c =
    let run = c.in_ok-run.run' in
    let none : length run.items ≡ 0 = omega (arith, eqb-true (vec_len run) 0 (sym c.is_empty.ensures ∙ c.if-is_empty.true), run.ok.0) in
    let over : to_come c.runs.cutting ≡ [] = (c.in_ok-run.ensures.last (no_pieces run.items none)).1 in
    let P : List Token → Type 0 = λ tokens. IfOk c.finished.result (λ read. read.tokens ≡ tokens) in
    subst P (tokens-end _ c.runs.start _ _ _ over c.runs.invariant.tokens) c.finished.ensures.tokens

pub returns-then-is_empty-clause-groups : goal.returns-then-is_empty-clause-groups
returns-then-is_empty-clause-groups c =
    let run = c.in_ok-run.run' in
    let none : length run.items ≡ 0 = omega (arith, eqb-true (vec_len run) 0 (sym c.is_empty.ensures ∙ c.if-is_empty.true), run.ok.0) in
    let over : to_come c.runs.cutting ≡ [] = (c.in_ok-run.ensures.last (no_pieces run.items none)).1 in
    let P : List Token → Type 0 = λ tokens. IfOk c.finished.result (λ read. read.group_faults ≡ faults_of_groups tokens) in
    subst P (tokens-end _ c.runs.start _ _ _ over c.runs.invariant.tokens) c.finished.ensures.groups

pub returns-then-is_empty-clause-words : goal.returns-then-is_empty-clause-words
returns-then-is_empty-clause-words c =
    let run = c.in_ok-run.run' in
    let none : length run.items ≡ 0 = omega (arith, eqb-true (vec_len run) 0 (sym c.is_empty.ensures ∙ c.if-is_empty.true), run.ok.0) in
    let over : to_come c.runs.cutting ≡ [] = (c.in_ok-run.ensures.last (no_pieces run.items none)).1 in
    let P : List (List ℕ) → Type 0 = λ words. IfOk c.finished.result (λ read. read.words ≡ words) in
    subst P (words-end _ c.runs.start _ _ over c.runs.invariant.words) c.finished.ensures.words

pub returns-then-is_empty-clause-faults : goal.returns-then-is_empty-clause-faults
returns-then-is_empty-clause-faults c =
    let run = c.in_ok-run.run' in
    let none : length run.items ≡ 0 = omega (arith, eqb-true (vec_len run) 0 (sym c.is_empty.ensures ∙ c.if-is_empty.true), run.ok.0) in
    let over : to_come c.runs.cutting ≡ [] = (c.in_ok-run.ensures.last (no_pieces run.items none)).1 in
    let P : List LexFault → Type 0 = λ faults. IfOk c.finished.result (λ read. read.lexical_faults ≡ faults) in
    subst P (faults-end _ c.runs.start _ _ over c.runs.invariant.faults) c.finished.ensures.faults

pub add_run-requires-clause-cover : goal.add_run-requires-clause-cover
add_run-requires-clause-cover c =
    let run : IsRun c.runs.cutting c.run.new.self c.in_ok-run.run'.items = c.in_ok-run.ensures in
    let size : size_of c.deref.result.now ≡ size_of c.in_ok-run.run'.items = ap (λ (ps : List Piece). size_of ps) c.deref.ensures.value in
    let text : length c.runs.cutting.text ≡ length c.runs.rest.now = ap (λ (t : List ℕ). length t) c.runs.invariant.text in omega (arith, run.within, size, text)

pub add_run-requires-clause-texts : goal.add_run-requires-clause-texts
add_run-requires-clause-texts c =
    let list = c.deref.result.now in
    let here : to_come c.runs.cutting ≡ spelled list c.runs.rest.now ++ to_come c.run.new.self
    = run_here _ _ c.in_ok-run.run'.items list c.runs.rest.now c.in_ok-run.ensures c.runs.invariant.text c.deref.ensures.value in
    (texts-parts (spelled list c.runs.rest.now) (to_come c.run.new.self) (subst AreTexts here c.runs.invariant.texts)).0

pub runs-smaller : goal.runs-smaller
runs-smaller c =
    let run = c.in_ok-run.run' in
    let is : IsRun c.runs.cutting c.run.new.self run.items = c.in_ok-run.ensures in
    let some : 0 < length run.items = omega (arith, eqb-false (vec_len run) 0 (sym c.is_empty.ensures ∙ c.if-is_empty.false), run.ok.0) in
    let bytes : 0 < size_of run.items = some-size run.items is.some some in
    let size : size_of c.deref.result.now ≡ size_of run.items = ap (λ (ps : List Piece). size_of ps) c.deref.ensures.value in
    let text : length c.runs.cutting.text ≡ length c.runs.rest.now = ap (λ (t : List ℕ). length t) c.runs.invariant.text in
    let left : length c.in_ok-after.after.now ≡ length (drop (size_of c.deref.result.now) c.runs.rest.now) = ap (λ (t : List ℕ). length t) c.in_ok-after.ensures.rest in
    let smaller : length c.in_ok-after.after.now < length c.runs.rest.now = omega (arith, is.within, bytes, size, text, left, length-drop (size_of c.deref.result.now) c.runs.rest.now) in smaller

pub runs-preserved : goal.runs-preserved
runs-preserved c =
    let list = c.deref.result.now in
    let rest = c.runs.rest.now in
    let after = c.in_ok-after.after.now in
    let next = c.run.new.self in
    let run : IsRun c.runs.cutting next c.in_ok-run.run'.items = c.in_ok-run.ensures in
    let here : to_come c.runs.cutting ≡ spelled list rest ++ to_come next = run_here _ _ c.in_ok-run.run'.items list rest run c.runs.invariant.text c.deref.ensures.value in
    let U : List ℕ → Type 0 = IsAscii in
    record {
      sound = run.sound;
      text = run_left _ _ c.in_ok-run.run'.items list rest after run c.runs.invariant.text c.deref.ensures.value c.in_ok-after.ensures.rest;
      within = omega (arith, c.runs.invariant.within, c.in_ok-after.ensures.within);
      few_words = omega (arith, c.runs.invariant.few_words, c.in_ok-after.ensures.few_words);
      few_tokens = omega (arith, c.runs.invariant.few_tokens, c.in_ok-after.ensures.few_tokens);
      ascii = λ is. subst U (sym c.in_ok-after.ensures.rest) (IsAscii-drop rest (size_of list) (c.runs.invariant.ascii is));
      utf8 = c.in_ok-after.ensures.utf8;
      texts = (texts-parts (spelled list rest) (to_come next) (subst AreTexts here c.runs.invariant.texts)).1;
      tokens = c.runs.invariant.tokens
          ∙ ap (λ (ps : List Spelled). c.runs.found.tokens ++ tokens_behind c.runs.found.places (lexemes_from c.runs.start ps)) here ∙ c.in_ok-after.ensures.tokens (to_come next);
      words = c.runs.invariant.words ∙ ap (λ (ps : List Spelled). words_behind c.runs.found.places (lexemes_from c.runs.start ps)) here ∙ c.in_ok-after.ensures.words (to_come next);
      faults = c.runs.invariant.faults ∙ ap (λ (ps : List Spelled). c.runs.found.faults.items ++ faults_from c.runs.start ps) here ∙ c.in_ok-after.ensures.faults (to_come next);
    }
