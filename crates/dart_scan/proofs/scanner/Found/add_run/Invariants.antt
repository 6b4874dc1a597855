use Rattle.std.proofs.Common.{◌≡◌, ◌+◌, ◌*◌, ◌≤◌, ◌++◌, List, true, length, take, drop}
use Rattle.std.specs.List.{sum_by}
use Rattle.std.specs.Str.{IsAscii, IsUtf8}
use Rattle.dart_scan.specs.Pieces.{Spelled, spelled}
use Rattle.dart_scan.specs.Scanned.{lexemes_from, tokens_behind, words_behind, faults_from}
use Rattle.dart_scan.specs.StringTexts.{AreTexts}
use Rattle.dart_scan.proofs.ScanLemmas.{ahead, lexemes_ahead, faults_ahead}
use Rattle.dart_scan.proofs.scanner.Found.add_run.Given as goal

abbrev pub invariant-loop-piece : goal.invariant-loop-piece
invariant-loop-piece l = record {
  place : l.rest ≡ drop (sum_by (λ piece. piece.size) (take l.piece-index l.run)) l.text;
  within : l.start + 2 * length l.rest ≤ l.offset + 2 * length l.text;
  cover : sum_by (λ piece. piece.size) (drop l.piece-index l.run) ≤ length l.rest;
  few_words : length l.self.places + length l.rest ≤ length l.initial.self.places + length l.text;
  few_tokens : length l.self.tokens + length l.rest ≤ length l.initial.self.tokens + length l.text;
  ascii : l.is_ascii ≡ true → IsAscii l.rest;
  utf8 : IsUtf8 l.rest;
  texts : AreTexts (ahead l.run l.piece-index l.rest);
  tokens : (later : List Spelled) → l.initial.self.tokens ++ tokens_behind l.initial.self.places (lexemes_from l.offset (spelled l.run l.text ++ later))
      ≡ l.self.tokens ++ tokens_behind l.self.places (lexemes_ahead l.run l.piece-index l.start l.rest later);
  words : (later : List Spelled) → words_behind l.initial.self.places (lexemes_from l.offset (spelled l.run l.text ++ later))
      ≡ words_behind l.self.places (lexemes_ahead l.run l.piece-index l.start l.rest later);
  faults : (later : List Spelled) → l.initial.self.faults.items ++ faults_from l.offset (spelled l.run l.text ++ later)
      ≡ l.self.faults.items ++ faults_ahead l.run l.piece-index l.start l.rest later;
}
