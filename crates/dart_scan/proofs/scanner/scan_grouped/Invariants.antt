use Rattle.std.proofs.Common.{◌≡◌, ◌+◌, ◌*◌, ◌≤◌, ◌++◌, true, length}
use Rattle.std.specs.Str.{IsAscii, IsUtf8}
use Rattle.dart_scan.specs.Cutting.{Sound, to_come}
use Rattle.dart_scan.specs.Scanned.{lexemes_from, tokens_behind, words_behind, faults_from, tokens_of, words_of, faults_of}
use Rattle.dart_scan.specs.StringTexts.{AreTexts}
use Rattle.dart_scan.proofs.scanner.scan_grouped.Given as goal

abbrev pub invariant-runs : goal.invariant-runs
invariant-runs l = record {
  sound : Sound l.cutting;
  text : l.cutting.text ≡ l.rest;
  within : l.start + 2 * length l.rest ≤ 2 * length l.text;
  few_words : length l.found.places + length l.rest ≤ length l.text;
  few_tokens : length l.found.tokens + length l.rest ≤ length l.text;
  ascii : l.is_ascii ≡ true → IsAscii l.rest;
  utf8 : IsUtf8 l.rest;
  texts : AreTexts (to_come l.cutting);
  tokens : tokens_of l.text ≡ l.found.tokens ++ tokens_behind l.found.places (lexemes_from l.start (to_come l.cutting));
  words : words_of l.text ≡ words_behind l.found.places (lexemes_from l.start (to_come l.cutting));
  faults : faults_of l.text ≡ l.found.faults.items ++ faults_from l.start (to_come l.cutting);
}

abbrev pub decreases-runs : goal.decreases-runs
decreases-runs l = length l.rest
