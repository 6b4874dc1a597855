-- What is wrong with the pieces of a text.
use Rattle.std.specs.Prelude.{ℕ, ◌+◌, List, [], ◌∷◌, map, codes, if◌then◌else◌}
use Rattle.plain_text.specs.Units.{units_in}
use Rattle.dart_text.specs.Units.{units_of}
use Rattle.dart_tokens.specs.declared.scanned.LexFault.{LexFault}
use Rattle.dart_tokens.specs.declared.scanned.LexFaultKind.{LexFaultKind}
use Rattle.dart_tokens.specs.declared.scanned.LexFaultKind.TheVariants as fault
use Rattle.dart_scan.specs.declared.piece.Class.{Class}
use Rattle.dart_scan.specs.declared.piece.Class.TheVariants.{Gap, UnterminatedComment, IllegalCharacter, BeyondAscii, Word, Integer, Double, Mark, StringLiteral, StringOpening, StringPart, StringClosing, UnterminatedString, InterpolationMark, InterpolationOpening, InterpolationClosing}
use Rattle.dart_scan.specs.Lexemes.{begins}
use Rattle.dart_scan.specs.Values.{bad_escapes}

-- a fault over a whole piece that begins at the offset
abbrev pub fault_over : LexFaultKind → (offset : ℕ) → List ℕ → List LexFault
fault_over kind offset bytes = record { kind = kind; start = offset; end = offset + units_in bytes } ∷ []

-- a string that never ends, from its quote on
abbrev pub string_fault : (offset : ℕ) → List ℕ → List LexFault
string_fault offset bytes =
    record { kind = fault.UnterminatedString; start = if begins bytes (codes "r") then offset + 1 else offset; end = offset + units_in bytes } ∷ []

-- a fault for each bad escape of a piece of a string
abbrev pub escape_faults : (offset : ℕ) → List ℕ → List LexFault
escape_faults offset bytes = map (λ range. record { kind = fault.BadEscape; start = range.start; end = range.end }) (bad_escapes offset 0 (units_of bytes))

-- What is wrong with a piece that begins at the offset. A raw string has no escapes.
abbrev pub faults_of_piece : Class → (offset : ℕ) → List ℕ → List LexFault
faults_of_piece UnterminatedComment offset bytes = fault_over fault.UnterminatedComment offset bytes
faults_of_piece UnterminatedString offset bytes = string_fault offset bytes
faults_of_piece IllegalCharacter offset bytes = fault_over fault.IllegalCharacter offset bytes
faults_of_piece BeyondAscii offset bytes = fault_over fault.ProfileIdentifier offset bytes
faults_of_piece StringLiteral offset bytes = if begins bytes (codes "r") then [] else escape_faults offset bytes
faults_of_piece StringOpening offset bytes = escape_faults offset bytes
faults_of_piece StringPart offset bytes = escape_faults offset bytes
faults_of_piece StringClosing offset bytes = escape_faults offset bytes
faults_of_piece Gap offset bytes = []
faults_of_piece Word offset bytes = []
faults_of_piece Integer offset bytes = []
faults_of_piece Double offset bytes = []
faults_of_piece Mark offset bytes = []
faults_of_piece InterpolationMark offset bytes = []
faults_of_piece InterpolationOpening offset bytes = []
faults_of_piece InterpolationClosing offset bytes = []
