-- What files contain, and what is wrong with each by itself.
use Rattle.std.specs.Prelude.{ℕ, List, [], ◌∷◌}
use Rattle.judgement.specs.declared.code.DiagnosticCode.{DiagnosticCode}
use Rattle.judgement.specs.declared.code.DiagnosticCode.TheVariants.{FileNotUtf8, ProfileFileLength}
use Rattle.judgement.specs.declared.fault.Fault.{Fault}
use Rattle.load_files.specs.declared.contents.FileContents.{FileContents}
use Rattle.load_files.specs.declared.contents.FileContents.TheVariants.{Text, NotUtf8, TooLong}
use Rattle.check_library.specs.Diagnostics.{diagnostics, text_diagnostics}

-- a mark reads as the empty text
abbrev pub read_as : FileContents → List ℕ
read_as (Text text) = text
read_as (NotUtf8 bytes) = []
read_as (TooLong bytes) = []

-- the one diagnostic of a file that holds no text, at the beginning of the file
abbrev pub no_text : DiagnosticCode → Fault
no_text code = record { span = record { start = 0; end = 0 }; code = code }

-- what is wrong with what a file contains: with a text what the rules of the language say of it by itself, from nothing; a mark has the diagnostic that says so
abbrev pub faults_of : FileContents → List Fault
faults_of (Text text) = diagnostics text
faults_of (NotUtf8 bytes) = no_text FileNotUtf8 ∷ []
faults_of (TooLong bytes) = no_text ProfileFileLength ∷ []

-- what is wrong with it where its directives and declarations aren't looked at
abbrev pub bare_faults_of : FileContents → List Fault
bare_faults_of (Text text) = text_diagnostics text
bare_faults_of (NotUtf8 bytes) = no_text FileNotUtf8 ∷ []
bare_faults_of (TooLong bytes) = no_text ProfileFileLength ∷ []
