-- What was read of a file before.
use Rattle.std.specs.Prelude.{◌≡◌, ℕ, List, Option, Some, None}
use Rattle.judgement.specs.declared.fault.Fault.{Fault}
use Rattle.libraries.specs.declared.files.SourceFile.{SourceFile}
use Rattle.load_files.specs.declared.contents.FileContents.{FileContents}
use Rattle.check_files.specs.Sources.{own_faults, source_of}

-- this was read of a file: what it says to others, and what is wrong with it by itself
pub record IsOf (file : List ℕ × FileContents) (source : SourceFile) (faults : List Fault) : Type 0 where
  pub source_is : source ≡ source_of file
  pub faults_are : faults ≡ own_faults file.1

-- where both are there, they were read of the file
abbrev pub AreOf : (List ℕ × FileContents) → Option SourceFile → Option (List Fault) → Type 0
AreOf file (Some source) (Some faults) = IsOf file source faults
AreOf file (Some source) None = Unit {0}
AreOf file None faults = Unit {0}
