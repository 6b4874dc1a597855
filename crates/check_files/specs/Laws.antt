-- Laws of what is found in files.
use Rattle.std.specs.Prelude.{◌≡◌, ℕ, List}
use Rattle.judgement.specs.declared.fault.Fault.{Fault}
use Rattle.load_files.specs.Tables.{Table}
use Rattle.load_files.specs.declared.contents.FileContents.{FileContents}
use Rattle.load_files.specs.declared.packages.Package.{Package}
use Rattle.check_files.specs.declared.findings.Finding.{Finding}
use Rattle.check_files.specs.Reports.{AreDiagnostics, AreFoundFrom}

-- among the same files a file has one list of diagnostics
abbrev pub DiagnosticsAreSettled : Type 0
DiagnosticsAreSettled = (packages : List Package) (table : Table) (path : List ℕ) (contents : FileContents) (faults faults' : List Fault) → AreDiagnostics packages table path contents faults → AreDiagnostics packages table path contents faults' → faults ≡ faults'

-- among the same files one list of findings is found in all libraries that a library reaches
abbrev pub FindingsAreSettled : Type 0
FindingsAreSettled = (packages : List Package) (table : Table) (place : ℕ) (findings findings' : List Finding) → AreFoundFrom packages table place findings → AreFoundFrom packages table place findings' → findings ≡ findings'
