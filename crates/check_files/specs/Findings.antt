-- What is said of places in files, and its order.
use Rattle.std.specs.Prelude.{ℕ, ◌==◌, List, [], ◌∷◌, map}
use Rattle.std.specs.List.{filter}
use Rattle.std.specs.declared.cmp.Ordering.{Ordering}
use Rattle.std.specs.BTreeSet.{insert_key}
use Rattle.judgement.specs.declared.code.DiagnosticCode.{DiagnosticCode}
use Rattle.judgement.specs.declared.code.DiagnosticCode.TheVariants as code
use Rattle.judgement.specs.declared.fault.Fault.{Fault}
use Rattle.directives.specs.declared.faults.LibraryFault.{LibraryFault}
use Rattle.directives.specs.declared.faults.LibraryFaultKind.{LibraryFaultKind}
use Rattle.directives.specs.declared.faults.LibraryFaultKind.TheVariants as kind
use Rattle.check_files.specs.declared.findings.Finding.{Finding}
use Rattle.check_files.specs.contracts.findings.FindingOrd.TheImpl as findings

-- what is said of a directive or a declared name
abbrev pub code_of : LibraryFaultKind → DiagnosticCode
code_of kind.DirectiveOrder = code.DirectiveOrder
code_of kind.PartOfName = code.ProfilePartOfName
code_of kind.UriDoesNotExist = code.UriDoesNotExist
code_of kind.ImportOfPart = code.ImportOfPart
code_of kind.PartMismatch = code.PartMismatch
code_of kind.AmbiguousExport = code.AmbiguousExport
code_of kind.DuplicateDefinition = code.DuplicateDefinition

-- it is said where the fault stands
abbrev pub fault_of : LibraryFault → Fault
fault_of fault = record { span = fault.span; code = code_of fault.kind }

-- something wrong in the file at a place
abbrev pub found_in : (file : ℕ) → Fault → Finding
found_in file fault = record { file = file; fault = fault }

-- by the places of the files, then by where they stand, then by the names of their codes
abbrev pub finding_cmp : Finding → Finding → Ordering
finding_cmp = findings.ghosts.cmp

-- the findings in their order, each once: one after another is put at its place, unless it is there
abbrev pub sorted_findings : List Finding → List Finding
sorted_findings [] = []
sorted_findings (finding ∷ findings) = insert_key finding_cmp (sorted_findings findings) finding

-- what of it is wrong with the file at a place
abbrev pub faults_in : (file : ℕ) → List Finding → List Fault
faults_in file findings = map (λ finding. finding.fault) (filter (λ finding. finding.file == file) findings)
