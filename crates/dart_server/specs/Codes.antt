-- The exit codes.
use Rattle.std.specs.Prelude.{ℕ}
use Rattle.dart_server.specs.declared.status.Status.{Status}
use Rattle.dart_server.specs.declared.status.Status.TheVariants.{Done, Errors, Refused, Threw, Memory, StepsSpent, ReadFault, WriteFault, FilesFault, InputSpent, Rejected}

-- the exit code of a status
abbrev pub code_of : Status → ℕ
code_of Done = 0
code_of Errors = 1
code_of Refused = 2
code_of Threw = 3
code_of Memory = 4
code_of StepsSpent = 5
code_of ReadFault = 6
code_of WriteFault = 7
code_of FilesFault = 8
code_of InputSpent = 9
code_of Rejected = 10
