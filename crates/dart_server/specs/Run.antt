-- What a run of a library writes, and how it ends.
use Rattle.std.specs.Prelude.{◌≡◌, ◌≢◌, ℕ, Bool, true, false, List, [], ◌∷◌, ◌++◌, Option, None, Some, codes}
use Rattle.dart_scan.specs.Scanned.{words_of}
use Rattle.dart_tree.specs.Tree.{Tree}
use Rattle.core_rows.specs.CoreTable.{core_table}
use Rattle.check_library.specs.Units.{outside_of, body_of}
use Rattle.core_ir.specs.Program.{Program}
use Rattle.core_machine.specs.Steps.{Kind}
use Rattle.core_machine.specs.State.{Outcome, Reaches, Wrong, run_of}
use Rattle.core_machine.specs.declared.effect.RunEnd.{RunEnd}
use Rattle.core_machine.specs.declared.effect.RunEnd.TheVariants.{Done as Ended}
use Rattle.elaborate.specs.Elaborated.{elaborated}
use Rattle.dart_server.specs.declared.status.Status.{Status}
use Rattle.dart_server.specs.declared.status.Status.TheVariants.{Done, Refused, StepsSpent, Rejected}
use Rattle.dart_server.specs.Writes.{Says}

-- what is written where a library in which nothing is wrong has no function `main`
abbrev pub no_main_line : List ℕ
no_main_line = codes "dart_serve: no main" ++ 10 ∷ []

-- what is written where such a library can't be run, since it has directives
abbrev pub not_built_line : List ℕ
not_built_line = codes "dart_serve: not built" ++ 10 ∷ []

-- the last line of a run that hasn't ended within its steps
abbrev pub steps_spent_line : List ℕ
steps_spent_line = codes "steps spent" ++ 10 ∷ []

-- the whole output of a run that printed this, by how it ended, and its status: what it printed, and where it hasn't ended, that its steps are spent
abbrev pub PrintsBy : Option RunEnd → (printed : List ℕ) → (output : List ℕ) → Status → Type 0
PrintsBy (Some Ended) printed output status = Says printed Done output status
PrintsBy None printed output status = Says (printed ++ steps_spent_line) StepsSpent output status

-- the same of a run whose steps lead there; no run goes wrong
abbrev pub Prints : Outcome → (output : List ℕ) → Status → Type 0
Prints (Reaches s) output status = PrintsBy s.end s.output output status
Prints (Wrong kind) output status = ⊥

-- the output and the status of what is run of a text in which nothing is wrong, the body of its function `main`: those of its core program after so many steps, which is made with the classes that the body was judged with; no number of steps of that program goes wrong
pub record ProgramGives (text : List ℕ) (body : Tree) (steps : ℕ) (output : List ℕ) (status : Status) : Type 0 where
  pub program : Program
  pub rows_are : program.rows.table ≡ core_table
  pub program_is : program ≡ elaborated program.rows (words_of text) (outside_of text) body
  pub prints : Prints (run_of program steps) output status
  pub sound : (n : ℕ) (kind : Kind) → run_of program n ≢ Wrong kind

-- the output and the status of a text in which nothing is wrong, by what of it is run: it may have no function `main`
abbrev pub UnitGives : (text : List ℕ) (steps : ℕ) → Option Tree → (output : List ℕ) → Status → Type 0
UnitGives text steps None output status = Says no_main_line Refused output status
UnitGives text steps (Some body) output status = ProgramGives text body steps output status

-- those of a library whose directives aren't built in runs yet, by whether it declares `main`
abbrev pub UnbuiltGives : (has_main : Bool) → (output : List ℕ) → Status → Type 0
UnbuiltGives true output status = Says not_built_line Rejected output status
UnbuiltGives false output status = Says no_main_line Refused output status

-- the output and the status of a run of a library in which nothing is wrong, by what of its file runs don't know yet: nothing, so that its program is run, or something
abbrev pub RunGives : {X : Type 0} → (text : List ℕ) (has_main : Bool) (steps : ℕ) (unknown : List X) → (output : List ℕ) → Status → Type 0
RunGives text has_main steps [] output status = UnitGives text steps (body_of text) output status
RunGives text has_main steps (one ∷ more) output status = UnbuiltGives has_main output status
