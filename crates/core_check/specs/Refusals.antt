-- What a refused program is refused for.
use Rattle.core_ir.specs.Program.{Program}
use Rattle.core_check.specs.Faults.{IsFirstFault}
use Rattle.core_check.specs.declared.acceptance.AcceptRefusal.{AcceptRefusal}
use Rattle.core_check.specs.declared.acceptance.AcceptRefusal.TheVariants.{Rejected, Memory}

-- the cause of a refusal: the first fault of the least point that has one; want of memory has none
abbrev pub IsCause : Program → AcceptRefusal → Type 0
IsCause p (Rejected point expected found) = IsFirstFault p point.0 (record { expected = expected; found = found })
IsCause p Memory = Unit {0}
