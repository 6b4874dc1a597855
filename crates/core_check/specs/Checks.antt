-- What the parts of the check say of a point, and what their values stand for.
use Rattle.std.specs.Prelude.{◌≡◌, List, [], Some, Ok, Err, slice_get}
use Rattle.std.specs.declared.result.Result.{Result}
use Rattle.core_check.specs.Faults.{Fault, SlotPart, of_assigned, of_type, of_shared}
use Rattle.core_check.specs.declared.misses.Miss.{Miss}
use Rattle.core_check.specs.declared.misses.Miss.TheVariants.{Fails, Memory}
use Rattle.core_check.specs.declared.ways.Part.{Part}
use Rattle.core_check.specs.declared.ways.Part.TheVariants.{Assigned, Narrower, Shared}

-- a miss is for the first of the faults; want of memory may come in any check
abbrev pub IsFor : Miss → List Fault → Type 0
IsFor (Fails expected found) faults = slice_get faults 0 ≡ Some (record { expected = expected; found = found })
IsFor Memory faults = Unit {0}

-- a check passes where there are no faults, and else it misses for the first
abbrev pub Tells : Result (Unit {0}) Miss → List Fault → Type 0
Tells (Ok _) faults = faults ≡ []
Tells (Err miss) faults = IsFor miss faults

-- the part of a next point's facts that the code's stands for
abbrev pub part_of : Part → SlotPart
part_of Assigned = of_assigned
part_of Narrower = of_type
part_of Shared = of_shared
