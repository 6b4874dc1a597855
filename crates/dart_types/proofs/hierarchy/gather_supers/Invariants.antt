use Rattle.dart_types.specs.Entries.{among}
use Rattle.dart_types.specs.Superinterfaces.{AreOrdered}
use Rattle.dart_types.specs.Gathering.{Adds, IsGivenBy}
use Rattle.dart_types.proofs.Gathered.{First}
use Rattle.dart_types.proofs.hierarchy.gather_supers.Given as goal

-- the list has what the first of the direct supertypes give
abbrev pub invariant-loop-v : goal.invariant-loop-v
invariant-loop-v l =
    Adds (First (λ v t. IsGivenBy (among l.below.table l.entries l.vars) v t) l.v-items l.v-index) l.initial.list.items l.list.items × AreOrdered l.list.items
