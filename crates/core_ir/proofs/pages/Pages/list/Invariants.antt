use Rattle.std.proofs.Common.{◌≡◌, ◌-◌, ◌≤◌, length, take}
use Rattle.std.specs.List.{flat_map}
use Rattle.core_ir.specs.PointFacts.{AreCounted}
use Rattle.core_ir.proofs.pages.Pages.list.Given as goal

-- the facts before the place lie in the pages
abbrev pub invariant-loop-start : goal.invariant-loop-start
invariant-loop-start l = record {
  within : l.start ≤ length l.listed;
  facts : flat_map (λ page. page.facts.value.items) l.pages.items ≡ take l.start l.listed;
  counted : AreCounted (λ page. page.before) (λ page. page.facts.value.items) l.pages.items;
}

abbrev pub decreases-loop-start : goal.decreases-loop-start
decreases-loop-start l = length l.listed - l.start
