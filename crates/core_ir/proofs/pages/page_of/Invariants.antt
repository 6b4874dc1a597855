use Rattle.std.proofs.Common.{◌-◌, ◌<◌, ◌≤◌, length, get_or}
use Rattle.core_ir.specs.declared.pages.Page.{Page}
use Rattle.core_ir.proofs.pages.page_of.Given as goal

-- the fact stands in or behind the lower page, and before the higher one if there is one
abbrev pub invariant-loop-high : goal.invariant-loop-high
invariant-loop-high l = record {
  apart : l.low < l.high;
  inside : l.high ≤ length l.pages;
  begins : (none : Page) → (get_or l.pages l.low none).before ≤ l.place;
  ends : l.high < length l.pages → (none : Page) → l.place < (get_or l.pages l.high none).before;
}

abbrev pub decreases-loop-high : goal.decreases-loop-high
decreases-loop-high l = l.high - l.low
