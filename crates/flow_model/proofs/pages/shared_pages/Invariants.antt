use Rattle.std.proofs.Common.{◌≡◌, take}
use Rattle.flow_model.proofs.pages.shared_pages.Given as goal

abbrev pub invariant-loop-page : goal.invariant-loop-page
invariant-loop-page l = l.shared.items ≡ take l.page-index l.pages
