use Rattle.std.proofs.Common.{rules, sym, subst}
use Rattle.std.proofs.lemmas.Cmp.{nat_list_cmp_total}
use Rattle.std.proofs.lemmas.List.Sorted.{ranks_by, answers_always}
use Rattle.fault_io.specs.declared.traits.Entry.{Entry}
use Rattle.load_files.specs.Loads.{ComesAnywhere}
use Rattle.load_files.proofs.Listing.{no_listing, sorted_listing}
use Rattle.load_files.proofs.Meeting.{comes_anywhere}
use Rattle.load_files.proofs.Sorting.{by_name}
use Rattle.load_files.proofs.walk.entries_at.Goals as goal

-- the path is no folder
pub returns-in-Ok-None-clause-listed : goal.returns-in-Ok-None-clause-listed
returns-in-Ok-None-clause-listed g c = λ stored is. no_listing stored c.args.path.now (rw c.in-Ok-None.field-0-is at c.in-Ok-None.ensures.listed stored is)

-- the entries were sorted by their names
pub returns-in_ok-sort_by-in-Ok-Some-clause-listed : goal.returns-in_ok-sort_by-in-Ok-Some-clause-listed
returns-in_ok-sort_by-in-Ok-Some-clause-listed g c = λ stored is.
    let found = c.in-Ok-Some.ensures in
    let sort = c.in_ok-sort_by-in-Ok-Some.ensures in
    let sorted = sort.sorted by_name (ranks_by nat_list_cmp_total (λ (e : Entry). e.name)) (answers_always _ _ _ (λ f a r q called. search rules)) in
    sorted_listing stored c.args.path.now _ _ (found.sound stored is) (rw c.in-Ok-Some.field-0-is at found.listed stored is) sort.permutation sorted

-- the store failed, or memory was wanting
pub returns-in-Err-clause-anywhere : goal.returns-in-Err-clause-anywhere
returns-in-Err-clause-anywhere g c = subst ComesAnywhere (sym c.refused_by.ensures) (comes_anywhere c.in-Err.refusal)
