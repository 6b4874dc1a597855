use Rattle.std.proofs.Common.{rules, ◌≡◌, ◌∙◌, ◌-◌, arith, inl, inr, ap, suc, true, false, map, Some}
use Rattle.fault_io.specs.declared.traits.Entry.{Entry}
use Rattle.load_files.specs.Folders.{listing}
use Rattle.load_files.specs.Paths.{child, is_excluded}
use Rattle.load_files.specs.Visits.{entry_visits, visits, file_visits}
use Rattle.load_files.proofs.Walking.{gives_nothing}
use Rattle.load_files.proofs.Meeting.{handed_on, refused_alike, done_alike, refused_too_deep, next_done, next_refused, all_done, met_too_deep, met_entries, met_file, entry_excluded, entry_folder, entry_file}
use Rattle.load_files.proofs.walk.+walk.Goals as goal

-- a folder is too deep
pub walk-returns-then-left-eq0-clause-walked : goal.walk-returns-then-left-eq0-clause-walked
walk-returns-then-left-eq0-clause-walked g t c = λ stored is.
    inr (refused_too_deep _ _ _ (met_too_deep stored c.args.excluded.now c.args.left c.args.path.now c.if-left-eq0.true))

-- the store failed, or memory was wanting
pub walk-returns-in_err-entries-clause-walked : goal.walk-returns-in_err-entries-clause-walked
walk-returns-in_err-entries-clause-walked g t c = λ stored is.
    handed_on c.from_residual.result _ _ _ c.from_residual.ensures.1 (inl c.in_err-entries.ensures.anywhere)

-- an entry is refused, or all are walked
pub walk-returns-in_err-walk_entries-in-Some-clause-walked : goal.walk-returns-in_err-walk_entries-in-Some-clause-walked
walk-returns-in_err-walk_entries-in-Some-clause-walked g t c = λ stored is.
    let one : c.args.left ≡ suc (c.args.left - 1) = omega (arith, c.if-left-eq0.false) in
    let listed : Some (map (λ (entry : Entry). (entry.name, entry.kind)) c.deref.result.now) ≡ listing stored c.args.path.now =
    rw c.deref.ensures.value (rw c.in-Some.is at c.in_ok-entries.ensures.listed stored is) in
    refused_alike _ _ _ _ _ c.from_residual-in_err-walk_entries-in-Some.result _ (met_entries stored c.args.excluded.now c.args.left (c.args.left - 1) c.args.path.now c.deref.result.now one listed)
    c.from_residual-in_err-walk_entries-in-Some.ensures.1 (c.in_err-walk_entries-in-Some.ensures.walked stored (c.in_ok-entries.ensures.told ∙ is))

pub walk-returns-in_ok-walk_entries-in-Some-clause-walked : goal.walk-returns-in_ok-walk_entries-in-Some-clause-walked
walk-returns-in_ok-walk_entries-in-Some-clause-walked g t c = λ stored is.
    let one : c.args.left ≡ suc (c.args.left - 1) = omega (arith, c.if-left-eq0.false) in
    let listed : Some (map (λ (entry : Entry). (entry.name, entry.kind)) c.deref.result.now) ≡ listing stored c.args.path.now =
    rw c.deref.ensures.value (rw c.in-Some.is at c.in_ok-entries.ensures.listed stored is) in
    done_alike _ _ _ _ _ (met_entries stored c.args.excluded.now c.args.left (c.args.left - 1) c.args.path.now c.deref.result.now one listed)
    (c.in_ok-walk_entries-in-Some.ensures.walked stored (c.in_ok-entries.ensures.told ∙ is))

-- the file is refused, or is read
pub walk-returns-in_err-read_file-in-None-clause-walked : goal.walk-returns-in_err-read_file-in-None-clause-walked
walk-returns-in_err-read_file-in-None-clause-walked g t c = λ stored is.
    let one : c.args.left ≡ suc (c.args.left - 1) = omega (arith, c.if-left-eq0.false) in
    refused_alike _ _ _ _ _ c.from_residual-in_err-read_file-in-None.result _
    (met_file stored c.args.excluded.now c.args.left (c.args.left - 1) c.args.path.now one (rw c.in-None.is at c.in_ok-entries.ensures.listed stored is))
    c.from_residual-in_err-read_file-in-None.ensures.1 (c.in_err-read_file-in-None.ensures.walked stored (c.in_ok-entries.ensures.told ∙ is))

pub walk-returns-in_ok-read_file-in-None-clause-walked : goal.walk-returns-in_ok-read_file-in-None-clause-walked
walk-returns-in_ok-read_file-in-None-clause-walked g t c = λ stored is.
    let one : c.args.left ≡ suc (c.args.left - 1) = omega (arith, c.if-left-eq0.false) in
    done_alike _ _ _ _ _
    (met_file stored c.args.excluded.now c.args.left (c.args.left - 1) c.args.path.now one (rw c.in-None.is at c.in_ok-entries.ensures.listed stored is))
    (c.in_ok-read_file-in-None.ensures.walked stored (c.in_ok-entries.ensures.told ∙ is))

-- an entry is refused
pub walk_entries-returns-in_err-walk_entry-clause-walked : goal.walk_entries-returns-in_err-walk_entry-clause-walked
walk_entries-returns-in_err-walk_entry-clause-walked g t c = λ stored is.
    let visits_of = λ (entry : Entry). entry_visits stored c.args.excluded.now (visits stored c.args.excluded.now c.args.left) c.args.folder.now (entry.name, entry.kind) in
    next_refused c.args.loading.now.kept c.loop-entry.loading.kept visits_of c.args.entries.now c.loop-entry.entry-index c.args.loading.now.files c.loop-entry.loading.files
    c.entry-item.result c.from_residual.result _ _ c.loop-entry-test.true c.entry-item.is c.loop-entry.invariant.kept (c.loop-entry.invariant.walked stored is)
    c.from_residual.ensures.1 (c.in_err-walk_entry.ensures.walked stored (c.loop-entry.invariant.told ∙ is))

-- one more entry is walked
pub walk_entries-loop-entry-preserved : goal.walk_entries-loop-entry-preserved
walk_entries-loop-entry-preserved g t c = record {
  walked = λ stored is.
      next_done c.args.loading.now.kept c.loop-entry.loading.kept
      (λ (entry : Entry). entry_visits stored c.args.excluded.now (visits stored c.args.excluded.now c.args.left) c.args.folder.now (entry.name, entry.kind))
      c.args.entries.now c.loop-entry.entry-index c.args.loading.now.files c.loop-entry.loading.files c.entry-item.result c.walk_entry.new.loading.files
      c.loop-entry-test.true c.entry-item.is c.loop-entry.invariant.kept (c.loop-entry.invariant.walked stored is)
      (c.in_ok-walk_entry.ensures.walked stored (c.loop-entry.invariant.told ∙ is));
  kept = c.in_ok-walk_entry.ensures.kept ∙ c.loop-entry.invariant.kept;
  told = c.in_ok-walk_entry.ensures.told ∙ c.loop-entry.invariant.told;
  faults = c.in_ok-walk_entry.ensures.no_fault (λ e. cc) ∙ c.loop-entry.invariant.faults;
}

-- all entries are walked
pub walk_entries-returns-clause-walked : goal.walk_entries-returns-clause-walked
walk_entries-returns-clause-walked g t c = λ stored is.
    all_done c.args.loading.now.kept c.loop-entry.loading.kept
    (λ (entry : Entry). entry_visits stored c.args.excluded.now (visits stored c.args.excluded.now c.args.left) c.args.folder.now (entry.name, entry.kind))
    c.args.entries.now c.loop-entry.entry-index c.args.loading.now.files c.loop-entry.loading.files (omega (arith, c.loop-entry-test.false)) (c.loop-entry.invariant.walked stored is)

-- the entry is excluded
pub walk_entry-returns-then-is_excluded-clause-walked : goal.walk_entry-returns-then-is_excluded-clause-walked
walk_entry-returns-then-is_excluded-clause-walked g t c = λ stored is.
    let out : is_excluded c.args.excluded.now (child c.args.folder.now c.args.entry.now.name) ≡ true = search rules in
    gives_nothing _ _ _ (entry_excluded stored c.args.excluded.now (visits stored c.args.excluded.now c.args.left) c.args.folder.now c.args.entry.now.name c.args.entry.now.kind out)

-- the entry is a folder, which is refused or walked
pub walk_entry-returns-in_err-walk-in-Folder-clause-walked : goal.walk_entry-returns-in_err-walk-in-Folder-clause-walked
walk_entry-returns-in_err-walk-in-Folder-clause-walked g t c = λ stored is.
    let free : is_excluded c.args.excluded.now (child c.args.folder.now c.args.entry.now.name) ≡ false = search rules in
    let at : child c.args.folder.now c.args.entry.now.name ≡ c.as_str-path.result.now = search rules in
    refused_alike _ _ _ _ _ c.from_residual-in_err-walk-in-Folder.result _
    (entry_folder stored c.args.excluded.now (visits stored c.args.excluded.now c.args.left) c.args.folder.now c.args.entry.now.name c.args.entry.now.kind free c.in-Folder.is
    ∙ ap (visits stored c.args.excluded.now c.args.left) at)
    c.from_residual-in_err-walk-in-Folder.ensures.1 (c.in_err-walk-in-Folder.ensures.walked stored is)

pub walk_entry-returns-in-Folder-clause-walked : goal.walk_entry-returns-in-Folder-clause-walked
walk_entry-returns-in-Folder-clause-walked g t c = λ stored is.
    let free : is_excluded c.args.excluded.now (child c.args.folder.now c.args.entry.now.name) ≡ false = search rules in
    let at : child c.args.folder.now c.args.entry.now.name ≡ c.as_str-path.result.now = search rules in
    done_alike _ _ _ _ _
    (entry_folder stored c.args.excluded.now (visits stored c.args.excluded.now c.args.left) c.args.folder.now c.args.entry.now.name c.args.entry.now.kind free c.in-Folder.is
    ∙ ap (visits stored c.args.excluded.now c.args.left) at)
    (c.in_ok-walk-in-Folder.ensures.walked stored is)

-- the entry is of another kind, and is refused or read
pub walk_entry-returns-in_err-read_file-in-File : goal.walk_entry-returns-in_err-read_file-in-File
walk_entry-returns-in_err-read_file-in-File g t c = record {
  walked = λ stored is.
      let free : is_excluded c.args.excluded.now (child c.args.folder.now c.args.entry.now.name) ≡ false = search rules in
      let at : child c.args.folder.now c.args.entry.now.name ≡ c.as_str-path.result.now = search rules in
      refused_alike _ _ _ _ _ c.from_residual-in_err-read_file-in-File.result _
      (entry_file stored c.args.excluded.now (visits stored c.args.excluded.now c.args.left) c.args.folder.now c.args.entry.now.name c.args.entry.now.kind free c.in-File.is
      ∙ ap (file_visits stored) at)
      c.from_residual-in_err-read_file-in-File.ensures.1 (c.in_err-read_file-in-File.ensures.walked stored is);
  kept = c.in_err-read_file-in-File.ensures.kept;
  told = c.in_err-read_file-in-File.ensures.told;
  fault = search rules;
  no_fault = search rules;
  passed = search rules;
}

pub walk_entry-returns : goal.walk_entry-returns
walk_entry-returns g t c = record {
  walked = λ stored is.
      let free : is_excluded c.args.excluded.now (child c.args.folder.now c.args.entry.now.name) ≡ false = search rules in
      let at : child c.args.folder.now c.args.entry.now.name ≡ c.as_str-path.result.now = search rules in
      done_alike _ _ _ _ _
      (entry_file stored c.args.excluded.now (visits stored c.args.excluded.now c.args.left) c.args.folder.now c.args.entry.now.name c.args.entry.now.kind free c.in-File.is
      ∙ ap (file_visits stored) at)
      (c.in_ok-read_file-in-File.ensures.walked stored is);
  kept = c.in_ok-read_file-in-File.ensures.kept;
  told = c.in_ok-read_file-in-File.ensures.told;
  fault = λ e. cc;
  no_fault = c.in_ok-read_file-in-File.ensures.no_fault;
  passed = tt;
}
