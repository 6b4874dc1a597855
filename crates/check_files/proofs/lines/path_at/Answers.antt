use Rattle.std.proofs.Common.{ℕ, List, sym, ap}
use Rattle.check_files.proofs.Places.{text_is}
use Rattle.check_files.proofs.lines.path_at.Goals as goal

pub returns-in-Some : goal.returns-in-Some
returns-in-Some c =
    let same = text_is c.args.files.now c.args.place c.in-Some.file.now _ c.if-place-eq0.false c.in-Some.ensures.lookup.0 c.in-Some.ensures.lookup.1 in
    sym (ap (λ (t : List ℕ × List ℕ). t.0) same)
