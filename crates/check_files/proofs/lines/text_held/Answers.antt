use Rattle.std.proofs.Common.{ℕ, List, sym, ap, subst}
use Rattle.std.specs.Option.{option_copied}
use Rattle.check_files.specs.Lines.{TextIs}
use Rattle.check_files.proofs.Places.{text_is}
use Rattle.check_files.proofs.lines.text_held.Goals as goal

pub returns-in-Some : goal.returns-in-Some
returns-in-Some c =
    let same = text_is c.args.files.now c.args.place c.in-Some.file.now _ c.if-place-eq0.false c.in-Some.ensures.lookup.0 c.in-Some.ensures.lookup.1 in
    subst (λ (text : List ℕ). TextIs text (option_copied c.text_in.result)) (sym (ap (λ (t : List ℕ × List ℕ). t.1) same)) c.text_in.ensures
