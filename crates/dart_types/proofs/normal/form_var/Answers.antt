use Rattle.std.proofs.Common.{◌≡◌, sym, subst}
use Rattle.std.specs.Prelude.{IfOk}
use Rattle.dart_types.specs.Ty.{Ty}
use Rattle.dart_types.proofs.Replacing.{replaced_none, replaced_found}
use Rattle.dart_types.proofs.normal.form_var.Goals as goal

pub returns-in-None : goal.returns-in-None
returns-in-None c = sym (replaced_none c.args.replacements.now c.args.var c.in-None.ensures)

pub returns-in-Some : goal.returns-in-Some
returns-in-Some c =
    subst (λ (t : Ty). IfOk c.copy.result (λ (f : Ty). f ≡ t)) (sym (replaced_found c.args.replacements.now c.args.var c.in-Some.found.now c.in-Some.ensures)) c.copy.ensures
