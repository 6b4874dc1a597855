use Rattle.std.proofs.Common.{Bool, sym, ap, ◌∙◌, length, ◌==◌}
use Rattle.std.specs.Prelude.{◌&&◌}
use Rattle.dart_types.specs.Heads.{is_object}
use Rattle.dart_types.specs.Forms.{form_of}
use Rattle.dart_types.specs.declared.scopes.Form.{Form}
use Rattle.dart_types.proofs.Frames.{object_in_scope}
use Rattle.dart_types.proofs.subtyping.is_object_form.Goals as goal

-- the class is that of `Object`, so its arguments decide
pub returns-then-eq : goal.returns-then-eq
returns-then-eq c =
    c.is_empty.ensures
    ∙ ap (λ (b : Bool). b && length c.in-Interface.args.types.now == 0) (sym c.if-eq.true ∙ c.eq.ensures)
    ∙ sym (object_in_scope c.in-Interface.args.scope.now c.in-Interface.class c.in-Interface.args.types.now)
    ∙ ap (λ (f : Form). is_object (form_of f)) (sym c.in-Interface.is)
