use Rattle.std.proofs.Common.{◌≡◌, length, Option, refl, sym, ◌∙◌, ap, subst}
use Rattle.dart_types.specs.Ty.{types_of, count}
use Rattle.dart_types.specs.WellFormed.{HasArguments}
use Rattle.dart_types.specs.declared.class_rows.ClassRow.{ClassRow}
use Rattle.type_bounds.proofs.General.{count-types_of}
use Rattle.type_bounds.proofs.superclasses.above_class.Goals as goal

-- another number of parameters
pub returns-then-params-as_slice : goal.returns-then-params-as_slice
returns-then-params-as_slice c = λ h.
    let args = c.args.args.now in
    let counted : count (types_of args) ≡ length c.in-Some.row.now.params = subst (λ (row : Option ClassRow). HasArguments row (types_of args)) (sym c.in-Some.ensures) h in
    c.if-params-as_slice.true (ap length c.as_slice-params.ensures ∙ (sym counted ∙ (count-types_of args ∙ sym (ap length c.as_slice.ensures))))

pub returns : goal.returns
returns c =
    let args = c.args.args.now in
    record {
      row = c.in-Some.row.now;
      row_is = sym c.in-Some.ensures;
      params = c.as_slice-params.ensures;
      args = refl;
      counted = count-types_of args ∙ (sym (ap length c.as_slice.ensures) ∙ (sym c.if-params-as_slice.false ∙ ap length c.as_slice-params.ensures));
      list = c.superinterfaces.ensures;
    }
