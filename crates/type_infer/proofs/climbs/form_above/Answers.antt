use Rattle.std.proofs.Common.{◌≡◌, List, length, refl, sym, ◌∙◌, ap}
use Rattle.dart_types.specs.Ty.{Ty, count, types_of}
use Rattle.dart_types.specs.declared.ids.VarId.{VarId}
use Rattle.type_infer.specs.Above.{FormsAbove}
use Rattle.type_infer.proofs.General.{count-types_of}
use Rattle.type_infer.proofs.Refusing.{at_refusal}
use Rattle.type_infer.proofs.AboveSteps.{other_number, none_only, formed_above, refused_above}
use Rattle.type_infer.proofs.climbs.form_above.Goals as goal

-- as many arguments as parameters
as_many : {vs : List VarId} {us : List Ty} (ts : List Ty) (ps : List VarId) → us ≡ ts → vs ≡ ps → length vs ≡ length us → count (types_of ts) ≡ length ps
as_many ts ps e f k = count-types_of ts ∙ ap (λ (xs : List Ty). length xs) (sym e) ∙ sym k ∙ ap (λ (xs : List VarId). length xs) f

pub returns-then-params-as_slice : goal.returns-then-params-as_slice
returns-then-params-as_slice c =
    let args = c.args.args.now in
    let params = c.in-Some.row.now.params in
    other_number c.args.rows.now.table c.row_laws.ensures c.args.class (types_of args) c.args.target c.in-Some.row.now (sym c.in-Some.ensures)
    (λ k. c.if-params-as_slice.true (ap (λ (vs : List VarId). length vs) c.as_slice-params.ensures ∙ sym k ∙ count-types_of args ∙ ap (λ (vs : List Ty). length vs) (sym c.as_slice.ensures)))

pub returns-in-None-only_entry : goal.returns-in-None-only_entry
returns-in-None-only_entry c =
    let args = c.args.args.now in
    let row = c.in-Some.row.now in
    let params = c.as_slice-params.result.now in
    let same = c.as_slice-params.ensures in
    none_only c.args.rows.now.table c.row_laws.ensures c.args.class (types_of args) c.args.target row (sym c.in-Some.ensures) c.superinterfaces.result.now c.superinterfaces.ensures params same
    (as_many args params c.as_slice.ensures refl c.if-params-as_slice.false)
    (λ s h. c.in-None-only_entry.ensures s (record { listed = h.0; of_class = h.1; only = h.2 }))

pub returns-in_ok-formed-in-Some-only_entry : goal.returns-in_ok-formed-in-Some-only_entry
returns-in_ok-formed-in-Some-only_entry c =
    let args = c.args.args.now in
    let row = c.in-Some.row.now in
    let params = c.as_slice-params.result.now in
    let same = c.as_slice-params.ensures in
    let found = c.in-Some-only_entry.superinterface.now in
    let is = c.in-Some-only_entry.ensures in
    formed_above c.args.rows.now.table c.row_laws.ensures c.args.class (types_of args) c.args.target row (sym c.in-Some.ensures) c.superinterfaces.result.now c.superinterfaces.ensures params same
    (as_many args params c.as_slice.ensures refl c.if-params-as_slice.false)
    found (is.listed, is.of_class, is.only) c.in_ok-formed-in-Some-only_entry.formed c.in_ok-formed-in-Some-only_entry.ensures

pub returns-in_err-formed-in-Some-only_entry : goal.returns-in_err-formed-in-Some-only_entry
returns-in_err-formed-in-Some-only_entry c =
    let args = c.args.args.now in
    let row = c.in-Some.row.now in
    let params = c.as_slice-params.result.now in
    let same = c.as_slice-params.ensures in
    let found = c.in-Some-only_entry.superinterface.now in
    let is = c.in-Some-only_entry.ensures in
    let refused = c.in_err-formed-in-Some-only_entry.field-0.0 in
    at_refusal (FormsAbove c.args.rows.now.table c.args.class (types_of args) c.args.target) c.from_residual.result refused c.from_residual.ensures.1
    (refused_above c.args.rows.now.table c.row_laws.ensures c.args.class (types_of args) c.args.target row (sym c.in-Some.ensures) c.superinterfaces.result.now c.superinterfaces.ensures params same
    (as_many args params c.as_slice.ensures refl c.if-params-as_slice.false)
    found (is.listed, is.of_class, is.only) refused c.in_err-formed-in-Some-only_entry.ensures)
