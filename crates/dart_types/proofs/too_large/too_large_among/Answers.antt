use Rattle.std.proofs.Common.{◌++◌, ◌∷◌, [], Bool, List, filter, take, get_or, cond, sym, ◌∙◌, ap}
use Rattle.std.proofs.lemmas.List.{take_all}
use Rattle.std.proofs.lemmas.List.Elements.{filter_more}
use Rattle.dart_types.specs.Kept.{forms_too_large}
use Rattle.dart_types.specs.declared.ids.ClassId.{ClassId}
use Rattle.dart_types.proofs.too_large.too_large_among.Goals as goal

pub loop-class-preserved : goal.loop-class-preserved
loop-class-preserved c =
    let test = forms_too_large c.args.rows.now.table in
    let xs = c.args.classes.now in
    let i = c.loop-class.class-index in
    let none : ClassId = record { lib = record { 0 = 0 }; index = 0 } in
    let x = get_or xs i none in
    c.in_ok-push_if.ensures
    ∙ ap (λ (ys : List ClassId). ys ++ cond c.in_ok-found.found (x ∷ []) []) c.loop-class.invariant
    ∙ ap (λ (b : Bool). filter test (take i xs) ++ cond b (x ∷ []) []) c.in_ok-found.ensures
    ∙ sym (filter_more test xs i none c.loop-class-test.true)

pub returns : goal.returns
returns c =
    c.loop-class.invariant ∙ ap (filter (forms_too_large c.args.rows.now.table)) (take_all c.loop-class.class-index c.args.classes.now c.loop-class-test.false)
