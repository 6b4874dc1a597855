use Rattle.std.proofs.Common.{◌<◌, ◌≤◌, ◌++◌, ◌≡◌, List, length, refl, ◌∙◌, ap, arith}
use Rattle.dart_types.specs.Ty.{Ty}
use Rattle.dart_types.specs.Named.{named_of}
use Rattle.type_infer.specs.Pairs.{names_are_in}
use Rattle.type_infer.proofs.NameTests.{more_required, takes_fewer, both_decide}
use Rattle.type_infer.proofs.signatures.takes_calls_of.Goals as goal

pub returns-then-as_slice : goal.returns-then-as_slice
returns-then-as_slice c =
    let f = c.args.function.now in
    let g = c.args.other.now in
    let h : length g.required < length f.required = omega (arith, ap (λ (ts : List Ty). length ts) c.as_slice.ensures, ap (λ (ts : List Ty). length ts) c.as_slice-2.ensures) in
    more_required f.required f.optional g.required g.optional f.named g.named h

pub returns-then-count_params : goal.returns-then-count_params
returns-then-count_params c =
    let f = c.args.function.now in
    let g = c.args.other.now in
    let h : length (f.required ++ f.optional) < length (g.required ++ g.optional) = omega (arith, c.count_params.ensures, c.count_params-2.ensures) in
    takes_fewer f.required f.optional g.required g.optional f.named g.named h

pub returns : goal.returns
returns c =
    let f = c.args.function.now in
    let g = c.args.other.now in
    let h : length f.required ≤ length g.required = omega (arith, ap (λ (ts : List Ty). length ts) c.as_slice.ensures, ap (λ (ts : List Ty). length ts) c.as_slice-2.ensures) in
    let k : length (g.required ++ g.optional) ≤ length (f.required ++ f.optional) = omega (arith, c.count_params.ensures, c.count_params-2.ensures) in
    let named : names_are_in (named_of c.as_slice-others.result.now) (named_of f.named) ≡ names_are_in (named_of g.named) (named_of f.named) = rw c.as_slice-others.ensures.same refl in
    both_decide f.required f.optional g.required g.optional f.named g.named c.names_are_in.result c.requires_no_more.result h k (c.names_are_in.ensures ∙ named) c.if-not-names_are_in.false c.requires_no_more.ensures
