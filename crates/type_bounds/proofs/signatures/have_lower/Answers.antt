use Rattle.std.proofs.Common.{◌≡◌, nat_eq, Bool, length, sym, ap, ◌∙◌}
use Rattle.std.specs.Prelude.{◌&&◌}
use Rattle.dart_types.specs.Ty.{types_of, count}
use Rattle.dart_types.specs.Named.{named_of}
use Rattle.type_bounds.specs.Signatures.{same_names}
use Rattle.type_bounds.proofs.SignatureTests.{counts_same, counts_differ, and_first, and_false, and_second}
use Rattle.type_bounds.proofs.signatures.have_lower.Goals as goal

pub returns-then-as_slice : goal.returns-then-as_slice
returns-then-as_slice c =
    and_first _ _ (counts_differ c.args.function.now.required c.args.other.now.required (λ e. c.if-as_slice.true (ap length c.as_slice.ensures ∙ (e ∙ sym (ap length c.as_slice-2.ensures)))))

pub returns-then-as_slice-2 : goal.returns-then-as_slice-2
returns-then-as_slice-2 c =
    let r = c.args.function.now.required in
    let r' = c.args.other.now.required in
    let differ = counts_differ c.args.function.now.optional c.args.other.now.optional (λ e. c.if-as_slice-2.true (ap length c.as_slice-3.ensures ∙ (e ∙ sym (ap length c.as_slice-4.ensures)))) in
    and_false (nat_eq (count (types_of r)) (count (types_of r')))
    ∙ ap (λ (b : Bool). nat_eq (count (types_of r)) (count (types_of r')) && b) (and_first _ (same_names (named_of c.args.function.now.named) (named_of c.args.other.now.named)) differ)

pub returns : goal.returns
returns c =
    let required = counts_same c.args.function.now.required c.args.other.now.required (sym (ap length c.as_slice.ensures) ∙ (c.if-as_slice.false ∙ ap length c.as_slice-2.ensures)) in
    let optional = counts_same c.args.function.now.optional c.args.other.now.optional (sym (ap length c.as_slice-3.ensures) ∙ (c.if-as_slice-2.false ∙ ap length c.as_slice-4.ensures)) in
    let names : c.same_names.result ≡ same_names (named_of c.args.function.now.named) (named_of c.args.other.now.named) =
    let e = c.same_names.ensures in
    let f = c.as_slice-5.ensures.same in
    let g = c.as_slice-6.ensures.same in
    cc
    in
    names ∙ (and_second _ _ optional ∙ and_second _ _ required)
