use Rattle.std.proofs.Common.{◌≡◌, true, length, sym, ap, ◌∙◌}
use Rattle.std.specs.Prelude.{◌&&◌, ◌||◌, not}
use Rattle.std.proofs.lemmas.Bool.{and_from}
use Rattle.dart_types.specs.Ty.{types_of}
use Rattle.dart_types.specs.Named.{named_of}
use Rattle.type_bounds.specs.Signatures.{required_are_in, some_type, some_named}
use Rattle.type_bounds.proofs.SignatureTests.{counts_same, counts_differ, and_first, and_second}
use Rattle.type_bounds.proofs.signatures.have_upper.Goals as goal

pub returns-then-as_slice : goal.returns-then-as_slice
returns-then-as_slice c =
    let differ = counts_differ c.args.function.now.required c.args.other.now.required (λ e. c.if-as_slice.true (ap length c.as_slice.ensures ∙ (e ∙ sym (ap length c.as_slice-2.ensures)))) in
    and_first _ _ (sym (and_first _ _ differ))

pub returns : goal.returns
returns c =
    let n = named_of c.args.function.now.named in
    let n' = named_of c.args.other.now.named in
    let o = types_of c.args.function.now.optional in
    let o' = types_of c.args.other.now.optional in
    let required = counts_same c.args.function.now.required c.args.other.now.required (sym (ap length c.as_slice.ensures) ∙ (c.if-as_slice.false ∙ ap length c.as_slice-2.ensures)) in
    let e = c.as_slice-3.ensures.same in
    let f = c.as_slice-4.ensures.same in
    let there : required_are_in n n' ≡ true = let g = c.required_are_in.ensures in let h = c.if-not-required_are_in.false in cc in
    let back : required_are_in n' n ≡ true = let g = c.required_are_in-2.ensures in let h = c.if-not-required_are_in-2.false in cc in
    let last : not ((c.some_type.result && c.some_named.result) || (c.some_type-2.result && c.some_named-2.result)) ≡ not ((some_type o && some_named n') || (some_type o' && some_named n)) =
    let g = c.some_type.ensures in
    let h = c.some_named.ensures in
    let i = c.some_type-2.ensures in
    let j = c.some_named-2.ensures in
    cc
    in
    last ∙ and_second _ _ (and_from _ _ required (and_from _ _ there back))
