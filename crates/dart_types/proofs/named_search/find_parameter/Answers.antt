use Rattle.std.proofs.Common.{◌≡◌, true, false, get_or, Some, sym, ap, ◌∙◌, subst, arith}
use Rattle.std.specs.Prelude.{bytes_eq}
use Rattle.dart_types.specs.declared.types.NamedType.{NamedType}
use Rattle.dart_types.proofs.NamesFound.{name_found, no_name_at_end, no_name_there}
use Rattle.dart_types.proofs.named_search.find_parameter.Goals as goal

pub returns-then-at-named : goal.returns-then-at-named
returns-then-at-named c =
    sym (no_name_at_end c.args.named.now c.requires c.args.name.now c.place_of_name-at.result c.place_of_name-at.ensures.parts (omega arith))

pub returns-then-eq : goal.returns-then-eq
returns-then-eq c =
    let named = c.args.named.now in
    let name = c.args.name.now in
    let same : bytes_eq c.index-named-at.result.name name ≡ true = let e = c.eq.ensures in let f = c.as_str.ensures in let g = c.as_str-2.ensures in let h = c.if-eq.true in cc in
    let here : bytes_eq (get_or named c.place_of_name-at.result c.index-named-at.result).name name ≡ true = subst (λ (n : NamedType). bytes_eq n.name name ≡ true) c.index-named-at.is same in
    ap (λ (n : NamedType). Some n) c.index-named-at.is
    ∙ sym (name_found named c.requires name c.place_of_name-at.result c.place_of_name-at.ensures.parts c.index-named-at.result (omega arith) here)

pub returns-else-eq : goal.returns-else-eq
returns-else-eq c =
    let named = c.args.named.now in
    let name = c.args.name.now in
    let other : bytes_eq c.index-named-at.result.name name ≡ false = let e = c.eq.ensures in let f = c.as_str.ensures in let g = c.as_str-2.ensures in let h = c.if-eq.false in cc in
    let there : bytes_eq (get_or named c.place_of_name-at.result c.index-named-at.result).name name ≡ false = subst (λ (n : NamedType). bytes_eq n.name name ≡ false) c.index-named-at.is other in
    sym (no_name_there named c.requires name c.place_of_name-at.result c.place_of_name-at.ensures.parts c.index-named-at.result (omega arith) there)
