use Rattle.std.proofs.Common.{◌≡◌, ℕ, ◌+◌, true, false, cond, refl, sym, ap, ◌∙◌, subst, arith}
use Rattle.std.proofs.lemmas.List.{get_or_default}
use Rattle.std.proofs.Math.ListN.{length-map}
use Rattle.dart_types.specs.Named.{named_of, names_of}
use Rattle.dart_types.specs.NamedSearch.{StandsFrom, IsNotFrom}
use Rattle.dart_types.specs.Sub.{is_required}
use Rattle.dart_types.specs.declared.types.NamedType.{NamedType}
use Rattle.dart_types.proofs.Names.{AllBefore, before_later, either, required_alone, required_too, not_among, found_required, passed}
use Rattle.dart_types.proofs.params.requires_no_more.Goals.{then-named-i+in-Some+else-not-others-at, else-named-i}
use Rattle.dart_types.proofs.params.requires_no_more.Goals as goal

-- one that the first list requires and the second doesn't have
pub returns-in-None : goal.returns-in-None
returns-in-None c =
    let named = c.args.named.now in
    let others = c.args.others.now in
    let n = c.index-named-i.result in
    let same = get_or_default named c.loop-i.i c.index-named-i-then-named-i.result n c.loop-i-test.true ∙ sym c.index-named-i.is in
    let none = subst (λ (m : NamedType). IsNotFrom (names_of others) c.loop-i.from m.name) same c.in-None.ensures in
    required_alone named others c.requires.in_order c.requires.others_in_order c.loop-i.i n c.loop-i-test.true c.index-named-i.is
    (ap (λ (m : NamedType). m.required) c.index-named-i.is ∙ c.if-named-i.true)
    (not_among named others c.requires.in_order c.requires.others_in_order c.loop-i.i n c.loop-i-test.true c.index-named-i.is c.loop-i.from c.loop-i.invariant.1 none)
    c.loop-i.invariant.0

-- one that the second list doesn't require
pub returns-then-not-others-at : goal.returns-then-not-others-at
returns-then-not-others-at c =
    let named = c.args.named.now in
    let others = c.args.others.now in
    let n = c.index-named-i.result in
    let same = get_or_default named c.loop-i.i c.index-named-i-then-named-i.result n c.loop-i-test.true ∙ sym c.index-named-i.is in
    let stands = subst (λ (m : NamedType). StandsFrom (names_of others) c.loop-i.from m.name c.in-Some.at) same c.in-Some.ensures in
    required_alone named others c.requires.in_order c.requires.others_in_order c.loop-i.i n c.loop-i-test.true c.index-named-i.is
    (ap (λ (m : NamedType). m.required) c.index-named-i.is ∙ c.if-named-i.true)
    (found_required named others c.requires.in_order c.requires.others_in_order c.loop-i.i n c.loop-i-test.true c.index-named-i.is c.loop-i.from c.in-Some.at c.index-others-at.result stands c.index-others-at.is
    ∙ ap (λ (m : NamedType). m.required) c.index-others-at.is ∙ c.if-not-others-at.true)
    c.loop-i.invariant.0

-- one that the second list requires too, or one that the first doesn't require
pub loop-i-preserved : goal.loop-i-preserved
loop-i-preserved c =
    let named = c.args.named.now in
    let others = c.args.others.now in
    let n = c.index-named-i.result in
    elim c.if-named-i.branch [
      | then-named-i+in-Some+else-not-others-at w ↦
          let same = get_or_default named c.loop-i.i w.index-named-i-then-named-i.result n c.loop-i-test.true ∙ sym c.index-named-i.is in
          let stands = subst (λ (m : NamedType). StandsFrom (names_of others) c.loop-i.from m.name w.in-Some.at) same w.in-Some.ensures in
          let is_true : is_required (named_of others) n.name ≡ true =
          found_required named others c.requires.in_order c.requires.others_in_order c.loop-i.i n c.loop-i-test.true c.index-named-i.is c.loop-i.from w.in-Some.at w.index-others-at.result stands w.index-others-at.is
          ∙ ap (λ (m : NamedType). m.required) w.index-others-at.is ∙ w.if-not-others-at.false in
          let head : cond n.required (is_required (named_of others) n.name) true ≡ true = either n.required (is_required (named_of others) n.name) is_true in
          let within = stands.in_range in
          let counted = length-map others (λ (m : NamedType). m.name) in (
            required_too named others c.requires.in_order c.requires.others_in_order c.loop-i.i n c.loop-i-test.true c.index-named-i.is head c.loop-i.invariant.0,
            subst (λ (k : ℕ). AllBefore others k named (c.loop-i.i + 1)) (sym w.from-is) (passed named others c.requires.in_order c.requires.others_in_order c.loop-i.i n c.loop-i-test.true c.index-named-i.is c.loop-i.from w.in-Some.at stands),
            omega (arith, w.from-is),
          )
      | else-named-i w ↦
          let free : n.required ≡ false = ap (λ (m : NamedType). m.required) c.index-named-i.is ∙ w.if-named-i.false in
          let head : cond n.required (is_required (named_of others) n.name) true ≡ true = rw free refl in (
            required_too named others c.requires.in_order c.requires.others_in_order c.loop-i.i n c.loop-i-test.true c.index-named-i.is head c.loop-i.invariant.0,
            subst (λ (k : ℕ). AllBefore others k named (c.loop-i.i + 1)) (sym w.from-is) (before_later others c.loop-i.from named c.loop-i.i c.loop-i.invariant.1),
            omega (arith, w.from-is, c.loop-i.invariant.2),
          )
    ]
