use Rattle.std.proofs.Common.{ℕ, inl, inr, [], length, replicate, sym, subst, arith}
use Rattle.std.proofs.lemmas.Bool.{cases_eq}
use Rattle.namespaces.specs.Namespaces.{CoversLibrary}
use Rattle.namespaces.proofs.Gaining.{both_gains, library_still, are_namespaces}
use Rattle.namespaces.proofs.export_tables.exports.Goals as goal

pub loop-place-preserved : goal.loop-place-preserved
loop-place-preserved c =
    let libraries = c.args.libraries.now in
    let mid = c.loop-place.all.items in
    let new = c.add_library.new.all.items in
    record {
      gains = both_gains libraries (replicate (length libraries) []) mid new c.loop-place.invariant.gains c.in_ok-add_library.ensures.gains;
      covers = λ k h. elim (cases_eq k c.loop-place.place) [
        | inl same ↦ subst (λ (n : ℕ). CoversLibrary libraries n new) (sym same) c.in_ok-add_library.ensures.covers
        | inr other ↦ library_still libraries k mid new c.in_ok-add_library.ensures.gains (c.loop-place.invariant.covers k (omega (arith, h, other)))
      ];
    }

pub returns : goal.returns
returns c =
    let libraries = c.args.libraries.now in
    are_namespaces libraries c.loop-place.all.items c.loop-place.invariant.gains (λ k h. c.loop-place.invariant.covers k (omega (arith, h)))
