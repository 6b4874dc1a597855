use Rattle.std.proofs.Common.{◌≡◌, ℕ, ◌≤◌, inl, inr, List, length, Some, slice_get, refl, sym, ap, subst, arith}
use Rattle.std.proofs.lemmas.Bool.{cases_eq, cases_lt}
use Rattle.std.proofs.lemmas.Option.{slice_get_read}
use Rattle.element_terms.specs.declared.declarations.Declared.{Declared}
use Rattle.namespaces.specs.Namespaces.{CoversAll}
use Rattle.namespaces.proofs.Gaining.{both_gains, all_still, past_declared}
use Rattle.namespaces.proofs.export_tables.add_library.Goals as goal

pub loop-at-preserved : goal.loop-at-preserved
loop-at-preserved c =
    let libraries = c.args.libraries.now in
    let start = c.args.all.now.items in
    let mid = c.loop-at.all.items in
    let new = c.add_declared.new.all.items in
    record {
      gains = both_gains libraries start mid new c.loop-at.invariant.gains c.in_ok-add_declared.ensures.gains;
      covers = λ k h. elim (cases_eq k c.loop-at.at) [
        | inl same ↦ subst (λ (n : ℕ). CoversAll libraries c.args.place n new) (sym same) c.in_ok-add_declared.ensures.covers
        | inr other ↦ all_still libraries c.args.place k mid new c.in_ok-add_declared.ensures.gains (c.loop-at.invariant.covers k (omega (arith, h, other)))
      ];
    }

pub returns-clause-covers : goal.returns-clause-covers
returns-clause-covers c =
    let libraries = c.args.libraries.now in
    let library = c.index-libraries-place.result in
    let stands : slice_get libraries c.args.place ≡ Some library = slice_get_read libraries (length libraries) c.args.place library refl c.requires.within c.index-libraries-place.is in
    let listed : length c.as_slice-declarations.result.now ≡ length library.declared = ap (λ (ds : List Declared). length ds) c.as_slice-declarations.ensures in
    let end : length library.declared ≤ c.loop-at.at = omega arith in
    record {
      declared = λ at. elim (cases_lt at (length library.declared)) [
        | inl below ↦ c.loop-at.invariant.covers at (omega (arith, below, end))
        | inr past ↦ past_declared libraries c.args.place at library c.loop-at.all.items stands past
      ];
    }
