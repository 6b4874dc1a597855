use Rattle.std.proofs.Common.{◌≡◌, ℕ, drop, sym, ap, ◌∙◌, arith}
use Rattle.std.specs.List.{position_from}
use Rattle.std.proofs.lemmas.Iterator.Adapters.{position_from-zero}
use Rattle.element_terms.specs.declared.declarations.Declared.{Declared}
use Rattle.element_terms.specs.Declarations.{declares}
use Rattle.element_terms.proofs.name_tables.name_table.Goals as goal

pub returns : goal.returns
returns c = record {
  places = λ q.
      let p = λ (d : Declared). declares d q in
      let all = c.args.declared.now in
      let first : c.loop-place.place ≡ 0 = omega arith in
      c.loop-place.invariant q ∙ (ap (λ (i : ℕ). position_from p i (drop i all)) first ∙ sym (position_from-zero p all));
}
