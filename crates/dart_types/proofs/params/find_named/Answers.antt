use Rattle.std.proofs.Common.{◌≡◌, ℕ, slice_index_or, subst, sym, ap, ◌∙◌, arith, inl, inr}
use Rattle.std.proofs.lemmas.Bool.{cases_lt}
use Rattle.dart_types.specs.Named.{names_of}
use Rattle.dart_types.specs.declared.types.NamedType.{NamedType}
use Rattle.dart_types.proofs.Names.{other_at}
use Rattle.dart_types.proofs.params.find_named.Goals as goal

-- another name
pub loop-at-preserved : goal.loop-at-preserved
loop-at-preserved c = λ j d le lt e.
    elim (cases_lt j c.loop-at.at) [
      | inl less ↦ c.loop-at.invariant j d le less e
      | inr more ↦
          let same : j ≡ c.loop-at.at = omega arith in
          other_at c.args.named.now c.loop-at.at c.index-named-at.result c.args.name.now c.as_str.result.now c.as_str-in-loop-at.result.now c.loop-at-test.true c.index-named-at.is (c.as_str.ensures ∙ ap (λ (n : NamedType). n.name) (sym c.index-named-at.is)) c.as_str-in-loop-at.ensures (sym c.eq.ensures ∙ c.if-eq.false) d (subst (λ (k : ℕ). slice_index_or (names_of c.args.named.now) k d ≡ c.args.name.now) same e)
    ]
