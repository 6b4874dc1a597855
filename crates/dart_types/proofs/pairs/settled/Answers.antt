use Rattle.std.proofs.Common.{◌≡◌, refl, sym, ◌∙◌, subst}
use Rattle.dart_types.specs.Ty.{Ty}
use Rattle.dart_types.specs.Normal.{normal}
use Rattle.dart_types.proofs.NormalForms.{normal-normal}
use Rattle.dart_types.proofs.Replacing.{replaced_nothing}
use Rattle.dart_types.proofs.pairs.settled.Goals as goal

-- a type that is a normal form is its own
is_settled : (t u : Ty) → t ≡ normal u → normal t ≡ t
is_settled t u e = subst (λ (s : Ty). normal s ≡ s) (sym e) (normal-normal u)

pub invariant_of-result : goal.invariant_of-result
invariant_of-result c = record {
  settled = is_settled c.in_ok-ty.ty c.args.with.now (c.in_ok-ty.ensures ∙ replaced_nothing c.args.with.now);
  counted = c.size-nodes.ensures;
}

pub returns : goal.returns
returns c = (refl, c.in_ok-ty.ensures ∙ replaced_nothing c.args.with.now)
