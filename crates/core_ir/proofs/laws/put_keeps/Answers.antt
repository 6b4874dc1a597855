use Rattle.std.proofs.Common.{◌≡◌, ◌⊎◌, Contains, refl, inl, inr}
use Rattle.std.proofs.lemmas.List.Elements.{All-weaker, All-contains_itself}
use Rattle.core_ir.specs.declared.facts.SlotFact.{SlotFact}
use Rattle.core_ir.proofs.Puts.{put_all}
use Rattle.core_ir.proofs.laws.put_keeps.Goals as goal

pub returns : goal.returns
returns c facts fact =
    put_all (λ (listed : SlotFact). (listed ≡ fact) ⊎ Contains facts listed) facts fact
    (All-weaker (Contains facts) (λ (listed : SlotFact). (listed ≡ fact) ⊎ Contains facts listed) (λ listed inside. inr inside) facts (All-contains_itself facts))
    (inl refl)
