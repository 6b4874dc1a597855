use Rattle.std.proofs.Common.{ℕ, arith, refl, sym, ◌∙◌}
use Rattle.class_depths.proofs.Ids.{rising_done, not_rising}
use Rattle.class_depths.specs.declared.classes.DeclaredClass.{DeclaredClass}
use Rattle.class_depths.proofs.classes.are_in_order.Goals as goal

abbrev lib : DeclaredClass → ℕ
lib d = d.id.lib.0

abbrev index : DeclaredClass → ℕ
index d = d.id.index

pub returns-then-not-is_before : goal.returns-then-not-is_before
returns-then-not-is_before c =
    let falls = not_rising lib index c.args.declared.now c.loop-i.i c.index-declared-i.result c.index-declared-i-in-loop-i.result c.loop-i.invariant.1 (omega arith) (sym c.is_before.ensures ∙ c.if-not-is_before.true) in
    (λ h. cc, λ a. absurd (falls a))

pub returns : goal.returns
returns c = (λ h. rising_done lib index c.args.declared.now c.loop-i.i (omega arith) c.loop-i.invariant.0, λ a. refl)
