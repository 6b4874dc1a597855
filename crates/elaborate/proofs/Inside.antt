-- The facts of points are of slots that the function has.
use Rattle.std.proofs.Common.{Bool, true, false, cond, nat_eq, nat_lt, filter, fold, map, List, [], ◌∷◌}
use Rattle.std.specs.Prelude.{All}
use Rattle.std.proofs.lemmas.List.Elements.{All-head, All-tail, All-cons, All-nil}
use Rattle.dart_types.specs.Ty.{Ty}
use Rattle.flow_model.specs.Flow.{FlowModel}
use Rattle.flow_model.specs.declared.locals.Facts.{Facts}
use Rattle.flow_model.specs.declared.locals.LocalId.{LocalId}
use Rattle.core_ir.specs.PointFacts.{put}
use Rattle.core_ir.specs.declared.facts.SlotFact.{SlotFact}
use Rattle.core_ir.specs.declared.points.SlotId.{SlotId}
use Rattle.core_check.specs.WellFormed.{IsSlot}
use Rattle.core_emit.specs.Emitted.{AreFactsOf}
use Rattle.elaborate.specs.Known.{fact_of_local, fact_of_value, facts, facts_of_locals, says_something}
use Rattle.elaborate.proofs.Given.{Setting}
use Rattle.elaborate.proofs.Standing.{AreValues, HasSlots, IsSlotOf, IsValueSlot, Standing}

module _ (P : SlotFact → Type 0) where
  put_at : (first fact : SlotFact) (rest more : List SlotFact) (less same : Bool) → P first → P fact → All P rest → All P more → All P (cond less (first ∷ more) (cond same (fact ∷ rest) (fact ∷ first ∷ rest)))
  put_at first fact rest more true same one own all behind = All-cons P first more one behind
  put_at first fact rest more false true one own all behind = All-cons P fact rest own all
  put_at first fact rest more false false one own all behind = All-cons P fact (first ∷ rest) own (All-cons P first rest one all)

  put_keeps : (fs : List SlotFact) (fact : SlotFact) → All P fs → P fact → All P (put fs fact)
  put_keeps [] fact all own = All-cons P fact [] own (All-nil P)
  put_keeps (first ∷ rest) fact all own =
      put_at first fact rest (put rest fact) (nat_lt first.slot.0 fact.slot.0) (nat_eq first.slot.0 fact.slot.0) (All-head P first rest all) own (All-tail P first rest all) (put_keeps rest fact (All-tail P first rest all) own)

  puts_keep : (start fs : List SlotFact) → All P start → All P fs → All P (fold put start fs)
  puts_keep start [] all own = all
  puts_keep start (f ∷ fs) all own = puts_keep (put start f) fs (put_keeps start f all (All-head P f fs own)) (All-tail P f fs own)

module _ (c : Setting) where
  abbrev IsInside : SlotFact → Type 0
  IsInside fact = IsSlot c.g fact.slot

  locals_inside : (locals : List Facts) → HasSlots c (map (λ l. (l.var, l.ty)) locals) → All IsInside (facts_of_locals c.x locals)
  locals_inside [] slots = All-nil IsInside
  locals_inside (l ∷ locals) slots =
      at (says_something l) (All-head (λ (local : LocalId × Ty). IsSlotOf c local.0.0 local.1) (l.var, l.ty) (map (λ k. (k.var, k.ty)) locals) slots).inside
      (locals_inside locals (All-tail (λ (local : LocalId × Ty). IsSlotOf c local.0.0 local.1) (l.var, l.ty) (map (λ k. (k.var, k.ty)) locals) slots))
    where
      at : (says : Bool) → IsInside (fact_of_local c.x l) → All IsInside (facts_of_locals c.x locals) → All IsInside (map (fact_of_local c.x) (cond says (l ∷ filter says_something locals) (filter says_something locals)))
      at true here rest = All-cons IsInside (fact_of_local c.x l) (facts_of_locals c.x locals) here rest
      at false here rest = rest

  values_inside : (values : List SlotId) → AreValues c values → All IsInside (map fact_of_value values)
  values_inside [] are = All-nil IsInside
  values_inside (slot ∷ values) are =
      All-cons IsInside (fact_of_value slot) (map fact_of_value values)
      (All-head (λ (s : SlotId). IsValueSlot c s.0) slot values are).inside
      (values_inside values (All-tail (λ (s : SlotId). IsValueSlot c s.0) slot values are))

  -- all slots of which something is known are the function's
  pub facts_inside : (m : FlowModel) (values : List SlotId) → Standing c m → AreValues c values → AreFactsOf c.g (facts c.x m values)
  facts_inside m values stands are =
      puts_keep IsInside (fold put [] (facts_of_locals c.x m.locals)) (map fact_of_value values)
      (puts_keep IsInside [] (facts_of_locals c.x m.locals) (All-nil IsInside) (locals_inside m.locals stands.slots))
      (values_inside values are)
