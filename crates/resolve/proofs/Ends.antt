-- A block that declares nothing.
use Rattle.std.proofs.Common.{◌≡◌, List, [], ◌∷◌, refl, ap}
use Rattle.std.specs.Prelude.{filter, not}
use Rattle.flow_model.specs.Flow.{FlowModel, end_of, is_listed}
use Rattle.flow_model.specs.declared.locals.Facts.{Facts}

-- all are kept of which none is listed
kept : (locals : List Facts) → filter (λ (l : Facts). not (is_listed [] l.var)) locals ≡ locals
kept [] = refl
kept (l ∷ locals) = ap (λ ls. l ∷ ls) (kept locals)

-- where no local ends, the model stays
pub end_of-none : (m : FlowModel) → end_of m [] ≡ m
end_of-none m i = record { reachable = m.reachable; locals = kept m.locals i }
