-- The points of code that names what its function has are well formed.
use Rattle.std.proofs.Common.{◌≡◌, ◌≢◌, ◌⊎◌, ℕ, ◌+◌, ◌<◌, ◌≤◌, true, false, List, [], ◌∷◌, ◌++◌, length, get_or, Option, refl, sym, ap, ◌∙◌, subst, arith, All, inl, inr, length-append}
use Rattle.std.proofs.Math.ListN.{get_or-append}
use Rattle.std.proofs.Math.Seq.{get_or-append_seam}
use Rattle.std.proofs.lemmas.Bool.{cases_eq, cases_lt}
use Rattle.std.proofs.lemmas.List.{get_or-set_same, get_or-set_other, length-set}
use Rattle.std.proofs.lemmas.List.Elements.{All-nil, All-cons, All-weaker}
use Rattle.std.proofs.lemmas.Option.{slice_get_within, slice_get-get_or, get_or_from_slice_get}
use Rattle.core_ir.specs.PointFacts.{PointFacts}
use Rattle.core_ir.specs.Program.{Function, Program}
use Rattle.core_ir.specs.declared.facts.SlotFact.{SlotFact}
use Rattle.core_ir.specs.declared.values.Value.TheVariants.{Null, Integer, Boolean}
use Rattle.core_ir.specs.declared.points.FunctionId.{FunctionId}
use Rattle.core_ir.specs.declared.points.Operand.TheVariants.{Slot, Constant}
use Rattle.core_ir.specs.declared.points.Point.{Point}
use Rattle.core_ir.specs.declared.points.PointId.{PointId}
use Rattle.core_ir.specs.declared.points.Span.{Span}
use Rattle.core_ir.specs.declared.points.Term.{Term}
use Rattle.core_ir.specs.declared.points.Term.TheVariants.{Goto, End}
use Rattle.core_check.specs.declared.parts.TypeSource.TheVariants.{IntType, BoolType, OperandType, NonNullType}
use Rattle.core_check.specs.declared.parts.Change.{Change}
use Rattle.core_check.specs.Known.{no_point, function_at}
use Rattle.core_check.specs.Shapes.{TermShape, WayShape, shape, holds, is_fresh, narrows, way, straight}
use Rattle.core_check.specs.WellFormed.{IsSlot, IsShape, IsPointOf}
use Rattle.core_emit.specs.Code.{Code, nothing, leaf, sequence, choice, loop, step_to, test_to}
use Rattle.core_emit.specs.declared.steps.Step.{Step}
use Rattle.core_emit.specs.declared.steps.Step.TheVariants as step
use Rattle.core_emit.specs.declared.steps.Test.{Test}
use Rattle.core_emit.specs.declared.steps.Test.TheVariants as test
use Rattle.core_emit.specs.Emitted.{Made, with_point, with_term, emit, with_points, IsStepOf, IsTestOf, AreFactsOf, IsCodeOf, IsOwn, AllFormed}

-- the one and the two items of a list
one : {X : Type 0} (P : X → Type 0) (x : X) → P x → All P (x ∷ [])
one P x here = All-cons P x [] here (All-nil P)

two : {X : Type 0} (P : X → Type 0) (x y : X) → P x → P y → All P (x ∷ y ∷ [])
two P x y here there = All-cons P x (y ∷ []) here (one P y there)

-- more points, and those that there were stay those of their functions
pub record Grown (old new : List Point) : Type 0 where
  pub longer : length old ≤ length new
  pub functions : (k : ℕ) → k < length old → (get_or new k no_point).function ≡ (get_or old k no_point).function

grown_self : (points : List Point) → Grown points points
grown_self points = record { longer = omega arith; functions = λ k lt. refl }

grown_trans : (a b c : List Point) → Grown a b → Grown b c → Grown a c
grown_trans a b c x y = record {
  longer = let u = x.longer in let v = y.longer in omega arith;
  functions = λ k lt. let u = x.longer in y.functions k (omega arith) ∙ x.functions k lt;
}

-- a point of a function stays one
own_kept : (old new : List Point) (id : FunctionId) (point : PointId) → Grown old new → IsOwn old id point → IsOwn new id point
own_kept old new id point grown own = record {
  inside = let u = own.inside in let v = grown.longer in omega arith;
  own = grown.functions point.0 own.inside ∙ own.own;
}

module _ (g : Function) (id : FunctionId) where
  -- a way from the point with the number k to another of the function
  pub record Goes (points : List Point) (k : ℕ) (way : WayShape) : Type 0 where
    pub next_in : IsOwn points id way.next
    pub apart : way.next.0 ≢ k

  -- the function has the slots that a shape names, and its ways go to other points of it
  pub record HasParts (points : List Point) (k : ℕ) (s : TermShape) : Type 0 where
    pub slots_in : All (IsSlot g) s.slots
    pub ways_in : All (Goes points k) s.ways

  -- more points are there
  parts_kept : (old new : List Point) (k : ℕ) (s : TermShape) → Grown old new → HasParts old k s → HasParts new k s
  parts_kept old new k s grown has = record {
    slots_in = has.slots_in;
    ways_in = All-weaker (Goes old k) (Goes new k) (λ way goes. record { next_in = own_kept old new id way.next grown goes.next_in; apart = goes.apart }) s.ways has.ways_in;
  }

  module _ (points : List Point) (k : ℕ) where
    end_parts : HasParts points k (shape End)
    end_parts = record { slots_in = All-nil (IsSlot g); ways_in = All-nil (Goes points k) }

    -- the ways of the term of a step
    module _ (next : PointId) (lt : IsOwn points id next) (apart : next.0 ≢ k) where
      goes : (changes : List Change) → All (Goes points k) (way next changes ∷ [])
      goes changes = one (Goes points k) (way next changes) (record { next_in = lt; apart = apart })

      step_goes : (step : Step) → All (Goes points k) (shape (step_to step next)).ways
      step_goes (step.Store to from) = goes (holds to (OperandType from) ∷ [])
      step_goes (step.Declare slot) = goes (is_fresh slot ∷ [])
      step_goes (step.Initialize slot from) = goes (is_fresh slot ∷ holds slot (OperandType from) ∷ [])
      step_goes (step.Add to left right) = goes (holds to IntType ∷ [])
      step_goes (step.Less to left right) = goes (holds to BoolType ∷ [])
      step_goes (step.NotEqual to left right) = goes (holds to BoolType ∷ [])
      step_goes (step.Output from) = goes []
      step_goes step.GoOn = goes []

    step_parts : (step : Step) (next : PointId) → IsStepOf g step → IsOwn points id next → next.0 ≢ k → HasParts points k (shape (step_to step next))
    step_parts step next has lt apart = record { slots_in = has next; ways_in = step_goes next lt apart step }

    -- and of the term of a test
    module _ (first second : PointId) (first_lt : IsOwn points id first) (first_apart : first.0 ≢ k) (second_lt : IsOwn points id second) (second_apart : second.0 ≢ k) where
      both_ways : All (Goes points k) (straight first ∷ straight second ∷ [])
      both_ways = two (Goes points k) (straight first) (straight second) (record { next_in = first_lt; apart = first_apart }) (record { next_in = second_lt; apart = second_apart })

      test_goes : (test : Test) → All (Goes points k) (shape (test_to test first second)).ways
      test_goes (test.OnTruth (Slot slot)) = both_ways
      test_goes (test.OnTruth (Constant Null)) = both_ways
      test_goes (test.OnTruth (Constant (Integer i))) = both_ways
      test_goes (test.OnTruth (Constant (Boolean true))) = goes first first_lt first_apart []
      test_goes (test.OnTruth (Constant (Boolean false))) = goes second second_lt second_apart []
      test_goes (test.OnNotNull slot) =
          two (Goes points k) (straight second) (way first (narrows slot (NonNullType slot) ∷ [])) (record { next_in = second_lt; apart = second_apart }) (record { next_in = first_lt; apart = first_apart })

    test_parts : (test : Test) (first second : PointId) → IsTestOf g test → IsOwn points id first → first.0 ≢ k → IsOwn points id second → second.0 ≢ k → HasParts points k (shape (test_to test first second))
    test_parts test first second has first_lt first_apart second_lt second_apart = record {
      slots_in = has first second;
      ways_in = test_goes first second first_lt first_apart second_lt second_apart test;
    }

  module _ (p : Program) (id_in : id.0 < length p.functions) (function_is : function_at p id.0 ≡ g) where
    -- a point of the function, by the words of well-formed programs
    own_point : (points : List Point) (k : ℕ) (point : Point) → point.function ≡ id → AreFactsOf g point.facts → HasParts points k (shape point.term) → IsPointOf (with_points p points) k point
    own_point points k point own listed_in has =
        let number : point.function.0 ≡ id.0 = ap (λ (f : FunctionId). f.0) own in
        let same : g ≡ function_at p point.function.0 = sym (ap (function_at p) number ∙ function_is) in
        let parts : IsShape (with_points p points) g point.function.0 (shape point.term) =
        record {
          slots_in = has.slots_in;
          ways_in = λ j d lt. record {
            next_in = (has.ways_in j d lt).next_in.inside;
            same_function = ap (λ (f : FunctionId). f.0) (has.ways_in j d lt).next_in.own ∙ sym number;
          };
        } in
        record {
          function_in = subst (λ (n : ℕ). n < length p.functions) (sym number) id_in;
          listed_in = subst (λ (h : Function). All (λ (fact : SlotFact). IsSlot h fact.slot) point.facts.listed) same listed_in;
          shape_in = subst (λ (h : Function). IsShape (with_points p points) h point.function.0 (shape point.term)) same parts;
          moves_on = λ j d lt. (has.ways_in j d lt).apart;
        }

    -- a point stays well formed
    point_kept : (old new : List Point) (k : ℕ) (point : Point) → Grown old new → IsPointOf (with_points p old) k point → IsPointOf (with_points p new) k point
    point_kept old new k point grown is = record {
      function_in = is.function_in;
      listed_in = is.listed_in;
      shape_in = record {
        slots_in = is.shape_in.slots_in;
        ways_in = λ j d lt. let way = is.shape_in.ways_in j d lt in record {
          next_in = let u = way.next_in in let v = grown.longer in omega arith;
          same_function = ap (λ (f : FunctionId). f.0) (grown.functions (get_or (shape point.term).ways j d).next.0 way.next_in) ∙ way.same_function;
        };
      };
      moves_on = is.moves_on;
    }

    -- all points are well formed
    pub record AllIn (points : List Point) : Type 0 where
      pub each : (k : ℕ) → k < length points → IsPointOf (with_points p points) k (get_or points k no_point)

    pub all_in : (points : List Point) → AllFormed (with_points p points) → AllIn points
    all_in points formed = record { each = λ k lt. formed.points_in k (get_or points k no_point) (slice_get-get_or points k no_point lt) }

    pub all_formed : (points : List Point) → AllIn points → AllFormed (with_points p points)
    all_formed points all = record {
      points_in = λ k point at.
          subst (IsPointOf (with_points p points) k) (get_or_from_slice_get points k point no_point at) (all.each k (slice_get_within points k point at));
    }

    -- one more point
    module _ (old : List Point) (all : AllIn old) (site : Option Span) (facts : PointFacts) (term : Term) where
      abbrev new_point : Point
      new_point = record { function = id; site = site; facts = facts; term = term }

      abbrev more : List Point
      more = old ++ new_point ∷ []

      more_length : length more ≡ length old + 1
      more_length = length-append old (new_point ∷ [])

      more_last : get_or more (length old) no_point ≡ new_point
      more_last = get_or-append_seam old new_point [] no_point

      more_grown : Grown old more
      more_grown = record {
        longer = let n = more_length in omega arith;
        functions = λ k lt. ap (λ (q : Point). q.function) (get_or-append old (new_point ∷ []) no_point k lt);
      }

      more_own : IsOwn more id (record { 0 = length old })
      more_own = record { inside = let n = more_length in omega arith; own = ap (λ (q : Point). q.function) more_last }

      add : AreFactsOf g facts → HasParts old (length old) (shape term) → AllIn more
      add listed_in parts_in = record {
        each = λ k lt. let n = more_length in elim (cases_lt k (length old)) [
          | inl before ↦
              subst (IsPointOf (with_points p more) k) (sym (get_or-append old (new_point ∷ []) no_point k before))
              (point_kept old more k (get_or old k no_point) more_grown (all.each k before))
          | inr behind ↦
              (let same : k ≡ length old = omega arith in
              subst (λ (i : ℕ). IsPointOf (with_points p more) i (get_or more i no_point)) (sym same)
              (subst (IsPointOf (with_points p more) (length old)) (sym more_last)
              (own_point more (length old) new_point refl listed_in (parts_kept old more (length old) (shape term) more_grown parts_in))))
        ];
      }

    -- another term at a point of the function
    module _ (old : List Point) (all : AllIn old) (at : PointId) (term : Term) (is : IsOwn old id at) where
      abbrev told : List Point
      told = with_term old at term

      abbrev told_point : Point
      told_point = record (get_or old at.0 no_point) { term = term }

      told_length : length told ≡ length old
      told_length = length-set old at.0 told_point

      told_here : get_or told at.0 no_point ≡ told_point
      told_here = get_or-set_same old at.0 told_point no_point is.inside

      told_grown : Grown old told
      told_grown = record {
        longer = let n = told_length in omega arith;
        functions = λ k lt. elim (cases_eq k at.0) [
          | inl same ↦ subst (λ (i : ℕ). (get_or told i no_point).function ≡ (get_or old i no_point).function) (sym same) (ap (λ (q : Point). q.function) told_here)
          | inr apart ↦ ap (λ (q : Point). q.function) (get_or-set_other old at.0 k told_point no_point apart)
        ];
      }

      told_facts : AreFactsOf g told_point.facts
      told_facts =
          subst (λ (h : Function). AreFactsOf h told_point.facts) (ap (λ (f : FunctionId). function_at p f.0) is.own ∙ function_is) (all.each at.0 is.inside).listed_in

      tell : HasParts old at.0 (shape term) → AllIn told
      tell parts_in = record {
        each = λ k lt. let n = told_length in elim (cases_eq k at.0) [
          | inl same ↦
              subst (λ (i : ℕ). IsPointOf (with_points p told) i (get_or told i no_point)) (sym same)
              (subst (IsPointOf (with_points p told) at.0) (sym told_here)
              (own_point told at.0 told_point is.own told_facts (parts_kept old told at.0 (shape term) told_grown parts_in)))
          | inr apart ↦
              subst (IsPointOf (with_points p told) k) (sym (get_or-set_other old at.0 k told_point no_point apart))
              (point_kept old told k (get_or old k no_point) told_grown (all.each k (omega arith)))
        ];
      }

    -- what making the points of code gives: code begins at one of them or at the point behind it, which is of the function
    pub record Gives (old : List Point) (next : PointId) (made : Made) : Type 0 where
      pub all : AllIn made.points
      pub grown : Grown old made.points
      pub entry_own : IsOwn made.points id made.entry
      pub entry_new : (made.entry.0 ≡ next.0) ⊎ (length old ≤ made.entry.0)

    one_point : (old : List Point) (next : PointId) (site : Option Span) (facts : PointFacts) (term : Term) → AllIn old → AreFactsOf g facts → HasParts old (length old) (shape term) → Gives old next (with_point id site facts term old)
    one_point old next site facts term all listed_in parts_in = record {
      all = add old all site facts term listed_in parts_in;
      grown = more_grown old all site facts term;
      entry_own = more_own old all site facts term;
      entry_new = inr (omega arith);
    }

    -- where code begins from more points is past those before
    begins_past : (old : List Point) (m : ℕ) (next : PointId) (made : Made) → Gives old next made → m ≤ length old → (m ≤ next.0) → m ≤ made.entry.0
    begins_past old m next made gives le past = elim gives.entry_new [ inl same ↦ omega arith | inr behind ↦ omega arith ]

    pub forms : (code : Code) (next : PointId) (old : List Point) → IsCodeOf g code → AllIn old → IsOwn old id next → Gives old next (emit id code next old)
    forms nothing next old has all own = record { all = all; grown = grown_self old; entry_own = own; entry_new = inl refl }
    forms (leaf site facts step) next old has all own =
        let inside = own.inside in
        one_point old next site facts (step_to step next) all has.0 (step_parts old (length old) step next has.1 own (λ e. absurd (omega arith)))
    forms (sequence first second) next old has all own =
        let after = emit id second next old in
        let y = forms second next old has.1 all own in
        let x = forms first after.entry after.points has.0 y.all y.entry_own in
        let yl = y.grown.longer in
        record {
          all = x.all;
          grown = grown_trans old after.points _ y.grown x.grown;
          entry_own = x.entry_own;
          entry_new = elim x.entry_new [ inl same ↦ elim y.entry_new [ inl next_same ↦ inl (same ∙ next_same) | inr behind ↦ inr (omega arith) ] | inr behind ↦ inr (omega arith) ];
        }
    forms (choice site facts test first second) next old has all own =
        let other = emit id second next old in
        let one = emit id first next other.points in
        let y = forms second next old has.1.1 all own in
        let x = forms first next other.points has.1.0 y.all (own_kept old other.points id next y.grown own) in
        let other_own = own_kept other.points one.points id other.entry x.grown y.entry_own in
        let one_in = x.entry_own.inside in
        let other_in = other_own.inside in
        let z = one_point one.points next site facts (test_to test one.entry other.entry) x.all has.0.0
        (test_parts one.points (length one.points) test one.entry other.entry has.0.1 x.entry_own (λ e. absurd (omega arith)) other_own (λ e. absurd (omega arith))) in
        let xl = x.grown.longer in
        let yl = y.grown.longer in
        record { all = z.all; grown = grown_trans old one.points _ (grown_trans old other.points one.points y.grown x.grown) z.grown; entry_own = z.entry_own; entry_new = inr (omega arith) }
    forms (loop site head facts condition test body) next old has all own =
        let start = with_point id site head End old in
        let s = one_point old next site head End all has.0.0 (end_parts old (length old)) in
        let passes = emit id body start.entry start.points in
        let b = forms body start.entry start.points has.1.1 s.all s.entry_own in
        let next_own = own_kept start.points passes.points id next b.grown (own_kept old start.points id next s.grown own) in
        let passes_in = b.entry_own.inside in
        let next_in = next_own.inside in
        let tests = with_point id site facts (test_to test passes.entry next) passes.points in
        let t = one_point passes.points next site facts (test_to test passes.entry next) b.all has.0.1.0
        (test_parts passes.points (length passes.points) test passes.entry next has.0.1.1 b.entry_own (λ e. absurd (omega arith)) next_own (λ e. absurd (omega arith))) in
        let asks = emit id condition tests.entry tests.points in
        let c = forms condition tests.entry tests.points has.1.0 t.all t.entry_own in
        let body_grown = grown_trans start.points passes.points asks.points b.grown (grown_trans passes.points tests.points asks.points t.grown c.grown) in
        let at_own = own_kept start.points asks.points id start.entry body_grown s.entry_own in
        let tl = t.grown.longer in
        let past : length passes.points ≤ asks.entry.0 = begins_past tests.points (length passes.points) tests.entry asks c tl (omega arith) in
        let at_in = s.entry_own.inside in
        let bl = b.grown.longer in
        let told_kept = told_grown asks.points c.all start.entry (Goto asks.entry) at_own in
        record {
          all = tell asks.points c.all start.entry (Goto asks.entry) at_own (step_parts asks.points start.entry.0 step.GoOn asks.entry (λ next. All-nil (IsSlot g)) c.entry_own (λ e. absurd (omega arith)));
          grown = grown_trans old asks.points _ (grown_trans old start.points asks.points s.grown body_grown) told_kept;
          entry_own = own_kept asks.points (with_term asks.points start.entry (Goto asks.entry)) id start.entry told_kept at_own;
          entry_new = inr (omega arith);
        }
