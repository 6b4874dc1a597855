-- What code does: it passes, from what is known before it to what is known behind it, or less.
use Rattle.std.proofs.Common.{◌≡◌, ℕ, ◌<◌, length, Option, sym, subst, IsTrue}
use Rattle.core_ir.specs.PointFacts.{PointFacts}
use Rattle.core_ir.specs.Program.{Program}
use Rattle.core_ir.specs.Values.{declared_at}
use Rattle.core_ir.specs.declared.points.Span.{Span}
use Rattle.core_check.specs.Accepted.{Leads, SlotImplies}
use Rattle.core_check.specs.Known.{facts_at, known_of}
use Rattle.core_check.specs.Shapes.{WayShape}
use Rattle.core_check.specs.Types.{known_on}
use Rattle.core_emit.specs.Code.{Code, nothing, leaf, sequence, choice, loop}
use Rattle.core_emit.specs.declared.steps.Step.{Step}
use Rattle.core_emit.specs.declared.steps.Step.TheVariants as step
use Rattle.core_emit.specs.declared.steps.Test.{Test}
use Rattle.core_emit.specs.Emitted.{AreFactsOf, IsCodeOf, IsStepOf, IsTestOf, Passes, StepLeads, TestLeads, known_first}
use Rattle.elaborate.proofs.Given.{Setting, Laws}
use Rattle.elaborate.proofs.Tells.{Tells, tells_itself, tells_through, implies_through}

-- code that passes, and what is known before it tells what is known where it begins
pub record Begins (c : Setting) (code : Code) (before after : PointFacts) : Type 0 where
  pub passes : Passes c.rows c.g code after
  pub tells : Tells c before (known_first code after)

-- so it does where less is asked for behind it; and it names what the function has
pub record Does (c : Setting) (code : Code) (before after : PointFacts) : Type 0 where
  pub begins : (f : PointFacts) → Tells c after f → Begins c code before f
  pub inside : IsCodeOf c.g code

-- a way on leads to what tells all that is asked for
pub record Ways (c : Setting) (p : Program) (f : PointFacts) (way : WayShape) (after : PointFacts) : Type 0 where
  pub reached : IsTrue after.reachable
  pub slots : (i : ℕ) → i < length c.g.slots → SlotImplies c.rows.table (declared_at c.g i) (known_on p c.g f way.changes i) (known_of after i)

module _ (c : Setting) (laws : Laws c) where
  pub does_nothing : (f : PointFacts) → Does c nothing f f
  does_nothing f = record { begins = λ f' tells. record { passes = tt; tells = tells }; inside = tt }

  pub does_both : (first second : Code) (f g h : PointFacts) → Does c first f g → Does c second g h → Does c (sequence first second) f h
  does_both first second f g h one other = record {
    begins = λ f' tells.
        let behind = other.begins f' tells in
        let here = one.begins (known_first second f') behind.tells in
        record { passes = (here.passes, behind.passes); tells = here.tells };
    inside = (one.inside, other.inside);
  }

  -- less may be asked for behind it, and more be known before it
  pub does_less : (code : Code) (f g h : PointFacts) → Does c code f g → Tells c g h → Does c code f h
  does_less code f g h does tells = record { begins = λ f' more. does.begins f' (tells_through c laws g h f' tells more); inside = does.inside }

  pub does_from : (code : Code) (e f g : PointFacts) → Tells c e f → Does c code f g → Does c code e g
  does_from code e f g tells does = record {
    begins = λ f' more. let here = does.begins f' more in record { passes = here.passes; tells = tells_through c laws e f (known_first code f') tells here.tells };
    inside = does.inside;
  }

  -- a way leads to what is told by what it leads to
  pub leads_to : (p : Program) (f : PointFacts) (way : WayShape) (after f' : PointFacts) → p.rows ≡ c.rows → facts_at p way.next.0 ≡ f' → Ways c p f way after → Tells c after f' → Leads p c.g f way
  leads_to p f way after f' rows is ways tells = record {
    reachable = subst (λ (k : PointFacts). IsTrue k.reachable) (sym is) (tells.reached ways.reached);
    slots = λ i lt.
        subst (λ (r : PointFacts). SlotImplies p.rows.table (declared_at c.g i) (known_on p c.g f way.changes i) (known_of r i)) (sym is)
        (subst (λ r. SlotImplies r.table (declared_at c.g i) (known_on p c.g f way.changes i) (known_of f' i)) (sym rows)
        (implies_through c laws (declared_at c.g i) (known_on p c.g f way.changes i) (known_of after i) (known_of f' i) (ways.slots i lt) (tells.slots ways.reached i lt)));
  }

  -- a step between two points
  pub does_step : (site : Option Span) (f after : PointFacts) (step : Step) → AreFactsOf c.g f → IsStepOf c.g step
      → (IsTrue f.reachable → (f' : PointFacts) → Tells c after f' → StepLeads c.rows c.g f step f') → Does c (leaf site f step) f after
  does_step site f after step facts_in step_in leads = record {
    begins = λ f' tells. record { passes = λ reached. leads reached f' tells; tells = tells_itself c laws f };
    inside = (facts_in, step_in);
  }

  -- a test between two ways
  pub does_choice : (site : Option Span) (f one other after : PointFacts) (test : Test) (first second : Code) → AreFactsOf c.g f → IsTestOf c.g test
      → (IsTrue f.reachable → (f' f'' : PointFacts) → Tells c one f' → Tells c other f'' → TestLeads c.rows c.g f test f' f'')
      → Does c first one after → Does c second other after → Does c (choice site f test first second) f after
  does_choice site f one other after test first second facts_in test_in leads then_does else_does = record {
    begins = λ f' tells.
        let a = then_does.begins f' tells in
        let b = else_does.begins f' tells in
        record { passes = (λ reached. leads reached (known_first first f') (known_first second f') a.tells b.tells, (a.passes, b.passes)); tells = tells_itself c laws f };
    inside = ((facts_in, test_in), (then_does.inside, else_does.inside));
  }

  -- a loop
  pub does_loop : (site : Option Span) (head f one other : PointFacts) (condition : Code) (test : Test) (body : Code) → AreFactsOf c.g head → AreFactsOf c.g f → IsTestOf c.g test
      → ((f' : PointFacts) → Tells c head f' → IsTrue head.reachable → StepLeads c.rows c.g head step.GoOn f')
      → (IsTrue f.reachable → (f' f'' : PointFacts) → Tells c one f' → Tells c other f'' → TestLeads c.rows c.g f test f' f'')
      → Does c condition head f → Does c body one head → Does c (loop site head f condition test body) head other
  does_loop site head f one other condition test body head_in facts_in test_in goes leads condition_does body_does = record {
    begins = λ f' tells.
        let a = condition_does.begins f (tells_itself c laws f) in
        let b = body_does.begins head (tells_itself c laws head) in
        record {
          passes = (goes (known_first condition f) a.tells, (λ reached. leads reached (known_first body head) f' b.tells tells, (a.passes, b.passes)));
          tells = tells_itself c laws head;
        };
    inside = ((head_in, (facts_in, test_in)), (condition_does.inside, body_does.inside));
  }
