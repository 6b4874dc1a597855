-- The program of a body in which nothing is wrong is well formed and accepted.
use Rattle.std.proofs.Common.{◌≡◌, ℕ, zero, suc, ◌^◌, ◌<◌, ◌≤◌, true, List, [], ◌∷◌, ◌++◌, length, get_or, Some, None, refl, sym, ap, ◌∙◌, subst, arith, IsTrue}
use Rattle.std.specs.FinMap.{empty}
use Rattle.std.specs.Prelude.{IsFalse, slice_get}
use Rattle.std.proofs.lemmas.List.Elements.{All-nil}
use Rattle.std.proofs.lemmas.Option.{slice_get_within, slice_get-get_or}
use Rattle.dart_tree.specs.Tree.{Tree, Trees, block}
use Rattle.dart_tree.specs.declared.places.Place.{Place}
use Rattle.dart_types.specs.FormedTable.{FormedTable}
use Rattle.dart_types.specs.SubTest.{sub}
use Rattle.flow_model.specs.Flow.{FlowModel, start_of}
use Rattle.judgement.specs.DeclaredNames.{names_in, within}
use Rattle.judgement.specs.Given.{Outcome, said_of_statement}
use Rattle.judgement.specs.declared.meaning.Meaning.{Meaning}
use Rattle.judgement.specs.Judgement.{run, run_all}
use Rattle.built_forms.specs.Forms.{is_statement}
use Rattle.rule_laws.specs.Plain.{HidesNothing, IsPlainLocal}
use Rattle.core_ir.specs.PointFacts.{PointFacts}
use Rattle.core_ir.specs.Program.{Function, Program}
use Rattle.core_ir.specs.Values.{int, bool}
use Rattle.core_ir.specs.declared.points.FunctionId.{FunctionId}
use Rattle.core_ir.specs.declared.points.Point.{Point}
use Rattle.core_ir.specs.declared.points.PointId.{PointId}
use Rattle.core_ir.specs.declared.points.SlotId.{SlotId}
use Rattle.core_ir.specs.declared.points.Term.TheVariants.{End}
use Rattle.core_check.specs.Accepted.{BeginsEmpty, FitsAsked, FitsDeclared, IsAccepted, IsEntry, IsFine, IsReadable, Leads}
use Rattle.core_check.specs.Known.{facts_at, function_at, function_of, no_point, point_at}
use Rattle.core_check.specs.Shapes.{shape}
use Rattle.core_check.specs.WellFormed.{IsFunctionOf, IsPointOf, IsSlot, IsWay, IsWellFormed}
use Rattle.core_emit.specs.Code.{Code, leaf}
use Rattle.core_emit.specs.declared.steps.Step.TheVariants as step
use Rattle.core_emit.specs.Emitted.{AllFine, AllFormed, AreFactsOf, AreFormed, EmitsFinePoints, EmitsFormedPoints, IsEmitted, IsOwn, with_points}
use Rattle.elaborate.specs.Sources.{Sources, known_behind}
use Rattle.elaborate.specs.Known.{facts}
use Rattle.elaborate.specs.Rows.{statement_code}
use Rattle.elaborate.specs.Elaborated.{elaborated, end_of_function, entry_facts, function_code, main_function, points_of, program_of, slot_types, sources_of}
use Rattle.elaborate.proofs.Given.{Setting, Laws, around}
use Rattle.elaborate.proofs.Standing.{AreValues, IsValueSlot, Standing}
use Rattle.elaborate.proofs.Tells.{tells_itself}
use Rattle.elaborate.proofs.Claims.{Does, does_both, does_step}
use Rattle.elaborate.proofs.Inside.{facts_inside}
use Rattle.elaborate.proofs.Leaves.{go_leads}
use Rattle.elaborate.proofs.Points.{unshared}
use Rattle.elaborate.proofs.Expressions.{AreSaid, said_last}
use Rattle.elaborate.proofs.ValueForms.{behind_node}
use Rattle.elaborate.proofs.ConditionForms.{no_values}
use Rattle.elaborate.proofs.StatementForms.{RunsWell, statement_runs}

-- a list of one has it alone
only_one : {A : Type 0} (x y : A) (n : ℕ) → slice_get (x ∷ []) n ≡ Some y → (n ≡ 0) × (x ≡ y)
only_one x y zero is = (refl, cc)
only_one x y (suc n) is = absurd (let within = slice_get_within (x ∷ []) (suc n) y is in omega arith)

-- the core program of a body, by its sources
pub elaborated_is : (rows : FormedTable) (words : List (List ℕ)) (outside : List Meaning) (t : Tree) → elaborated rows words outside t ≡ program_of rows (sources_of rows words outside t) t
unfolding elaborated
elaborated_is rows words outside t = refl

-- the setting of a body
abbrev pub setting_of : FormedTable → Sources → List Meaning → Tree → Setting
setting_of rows x outside body = record {
  rows = rows;
  g = record { slots = slot_types x; entry = (points_of x body).entry };
  x = x;
  outside = outside;
}

module _ (rows : FormedTable) (x : Sources) (outside : List Meaning) (at : Place) (statements : Trees) where
  abbrev body : Tree
  body = block at statements

  abbrev c : Setting
  c = setting_of rows x outside body

  abbrev start : FlowModel
  start = start_of []

  abbrev o : Outcome
  o = run (around c empty) body start

  abbrev p : Program
  p = program_of rows x body

  abbrev final : PointFacts
  final = facts x (known_behind x at) no_values

  abbrev old : List Point
  old = (end_of_function x body).points

  abbrev first : PointId
  first = (end_of_function x body).entry

  -- nothing is in scope where a body begins
  start_stands : Standing c start
  start_stands = record {
    plain = record { in_order = λ i j d lt within. absurd (omega arith); plain = All-nil IsPlainLocal; descending = λ k d lt. absurd (omega arith) };
    slots = λ k d lt. absurd (omega arith);
  }

  module _ (laws : Laws c) (hides : HidesNothing (around c empty)) (built : is_statement outside body ≡ true) (none : o.faults ≡ []) (said : AreSaid c o.nodes)
      (fine : (code : Code) (after : PointFacts) (next : PointId) (points : List Point) → EmitsFinePoints p c.g main_function code after next points)
      (formed : (code : Code) (next : PointId) (points : List Point) → EmitsFormedPoints p c.g main_function code next points)
      (few : length p.points ≤ 2 ^ 32) (int_apart : IsFalse (sub rows.table int bool)) (bool_apart : IsFalse (sub rows.table bool int))
    where
      abbrev listed : Outcome
      listed = run_all (within (around c empty) (names_in statements)) statements start

      behind : known_behind x at ≡ o.after
      behind = behind_node c laws at (said_of_statement at.node None start o.after) (said_last c (listed.nodes ++ []) (said_of_statement at.node None start o.after) said) refl

      nothing_held : AreValues c no_values
      nothing_held = All-nil (λ (k : SlotId). IsValueSlot c k.0)

      -- the body's code leads from the entry to the end
      runs : RunsWell c (statement_code x body) start o
      runs = statement_runs c laws body empty start hides built none start_stands said

      enters : Does c (leaf None entry_facts step.GoOn) entry_facts (facts x start no_values)
      enters =
          does_step c laws None entry_facts (facts x start no_values) step.GoOn (facts_inside c start no_values start_stands nothing_held) (λ next. All-nil (IsSlot c.g))
          (λ reached f' tells. go_leads c laws entry_facts (facts x start no_values) (unshared c laws start start_stands no_values nothing_held) refl f' tells (tells_itself c laws entry_facts) refl)

      whole : Does c (function_code x body) entry_facts final
      whole = subst (λ (m : FlowModel). Does c (function_code x body) entry_facts (facts x m no_values)) (sym behind)
          (does_both c laws (leaf None entry_facts step.GoOn) (statement_code x body) entry_facts (facts x start no_values) (facts x o.after no_values) enters runs.does)

      final_inside : AreFactsOf c.g final
      final_inside = subst (λ (m : FlowModel). AreFactsOf c.g (facts x m no_values)) (sym behind) (facts_inside c o.after no_values runs.stands nothing_held)

      -- the point at the end
      end_fine : IsFine (with_points p old) c.g final (shape End)
      end_fine = record {
        read = All-nil (IsReadable final);
        stored = All-nil (FitsDeclared (with_points p old) c.g final);
        asked = All-nil (FitsAsked (with_points p old) c.g final);
        leads = All-nil (Leads (with_points p old) c.g final);
      }

      old_fine : AllFine (with_points p old)
      old_fine = record { each = at_end }
        where
          at_end : (k : ℕ) → k < length old → IsTrue (facts_at (with_points p old) k).reachable → IsFine (with_points p old) (function_of (with_points p old) k) (facts_at (with_points p old) k) (shape (point_at (with_points p old) k).term)
          at_end zero lt reached = end_fine
          at_end (suc k) lt reached = absurd (omega arith)

      end_formed : (point : Point) (k : ℕ) → slice_get old k ≡ Some point → IsPointOf (with_points p old) k point
      end_formed point k is =
          let same = (only_one (get_or old 0 no_point) point k is).1 in
          subst (IsPointOf (with_points p old) k) same (record {
            function_in = omega arith;
            listed_in = final_inside;
            shape_in = record { slots_in = All-nil (IsSlot c.g); ways_in = All-nil (IsWay (with_points p old) 0) };
            moves_on = λ j d lt. absurd (omega arith);
          })

      old_formed : AllFormed (with_points p old)
      old_formed = record { points_in = λ k point is. end_formed point k is }

      end_own : IsOwn old main_function first
      end_own = record { inside = omega arith; own = refl }

      emitted : IsEmitted p old entry_facts (points_of x body)
      emitted = fine (function_code x body) final first old refl (whole.begins final (tells_itself c laws final)).passes old_fine (omega arith) refl

      all_formed : AreFormed p main_function old (points_of x body)
      all_formed = formed (function_code x body) first old (omega arith) refl whole.inside old_formed end_own

      -- all points are of the one function
      function_is : (k : ℕ) → k < length p.points → function_of p k ≡ c.g
      function_is k lt =
          let within = (all_formed.formed.points_in k (point_at p k) (slice_get-get_or p.points k no_point lt)).function_in in
          let main : (point_at p k).function.0 ≡ 0 = omega arith in
          ap (function_at p) main

      entry_is : (k : ℕ) → k < length p.points → (function_of p k).entry.0 ≡ k → IsEntry (function_of p k) (facts_at p k)
      entry_is k lt is =
          let at_entry : (points_of x body).entry.0 ≡ k = sym (ap (λ (g : Function). g.entry.0) (function_is k lt)) ∙ is in
          let known : facts_at p k ≡ entry_facts = sym (ap (facts_at p) at_entry) ∙ emitted.entry_facts in
          subst (IsEntry (function_of p k)) (sym known) (record { reachable = refl; begins = All-nil (BeginsEmpty (function_of p k)) })

      pub accepted : IsAccepted p
      accepted = record {
        each = λ k lt. record {
          fine = emitted.fine.each k lt;
          entry = entry_is k lt;
        };
      }

      only_function : (n : ℕ) (g : Function) → slice_get p.functions n ≡ Some g → IsFunctionOf p n g
      only_function n g is =
          let one = only_one c.g g n is in
          subst (λ (f : Function). IsFunctionOf p n f) one.1 (record { entry_in = emitted.entry_in; entry_own = ap (λ (f : FunctionId). f.0) all_formed.entry_own.own ∙ sym one.0 })

      pub well_formed : IsWellFormed p
      well_formed = record {
        main_in = omega arith;
        numbered = few;
        functions_in = only_function;
        points_in = all_formed.formed.points_in;
        int_apart = int_apart;
        bool_apart = bool_apart;
      }
