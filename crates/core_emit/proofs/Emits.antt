-- The points of code that passes are fine, and the first has what is known before.
use Rattle.std.proofs.Common.{◌≡◌, ◌≢◌, ℕ, ◌+◌, ◌<◌, ◌≤◌, true, false, cond, nat_eq, List, [], ◌∷◌, ◌++◌, length, get_or, Option, refl, sym, ap, ◌∙◌, subst, arith, IsTrue, inl, inr, length-append}
use Rattle.std.proofs.Math.ListN.{get_or-append, get_or-eq_default}
use Rattle.std.proofs.Math.Seq.{get_or-append_seam}
use Rattle.std.proofs.lemmas.Bool.{cases_eq, cases_lt}
use Rattle.std.proofs.lemmas.List.{get_or-set_same, get_or-set_other, length-set}
use Rattle.dart_types.specs.Ty.{Ty}
use Rattle.dart_types.specs.SubTest.{sub}
use Rattle.core_ir.specs.PointFacts.{PointFacts}
use Rattle.core_ir.specs.Program.{Function, Program}
use Rattle.core_ir.specs.Values.{declared_at}
use Rattle.core_ir.specs.declared.facts.Known.{Known}
use Rattle.core_ir.specs.declared.points.FunctionId.{FunctionId}
use Rattle.core_ir.specs.declared.points.Point.{Point}
use Rattle.core_ir.specs.declared.points.PointId.{PointId}
use Rattle.core_ir.specs.declared.points.Span.{Span}
use Rattle.core_ir.specs.declared.points.Term.{Term}
use Rattle.core_ir.specs.declared.points.Term.TheVariants.{Goto, End}
use Rattle.core_check.specs.declared.parts.TypeSource.{TypeSource}
use Rattle.core_check.specs.declared.parts.TypeSource.TheVariants.{IntType, BoolType, OperandType, NonNullType}
use Rattle.core_check.specs.declared.parts.How.{How}
use Rattle.core_check.specs.declared.parts.How.TheVariants.{Fresh, Holds, Narrows}
use Rattle.core_check.specs.declared.parts.Change.{Change}
use Rattle.core_check.specs.Accepted.{SlotImplies, IsFine, Leads}
use Rattle.core_check.specs.Known.{no_point, facts_at, function_at, known_of, is_shared, slot_type}
use Rattle.core_check.specs.Shapes.{TermShape, WayShape, shape}
use Rattle.core_check.specs.Types.{without_null, type_from, held_as, changed, changes_to, known_on}
use Rattle.core_emit.specs.Code.{Code, nothing, leaf, sequence, choice, loop, step_to, test_to}
use Rattle.core_emit.specs.Emitted.{Made, with_point, with_term, emit, known_first, with_points, Passes, AllFine}

-- what a shape means depends on the rows of a program alone
type_same : (p q : Program) (g : Function) (f : PointFacts) (source : TypeSource) → p.rows ≡ q.rows → type_from p g f source ≡ type_from q g f source
type_same p q g f IntType e = refl
type_same p q g f BoolType e = refl
type_same p q g f (OperandType operand) e = refl
type_same p q g f (NonNullType slot) e = ap (λ rows. without_null rows.table (slot_type g f slot)) e

changed_same : (p q : Program) (g : Function) (f : PointFacts) (how : How) (known : Known) → p.rows ≡ q.rows → changed p g f how known ≡ changed q g f how known
changed_same p q g f Fresh known e = refl
changed_same p q g f (Holds source) known e = ap (λ (t : Ty). record { assigned = true; held = held_as (is_shared known.held) t }) (type_same p q g f source e)
changed_same p q g f (Narrows source) known e = ap (λ (t : Ty). record { assigned = known.assigned; held = held_as (is_shared known.held) t }) (type_same p q g f source e)

changes_same : (p q : Program) (g : Function) (f : PointFacts) (cs : List Change) (i : ℕ) (known : Known) → p.rows ≡ q.rows → changes_to p g f cs i known ≡ changes_to q g f cs i known
changes_same p q g f [] i known e = refl
changes_same p q g f (c ∷ cs) i known e =
    ap (λ (k : Known). changes_to p g f cs i (cond (nat_eq c.slot.0 i) k known)) (changed_same p q g f c.how known e)
    ∙ changes_same p q g f cs i (cond (nat_eq c.slot.0 i) (changed q g f c.how known) known) e

-- more points, with the facts and the functions of the old ones kept
pub record Kept (old new : List Point) : Type 0 where
  pub longer : length old ≤ length new
  pub facts : (k : ℕ) → k < length old → (get_or new k no_point).facts ≡ (get_or old k no_point).facts
  pub functions : (k : ℕ) → k < length old → (get_or new k no_point).function ≡ (get_or old k no_point).function

kept_self : (points : List Point) → Kept points points
kept_self points = record { longer = omega arith; facts = λ k lt. refl; functions = λ k lt. refl }

kept_trans : (a b c : List Point) → Kept a b → Kept b c → Kept a c
kept_trans a b c x y = record {
  longer = let u = x.longer in let v = y.longer in omega arith;
  facts = λ k lt. let u = x.longer in y.facts k (omega arith) ∙ x.facts k lt;
  functions = λ k lt. let u = x.longer in y.functions k (omega arith) ∙ x.functions k lt;
}

-- a point that a run may come to is there
reached_in : (points : List Point) (k : ℕ) → IsTrue (get_or points k no_point).facts.reachable → k < length points
reached_in points k reached = elim (cases_lt k (length points)) [
  | inl here ↦ here
  | inr past ↦ absurd (let e : get_or points k no_point ≡ no_point = get_or-eq_default points no_point past in let no : false ≡ true = ap (λ (q : Point). q.facts.reachable) (sym e) ∙ reached in cc)
]

module _ (p : Program) (g : Function) where
  -- what is fine stays so
  leads_kept : (old new : List Point) (f : PointFacts) (way : WayShape) → Kept old new → Leads (with_points p old) g f way → Leads (with_points p new) g f way
  leads_kept old new f way kept leads =
      let same = kept.facts way.next.0 (reached_in old way.next.0 leads.reachable) in
      record {
        reachable = subst (λ (x : PointFacts). IsTrue x.reachable) (sym same) leads.reachable;
        slots = λ i lt.
            subst (λ (x : PointFacts). SlotImplies p.rows.table (declared_at g i) (known_on (with_points p new) g f way.changes i) (known_of x i)) (sym same)
            (subst (λ (k : Known). SlotImplies p.rows.table (declared_at g i) k (known_of (facts_at (with_points p old) way.next.0) i)) (changes_same (with_points p old) (with_points p new) g f way.changes i (known_of f i) refl) (leads.slots i lt));
      }

  fine_kept : (old new : List Point) (f : PointFacts) (s : TermShape) → Kept old new → IsFine (with_points p old) g f s → IsFine (with_points p new) g f s
  fine_kept old new f s kept fine = record {
    read = fine.read;
    stored = λ k d lt. subst (λ (t : Ty). IsTrue (sub p.rows.table t (declared_at g (get_or s.stores k d).slot.0))) (type_same (with_points p old) (with_points p new) g f (get_or s.stores k d).ty refl) (fine.stored k d lt);
    asked = λ k d lt.
        subst (λ (t : Ty). IsTrue (sub p.rows.table t (type_from (with_points p new) g f (get_or s.asks k d).expected))) (type_same (with_points p old) (with_points p new) g f (get_or s.asks k d).found refl)
        (subst (λ (t : Ty). IsTrue (sub p.rows.table (type_from (with_points p old) g f (get_or s.asks k d).found) t)) (type_same (with_points p old) (with_points p new) g f (get_or s.asks k d).expected refl) (fine.asked k d lt));
    leads = λ k d lt. leads_kept old new f (get_or s.ways k d) kept (fine.leads k d lt);
  }

module _ (p : Program) (g : Function) (id : FunctionId) (function_is : function_at p id.0 ≡ g) where
  -- what making the points of code gives
  pub record Gives (old : List Point) (f : PointFacts) (made : Made) : Type 0 where
    pub kept : Kept old made.points
    pub fine : AllFine (with_points p made.points)
    pub entry_in : made.entry.0 < length made.points
    pub entry_facts : (get_or made.points made.entry.0 no_point).facts ≡ f

  -- one more point
  module _ (old : List Point) (all : AllFine (with_points p old)) (site : Option Span) (f : PointFacts) (term : Term) where
    abbrev new_point : Point
    new_point = record { function = id; site = site; facts = f; term = term }

    abbrev more : List Point
    more = old ++ new_point ∷ []

    more_length : length more ≡ length old + 1
    more_length = length-append old (new_point ∷ [])

    more_kept : Kept old more
    more_kept = record {
      longer = let n = more_length in omega arith;
      facts = λ k lt. ap (λ (q : Point). q.facts) (get_or-append old (new_point ∷ []) no_point k lt);
      functions = λ k lt. ap (λ (q : Point). q.function) (get_or-append old (new_point ∷ []) no_point k lt);
    }

    more_last : get_or more (length old) no_point ≡ new_point
    more_last = get_or-append_seam old new_point [] no_point

    abbrev FineIn : Point → Type 0
    FineIn q = IsTrue q.facts.reachable → IsFine (with_points p more) (function_at p q.function.0) q.facts (shape q.term)

    fine_more : (IsTrue f.reachable → IsFine (with_points p more) g f (shape term)) → (k : ℕ) → k < length more → FineIn (get_or more k no_point)
    fine_more here k lt = elim (cases_lt k (length old)) [
      | inl before ↦
          subst FineIn (sym (get_or-append old (new_point ∷ []) no_point k before))
          (λ reached. fine_kept p (function_at p (get_or old k no_point).function.0) old more (get_or old k no_point).facts (shape (get_or old k no_point).term) more_kept (all.each k before reached))
      | inr behind ↦
          (let n = more_length in
          let same : k ≡ length old = omega arith in
          subst FineIn (sym (ap (λ (i : ℕ). get_or more i no_point) same ∙ more_last))
          (λ reached. subst (λ (h : Function). IsFine (with_points p more) h f (shape term)) (sym function_is) (here reached)))
    ]

    add : (IsTrue f.reachable → IsFine (with_points p more) g f (shape term)) → Gives old f (with_point id site f term old)
    add here = record {
      kept = more_kept;
      fine = record { each = fine_more here };
      entry_in = let n = more_length in omega arith;
      entry_facts = ap (λ (q : Point). q.facts) more_last;
    }

  -- another term at a point whose facts lead on from it
  module _ (old : List Point) (all : AllFine (with_points p old)) (at : PointId) (term : Term) (inside : at.0 < length old) where
    abbrev told : List Point
    told = with_term old at term

    abbrev told_point : Point
    told_point = record (get_or old at.0 no_point) { term = term }

    told_here : get_or told at.0 no_point ≡ told_point
    told_here = get_or-set_same old at.0 told_point no_point inside

    told_other : (k : ℕ) → k ≢ at.0 → get_or told k no_point ≡ get_or old k no_point
    told_other k ne = get_or-set_other old at.0 k told_point no_point ne

    told_length : length told ≡ length old
    told_length = length-set old at.0 told_point

    told_kept : Kept old told
    told_kept = record {
      longer = let n = told_length in omega arith;
      facts = λ k lt. elim (cases_eq k at.0) [
        | inl same ↦ subst (λ (i : ℕ). (get_or told i no_point).facts ≡ (get_or old i no_point).facts) (sym same) (ap (λ (q : Point). q.facts) told_here)
        | inr ne ↦ ap (λ (q : Point). q.facts) (told_other k ne)
      ];
      functions = λ k lt. elim (cases_eq k at.0) [
        | inl same ↦ subst (λ (i : ℕ). (get_or told i no_point).function ≡ (get_or old i no_point).function) (sym same) (ap (λ (q : Point). q.function) told_here)
        | inr ne ↦ ap (λ (q : Point). q.function) (told_other k ne)
      ];
    }

    abbrev FineAfter : Point → Type 0
    FineAfter q = IsTrue q.facts.reachable → IsFine (with_points p told) (function_at p q.function.0) q.facts (shape q.term)

    fine_told : FineAfter told_point → (k : ℕ) → k < length told → FineAfter (get_or told k no_point)
    fine_told here k lt = elim (cases_eq k at.0) [
      | inl same ↦ subst FineAfter (sym (ap (λ (i : ℕ). get_or told i no_point) same ∙ told_here)) here
      | inr ne ↦
          subst FineAfter (sym (told_other k ne))
          (λ reached. fine_kept p (function_at p (get_or old k no_point).function.0) old told (get_or old k no_point).facts (shape (get_or old k no_point).term) told_kept (all.each k (let n = told_length in omega arith) reached))
    ]

  -- an end asks for nothing
  end_fine : (points : List Point) (f : PointFacts) → IsFine (with_points p points) g f (shape End)
  end_fine points f = record {
    read = λ k d lt. absurd (omega arith);
    stored = λ k d lt. absurd (omega arith);
    asked = λ k d lt. absurd (omega arith);
    leads = λ k d lt. absurd (omega arith);
  }

  -- the points of code that passes are fine, and the first has what is known before
  pub emits : (code : Code) (after : PointFacts) (next : PointId) (old : List Point) → Passes p.rows g code after → AllFine (with_points p old) → next.0 < length old → (get_or old next.0 no_point).facts ≡ after → Gives old (known_first code after) (emit id code next old)
  emits nothing after next old pass all inside is = record { kept = kept_self old; fine = all; entry_in = inside; entry_facts = is }
  emits (leaf site facts step) after next old pass all inside is =
      add old all site facts (step_to step next)
      (λ reached. pass reached (with_points p (more old all site facts (step_to step next))) next refl ((more_kept old all site facts (step_to step next)).facts next.0 inside ∙ is))
  emits (sequence first second) after next old pass all inside is =
      let y = emits second after next old pass.1 all inside is in
      let behind = emit id second next old in
      let x = emits first (known_first second after) behind.entry behind.points pass.0 y.fine y.entry_in y.entry_facts in
      record { kept = kept_trans old behind.points _ y.kept x.kept; fine = x.fine; entry_in = x.entry_in; entry_facts = x.entry_facts }
  emits (choice site facts test first second) after next old pass all inside is =
      let y = emits second after next old pass.1.1 all inside is in
      let other = emit id second next old in
      let yl = y.kept.longer in
      let x = emits first after next other.points pass.1.0 y.fine (omega arith) (y.kept.facts next.0 inside ∙ is) in
      let one = emit id first next other.points in
      let term = test_to test one.entry other.entry in
      let keeps = more_kept one.points x.fine site facts term in
      let xl = x.kept.longer in
      let y_in : other.entry.0 < length other.points = y.entry_in in
      let z = add one.points x.fine site facts term (λ reached. pass.0 reached (with_points p (more one.points x.fine site facts term)) one.entry other.entry refl
      (keeps.facts one.entry.0 x.entry_in ∙ x.entry_facts)
      (keeps.facts other.entry.0 (omega arith) ∙ x.kept.facts other.entry.0 y_in ∙ y.entry_facts)) in
      record { kept = kept_trans old one.points _ (kept_trans old other.points one.points y.kept x.kept) z.kept; fine = z.fine; entry_in = z.entry_in; entry_facts = z.entry_facts }
  emits (loop site head facts condition test body) after next old pass all inside is =
      let start = with_point id site head End old in
      let s = add old all site head End (λ reached. end_fine start.points head) in
      let sl = s.kept.longer in
      let s_in : start.entry.0 < length start.points = s.entry_in in
      let b = emits body head start.entry start.points pass.1.1.1 s.fine s.entry_in s.entry_facts in
      let passes = emit id body start.entry start.points in
      let bl = b.kept.longer in
      let test_term = test_to test passes.entry next in
      let keeps = more_kept passes.points b.fine site facts test_term in
      let t = add passes.points b.fine site facts test_term (λ reached. pass.1.0 reached (with_points p (more passes.points b.fine site facts test_term)) passes.entry next refl
      (keeps.facts passes.entry.0 b.entry_in ∙ b.entry_facts)
      (keeps.facts next.0 (omega arith) ∙ b.kept.facts next.0 (omega arith) ∙ s.kept.facts next.0 inside ∙ is)) in
      let tests = with_point id site facts test_term passes.points in
      let tl = t.kept.longer in
      let c = emits condition facts tests.entry tests.points pass.1.1.0 t.fine t.entry_in t.entry_facts in
      let asks = emit id condition tests.entry tests.points in
      let cl = c.kept.longer in
      let at_in : start.entry.0 < length asks.points = omega arith in
      let head_is : (get_or asks.points start.entry.0 no_point).facts ≡ head =
      c.kept.facts start.entry.0 (omega arith) ∙ t.kept.facts start.entry.0 (omega arith) ∙ b.kept.facts start.entry.0 s_in ∙ s.entry_facts in
      let keeps_told = told_kept asks.points c.fine start.entry (Goto asks.entry) at_in in
      let told_n = told_length asks.points c.fine start.entry (Goto asks.entry) at_in in
      let head_fine = subst (λ (f : PointFacts). IsTrue f.reachable → IsFine (with_points p (told asks.points c.fine start.entry (Goto asks.entry) at_in)) g f (shape (Goto asks.entry))) (sym head_is)
      (λ reached. pass.0 reached (with_points p (told asks.points c.fine start.entry (Goto asks.entry) at_in)) asks.entry (refl {a = p.rows}) (keeps_told.facts asks.entry.0 c.entry_in ∙ c.entry_facts)) in
      let start_own : (get_or start.points start.entry.0 no_point).function ≡ id = ap (λ (q : Point). q.function) (more_last old all site head End) in
      let head_own : function_at p (get_or asks.points start.entry.0 no_point).function.0 ≡ g =
      ap (λ (f : FunctionId). function_at p f.0) (c.kept.functions start.entry.0 (omega arith) ∙ t.kept.functions start.entry.0 (omega arith) ∙ b.kept.functions start.entry.0 s_in ∙ start_own) ∙ function_is in
      let own_fine : FineAfter asks.points c.fine start.entry (Goto asks.entry) at_in (told_point asks.points c.fine start.entry (Goto asks.entry) at_in) =
      λ reached. subst (λ (h : Function). IsFine (with_points p (told asks.points c.fine start.entry (Goto asks.entry) at_in)) h (get_or asks.points start.entry.0 no_point).facts (shape (Goto asks.entry))) (sym head_own) (head_fine reached) in
      record {
        kept = kept_trans old asks.points _ (kept_trans old start.points asks.points s.kept (kept_trans start.points passes.points asks.points b.kept (kept_trans passes.points tests.points asks.points t.kept c.kept))) keeps_told;
        fine = record { each = fine_told asks.points c.fine start.entry (Goto asks.entry) at_in own_fine };
        entry_in = omega arith;
        entry_facts = keeps_told.facts start.entry.0 at_in ∙ head_is;
      }
