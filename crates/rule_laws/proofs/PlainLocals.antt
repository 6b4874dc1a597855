-- A plain local stays plain at each step.
use Rattle.std.proofs.Common.{◌≡◌, Bool, true, false, not, nat_lt, List, [], ◌∷◌, map, if◌then◌else◌, refl, ◌∙◌}
use Rattle.std.specs.Prelude.{◌||◌, All, filter}
use Rattle.std.proofs.Math.Bool.{or-false}
use Rattle.std.proofs.lemmas.Bool.{or_from}
use Rattle.std.proofs.lemmas.List.Elements.{All-nil, All-cons, All-head, All-tail, All-append, All-filter, All-map, All-weaker}
use Rattle.dart_types.specs.Ty.{Ty}
use Rattle.dart_types.specs.Same.{same_type}
use Rattle.dart_types.specs.SubTest.{sub}
use Rattle.dart_types.specs.Tables.{Table}
use Rattle.flow_model.specs.TypeTests.{is_in, common_of}
use Rattle.flow_model.specs.Flow.{FlowModel, PromotesNoCaptured, IsUnpromotedIfCaptured, at_local, current_of, declare_of, end_of, fresh_facts, is_listed, is_of, last_or}
use Rattle.flow_model.specs.Assign.{appended_of, assign_facts, interest_of, kept_chain}
use Rattle.flow_model.specs.Promote.{non_null_facts, without_null_of}
use Rattle.flow_model.specs.Steps.{conservative_facts, conservative_of, is_changed}
use Rattle.flow_model.specs.Join.{join_facts, join_locals, join_of}
use Rattle.flow_model.specs.declared.locals.LocalDecl.{LocalDecl}
use Rattle.flow_model.specs.declared.locals.LocalId.{LocalId}
use Rattle.flow_model.specs.declared.locals.Facts.{Facts}
use Rattle.rule_laws.specs.Plain.{IsPlainType, IsPlainLocal}
use Rattle.rule_laws.proofs.PlainTypes.{appended_plain, either_plain, interest_plain, last_plain, without_null_plain}

-- each local of a model is plain
abbrev pub ArePlain : FlowModel → Type 0
ArePlain m = All IsPlainLocal m.locals

-- none, or plain types
free_plain : (b : Bool) (ts : List Ty) → All IsPlainType ts → All IsPlainType (if b then [] else ts)
free_plain b ts all = either_plain b [] ts (λ h. All-nil IsPlainType) all

-- One local.

-- that is known not to be null
non_null_local : (table : Table) (l : Facts) → IsPlainLocal l → IsPlainLocal (non_null_facts table l)
non_null_local table l plain = record {
  declared = plain.declared;
  promoted =
      All-append IsPlainType l.chain (if l.captured then [] else without_null_of table (current_of l)) plain.promoted
      (free_plain l.captured (without_null_of table (current_of l)) (without_null_plain table (current_of l) (last_plain l.ty l.chain plain.declared plain.promoted)));
  tested = plain.tested;
  own = plain.own;
}

-- that is written
write_local : (table : Table) → ((s t : Ty) → same_type s t ≡ true → s ≡ t) → (written : Ty) (l : Facts) → IsPlainLocal l → IsPlainLocal (assign_facts table written l)
write_local table same written l plain =
    let kept = kept_chain table written l in
    let appended = appended_of table written (last_or l.ty kept) (interest_of table l) in
    record {
      declared = plain.declared;
      promoted =
          All-append IsPlainType kept (if l.captured then [] else appended)
          (All-filter (sub table written) IsPlainType l.chain plain.promoted)
          (free_plain l.captured appended (appended_plain table same written (last_or l.ty kept) (interest_of table l) (interest_plain table l plain)));
      tested = plain.tested;
      own = plain.own;
    }

-- the step of the next lemma
forgotten_at : (b : Bool) (l : Facts) → IsPlainLocal l → IsPlainLocal (if b then record l { chain = []; unassigned = false; captured = l.captured || false } else l)
forgotten_at true l plain = record {
  declared = plain.declared;
  promoted = All-nil IsPlainType;
  tested = plain.tested;
  own = or-false l.captured ∙ plain.own;
}
forgotten_at false l plain = plain

-- that code may write
forgotten_local : (written : List LocalId) (l : Facts) → IsPlainLocal l → IsPlainLocal (conservative_facts written [] l)
forgotten_local written l plain = forgotten_at (is_changed written [] l.var) l plain

-- where two paths meet
joined_local : (a b : Facts) → IsPlainLocal a → IsPlainLocal b → IsPlainLocal (join_facts a b)
joined_local a b of_a of_b = record {
  declared = of_a.declared;
  promoted = free_plain (a.captured || b.captured) (common_of a.chain b.chain) (All-filter (is_in b.chain) IsPlainType a.chain of_a.promoted);
  tested =
      All-append IsPlainType a.tested (filter (λ t. not (is_in a.tested t)) b.tested) of_a.tested
      (All-filter (λ t. not (is_in a.tested t)) IsPlainType b.tested of_b.tested);
  own = or_from a.captured b.captured of_a.own of_b.own;
}

-- that has just come into scope
fresh_local : (local : LocalDecl) → IsPlainType local.ty → IsPlainLocal (fresh_facts local)
fresh_local local plain = record { declared = plain; promoted = All-nil IsPlainType; tested = All-nil IsPlainType; own = refl }

-- All locals of a model.

-- a change of each
changed_plain : (f : Facts → Facts) → ((l : Facts) → IsPlainLocal l → IsPlainLocal (f l)) → (locals : List Facts) → All IsPlainLocal locals → All IsPlainLocal (map f locals)
changed_plain f keeps locals all = All-map IsPlainLocal f locals (All-weaker IsPlainLocal (λ l. IsPlainLocal (f l)) keeps locals all)

-- either of two facts
either_local : (b : Bool) (l m : Facts) → IsPlainLocal l → IsPlainLocal m → IsPlainLocal (if b then l else m)
either_local true l m first second = first
either_local false l m first second = second

-- a change of one
at_local_plain : (m : FlowModel) (var : LocalId) (change : Facts → Facts) → ((l : Facts) → IsPlainLocal l → IsPlainLocal (change l)) → ArePlain m → ArePlain (at_local m var change)
at_local_plain m var change keeps all =
    changed_plain (λ l. if is_of var l then change l else l) (λ l plain. either_local (is_of var l) (change l) l (keeps l plain) plain) m.locals all

-- a local isn't null
pub non_null_plain : (table : Table) (m : FlowModel) (var : LocalId) → ArePlain m → ArePlain (at_local m var (non_null_facts table))
non_null_plain table m var all = at_local_plain m var (non_null_facts table) (non_null_local table) all

-- a local is written
pub write_plain : (table : Table) → ((s t : Ty) → same_type s t ≡ true → s ≡ t) → (m : FlowModel) (var : LocalId) (written : Ty) → ArePlain m → ArePlain (at_local m var (assign_facts table written))
write_plain table same m var written all = at_local_plain m var (assign_facts table written) (write_local table same written) all

-- code may write some
pub forgotten_plain : (m : FlowModel) (written : List LocalId) → ArePlain m → ArePlain (conservative_of m written [])
forgotten_plain m written all = changed_plain (conservative_facts written []) (forgotten_local written) m.locals all

-- the end of a scope
pub ended_plain : (m : FlowModel) (vars : List LocalId) → ArePlain m → ArePlain (end_of m vars)
ended_plain m vars all = All-filter (λ l. not (is_listed vars l.var)) IsPlainLocal m.locals all

-- a new local
pub declared_plain : (m : FlowModel) (local : LocalDecl) → IsPlainType local.ty → ArePlain m → ArePlain (declare_of m local)
declared_plain m local plain all =
    let smaller = λ (l : Facts). nat_lt l.var.0 local.var.0 in
    let greater = λ (l : Facts). nat_lt local.var.0 l.var.0 in
    All-append IsPlainLocal (filter smaller m.locals) (fresh_facts local ∷ filter greater m.locals)
    (All-filter smaller IsPlainLocal m.locals all)
    (All-cons IsPlainLocal (fresh_facts local) (filter greater m.locals) (fresh_local local plain) (All-filter greater IsPlainLocal m.locals all))

-- the locals of two models, paired by their places
paired_plain : (ls ms : List Facts) → All IsPlainLocal ls → All IsPlainLocal ms → All IsPlainLocal (join_locals ls ms)
paired_plain [] ms first second = All-nil IsPlainLocal
paired_plain (l ∷ ls) [] first second = All-nil IsPlainLocal
paired_plain (l ∷ ls) (m ∷ ms) first second =
    All-cons IsPlainLocal (join_facts l m) (join_locals ls ms) (joined_local l m (All-head IsPlainLocal l ls first) (All-head IsPlainLocal m ms second)) (paired_plain ls ms (All-tail IsPlainLocal l ls first) (All-tail IsPlainLocal m ms second))

-- the step of the next lemma
joined_at : (a b : FlowModel) (in_a in_b : Bool) → ArePlain a → ArePlain b → ArePlain (if in_b then (if in_a then record { reachable = true; locals = join_locals a.locals b.locals } else b) else a)
joined_at a b in_a false of_a of_b = of_a
joined_at a b false true of_a of_b = of_b
joined_at a b true true of_a of_b = paired_plain a.locals b.locals of_a of_b

-- where two paths meet
pub joined_plain : (a b : FlowModel) → ArePlain a → ArePlain b → ArePlain (join_of a b)
joined_plain a b of_a of_b = joined_at a b a.reachable b.reachable of_a of_b

-- the step of the next lemma
none_captured : (l : Facts) → IsPlainLocal l → IsUnpromotedIfCaptured l
none_captured l plain is = let other : l.captured ≡ false = plain.own in cc

-- no captured local is promoted, since none is captured
pub promotes_no_captured : (m : FlowModel) → ArePlain m → PromotesNoCaptured m
promotes_no_captured m all = All-weaker IsPlainLocal IsUnpromotedIfCaptured none_captured m.locals all
