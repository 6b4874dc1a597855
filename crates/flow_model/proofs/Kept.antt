-- What holds of the facts of each local, at the start and after each step, where it holds of one after it.
use Rattle.std.proofs.Common.{◌≡◌, Bool, true, false, not, nat_lt, map, List, [], ◌∷◌, if◌then◌else◌, ap}
use Rattle.std.specs.Prelude.{All, filter, fold}
use Rattle.std.proofs.lemmas.List.Elements.{All-nil, All-cons, All-head, All-tail, All-append, All-filter}
use Rattle.dart_types.specs.Ty.{Ty}
use Rattle.flow_model.specs.Flow.{FlowModel, is_of, is_listed, at_local, fresh_facts, declare_of, start_of, end_of}
use Rattle.flow_model.specs.Join.{join_facts, join_of}
use Rattle.flow_model.specs.declared.locals.LocalId.{LocalId}
use Rattle.flow_model.specs.declared.locals.LocalDecl.{LocalDecl}
use Rattle.flow_model.specs.declared.locals.Facts.{Facts}
use Rattle.flow_model.proofs.SameScope.{local_of}
use Rattle.flow_model.proofs.Pairs.{paired}

module _ (P : Facts → Type 0) where
  -- it holds of all locals of a model
  abbrev pub OfEach : FlowModel → Type 0
  OfEach m = All P m.locals

  -- either of two facts
  holds_if : (b : Bool) (l m : Facts) → P l → P m → P (if b then l else m)
  holds_if true l m first second = first
  holds_if false l m first second = second

  -- a change of each local that keeps it
  pub map_keeps : (f : Facts → Facts) → ((l : Facts) → P l → P (f l)) → (locals : List Facts) → All P locals → All P (map f locals)
  map_keeps f keeps [] all = All-nil P
  map_keeps f keeps (l ∷ ls) all =
      All-cons P (f l) (map f ls) (keeps l (All-head P l ls all)) (map_keeps f keeps ls (All-tail P l ls all))

  -- a change of one local
  pub at_local_keeps : (m : FlowModel) (var : LocalId) (change : Facts → Facts) → ((l : Facts) → P l → P (change l)) → OfEach m → OfEach (at_local m var change)
  at_local_keeps m var change keeps all =
      map_keeps (λ l. if is_of var l then change l else l) (λ l before. holds_if (is_of var l) (change l) l (keeps l before) before) m.locals all

  -- the end of a scope
  pub end_keeps : (m : FlowModel) (vars : List LocalId) → OfEach m → OfEach (end_of m vars)
  end_keeps m vars all = All-filter (λ l. not (is_listed vars l.var)) P m.locals all

  module _ (fresh : (local : LocalDecl) → P (fresh_facts local)) where
    -- a new local
    pub declare_keeps : (m : FlowModel) (local : LocalDecl) → OfEach m → OfEach (declare_of m local)
    declare_keeps m local all =
        let smaller = λ (l : Facts). nat_lt l.var.0 local.var.0 in
        let greater = λ (l : Facts). nat_lt local.var.0 l.var.0 in
        All-append P (filter smaller m.locals) (fresh_facts local ∷ filter greater m.locals)
        (All-filter smaller P m.locals all)
        (All-cons P (fresh_facts local) (filter greater m.locals) (fresh local) (All-filter greater P m.locals all))

    -- new locals
    declares_keep : (vars : List LocalDecl) (m : FlowModel) → OfEach m → OfEach (fold declare_of m vars)
    declares_keep [] m all = all
    declares_keep (local ∷ vars) m all = declares_keep vars (declare_of m local) (declare_keeps m local all)

    -- the start of a body
    pub start_has : (vars : List LocalDecl) → OfEach (start_of vars)
    start_has vars = declares_keep vars (record { reachable = true; locals = [] }) (All-nil P)

  -- what is made of two lists of facts
  pub paired_keeps : (f : Facts → Facts → Facts) → ((l m : Facts) → P l → P m → P (f l m)) → (ls ms : List Facts) → All P ls → All P ms → All P (paired f ls ms)
  paired_keeps f keeps [] ms first second = All-nil P
  paired_keeps f keeps (l ∷ ls) [] first second = All-nil P
  paired_keeps f keeps (l ∷ ls) (m ∷ ms) first second =
      All-cons P (f l m) (paired f ls ms) (keeps l m (All-head P l ls first) (All-head P m ms second)) (paired_keeps f keeps ls ms (All-tail P l ls first) (All-tail P m ms second))

  -- what is made of any two facts has it
  pub paired_has : (f : Facts → Facts → Facts) → ((l m : Facts) → P (f l m)) → (ls ms : List Facts) → All P (paired f ls ms)
  paired_has f has [] ms = All-nil P
  paired_has f has (l ∷ ls) [] = All-nil P
  paired_has f has (l ∷ ls) (m ∷ ms) = All-cons P (f l m) (paired f ls ms) (has l m) (paired_has f has ls ms)

  -- and of two lists of the same locals
  pub same_paired_keeps : (f : Facts → Facts → Facts) → ((l m : Facts) → l.ty ≡ m.ty → P l → P m → P (f l m)) → (ls ms : List Facts) → map local_of ls ≡ map local_of ms → All P ls → All P ms → All P (paired f ls ms)
  same_paired_keeps f keeps [] ms same first second = All-nil P
  same_paired_keeps f keeps (l ∷ ls) [] same first second = All-nil P
  same_paired_keeps f keeps (l ∷ ls) (m ∷ ms) same first second =
      let one : local_of l ≡ local_of m = cc in
      let types : l.ty ≡ m.ty = ap (λ (local : LocalId × Ty). local.1) one in
      let rest : map local_of ls ≡ map local_of ms = cc in
      All-cons P (f l m) (paired f ls ms) (keeps l m types (All-head P l ls first) (All-head P m ms second)) (same_paired_keeps f keeps ls ms rest (All-tail P l ls first) (All-tail P m ms second))

  -- the step of the next lemma
  join_keeps_at : ((l m : Facts) → P l → P m → P (join_facts l m)) → (a b : FlowModel) (in_a in_b : Bool) → OfEach a → OfEach b → OfEach (if in_b then (if in_a then record { reachable = true; locals = paired join_facts a.locals b.locals } else b) else a)
  join_keeps_at keeps a b in_a false of_a of_b = of_a
  join_keeps_at keeps a b false true of_a of_b = of_b
  join_keeps_at keeps a b true true of_a of_b = paired_keeps join_facts keeps a.locals b.locals of_a of_b

  -- where two paths meet
  pub join_keeps : ((l m : Facts) → P l → P m → P (join_facts l m)) → (a b : FlowModel) → OfEach a → OfEach b → OfEach (join_of a b)
  join_keeps keeps a b of_a of_b = join_keeps_at keeps a b a.reachable b.reachable of_a of_b
