-- Models of the same scope: what keeps the scope.
use Rattle.std.proofs.Common.{◌≡◌, Bool, true, false, not, nat_lt, List, [], ◌∷◌, ◌++◌, length, map, if◌then◌else◌, refl, sym, ap, ◌∙◌}
use Rattle.std.specs.Prelude.{◌||◌, filter}
use Rattle.std.proofs.lemmas.List.{length-map, map-append}
use Rattle.dart_types.specs.Ty.{Ty}
use Rattle.flow_model.specs.Flow.{FlowModel, is_of, is_listed, at_local, fresh_facts, declare_of, end_of}
use Rattle.flow_model.specs.Join.{HaveSameScope, scope_of}
use Rattle.flow_model.specs.Steps.{conservative_facts}
use Rattle.flow_model.specs.declared.locals.LocalId.{LocalId}
use Rattle.flow_model.specs.declared.locals.LocalDecl.{LocalDecl}
use Rattle.flow_model.specs.declared.locals.Facts.{Facts}

-- the local and its declared type
abbrev pub local_of : Facts → LocalId × Ty
local_of l = (l.var, l.ty)

-- lists of the same locals are of one length
pub length_from_scope : (ls ms : List Facts) → map local_of ls ≡ map local_of ms → length ls ≡ length ms
length_from_scope ls ms same =
    sym (length-map ls local_of) ∙ (ap (λ (locals : List (LocalId × Ty)). length locals) same ∙ length-map ms local_of)

-- a change of the facts that keeps each local keeps the locals
pub scope-map : (f : Facts → Facts) → ((l : Facts) → local_of (f l) ≡ local_of l) → (locals : List Facts) → map local_of (map f locals) ≡ map local_of locals
scope-map f keeps [] = refl
scope-map f keeps (l ∷ ls) = rw (keeps l) (ap (λ (locals : List (LocalId × Ty)). local_of l ∷ locals) (scope-map f keeps ls))

-- the step of the next lemma
scope-filter_at : (q : LocalId × Ty → Bool) (l : Facts) (kept : List Facts) (scope : List (LocalId × Ty)) (b : Bool) → map local_of kept ≡ scope → map local_of (if b then l ∷ kept else kept) ≡ (if b then local_of l ∷ scope else scope)
scope-filter_at q l kept scope true same = ap (λ (locals : List (LocalId × Ty)). local_of l ∷ locals) same
scope-filter_at q l kept scope false same = same

-- locals that are chosen by what the scope shows of them
scope-filter : (q : LocalId × Ty → Bool) (locals : List Facts) → map local_of (filter (λ l. q (local_of l)) locals) ≡ filter q (map local_of locals)
scope-filter q [] = refl
scope-filter q (l ∷ ls) =
    scope-filter_at q l (filter (λ m. q (local_of m)) ls) (filter q (map local_of ls)) (q (local_of l)) (scope-filter q ls)

-- such a choice from two models of one scope
same-filter : (q : LocalId × Ty → Bool) (a b : List Facts) → map local_of a ≡ map local_of b → map local_of (filter (λ l. q (local_of l)) a) ≡ map local_of (filter (λ l. q (local_of l)) b)
same-filter q a b same =
    scope-filter q a ∙ (ap (λ (locals : List (LocalId × Ty)). filter q locals) same ∙ sym (scope-filter q b))

-- the locals of two lists, one behind the other
same-append : (a b c d : List Facts) → map local_of a ≡ map local_of c → map local_of b ≡ map local_of d → map local_of (a ++ b) ≡ map local_of (c ++ d)
same-append a b c d front back = rw (map-append local_of a b, map-append local_of c d, front, back) refl

-- one local out of scope at both
pub same-end : (a b : FlowModel) (vars : List LocalId) → HaveSameScope a b → HaveSameScope (end_of a vars) (end_of b vars)
same-end a b vars same = same-filter (λ local. not (is_listed vars local.0)) a.locals b.locals same

-- one local more at both
pub same-declare : (a b : FlowModel) (local : LocalDecl) → HaveSameScope a b → HaveSameScope (declare_of a local) (declare_of b local)
same-declare a b local same =
    let smaller = λ (l : Facts). nat_lt l.var.0 local.var.0 in
    let greater = λ (l : Facts). nat_lt local.var.0 l.var.0 in
    let front : map local_of (filter smaller a.locals) ≡ map local_of (filter smaller b.locals) = same-filter (λ other. nat_lt other.0.0 local.var.0) a.locals b.locals same in
    let back : map local_of (filter greater a.locals) ≡ map local_of (filter greater b.locals) = same-filter (λ other. nat_lt local.var.0 other.0.0) a.locals b.locals same in
    same-append (filter smaller a.locals) (fresh_facts local ∷ filter greater a.locals) (filter smaller b.locals) (fresh_facts local ∷ filter greater b.locals)
    front
    (ap (λ (locals : List (LocalId × Ty)). (local.var, local.ty) ∷ locals) back)

-- a choice between two facts of one local is of that local
pub local-if : (b : Bool) (l m : Facts) → local_of l ≡ local_of m → local_of (if b then l else m) ≡ local_of m
local-if true l m same = same
local-if false l m same = refl

-- a change of one local
pub scope-at_local : (m : FlowModel) (var : LocalId) (change : Facts → Facts) → ((l : Facts) → local_of (change l) ≡ local_of l) → scope_of (at_local m var change) ≡ scope_of m
scope-at_local m var change keeps =
    scope-map (λ l. if is_of var l then change l else l) (λ l. local-if (is_of var l) (change l) l (keeps l)) m.locals

-- what code could change
pub local-conservative : (written captured : List LocalId) (l : Facts) → local_of (conservative_facts written captured l) ≡ local_of l
local-conservative written captured l =
    local-if (is_listed written l.var || is_listed captured l.var) (record l { chain = []; unassigned = false; captured = l.captured || is_listed captured l.var }) l refl

-- what code could change in the whole model
pub scope-conservative : (written captured : List LocalId) (locals : List Facts) → map local_of (map (conservative_facts written captured) locals) ≡ map local_of locals
scope-conservative written captured locals =
    scope-map (conservative_facts written captured) (local-conservative written captured) locals
