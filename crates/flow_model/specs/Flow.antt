-- Flow models: what is known of the locals at a point of a body, and what scopes do to it.
use Rattle.std.specs.Prelude.{◌≡◌, ◌≢◌, ◌<◌, Bool, true, false, nat_eq, nat_lt, List, [], ◌∷◌, ◌++◌, Option, if◌then◌else◌, filter, map, find, fold, not, refl, All, AllPairs, IsTrue}
use Rattle.std.specs.List.{list_any}
use Rattle.std.specs.Option.{option_map, option_map_or}
use Rattle.std.specs.Coded.{Coded, code_by, coded×, coded_bool, coded_list}
use Rattle.dart_types.specs.Ty.{Ty}
use Rattle.flow_model.specs.declared.locals.LocalId.{LocalId}
use Rattle.flow_model.specs.declared.locals.LocalDecl.{LocalDecl}
use Rattle.flow_model.specs.declared.locals.Facts.{Facts}
use Rattle.flow_model.specs.contracts.locals.Facts as facts

-- whether the point can be reached, and what is known of each local in scope, in the order of their numbers
pub record FlowModel : Type 0 where
  pub reachable : Bool
  pub locals : List Facts

-- how what is known of one local is stored
abbrev pub facts_code : Coded Facts
facts_code = facts.the_row.coded

-- how a flow model is stored
abbrev pub flow_code : Coded FlowModel
flow_code =
    code_by (Bool × List Facts) (coded× coded_bool (coded_list facts_code)) (λ m. (m.reachable, m.locals)) (λ p. record { reachable = p.0; locals = p.1 }) (λ _. refl)

-- each local has a smaller number than those behind it
abbrev pub IsInOrder : List Facts → Type 0
IsInOrder locals = AllPairs (λ l m. l.var.0 < m.var.0) locals

-- whether these are the facts of the local
abbrev pub is_of : LocalId → Facts → Bool
is_of var l = nat_eq l.var.0 var.0

-- what is known of a local, if it is in scope
abbrev pub facts_of : FlowModel → LocalId → Option Facts
facts_of m var = find (is_of var) m.locals

-- whether what is known of a local says so: not where it isn't in scope
abbrev pub is_known : (Facts → Bool) → FlowModel → LocalId → Bool
is_known says m var = option_map_or says (facts_of m var) false

-- the model with the facts of one local changed
abbrev pub at_local : FlowModel → LocalId → (Facts → Facts) → FlowModel
at_local m var change =
    record { reachable = m.reachable; locals = map (λ l. if is_of var l then change l else l) m.locals }

-- the last of a list of types, or t where there is none
abbrev pub last_or : Ty → List Ty → Ty
last_or t [] = t
last_or t (u ∷ us) = last_or u us

-- the current type of a local: the last that it was promoted to, else the declared one
abbrev pub current_of : Facts → Ty
current_of l = last_or l.ty l.chain

-- the current type of a local, if it is in scope
abbrev pub current_in : FlowModel → LocalId → Option Ty
current_in m var = option_map current_of (facts_of m var)

-- the declared type of a local, if it is in scope
abbrev pub declared_in : FlowModel → LocalId → Option Ty
declared_in m var = option_map (λ l. l.ty) (facts_of m var)

-- the local isn't promoted where it is captured
abbrev pub IsUnpromotedIfCaptured : Facts → Type 0
IsUnpromotedIfCaptured l = IsTrue l.captured → l.chain ≡ []

-- no captured local is promoted
abbrev pub PromotesNoCaptured : FlowModel → Type 0
PromotesNoCaptured m = All IsUnpromotedIfCaptured m.locals

-- what is known of a local that has just come into scope
abbrev pub fresh_facts : LocalDecl → Facts
fresh_facts local = record {
  var = local.var;
  ty = local.ty;
  chain = [];
  tested = [];
  assigned = local.assigned;
  unassigned = local.unassigned;
  captured = false;
}

-- the model with one local more, which stands between those of smaller and those of greater numbers
abbrev pub declare_of : FlowModel → LocalDecl → FlowModel
declare_of m local =
    record {
      reachable = m.reachable;
      locals = filter (λ l. nat_lt l.var.0 local.var.0) m.locals ++ fresh_facts local ∷ filter (λ l. nat_lt local.var.0 l.var.0) m.locals;
    }

-- the model at the start of a body: it is reached, and the locals are declared
abbrev pub start_of : List LocalDecl → FlowModel
start_of vars = fold declare_of (record { reachable = true; locals = [] }) vars

-- the declarations are of different locals
abbrev pub AreDistinct : List LocalDecl → Type 0
AreDistinct vars = AllPairs (λ a b. a.var.0 ≢ b.var.0) vars

-- whether a declaration is of this local
abbrev pub declares : LocalId → LocalDecl → Bool
declares var local = nat_eq local.var.0 var.0

-- whether a local is in a list
abbrev pub is_listed : List LocalId → LocalId → Bool
is_listed vars var = list_any (λ listed. nat_eq listed.0 var.0) vars

-- the model without these locals
abbrev pub end_of : FlowModel → List LocalId → FlowModel
end_of m vars =
    record { reachable = m.reachable; locals = filter (λ l. not (is_listed vars l.var)) m.locals }
