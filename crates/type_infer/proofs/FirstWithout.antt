-- A call is refused for the first parameter that has no argument.
use Rattle.std.proofs.Common.{◌≡◌, ◌≤◌, List, [], ◌∷◌, ◌++◌, Result, Ok, Err, refl, sym, ap, subst, append_assoc, append-nil}
use Rattle.std.specs.Prelude.{◌↔◌}
use Rattle.std.specs.List.{zip}
use Rattle.dart_types.specs.Ty.{Ty, nullable}
use Rattle.dart_types.specs.Heads.{object}
use Rattle.dart_types.specs.Sizes.{size_of}
use Rattle.dart_types.specs.Sub.{Sub}
use Rattle.dart_types.specs.Tables.{Table}
use Rattle.dart_types.specs.declared.ids.VarId.{VarId}
use Rattle.dart_types.specs.declared.refusal.TheConstants.{NODE_LIMIT}
use Rattle.type_infer.specs.Promotions.{unpromoted}
use Rattle.type_infer.specs.Solutions.{Solution, IsFree}
use Rattle.type_infer.specs.Inference.{bound_with, declared_bound, Gathered, Argument, outside, no_bound, Arguments, all_given, one_given, refused_later, refused_here, Inferred, by_constraints}
use Rattle.type_infer.specs.Pairs.{Pair}
use Rattle.type_infer.specs.Reached.{IsReached, HasNoSolution, IsUnconstrained}
use Rattle.type_infer.specs.declared.constraints.Constraint.{Constraint}
use Rattle.type_infer.specs.declared.refusal.InferRefusal.{InferRefusal}
use Rattle.type_infer.specs.declared.refusal.InferRefusal.TheVariants.{NoSolution, Unconstrained}

module _ (table : Table) where
  module _ (cs : List Constraint) where
    -- the first parameter without an argument, behind those that have these
    record FirstWithout (given_before : List (VarId × Ty)) (xs : List VarId) (why : InferRefusal) : Type 0 where
      x : VarId
      before : List VarId
      after : List VarId
      split : xs ≡ before ++ x ∷ after
      given : List Ty
      arguments : Arguments table cs given_before before (Ok given)
      refused : Argument table cs (given_before ++ zip before given) x (Err why)

    first_without : {acc : List (VarId × Ty)} {xs : List VarId} {answer : Result (List Ty) InferRefusal} → Arguments table cs acc xs answer → (why : InferRefusal) → answer ≡ Err why → FirstWithout acc xs why
    first_without all_given why e = cc
    first_without (one_given p rest) why e = cc
    first_without {acc} (refused_later {x = x} {xs = xs} {t = t} p rest) why e =
        let f = first_without rest why (let k = e in cc) in
        record {
          x = f.x;
          before = x ∷ f.before;
          after = f.after;
          split = ap (λ (ys : List VarId). x ∷ ys) f.split;
          given = t ∷ f.given;
          arguments = one_given p f.arguments;
          refused = subst (λ (before : List (VarId × Ty)). Argument table cs before f.x (Err why)) (append_assoc acc ((x, t) ∷ []) (zip f.before f.given)) f.refused;
        }
    first_without {acc} (refused_here {x = x} {xs = xs} {why = w} p) why e =
        let same : w ≡ why = cc in
        record {
          x = x;
          before = [];
          after = xs;
          split = refl;
          given = [];
          arguments = all_given;
          refused = subst (λ (before : List (VarId × Ty)). Argument table cs before x (Err why)) (sym (append-nil acc)) (subst (λ (r : InferRefusal). Argument table cs acc x (Err r)) same p);
        }

    refused_behind : {acc : List (VarId × Ty)} {before : List VarId} (after : List VarId) {x : VarId} {given : List Ty} {answer : Result (List Ty) InferRefusal} {why : InferRefusal} →
        Arguments table cs acc before answer → answer ≡ Ok given → Argument table cs (acc ++ zip before given) x (Err why) → Arguments table cs acc (before ++ x ∷ after) (Err why)
    refused_behind {acc} after {x = x} {given = given} {why = why} all_given e r =
        refused_here (subst (λ (before : List (VarId × Ty)). Argument table cs before x (Err why)) (append-nil acc) r)
    refused_behind {acc} after {x = x} {given = given} {why = why} (one_given {x = y} {xs = ys} {t = t} {ts = ts} p rest) e r =
        let same : given ≡ t ∷ ts = cc in
        let there = subst (λ (us : List Ty). Argument table cs (acc ++ zip (y ∷ ys) us) x (Err why)) same r in
        refused_later p (refused_behind after rest refl (subst (λ (before : List (VarId × Ty)). Argument table cs before x (Err why)) (sym (append_assoc acc ((y, t) ∷ []) (zip ys ts))) there))
    refused_behind after (refused_later p rest) e r = cc
    refused_behind after (refused_here p) e r = cc

  -- what the refusals say of a parameter
  unsolved : {cs : List Constraint} {before : List (VarId × Ty)} {z x : VarId} → Argument table cs before z (Err (NoSolution x)) → (z ≡ x) × (t : Ty) × Solution table cs z (Ok t) × (size_of (bound_with table before z) ≤ NODE_LIMIT) × (Sub table (unpromoted t) (bound_with table before z) → ⊥)
  unsolved (outside {t = t} s h n) = (refl, t, s, h, n)

  unbounded : {cs : List Constraint} {before : List (VarId × Ty)} {z x : VarId} → Argument table cs before z (Err (Unconstrained x)) → (z ≡ x) × IsFree cs z × (declared_bound table z ≡ nullable object)
  unbounded (no_bound f d) = (refl, f, d)

  module _ (params : List VarId) (pairs : List Pair) (x : VarId) where
    abbrev reached : {cs : List Constraint} {why : InferRefusal} → Gathered table params pairs (Ok cs) → (f : FirstWithout cs [] params why) → IsReached table params pairs f.x
    reached {cs} g f = record { constraints = cs; gathered = g; before = f.before; after = f.after; split = f.split; given = f.given; arguments = f.arguments }

    refused_there : {why : InferRefusal} → (r : IsReached table params pairs x) → Argument table r.constraints (zip r.before r.given) x (Err why) → Inferred table params pairs (Err why)
    refused_there {why} r a =
        by_constraints r.gathered
        (subst (λ (xs : List VarId). Arguments table r.constraints [] xs (Err why)) (sym r.split) (refused_behind r.constraints {acc = []} r.after r.arguments refl a))

    no_solution_from : Inferred table params pairs (Err (NoSolution x)) → HasNoSolution table params pairs x
    no_solution_from (by_constraints {cs = cs} g a) =
        let f = first_without cs a (NoSolution x) refl in
        let u = unsolved f.refused in
        subst (λ (z : VarId). HasNoSolution table params pairs z) u.0 (record { reached = reached g f; solution = u.1; solves = u.2; within_limit = u.3; outside = u.4 })

    pub no_solution_where : Inferred table params pairs (Err (NoSolution x)) ↔ HasNoSolution table params pairs x
    no_solution_where = (no_solution_from, λ h. refused_there h.reached (outside h.solves h.within_limit h.outside))

    unconstrained_from : Inferred table params pairs (Err (Unconstrained x)) → IsUnconstrained table params pairs x
    unconstrained_from (by_constraints {cs = cs} g a) =
        let f = first_without cs a (Unconstrained x) refl in
        let u = unbounded f.refused in
        subst (λ (z : VarId). IsUnconstrained table params pairs z) u.0 (record { reached = reached g f; free = u.1; no_bound = u.2 })

    pub unconstrained_where : Inferred table params pairs (Err (Unconstrained x)) ↔ IsUnconstrained table params pairs x
    unconstrained_where = (unconstrained_from, λ h. refused_there h.reached (no_bound h.free h.no_bound))
