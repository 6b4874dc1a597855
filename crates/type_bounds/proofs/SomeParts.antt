-- From what is some type, as far as it is formed, by one rule to what is so by another.
use Rattle.std.proofs.Common.{◌≡◌, Bool, List, Result, sym, subst}
use Rattle.std.specs.Result.{IfOk}
use Rattle.std.proofs.lemmas.Result.{IfOk-weaker}
use Rattle.dart_types.specs.Ty.{Ty, Types, Named, interface, function, types_of}
use Rattle.dart_types.specs.declared.ids.ClassId.{ClassId}
use Rattle.dart_types.specs.Named.{named_of}
use Rattle.dart_types.specs.Normal.{nullable_of}
use Rattle.dart_types.specs.declared.types.NamedType.{NamedType}
use Rattle.type_bounds.specs.Chains.{marked_by}
use Rattle.type_bounds.specs.PartsView.{IsPart, AreParts, IsSomePart, AreSomeParts}
use Rattle.type_bounds.specs.NamedView.{AreNamedParts, AreSomeNamed}
use Rattle.type_bounds.specs.declared.parts.Part.{Part}
use Rattle.type_bounds.specs.declared.parts.Parts.{Parts}
use Rattle.type_bounds.specs.declared.named_parts.NamedParts.{NamedParts}

module _ {E : Type 0} (other : Ty → Type 0) (r : Result Part E) where
  -- the type itself
  pub some_type : (t : Ty) → other t → IfOk r (λ part. IsPart part t) → IfOk r (IsSomePart other)
  some_type t a h = IfOk-weaker r (λ part. IsPart part t) (IsSomePart other) (λ part p. (t, a, p)) h

  -- a class of some arguments
  pub some_interface : (class : ClassId) (args : Parts) (t : Ty) → other t → (ts : Types) → t ≡ interface class ts → AreParts args ts → IfOk r (λ part. (us : Types) → AreParts args us → IsPart part (interface class us)) → IfOk r (IsSomePart other)
  some_interface class args t a ts is parts h =
      IfOk-weaker r (λ part. (us : Types) → AreParts args us → IsPart part (interface class us)) (IsSomePart other) (λ part p. (t, a, subst (IsPart part) (sym is) (p ts parts))) h

  -- what some type is by the first rule
  pub some_by : (so : Ty → Type 0) → ((t : Ty) → so t → other t) → IfOk r (IsSomePart so) → IfOk r (IsSomePart other)
  some_by so f h = IfOk-weaker r (IsSomePart so) (IsSomePart other) (λ part p. (p.0, f p.0 p.1, p.2)) h

  -- that with `?`
  pub some_marked : (so : Ty → Type 0) (part : Part) → ((t : Ty) → so t → other (nullable_of t)) → IsSomePart so part → IfOk r (λ marked. (t : Ty) → IsPart part t → IsPart marked (nullable_of t)) → IfOk r (IsSomePart other)
  some_marked so part f a h =
      IfOk-weaker r (λ marked. (t : Ty) → IsPart part t → IsPart marked (nullable_of t)) (IsSomePart other)
      (λ marked p. (nullable_of a.0, f a.0 a.1, p a.0 a.2)) h

  -- that with `?` where there is a mark
  pub some_marked_by : (so : Ty → Type 0) (part : Part) (marked : Bool) → ((t : Ty) → so t → other (marked_by marked t)) → IsSomePart so part → IfOk r (λ done. (t : Ty) → IsPart part t → IsPart done (marked_by marked t)) → IfOk r (IsSomePart other)
  some_marked_by so part marked f a h =
      IfOk-weaker r (λ done. (t : Ty) → IsPart part t → IsPart done (marked_by marked t)) (IsSomePart other)
      (λ done p. (marked_by marked a.0, f a.0 a.1, p a.0 a.2)) h

  -- the function type of some parameters and some result
  pub some_function : (so_required so_optional : Types → Type 0) (so_named : Named → Type 0) (so_result : Ty → Type 0) (required optional : Parts) (named : NamedParts) (result_part : Part) → ((r o : Types) (n : Named) (e : Ty) → so_required r → so_optional o → so_named n → so_result e → other (function r o n e)) → AreSomeParts so_required required → AreSomeParts so_optional optional → AreSomeNamed so_named named → IsSomePart so_result result_part → IfOk r (λ part. (r o : Types) (n : Named) (e : Ty) → AreParts required r → AreParts optional o → AreNamedParts named n → IsPart result_part e → IsPart part (function r o n e)) → IfOk r (IsSomePart other)
  some_function so_required so_optional so_named so_result required optional named result_part f rs os ns e h =
      IfOk-weaker r (λ part. (r o : Types) (n : Named) (e : Ty) → AreParts required r → AreParts optional o → AreNamedParts named n → IsPart result_part e → IsPart part (function r o n e)) (IsSomePart other)
      (λ part p. (function rs.0 os.0 ns.0 e.0, f rs.0 os.0 ns.0 e.0 rs.1 os.1 ns.1 e.1, p rs.0 os.0 ns.0 e.0 rs.2 os.2 ns.2 e.2)) h

-- what is so of two types, or lists, is so of those that they equal
pub moved : (B : Ty → Ty → Ty → Type 0) {s s' t t' u : Ty} → s ≡ s' → t ≡ t' → B s t u → B s' t' u
moved B {s' = s'} {t = t} {u = u} e f a = subst (λ (v : Ty). B s' v u) f (subst (λ (v : Ty). B v t u) e a)

pub moved_types : (B : Types → Types → Types → Type 0) {xs xs' ys ys' : List Ty} {us : Types} → xs ≡ xs' → ys ≡ ys' → B (types_of xs) (types_of ys) us → B (types_of xs') (types_of ys') us
moved_types B {xs' = xs'} {ys = ys} {us = us} e f a =
    subst (λ (vs : List Ty). B (types_of xs') (types_of vs) us) f (subst (λ (vs : List Ty). B (types_of vs) (types_of ys) us) e a)

pub moved_named : (B : Named → Named → Named → Type 0) {ns ns' ms ms' : List NamedType} {us : Named} → ns ≡ ns' → ms ≡ ms' → B (named_of ns) (named_of ms) us → B (named_of ns') (named_of ms') us
moved_named B {ns' = ns'} {ms = ms} {us = us} e f a =
    subst (λ (vs : List NamedType). B (named_of ns') (named_of vs) us) f (subst (λ (vs : List NamedType). B (named_of vs) (named_of ms) us) e a)
