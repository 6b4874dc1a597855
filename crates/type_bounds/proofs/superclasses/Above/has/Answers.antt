use Rattle.std.proofs.Common.{◌≡◌, true, List, filter, sym, subst, arith}
use Rattle.std.specs.Prelude.{Contains, All}
use Rattle.std.proofs.lemmas.List.Elements.{All-contains}
use Rattle.dart_types.specs.Ty.{Ty, Types, interface}
use Rattle.dart_types.specs.Same.{same_class}
use Rattle.dart_types.specs.declared.ids.ClassId.{ClassId}
use Rattle.dart_types.specs.declared.superinterfaces.Superinterface.{Superinterface}
use Rattle.type_bounds.specs.Above.{type_above}
use Rattle.type_bounds.specs.declared.superclasses.Above.{Above}
use Rattle.type_bounds.proofs.General.{contains_passed, passed_contains, all_next, all_done, yes, no, granted, refused, same_class-refl}
use Rattle.type_bounds.proofs.superclasses.Above.has.Goals as goal

-- an entry is another type
abbrev Differs : Above → Ty → Superinterface → Type 0
Differs a u own = type_above a own ≡ u → ⊥

-- the same types are of one class
of_one_class : (c d : ClassId) (ss ts : Types) → interface c ss ≡ interface d ts → same_class c d ≡ true
of_one_class c d ss ts e = let is : c ≡ d = cc in subst (λ (x : ClassId). same_class c x ≡ true) is (same_class-refl c)

pub returns-then-is_same_with : goal.returns-then-is_same_with
returns-then-is_same_with c =
    let own = c.own-item.result in
    let among : Contains (filter (λ (s : Superinterface). same_class s.class c.args.s.now.class) c.args.self.now.superinterfaces.now) own =
    subst (λ (list : List Superinterface). Contains list own) c.superinterfaces_of_class-own-items.ensures (c.loop-own.own-index, c.loop-own-test.true, sym c.own-item.is) in
    yes (own, (contains_passed (λ (s : Superinterface). same_class s.class c.args.s.now.class) c.args.self.now.superinterfaces.now own among).0, granted c.is_same_with.ensures c.if-is_same_with.true)

pub loop-own-preserved : goal.loop-own-preserved
loop-own-preserved c =
    all_next (Differs c.args.self.now (type_above c.args.of.now c.args.s.now)) c.superinterfaces_of_class-own-items.result.now c.loop-own.own-index c.own-item.result c.loop-own-test.true c.own-item.is c.loop-own.invariant (refused c.is_same_with.ensures c.if-is_same_with.false)

-- one that is the same type is of the same class, and so among those that were passed
pub returns : goal.returns
returns c =
    let differs = Differs c.args.self.now (type_above c.args.of.now c.args.s.now) in
    let of = λ (s : Superinterface). same_class s.class c.args.s.now.class in
    let list = c.args.self.now.superinterfaces.now in
    let passed : All differs (filter of list) =
    subst (λ (items : List Superinterface). All differs items) c.superinterfaces_of_class-own-items.ensures (all_done differs c.superinterfaces_of_class-own-items.result.now c.loop-own.own-index (omega arith) c.loop-own.invariant) in
    no (λ h. All-contains differs (filter of list) h.0 passed (passed_contains of list h.0 h.1 (of_one_class _ _ _ _ h.2)) h.2)
