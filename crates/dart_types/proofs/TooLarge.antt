-- The classes that form superinterfaces that are too large.
use Rattle.std.specs.declared.rc.Rc.{Rc}
use Rattle.std.proofs.Common.{Global, ◌≡◌, ℕ, ◌<◌, Bool, true, false, IsTrue, List, [], Option, None, Some, nat_lt, min, ◌-◌, ◌^◌, refl, sym, ◌∙◌, ap, subst, arith}
use Rattle.std.specs.Prelude.{◌↔◌, Contains, not, Result, Ok, Err, IfOk}
use Rattle.std.specs.Option.{option_map_or}
use Rattle.std.proofs.lemmas.Bool.Decides.{nat_tests}
use Rattle.dart_types.specs.Ty.{Ty, Types, interface}
use Rattle.dart_types.specs.Sizes.{size_of, held}
use Rattle.dart_types.specs.Normal.{normal}
use Rattle.dart_types.specs.Substitution.{put, by_params}
use Rattle.dart_types.specs.Tables.{Table, class_of, depth_of}
use Rattle.dart_types.specs.WellFormed.{IsWellFormed}
use Rattle.dart_types.specs.Superinterfaces.{Inherits, FormsTooLarge, AreSuperinterfaces, interface_of}
use Rattle.dart_types.specs.Kept.{is_within_limit, inherited_by, kept_within, inherited_of, forms_too_large}
use Rattle.dart_types.specs.Gathering.{IsAbove, itself, beyond, GivesTooLarge, HandsOnTooLarge}
use Rattle.dart_types.specs.Node.{type_of}
use Rattle.dart_types.specs.declared.ids.ClassId.{ClassId}
use Rattle.dart_types.specs.declared.types.TypeList.{TypeList}
use Rattle.dart_types.specs.declared.types.TypeNode.{TypeNode}
use Rattle.dart_types.specs.declared.types.TypeNode.TheVariants.{Invalid, Never, Void, Null, Interface, Function, Var, Promoted, Nullable}
use Rattle.dart_types.specs.declared.class_rows.ClassRow.{ClassRow}
use Rattle.dart_types.specs.declared.superinterfaces.Superinterface.{Superinterface}
use Rattle.dart_types.specs.declared.refusal.TheConstants.{NODE_LIMIT}
use Rattle.dart_types.proofs.Formed.{row_id}
use Rattle.dart_types.proofs.Lists.{any_there, there_any}
use Rattle.dart_types.proofs.KeptOf.{inherited_sound, inherits_found, kept_complete, kept_sound}
use Rattle.dart_types.proofs.NormalPut.{normal-put-normal}
use Rattle.dart_types.proofs.Giving.{inherits_above, above_inherits}

over_limit : (v : Ty) → not (is_within_limit v) ≡ true → NODE_LIMIT < size_of (normal v)
over_limit v h = grind (arith, nat_tests)

limit_over : (v : Ty) → NODE_LIMIT < size_of (normal v) → not (is_within_limit v) ≡ true
limit_over v h = grind (arith, nat_tests)

module _ (table : Table) (wf : IsWellFormed table) where
  -- the test that computes holds exactly of the classes that form what is too large
  pub told_sound : (c : ClassId) → forms_too_large table c ≡ true → FormsTooLarge table c
  unfolding forms_too_large
  told_sound c h =
      let q = any_there (λ v. not (is_within_limit v)) (inherited_of table c) h in
      (q.0, at (class_of table c) refl q.0 q.1, over_limit q.0 q.2)
    where
      at : (o : Option ClassRow) → class_of table c ≡ o → (v : Ty) → Contains (option_map_or (λ row. inherited_by table (kept_within table (depth_of table c)) row.supers) o []) v → Inherits table c v
      at None e v i = absurd (omega (arith, i.1))
      at (Some row) e v i = inherited_sound table (kept_within table (depth_of table c)) (λ d w j. kept_sound table (depth_of table c) d w j) c row e row.supers (λ u j. j) v i

  pub told_complete : (c : ClassId) → FormsTooLarge table c → forms_too_large table c ≡ true
  unfolding forms_too_large
  told_complete c h =
      let q = inherits_found table wf (depth_of table c) c (λ d w less k. kept_complete table wf (depth_of table c) d w less k) h.1 in
      let there : Contains (inherited_of table c) h.0 =
      subst (λ (o : Option ClassRow). Contains (option_map_or (λ row. inherited_by table (kept_within table (depth_of table c)) row.supers) o []) h.0) (sym q.1) q.2
      in
      there_any (λ v. not (is_within_limit v)) (inherited_of table c) h.0 there (limit_over h.0 h.2)

  -- an answer that decides is the test
  is_told : (c : ClassId) (b : Bool) → IsTrue b ↔ FormsTooLarge table c → b ≡ forms_too_large table c
  is_told c true h = sym (told_complete c (h.0 refl))
  is_told c false h = at (forms_too_large table c) refl
    where
      at : (k : Bool) → forms_too_large table c ≡ k → false ≡ k
      at true e = h.1 (told_sound c e)
      at false e = refl

  pub none_told : (c : ClassId) → class_of table c ≡ None → false ≡ forms_too_large table c
  none_told c e = is_told c false ((λ h. cc), (λ h. absurd (no_row h.1)))
    where
      no_row : {v : Ty} → Inherits table c v → ⊥
      no_row h = let q = inherits_found table wf (depth_of table c) c (λ d w less k. kept_complete table wf (depth_of table c) d w less k) h in let k : None ≡ Some q.0 = sym e ∙ q.1 in cc

  pub told_by : (c : ClassId) (row : ClassRow) → class_of table c ≡ Some row → (b : Bool) → IsTrue b ↔ ((v : Ty) × Contains row.supers v × GivesTooLarge table v) → b ≡ forms_too_large table c
  told_by c row r b h =
      let is : row.id ≡ c = row_id table wf c row r in
      let r' : class_of table row.id ≡ Some row = subst (λ (d : ClassId). class_of table d ≡ Some row) (sym is) r in
      subst (λ (d : ClassId). b ≡ forms_too_large table d) is
      (is_told row.id b (
        (λ t. let q = h.0 t in (q.2.0, above_inherits table wf row r' q.1 q.2.1, q.2.2)),
        (λ f. let q = inherits_above table wf row r' f.1 in h.1 (q.0, q.1, (f.0, q.2, f.2))),
      ))

  -- what a class hands on
  pub hands_on : (d : ClassId) (ts : Types) (row : ClassRow) → class_of table d ≡ Some row → (list : List Superinterface) → AreSuperinterfaces table d list → (b : Bool) → IsTrue b ↔ ((s : Superinterface) × Contains list s × (NODE_LIMIT < size_of (normal (put (by_params row.params ts) (interface_of s))))) → IsTrue b ↔ HandsOnTooLarge table d ts
  hands_on d ts row r list are b h = (
    (λ t. let q = h.0 t in let u = are.no_other q.0 q.1 in (row, r, (u.0, u.1, subst (λ (k : Ty). NODE_LIMIT < size_of k) (ap (λ (x : Ty). normal (put (by_params row.params ts) x)) u.2 ∙ normal-put-normal (by_params row.params ts) u.0) q.2))),
    (λ k. h.1 (back k)),
  )
    where
      back : HandsOnTooLarge table d ts → (s : Superinterface) × Contains list s × (NODE_LIMIT < size_of (normal (put (by_params row.params ts) (interface_of s))))
      back k =
          let is : k.0 ≡ row = (let e : Some k.0 ≡ Some row = sym k.1 ∙ r in cc) in
          let u = k.2 in
          let s = are.every u.0 u.1 in
          let large : NODE_LIMIT < size_of (normal (put (by_params row.params ts) u.0)) = subst (λ (p : ClassRow). NODE_LIMIT < size_of (normal (put (by_params p.params ts) u.0))) is u.2 in
          (s.0, s.1, subst (λ (x : Ty). NODE_LIMIT < size_of x) (sym (ap (λ (x : Ty). normal (put (by_params row.params ts) x)) s.2 ∙ normal-put-normal (by_params row.params ts) u.0)) large)

  -- an interface gives what is too large where its class hands it on, if it isn't so itself
  pub interface_gives : (d : ClassId) (ts : Types) → (NODE_LIMIT < size_of (normal (interface d ts)) → ⊥) → (b : Bool) → IsTrue b ↔ HandsOnTooLarge table d ts → IsTrue b ↔ GivesTooLarge table (interface d ts)
  interface_gives d ts small b h = (
    (λ t. let k = h.0 t in (put (by_params k.0.params ts) k.2.0, beyond k.1 k.2.1, k.2.2)),
    (λ g. at g.0 g.1 g.2),
  )
    where
      at : (w : Ty) → IsAbove table (interface d ts) w → NODE_LIMIT < size_of (normal w) → IsTrue b
      at w itself large = absurd (small large)
      at w (beyond {row = row} {u = u} r k) large = h.1 (row, r, (u, k, large))

  -- any other type gives itself alone
  pub other_gives : (node : TypeNode) → ((class : ClassId) (args : Rc TypeList Global) → node ≡ Interface class args → ⊥) → (NODE_LIMIT < size_of (normal (type_of node)) → ⊥) → GivesTooLarge table (type_of node) → ⊥
  other_gives node other small g = alone node other g.0 g.1 g.2 small
    where
      alone : (node : TypeNode) → ((class : ClassId) (args : Rc TypeList Global) → node ≡ Interface class args → ⊥) → (w : Ty) → IsAbove table (type_of node) w → NODE_LIMIT < size_of (normal w) → (NODE_LIMIT < size_of (normal (type_of node)) → ⊥) → ⊥
      alone Invalid o w itself large s = s large
      alone Never o w itself large s = s large
      alone Void o w itself large s = s large
      alone Null o w itself large s = s large
      alone (Interface class args) o w k large s = o class args refl
      alone (Function f) o w itself large s = s large
      alone (Var x) o w itself large s = s large
      alone (Promoted x t) o w itself large s = s large
      alone (Nullable t) o w itself large s = s large

-- what a call ensures, said otherwise
pub if_ok : {T E : Type 0} {P Q : T → Type 0} (r : Result T E) → IfOk r P → ((v : T) → P v → Q v) → IfOk r Q
if_ok (Ok v) p f = f v p
if_ok (Err e) p f = tt

-- a count as 64 bits hold it is over the limit where the count is
over : (n r : ℕ) → r ≡ min n (2 ^ 64 - 1) → nat_lt 4096 r ≡ true → 4096 < n
over n r e h = let k : 4096 < r = grind (arith, nat_tests) in omega (arith, e, k)

under : (n r : ℕ) → r ≡ min n (2 ^ 64 - 1) → 4096 < n → nat_lt 4096 r ≡ true
under n r e h = let k : 4096 < r = omega (arith, e, h) in grind (arith, nat_tests)

pub held_over : (n r : ℕ) → r ≡ held n → IsTrue (nat_lt 4096 r) ↔ (NODE_LIMIT < n)
held_over n r e = ((λ h. over n r e h), (λ h. under n r e h))
