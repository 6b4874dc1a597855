-- What is found among the superinterfaces of two classes is the deepest that both have.
use Rattle.std.proofs.Common.{◌≡◌, ◌<◌, ◌≤◌, List, Some, None, [], sym, ◌∙◌, ap, subst, arith, inl, inr}
use Rattle.std.specs.Prelude.{Contains, All}
use Rattle.std.proofs.lemmas.Bool.{cases_lt}
use Rattle.std.proofs.lemmas.List.Elements.{All-contains}
use Rattle.dart_types.specs.Ty.{Ty, types_of}
use Rattle.dart_types.specs.Heads.{object}
use Rattle.dart_types.specs.Normal.{normal}
use Rattle.dart_types.specs.Substitution.{put, by_params}
use Rattle.dart_types.specs.Superinterfaces.{interface_of}
use Rattle.dart_types.specs.Tables.{Table, class_of, head_depth}
use Rattle.dart_types.specs.declared.ids.ClassId.{ClassId}
use Rattle.dart_types.specs.declared.ids.VarId.{VarId}
use Rattle.dart_types.specs.declared.ids.TheConstants.{OBJECT}
use Rattle.dart_types.specs.declared.class_rows.ClassRow.{ClassRow}
use Rattle.dart_types.specs.declared.superinterfaces.Superinterface.{Superinterface}
use Rattle.dart_types.specs.Laws.{RowLaws}
use Rattle.type_bounds.specs.Above.{type_above, depth_in, AgreesWith, AreOf, IsIn, IsShared, IsAloneIn, HasNoneUnder, IsTopUnder, HasNoneAlone, IsDeepestIn}
use Rattle.type_bounds.specs.Common.{IsAbove, IsCommon, IsAlone, IsDeepest}
use Rattle.type_bounds.specs.declared.superclasses.Above.{Above}
use Rattle.type_bounds.specs.declared.superclasses.Pair.{Pair}
use Rattle.type_bounds.proofs.General.{all_from}
use Rattle.type_bounds.proofs.Rooted.{object_above, object_alone, root_depth, reaches}

-- an entry of the list stands for what is above the class
module _ (table : Table) (laws : RowLaws table) (c : ClassId) (ts : List Ty) (a : Above) (f : AreOf table c ts a) where
  same_put : (v : Ty) → normal (put (by_params a.arguments.params.now (types_of a.arguments.args.now)) v) ≡ normal (put (by_params f.row.params (types_of ts)) v)
  same_put v =
      ap (λ (ps : List VarId). normal (put (by_params ps (types_of a.arguments.args.now)) v)) f.params
      ∙ ap (λ (us : List Ty). normal (put (by_params f.row.params (types_of us)) v)) f.args

  type_of : (s : Superinterface) (v : Ty) → interface_of s ≡ normal v → type_above a s ≡ normal (put (by_params f.row.params (types_of ts)) v)
  type_of s v e =
      let σ = by_params f.row.params (types_of ts) in
      same_put (interface_of s) ∙ (ap (λ (w : Ty). normal (put σ w)) e ∙ laws.types.normal-put-normal σ v)

  entry_above : (s : Superinterface) → Contains a.superinterfaces.now s → IsAbove table c (types_of ts) (type_above a s)
  entry_above s i =
      let h = f.list.no_other s i in
      record {
        row = f.row;
        row_is = f.row_is;
        counted = f.counted;
        over = h.0;
        superinterface = h.1;
        is = type_of s h.0 h.2;
      }

  pub in_above : (u : Ty) → IsIn a u → IsAbove table c (types_of ts) u
  in_above u h = subst (λ (v : Ty). IsAbove table c (types_of ts) v) h.2 (entry_above h.0 h.1)

  pub above_in : (u : Ty) → IsAbove table c (types_of ts) u → IsIn a u
  above_in u h =
      let s = f.list.every h.over h.superinterface in
      let is : h.row ≡ f.row = same_row (class_of table c) h.row f.row h.row_is f.row_is in
      (s.0, s.1, type_of s.0 h.over s.2 ∙ (ap (λ (row : ClassRow). normal (put (by_params row.params (types_of ts)) h.over)) (sym is) ∙ sym h.is))
    where
      same_row : (o : _) (x y : ClassRow) → o ≡ Some x → o ≡ Some y → x ≡ y
      same_row o x y e g = cc

module _ (p : Pair) (laws : RowLaws p.rows.now.table) (c d : ClassId) (ss ts : List Ty) (l : AreOf p.rows.now.table c ss p.left) (r : AreOf p.rows.now.table d ts p.right) where
  abbrev table : Table
  table = p.rows.now.table

  abbrev Common : Ty → Type 0
  Common u = IsCommon table c (types_of ss) d (types_of ts) u

  abbrev Alone : Ty → Type 0
  Alone u = IsAlone table c (types_of ss) d (types_of ts) u

  shared_common : (s : Superinterface) → Contains p.left.superinterfaces.now s → IsShared p s → Common (type_above p.left s)
  shared_common s i h = (entry_above table laws c ss p.left l s i, in_above table laws d ts p.right r (type_above p.left s) h)

  -- a superinterface of both stands in the left list
  common_shared : (u : Ty) → Common u → (s : Superinterface) × Contains p.left.superinterfaces.now s × IsShared p s × (type_above p.left s ≡ u)
  common_shared u h =
      let s = above_in table laws c ss p.left l u h.0 in
      (s.0, s.1, subst (λ (v : Ty). IsIn p.right v) (sym s.2) (above_in table laws d ts p.right r u h.1), s.2)

  alone_in : (s : Superinterface) → Alone (type_above p.left s) → IsAloneIn p s
  alone_in s h = all_from (AgreesWith p s) p.left.superinterfaces.now (λ t i shared e. h (type_above p.left t) (shared_common t i shared) e)

  pub is_deepest : (s : Superinterface) → IsDeepestIn p s → IsDeepest table c (types_of ss) d (types_of ts) (type_above p.left s)
  is_deepest s h = record {
    common = shared_common s h.stands h.shared;
    alone = λ v k e.
        let t = common_shared v k in
        sym t.3 ∙ All-contains (AgreesWith p s) p.left.superinterfaces.now t.0 h.alone t.1 t.2 (ap (head_depth table) t.3 ∙ e);
    deepest = λ v k lt one.
        let t = common_shared v k in
        let deep : depth_in p t.0 ≡ head_depth table v = ap (head_depth table) t.3 in
        All-contains (λ (x : Superinterface). IsShared p x → depth_in p s < depth_in p x → IsAloneIn p x → ⊥) p.left.superinterfaces.now t.0 h.deepest t.1 t.2 (omega (arith, lt, deep)) (alone_in t.0 (subst Alone (sym t.3) one));
  }

  -- where Object has no parameters, there is one, as neither class is Object
  pub some_alone : ((row : ClassRow) → class_of table OBJECT ≡ Some row → row.params ≡ []) → (c ≡ OBJECT → ⊥) → (d ≡ OBJECT → ⊥) → HasNoneAlone p → ⊥
  some_alone bare left right none =
      let above = object_above table laws bare c (types_of ss) l.row l.row_is l.counted left in
      let common : Common object = (above, object_above table laws bare d (types_of ts) r.row r.row_is r.counted right) in
      let root = reaches table laws bare c l.row l.row_is left in
      let deep = root_depth table laws root.1.0 root.1.1 in
      let one : Alone object = λ v k e. object_alone table laws bare c (types_of ss) v k.0 (e ∙ deep) in
      let t = common_shared object common in
      All-contains (λ (x : Superinterface). IsShared p x → IsAloneIn p x → ⊥) p.left.superinterfaces.now t.0 none t.1 t.2 (alone_in t.0 (subst Alone (sym t.3) one))

-- an entry that is farther from Object than another isn't alone
abbrev pub NotAloneAbove : Pair → Superinterface → Superinterface → Type 0
NotAloneAbove p s t = IsShared p t → depth_in p s < depth_in p t → IsAloneIn p t → ⊥

-- the way down from one depth to the next at which there is a superinterface of both
module _ (p : Pair) where
  abbrev list : List Superinterface
  list = p.left.superinterfaces.now

  pub none_at_all : HasNoneUnder p None → HasNoneAlone p
  none_at_all none = all_from (λ (t : Superinterface). IsShared p t → IsAloneIn p t → ⊥) list (λ t i shared one. All-contains (λ (x : Superinterface). IsShared p x → Unit {0} → ⊥) list t none i shared tt)

  pub none_above : (s : Superinterface) → IsTopUnder p None s → All (NotAloneAbove p s) list
  none_above s h =
      all_from (NotAloneAbove p s) list (λ t i shared lt one.
      let le : depth_in p t ≤ depth_in p s = All-contains (λ (x : Superinterface). IsShared p x → Unit {0} → depth_in p x ≤ depth_in p s) list t h.top i shared tt in
      absurd (omega (arith, lt, le)))

  module _ (s : Superinterface) (stands : Contains list s) (shared : IsShared p s) (above : All (NotAloneAbove p s) list) (other : IsAloneIn p s → ⊥) where
    -- where one isn't alone, none at its depth is
    not_alone : (t : Superinterface) → Contains list t → IsShared p t → depth_in p s ≤ depth_in p t → IsAloneIn p t → ⊥
    not_alone t i with_t le one =
        elim (cases_lt (depth_in p s) (depth_in p t)) [
          | inl lt ↦ All-contains (NotAloneAbove p s) list t above i with_t lt one
          | inr ge ↦
              let e : depth_in p s ≡ depth_in p t = omega (arith, le, ge) in
              let same : type_above p.left s ≡ type_above p.left t = All-contains (AgreesWith p t) list s one stands shared e in
              other (all_from (AgreesWith p s) list (λ v j with_v d. All-contains (AgreesWith p t) list v one j with_v (d ∙ e) ∙ sym same))
        ]

    pub none_left : HasNoneUnder p (Some (depth_in p s)) → HasNoneAlone p
    none_left none =
        all_from (λ (t : Superinterface). IsShared p t → IsAloneIn p t → ⊥) list (λ t i with_t one.
        elim (cases_lt (depth_in p t) (depth_in p s)) [
          | inl lt ↦ All-contains (λ (x : Superinterface). IsShared p x → depth_in p x < depth_in p s → ⊥) list t none i with_t lt
          | inr ge ↦ not_alone t i with_t ge one
        ])

    pub next_above : (u : Superinterface) → IsTopUnder p (Some (depth_in p s)) u → All (NotAloneAbove p u) list
    next_above u h =
        all_from (NotAloneAbove p u) list (λ t i with_t lt one.
        elim (cases_lt (depth_in p t) (depth_in p s)) [
          | inl under ↦
              let le : depth_in p t ≤ depth_in p u = All-contains (λ (x : Superinterface). IsShared p x → depth_in p x < depth_in p s → depth_in p x ≤ depth_in p u) list t h.top i with_t under in
              absurd (omega (arith, lt, le))
          | inr ge ↦ not_alone t i with_t ge one
        ])
