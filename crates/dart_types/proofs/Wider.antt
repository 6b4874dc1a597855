-- More rows change nothing.
use Rattle.std.proofs.Common.{◌≡◌, ℕ, suc, List, [], ◌∷◌, get_or, Option, Some, None, refl, sym, ◌∙◌, ap, subst, arith}
use Rattle.std.proofs.lemmas.List.Elements.{All-contains}
use Rattle.std.specs.Prelude.{Contains, IsSome}
use Rattle.std.specs.Option.{option_map_or}
use Rattle.dart_types.specs.Ty.{Ty, Types, Named, invalid, never, void, null, interface, function, variable, promoted, nullable, no_more, more, no_named, more_named, join}
use Rattle.dart_types.specs.Heads.{object}
use Rattle.dart_types.specs.Tables.{Table, class_of, bound_of, depth_of, head_depth, depth_above}
use Rattle.dart_types.specs.WellFormed.{HasArguments, IsOver, AreOver, AreOverNamed, IsFormedClass, IsFormedVar, IsWellFormed}
use Rattle.dart_types.specs.Sub.{Sub, Subs, SubParams, SubNamed, HasNamed, first, later, reflexivity, right_top, left_bottom, left_null, right_object, left_nullable, right_nullable, left_promoted_variable, left_promoted_type, right_promoted, left_variable_bound, interface_arguments, super_interface, function_class, function_types, left_top, none_left, one_left, no_param, one_param, no_name, one_name}
use Rattle.dart_types.specs.Superinterfaces.{IsSuperinterface, direct, further, Inherits, supertype, handed_on, AreSuperinterfaces}
use Rattle.dart_types.specs.declared.ids.ClassId.{ClassId}
use Rattle.dart_types.specs.declared.ids.VarId.{VarId}
use Rattle.dart_types.specs.declared.ids.TheConstants.{OBJECT}
use Rattle.dart_types.specs.declared.class_rows.ClassRow.{ClassRow}
use Rattle.dart_types.specs.declared.class_rows.VarRow.{VarRow}
use Rattle.dart_types.specs.declared.superinterfaces.Superinterface.{Superinterface}
use Rattle.dart_types.proofs.Formed.{formed_super, formed_bound}
use Rattle.dart_types.proofs.Supers.{object_inherits}
use Rattle.dart_types.proofs.OverPut.{over_put}

-- what is looked up in the smaller table is found in the larger one
pub record IsWider (small large : Table) : Type 0 where
  pub classes : (c : ClassId) (row : ClassRow) → class_of small c ≡ Some row → class_of large c ≡ Some row
  pub vars : (x : VarId) (b : Ty) → bound_of small x ≡ Some b → bound_of large x ≡ Some b

-- an option that holds something
pub some_of : {X : Type 0} (o : Option X) → IsSome o → (x : X) × (o ≡ Some x)
some_of None h = cc
some_of (Some x) h = (x, refl)

pub some_is : {X : Type 0} (o : Option X) (x : X) → o ≡ Some x → IsSome o
some_is o x e = subst IsSome (sym e) refl

-- the depth that a row says
abbrev depth_in : Option ClassRow → ℕ
depth_in row = option_map_or (λ (r : ClassRow). r.depth) row 0

-- a class that has as many parameters as it has arguments has a row
pub row_of_arguments : (o : Option ClassRow) (ts : Types) → HasArguments o ts → (row : ClassRow) × (o ≡ Some row)
row_of_arguments None ts h = absurd h
row_of_arguments (Some row) ts h = (row, refl)

module _ (small large : Table) (wider : IsWider small large) where
  args_wider : (c : ClassId) (ts : Types) → HasArguments (class_of small c) ts → HasArguments (class_of large c) ts
  args_wider c ts h =
      let row = row_of_arguments (class_of small c) ts h in
      subst (λ (o : Option ClassRow). HasArguments o ts) (row.1 ∙ sym (wider.classes c row.0 row.1)) h

  bound_wider : (x : VarId) → IsSome (bound_of small x) → IsSome (bound_of large x)
  bound_wider x h = let b = some_of (bound_of small x) h in some_is (bound_of large x) b.0 (wider.vars x b.0 b.1)

  mutual
    -- types over fewer rows are over more
    pub over_wider : (t : Ty) → IsOver small t → IsOver large t
    over_wider invalid o = o
    over_wider never o = o
    over_wider void o = o
    over_wider null o = o
    over_wider (interface c ts) o = (args_wider c ts o.0, over_wider_all ts o.1)
    over_wider (function r p n e) o = (over_wider_all r o.0, over_wider_all p o.1, over_wider_named n o.2, over_wider e o.3)
    over_wider (variable x) o = bound_wider x o
    over_wider (promoted x t) o = (bound_wider x o.0, over_wider t o.1)
    over_wider (nullable t) o = over_wider t o

    over_wider_all : (ts : Types) → AreOver small ts → AreOver large ts
    over_wider_all no_more o = o
    over_wider_all (more t ts) o = (over_wider t o.0, over_wider_all ts o.1)

    over_wider_named : (ns : Named) → AreOverNamed small ns → AreOverNamed large ns
    over_wider_named no_named o = o
    over_wider_named (more_named n r t ts) o = (over_wider t o.0, over_wider_named ts o.1)

  -- the depth of a type over fewer rows is that over more
  head_wider : (t : Ty) → IsOver small t → head_depth small t ≡ head_depth large t
  head_wider invalid o = refl
  head_wider never o = refl
  head_wider void o = refl
  head_wider null o = refl
  head_wider (interface c ts) o =
      let row = row_of_arguments (class_of small c) ts o.0 in
      let here : depth_of small c ≡ row.0.depth = ap depth_in row.1 in
      let there : depth_of large c ≡ row.0.depth = ap depth_in (wider.classes c row.0 row.1) in
      here ∙ sym there
  head_wider (function r p n e) o = refl
  head_wider (variable x) o = refl
  head_wider (promoted x t) o = refl
  head_wider (nullable t) o = refl

  depth_wider : (vs : List Ty) → ((v : Ty) → Contains vs v → IsOver small v) → depth_above small vs ≡ depth_above large vs
  depth_wider [] over = refl
  depth_wider (v ∷ vs) over =
      let a = head_wider v (over v (0, omega arith, refl)) in
      let b = depth_wider vs (λ w i. over w (suc i.0, omega (arith, i.1), i.2)) in
      cc

  -- rows that are well formed among fewer are so among more
  pub class_wider : (row : ClassRow) → IsFormedClass small row → IsFormedClass large row
  class_wider row f = record {
    object_alone = f.object_alone;
    function_alone = f.function_alone;
    object_bare = f.object_bare;
    function_bare = f.function_bare;
    rooted = f.rooted;
    supertypes = f.supertypes;
    over = λ k d lt. over_wider (get_or row.supers k d) (f.over k d lt);
    depth = f.depth ∙ depth_wider row.supers (λ v i. All-contains (IsOver small) row.supers v f.over i);
  }

  pub var_wider : (row : VarRow) → IsFormedVar small row → IsFormedVar large row
  var_wider row f = record { declared = f.declared; earlier = f.earlier; over = over_wider row.bound f.over }

  -- what a class inherits over fewer rows it inherits over more
  pub inherits_wider : {c : ClassId} {v : Ty} → Inherits small c v → Inherits large c v
  inherits_wider {c} (supertype row r i) = supertype row (wider.classes c row r) i
  inherits_wider {c} (handed_on {d = d} row above r i r' h fits) =
      handed_on row above (wider.classes c row r) i (wider.classes d above r') (inherits_wider h) fits

  mutual
    -- a derivation over fewer rows is one over more
    pub sub_wider : {s t : Ty} → Sub small s t → Sub large s t
    sub_wider reflexivity = reflexivity
    sub_wider (right_top e) = right_top e
    sub_wider left_bottom = left_bottom
    sub_wider left_null = left_null
    sub_wider (right_object e p) = right_object e p
    sub_wider (left_nullable a b) = left_nullable (sub_wider a) (sub_wider b)
    sub_wider (right_nullable a) = right_nullable (sub_wider a)
    sub_wider (left_promoted_variable a) = left_promoted_variable (sub_wider a)
    sub_wider (left_promoted_type a) = left_promoted_type (sub_wider a)
    sub_wider (right_promoted a b) = right_promoted (sub_wider a) (sub_wider b)
    sub_wider (left_variable_bound {x = x} b e a) = left_variable_bound b (wider.vars x b e) (sub_wider a)
    sub_wider (interface_arguments a) = interface_arguments (subs_wider a)
    sub_wider (super_interface {c = c} row r n k a) = super_interface row (wider.classes c row r) n (inherits_wider k.0, k.1) (subs_wider a)
    sub_wider (function_class e) = function_class e
    sub_wider (function_types n p m r e) = function_types n (params_wider p) (named_wider m) r (sub_wider e)
    sub_wider (left_top a) = left_top (sub_wider a)

    subs_wider : {ss ts : Types} → Subs small ss ts → Subs large ss ts
    subs_wider none_left = none_left
    subs_wider (one_left a rest) = one_left (sub_wider a) (subs_wider rest)

    params_wider : {ss ts : Types} → SubParams small ss ts → SubParams large ss ts
    params_wider no_param = no_param
    params_wider (one_param a rest) = one_param (sub_wider a) (params_wider rest)

    named_wider : {ss ts : Named} → SubNamed small ss ts → SubNamed large ss ts
    named_wider no_name = no_name
    named_wider (one_name s h a rest) = one_name s h (sub_wider a) (named_wider rest)

  -- so it is with superinterfaces
  pub super_wider : {c : ClassId} {v : Ty} → IsSuperinterface small c v → IsSuperinterface large c v
  super_wider {c = c} (direct {row = row} r i) = direct (wider.classes c row r) i
  super_wider (further {d = d} {row = row} h r i) = further (super_wider h) (wider.classes d row r) i

  module _ (wf : IsWellFormed small) where
    -- the row that is found among more is that among fewer
    same_row : (c : ClassId) (own row : ClassRow) → class_of small c ≡ Some own → class_of large c ≡ Some row → own ≡ row
    same_row c own row e r = let k : Some own ≡ Some row = sym (wider.classes c own e) ∙ r in cc

    row_back : (c : ClassId) (row : ClassRow) (ts : Types) → HasArguments (class_of small c) ts → class_of large c ≡ Some row → class_of small c ≡ Some row
    row_back c row ts h r =
        let own = row_of_arguments (class_of small c) ts h in
        own.1 ∙ ap (λ (x : ClassRow). Some x) (same_row c own.0 row own.1 r)

    bound_back : (x : VarId) (b : Ty) → IsSome (bound_of small x) → bound_of large x ≡ Some b → bound_of small x ≡ Some b
    bound_back x b h r =
        let own = some_of (bound_of small x) h in
        let k : Some own.0 ≡ Some b = sym (wider.vars x own.0 own.1) ∙ r in
        own.1 ∙ k

    -- the superinterfaces of a class that has a row among fewer are those among more
    pub super_back : {c : ClassId} {v : Ty} → (own : ClassRow) → class_of small c ≡ Some own → IsSuperinterface large c v → IsSuperinterface small c v × IsOver small v
    super_back {c = c} {v = v} own e (direct {row = row} r i) =
        let here : class_of small c ≡ Some row = e ∙ ap (λ (x : ClassRow). Some x) (same_row c own row e r) in
        (direct here i, (formed_super small wf c row v here i).1)
    super_back own e (further {d = d} {ts = ts} {row = row} {v = v} h r i) =
        let above = super_back own e h in
        let here = row_back d row ts above.1.0 r in
        (further above.0 here i, over_put small row.params ts above.1.1 v (formed_super small wf d row v here i).1)

    -- so it is with what the class inherits
    pub inherits_back : {c : ClassId} {v : Ty} → (own : ClassRow) → class_of small c ≡ Some own → Inherits large c v → Inherits small c v × IsOver small v
    inherits_back {c} {v} own e (supertype row r i) =
        let here : class_of small c ≡ Some row = e ∙ ap (λ (x : ClassRow). Some x) (same_row c own row e r) in
        (supertype row here i, (formed_super small wf c row v here i).1)
    inherits_back {c} own e (handed_on {d = d} {ts = ts} {v = v} row above r i r' h fits) =
        let here : class_of small c ≡ Some row = e ∙ ap (λ (x : ClassRow). Some x) (same_row c own row e r) in
        let over = (formed_super small wf c row (interface d ts) here i).1 in
        let there = row_back d above ts over.0 r' in
        let low = inherits_back above there h in
        (handed_on row above here i there low.0 fits, over_put small above.params ts over.1 v low.1)

    pub list_wider : (c : ClassId) (own : ClassRow) (list : List Superinterface) → class_of small c ≡ Some own → AreSuperinterfaces small c list → AreSuperinterfaces large c list
    list_wider c own list e a = record {
      every = λ v h. a.every v ((inherits_back own e h.0).0, h.1);
      no_other = λ s i. let k = a.no_other s i in (k.0, (inherits_wider k.1.0, k.1.1), k.2);
      in_order = a.in_order;
      once = a.once;
    }

    over_join : (ss ts : Types) → AreOver small ss → AreOver small ts → AreOver small (join ss ts)
    over_join no_more ts o p = p
    over_join (more s ss) ts o p = (o.0, over_join ss ts o.1 p)

    over_name : {ns : Named} {m : List ℕ} {t : Ty} → AreOverNamed small ns → HasNamed ns m t → IsOver small t
    over_name o first = o.0
    over_name o (later h) = over_name o.1 h

    module _ (large_wf : IsWellFormed large) where
      -- what lies above Null, Object and `Object?` needs no row
      null_back : {s t : Ty} → s ≡ null → Sub large s t → Sub small s t
      null_back e reflexivity = reflexivity
      null_back e (right_top h) = right_top h
      null_back e left_bottom = left_bottom
      null_back e left_null = left_null
      null_back e (right_object h p) = right_object h p
      null_back e (left_nullable a b) = cc
      null_back e (right_nullable a) = right_nullable (null_back e a)
      null_back e (left_promoted_variable a) = cc
      null_back e (left_promoted_type a) = cc
      null_back e (right_promoted a b) = right_promoted (null_back e a) (null_back e b)
      null_back e (left_variable_bound b h a) = cc
      null_back e (interface_arguments a) = cc
      null_back e (super_interface row r n k a) = cc
      null_back e (function_class h) = function_class h
      null_back e (function_types n p m r a) = cc
      null_back e (left_top a) = cc

      nothing_back : {ss ts : Types} → ss ≡ no_more → Subs large ss ts → Subs small ss ts
      nothing_back e none_left = none_left
      nothing_back e (one_left a rest) = cc

      object_back : {s t : Ty} → s ≡ object → Sub large s t → Sub small s t
      object_back e reflexivity = reflexivity
      object_back e (right_top h) = right_top h
      object_back e left_bottom = left_bottom
      object_back e left_null = left_null
      object_back e (right_object h p) = right_object h p
      object_back e (left_nullable a b) = cc
      object_back e (right_nullable a) = right_nullable (object_back e a)
      object_back e (left_promoted_variable a) = cc
      object_back e (left_promoted_type a) = cc
      object_back e (right_promoted a b) = right_promoted (object_back e a) (object_back e b)
      object_back e (left_variable_bound b h a) = cc
      object_back e (interface_arguments {ss = ss} a) = let k : ss ≡ no_more = cc in interface_arguments (nothing_back k a)
      object_back e (super_interface {c = c} row r n k a) = let root : c ≡ OBJECT = cc in object_inherits large large_wf root k.0
      object_back e (function_class h) = function_class h
      object_back e (function_types n p m r a) = cc
      object_back e (left_top a) = cc

      top_back : {s t : Ty} → s ≡ nullable object → Sub large s t → Sub small s t
      top_back e reflexivity = reflexivity
      top_back e (right_top h) = right_top h
      top_back e left_bottom = left_bottom
      top_back e left_null = left_null
      top_back e (right_object h p) = right_object h p
      top_back e (left_nullable {u = u} a b) = let k : u ≡ object = cc in left_nullable (object_back k a) (null_back refl b)
      top_back e (right_nullable a) = right_nullable (top_back e a)
      top_back e (left_promoted_variable a) = cc
      top_back e (left_promoted_type a) = cc
      top_back e (right_promoted a b) = right_promoted (top_back e a) (top_back e b)
      top_back e (left_variable_bound b h a) = cc
      top_back e (interface_arguments a) = cc
      top_back e (super_interface row r n k a) = cc
      top_back e (function_class h) = function_class h
      top_back e (function_types n p m r a) = cc
      top_back e (left_top a) = cc

      mutual
        -- a derivation over more rows for types over fewer is one over fewer
        pub sub_back : {s t : Ty} → IsOver small s → IsOver small t → Sub large s t → Sub small s t
        sub_back o p reflexivity = reflexivity
        sub_back o p (right_top e) = right_top e
        sub_back o p left_bottom = left_bottom
        sub_back o p left_null = left_null
        sub_back o p (right_object e q) = right_object e q
        sub_back o p (left_nullable a b) = left_nullable (sub_back o p a) (sub_back tt p b)
        sub_back o p (right_nullable a) = right_nullable (sub_back o p a)
        sub_back o p (left_promoted_variable a) = left_promoted_variable (sub_back o.0 p a)
        sub_back o p (left_promoted_type a) = left_promoted_type (sub_back o.1 p a)
        sub_back o p (right_promoted a b) = right_promoted (sub_back o p.0 a) (sub_back o p.1 b)
        sub_back o p (left_variable_bound {x = x} b e a) =
            let here = bound_back x b o e in
            left_variable_bound b here (sub_back (formed_bound small wf x b here).1 p a)
        sub_back o p (interface_arguments a) = interface_arguments (subs_back o.1 p.1 a)
        sub_back o p (super_interface {c = c} {d = d} {ss = ss} {us = us} row r n k a) =
            let here = row_back c row ss o.0 r in
            let low = inherits_back row here k.0 in
            super_interface row here n (low.0, k.1) (subs_back (over_put small row.params ss o.1 (interface d us) low.1).1 p.1 a)
        sub_back o p (function_class e) = function_class e
        sub_back o p (function_types {r = r} {o = q} {r' = r'} {o' = q'} n ps m h e) =
            function_types n (params_back (over_join r' q' p.0 p.1) (over_join r q o.0 o.1) ps) (named_back p.2 o.2 m) h (sub_back o.3 p.3 e)
        sub_back o p (left_top a) = left_top (top_back refl a)

        subs_back : {ss ts : Types} → AreOver small ss → AreOver small ts → Subs large ss ts → Subs small ss ts
        subs_back o p none_left = none_left
        subs_back o p (one_left a rest) = one_left (sub_back o.0 p.0 a) (subs_back o.1 p.1 rest)

        params_back : {ss ts : Types} → AreOver small ss → AreOver small ts → SubParams large ss ts → SubParams small ss ts
        params_back o p no_param = no_param
        params_back o p (one_param a rest) = one_param (sub_back o.0 p.0 a) (params_back o.1 p.1 rest)

        named_back : {ss ts : Named} → AreOverNamed small ss → AreOverNamed small ts → SubNamed large ss ts → SubNamed small ss ts
        named_back o p no_name = no_name
        named_back o p (one_name s h a rest) = one_name s h (sub_back o.0 (over_name p h) a) (named_back o.1 p rest)
