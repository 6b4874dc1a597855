-- Each type of a chain is a subtype of the one before it, at the start and after each step.
use Rattle.std.proofs.Common.{◌≡◌, Bool, true, false, ◌&&◌, not, List, [], ◌∷◌, ◌++◌, if◌then◌else◌, Option, Some, None, refl}
use Rattle.std.specs.Prelude.{◌||◌, All, filter, find}
use Rattle.std.specs.List.{list_all}
use Rattle.std.specs.Option.{option_map_or}
use Rattle.std.proofs.lemmas.List.Elements.{All-head, All-weaker, filter_passes}
use Rattle.std.proofs.lemmas.Bool.{and_parts}
use Rattle.dart_types.specs.Ty.{Ty, invalid, never, void, null, interface, function, variable, promoted, nullable}
use Rattle.dart_types.specs.Same.{same_type}
use Rattle.dart_types.specs.Tables.{Table, bound_of}
use Rattle.dart_types.specs.Sub.{Sub, reflexivity, left_promoted_variable, left_promoted_type, right_promoted}
use Rattle.dart_types.specs.SubTest.{sub}
use Rattle.dart_types.specs.Superinterfaces.{LeavesNothingOut}
use Rattle.dart_types.specs.declared.ids.VarId.{VarId}
use Rattle.type_bounds.specs.NonNull.{non_null_of}
use Rattle.type_bounds.specs.Laws.{BoundLaws}
use Rattle.flow_model.specs.TypeTests.{proper_sub, is_formed, is_in, union_of}
use Rattle.flow_model.specs.Flow.{FlowModel, is_listed, at_local, last_or, current_of, declare_of, start_of, end_of}
use Rattle.flow_model.specs.Promote.{promoted_facts, narrowed_variable, by_variable, tested_as, promote_facts, without_null_of, non_null_facts, below_current, append_facts}
use Rattle.flow_model.specs.Assign.{interest_of, between_of, at_most_one, least_of, appended_of, kept_chain, assign_facts}
use Rattle.flow_model.specs.Steps.{is_changed, conservative_facts, conservative_of}
use Rattle.flow_model.specs.Join.{HaveSameScope, join_facts, join_of}
use Rattle.flow_model.specs.Restrict.{further_of, restrict_facts, restrict_of}
use Rattle.flow_model.specs.Chains.{Descends, HasDescendingChain, HasDescendingChains}
use Rattle.flow_model.specs.declared.locals.LocalId.{LocalId}
use Rattle.flow_model.specs.declared.locals.LocalDecl.{LocalDecl}
use Rattle.flow_model.specs.declared.locals.Facts.{Facts}
use Rattle.flow_model.proofs.WrittenTypes.{All-found}
use Rattle.flow_model.proofs.Kept as kept

module _ (table : Table) (laws : BoundLaws table) where
  -- a type that passes the test is a subtype
  below_from_proper : (s t : Ty) → proper_sub table s t ≡ true → Sub table s t
  below_from_proper s t h = laws.rows.sub_sound s t (and_parts (sub table s t) (not (same_type s t)) h).0

  -- one type or none, by a test
  one_below : (s t : Ty) (b : Bool) → (b ≡ true → Sub table s t) → Descends table t (if b then s ∷ [] else [])
  one_below s t true below = ((below refl), tt)
  one_below s t false below = tt

  -- none or one
  none_below : (s t : Ty) (b : Bool) → Sub table s t → Descends table t (if b then [] else s ∷ [])
  none_below s t true below = tt
  none_below s t false below = (below, tt)

  -- either of two lists
  either_below : (t : Ty) (ss us : List Ty) (b : Bool) → (b ≡ true → Descends table t ss) → Descends table t us → Descends table t (if b then ss else us)
  either_below t ss us true first second = first refl
  either_below t ss us false first second = second

  -- what a known type of a variable promotes it to
  variable_below : (x : VarId) (to known t : Ty) → (Sub table to known → Sub table (promoted x to) t) → Descends table t (narrowed_variable table (promoted x to) to known)
  variable_below x to known t by_known =
      one_below (promoted x to) t (proper_sub table to known && is_formed (promoted x to))
      (λ h. by_known (below_from_proper to known (and_parts (proper_sub table to known) (is_formed (promoted x to)) h).0))

  -- by its bound
  bound_below : (x : VarId) (to : Ty) (bound : Option Ty) → Descends table (variable x) (option_map_or (narrowed_variable table (promoted x to) to) bound [])
  bound_below x to None = tt
  bound_below x to (Some b) =
      variable_below x to b (variable x) (λ below. left_promoted_variable reflexivity)

  -- what a test promotes a variable to is a subtype of its current type
  by_variable_below : (to t : Ty) → Descends table t (by_variable table to t)
  by_variable_below to invalid = tt
  by_variable_below to never = tt
  by_variable_below to void = tt
  by_variable_below to null = tt
  by_variable_below to (interface c ts) = tt
  by_variable_below to (function r o n e) = tt
  by_variable_below to (variable x) = bound_below x to (bound_of table x)
  by_variable_below to (promoted x u) =
      variable_below x to u (promoted x u) (λ below. right_promoted (left_promoted_variable reflexivity) (left_promoted_type below))
  by_variable_below to (nullable u) = tt

  -- so is what any test promotes to
  pub tested_below : (to t : Ty) → Descends table t (tested_as table to t)
  tested_below to t =
      either_below t (to ∷ []) (by_variable table to t) (proper_sub table to t)
      (λ h. ((below_from_proper to t h), tt))
      (by_variable_below to t)

  -- and the type without null
  pub without_null_below : (t : Ty) → Descends table t (without_null_of table t)
  without_null_below t =
      none_below (non_null_of table t) t (same_type (non_null_of table t) t || not (is_formed (non_null_of table t))) (laws.non_null_below t)

  -- and a type that is known without a test
  pub known_below : (to t : Ty) → Descends table t (below_current table to t)
  known_below to t = one_below to t (proper_sub table to t) (λ h. below_from_proper to t h)

  -- one type or none, by what it is
  one_descends : (t : Ty) (found : Option Ty) → All (λ u. Sub table u t) (at_most_one found) → Descends table t (at_most_one found)
  one_descends t None all = tt
  one_descends t (Some u) all = (All-head (λ v. Sub table v t) u [] all, tt)

  -- and what a write promotes to
  pub appended_below : (written t : Ty) (interest : List Ty) → Descends table t (appended_of table written t interest)
  appended_below written t interest =
      let between = between_of table written t interest in
      let passes = filter_passes (λ u. sub table written u && proper_sub table u t) interest in
      either_below t (written ∷ []) (least_of table between) (is_in interest written && proper_sub table written t)
      (λ h. (below_from_proper written t (and_parts (is_in interest written) (proper_sub table written t) h).1, tt))
      (one_descends t (find (λ u. list_all (sub table u) between) between) (All-found (λ u. Sub table u t) (λ u. list_all (sub table u) between) between
      (All-weaker (λ u. (sub table written u && proper_sub table u t) ≡ true) (λ u. Sub table u t)
      (λ u h. below_from_proper u t (and_parts (sub table written u) (proper_sub table u t) h).1)
      between passes)))

  -- where rows leave nothing out, types that descend from a subtype of a type descend from it
  descends_higher : LeavesNothingOut table → (s t : Ty) (us : List Ty) → Sub table s t → Descends table s us → Descends table t us
  descends_higher nothing s t [] below down = tt
  descends_higher nothing s t (u ∷ us) below down = (laws.rows.sub_transitive nothing u s t down.0 below, down.1)

  -- the step of the next lemma
  descends_filter_at : LeavesNothingOut table → (p : Ty → Bool) (t u : Ty) (us : List Ty) (b : Bool) → p u ≡ b → Sub table u t → Descends table u (filter p us) → Descends table t (filter p (u ∷ us))
  descends_filter_at nothing p t u us true e below down = rw e (below, down)
  descends_filter_at nothing p t u us false e below down = rw e (descends_higher nothing u t (filter p us) below down)

  -- and where some of the types are taken out, the others still descend
  descends_filter : LeavesNothingOut table → (p : Ty → Bool) (t : Ty) (us : List Ty) → Descends table t us → Descends table t (filter p us)
  descends_filter nothing p t [] down = tt
  descends_filter nothing p t (u ∷ us) down =
      descends_filter_at nothing p t u us (p u) refl down.0 (descends_filter nothing p u us down.1)

  -- types behind the last of others
  descends_append : (t : Ty) (us vs : List Ty) → Descends table t us → Descends table (last_or t us) vs → Descends table t (us ++ vs)
  descends_append t [] vs down more = more
  descends_append t (u ∷ us) vs down more = (down.0, descends_append u us vs down.1 more)

  -- types of which none stands where the local is captured
  descends_unless : (t : Ty) (types : List Ty) (captured : Bool) → Descends table t types → Descends table t (if captured then [] else types)
  descends_unless t types true down = tt
  descends_unless t types false down = down

  -- a promotion
  descends_promoted : (types : List Ty) (l : Facts) → Descends table (current_of l) types → HasDescendingChain table l → HasDescendingChain table (promoted_facts types l)
  descends_promoted types l more down =
      descends_append l.ty l.chain (if l.captured then [] else types) down (descends_unless (current_of l) types l.captured more)

  -- a write
  descends_assign : LeavesNothingOut table → (written : Ty) (l : Facts) → HasDescendingChain table l → HasDescendingChain table (assign_facts table written l)
  descends_assign nothing written l down =
      let kept = kept_chain table written l in
      let appended = appended_of table written (last_or l.ty kept) (interest_of table l) in
      descends_append l.ty kept (if l.captured then [] else appended) (descends_filter nothing (sub table written) l.ty l.chain down)
      (descends_unless (last_or l.ty kept) appended l.captured (appended_below written (last_or l.ty kept) (interest_of table l)))

  -- either of two facts
  descends_if : (b : Bool) (l m : Facts) → HasDescendingChain table l → HasDescendingChain table m → HasDescendingChain table (if b then l else m)
  descends_if true l m first second = first
  descends_if false l m first second = second

  -- what code could change
  descends_conservative : (written captured : List LocalId) (l : Facts) → HasDescendingChain table l → HasDescendingChain table (conservative_facts written captured l)
  descends_conservative written captured l down =
      descends_if (is_changed written captured l.var) (record l { chain = []; unassigned = false; captured = l.captured || is_listed captured l.var }) l tt down

  -- two paths
  descends_join : LeavesNothingOut table → (l m : Facts) → HasDescendingChain table l → HasDescendingChain table m → HasDescendingChain table (join_facts l m)
  descends_join nothing l m down other =
      descends_unless l.ty (filter (is_in m.chain) l.chain) (l.captured || m.captured) (descends_filter nothing (is_in m.chain) l.ty l.chain down)

  -- the step of the next lemma
  proper_descend_at : LeavesNothingOut table → (t u : Ty) (us : List Ty) (b : Bool) → proper_sub table u t ≡ b → Descends table u us → Descends table t (filter (λ v. proper_sub table v t) us) → Descends table t (filter (λ v. proper_sub table v t) (u ∷ us))
  proper_descend_at nothing t u us true e down more =
      rw e (below_from_proper u t e, descends_filter nothing (λ v. proper_sub table v t) u us down)
  proper_descend_at nothing t u us false e down more = rw e more

  -- of types that descend, those that are proper subtypes of one descend from it
  proper_descend : LeavesNothingOut table → (s t : Ty) (us : List Ty) → Descends table s us → Descends table t (filter (λ v. proper_sub table v t) us)
  proper_descend nothing s t [] down = tt
  proper_descend nothing s t (u ∷ us) down = proper_descend_at nothing t u us (proper_sub table u t) refl down.1 (proper_descend nothing u t us down.1)

  -- either of two lists
  descends_either : (t : Ty) (ss us : List Ty) (b : Bool) → Descends table t ss → Descends table t us → Descends table t (if b then ss else us)
  descends_either t ss us true first second = first
  descends_either t ss us false first second = second

  -- a body and a block
  descends_restrict : LeavesNothingOut table → (written captured : List LocalId) (l m : Facts) → l.ty ≡ m.ty → HasDescendingChain table l → HasDescendingChain table m → HasDescendingChain table (restrict_facts table written captured l m)
  descends_restrict nothing written captured l m same down other =
      let own : Descends table l.ty m.chain = rw same other in
      let further = further_of table l.ty l.chain m.chain in
      let behind = descends_append l.ty l.chain (filter (λ v. proper_sub table v (current_of l)) m.chain) down (proper_descend nothing l.ty (current_of l) m.chain own) in
      descends_unless l.ty (if is_changed written captured l.var then m.chain else further) (l.captured || m.captured)
      (descends_either l.ty m.chain further (is_changed written captured l.var) own behind)

  module _ (m : FlowModel) (var : LocalId) where
    -- a write of one local
    pub assign_keeps : LeavesNothingOut table → (written : Ty) → HasDescendingChains table m → HasDescendingChains table (at_local m var (assign_facts table written))
    assign_keeps nothing written =
        kept.at_local_keeps (HasDescendingChain table) m var (assign_facts table written) (descends_assign nothing written)

    -- a test of one local
    pub promote_keeps : (to : Ty) → HasDescendingChains table m → HasDescendingChains table (at_local m var (promote_facts table to))
    promote_keeps to =
        kept.at_local_keeps (HasDescendingChain table) m var (promote_facts table to)
        (λ l down. descends_promoted (tested_as table to (current_of l)) (record l { tested = union_of l.tested (to ∷ []) }) (tested_below to (current_of l)) down)

    -- that one local isn't null
    pub non_null_keeps : HasDescendingChains table m → HasDescendingChains table (at_local m var (non_null_facts table))
    non_null_keeps =
        kept.at_local_keeps (HasDescendingChain table) m var (non_null_facts table)
        (λ l down. descends_promoted (without_null_of table (current_of l)) l (without_null_below (current_of l)) down)

    -- that one local has a type
    pub append_keeps : (to : Ty) → HasDescendingChains table m → HasDescendingChains table (at_local m var (append_facts table to))
    append_keeps to =
        kept.at_local_keeps (HasDescendingChain table) m var (append_facts table to)
        (λ l down. descends_promoted (below_current table to (current_of l)) l (known_below to (current_of l)) down)

  -- what code could change in the whole model
  pub conservative_keeps : (m : FlowModel) (written captured : List LocalId) → HasDescendingChains table m → HasDescendingChains table (conservative_of m written captured)
  conservative_keeps m written captured =
      kept.map_keeps (HasDescendingChain table) (conservative_facts written captured) (descends_conservative written captured) m.locals

  -- a new local
  pub declare_keeps : (m : FlowModel) (local : LocalDecl) → HasDescendingChains table m → HasDescendingChains table (declare_of m local)
  declare_keeps = kept.declare_keeps (HasDescendingChain table) (λ local. tt)

  -- the start of a body
  pub start_descends : (vars : List LocalDecl) → HasDescendingChains table (start_of vars)
  start_descends = kept.start_has (HasDescendingChain table) (λ local. tt)

  -- the end of a scope
  pub end_keeps : (m : FlowModel) (vars : List LocalId) → HasDescendingChains table m → HasDescendingChains table (end_of m vars)
  end_keeps = kept.end_keeps (HasDescendingChain table)

  -- where two paths meet
  pub join_keeps : LeavesNothingOut table → (a b : FlowModel) → HasDescendingChains table a → HasDescendingChains table b → HasDescendingChains table (join_of a b)
  join_keeps nothing = kept.join_keeps (HasDescendingChain table) (descends_join nothing)

  -- behind a body and a block
  pub restrict_keeps : LeavesNothingOut table → (a b : FlowModel) (written captured : List LocalId) → HaveSameScope a b → HasDescendingChains table a → HasDescendingChains table b → HasDescendingChains table (restrict_of table a b written captured)
  restrict_keeps nothing a b written captured same =
      kept.same_paired_keeps (HasDescendingChain table) (restrict_facts table written captured) (descends_restrict nothing written captured) a.locals b.locals same
