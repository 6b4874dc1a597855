-- Depths that follow from declared classes are those of their rows.
use Rattle.std.proofs.Common.{◌≡◌, ℕ, ◌+◌, ◌<◌, ◌≤◌, max, List, [], ◌∷◌, ◌++◌, length, take, get_or, map, Option, Some, None, refl, sym, ap, ◌∙◌, subst}
use Rattle.std.specs.Prelude.{All}
use Rattle.std.specs.Option.{option_map_or}
use Rattle.std.proofs.lemmas.List.Elements.{All-contains, All-head, All-tail, All-weaker, All-push}
use Rattle.std.proofs.lemmas.List.{get_or_read, take_more, take_all, map-append}
use Rattle.dart_types.specs.Ty.{Ty, invalid, never, void, null, interface, function, variable, promoted, nullable}
use Rattle.dart_types.specs.Tables.{Table, depth_of, head_depth, depth_above}
use Rattle.dart_types.specs.declared.class_rows.ClassRow.{ClassRow}
use Rattle.dart_types.specs.declared.class_rows.VarRow.{VarRow}
use Rattle.class_depths.specs.Settled.{declared_of, row_of, over, AreSettled, AreRowsOf}
use Rattle.class_depths.specs.Marked.{class_at, no_class, head_in, IsDepthAt, IsDepthOver, over_none, over_below, over_declared}
use Rattle.class_depths.specs.declared.classes.DeclaredClass.{DeclaredClass}
use Rattle.class_depths.proofs.Finding.{found_row, row_below}

one_of_both : {X : Type 0} {o : Option X} {x y : X} → o ≡ Some x → o ≡ Some y → x ≡ y
one_of_both e f = cc

module _ (below : Table) (declared : List DeclaredClass) where
  -- no list of direct supertypes has two depths
  pub unique : {vs : List Ty} {m n : ℕ} → IsDepthOver below declared vs m → IsDepthOver below declared vs n → m ≡ n
  unique over_none over_none = refl
  unique (over_below {v = v} h a) (over_below h' b) = ap (λ (k : ℕ). max (head_depth below v + 1) k) (unique a b)
  unique (over_below h a) (over_declared h' b c) = cc
  unique (over_declared h a b) (over_below h' c) = cc
  unique (over_declared {d = d} {m = m} {n = n} h a b) (over_declared {d = d'} {m = m'} {n = n'} h' a' b') =
      let same : d' ≡ d = one_of_both h' h in
      let first : m ≡ m' = unique a (subst (λ (x : DeclaredClass). IsDepthOver below declared x.supers m') same a') in
      let rest : n ≡ n' = unique b b' in
      ap (λ (k : ℕ). max (k + 1) n) first ∙ ap (λ (k : ℕ). max (m' + 1) k) rest

  module _ (vars : List VarRow) (rows : List ClassRow) (same : map declared_of rows ≡ declared) where
    -- a direct supertype of another class is as deep as below
    other_head : (v : Ty) → head_in declared v ≡ None → head_depth (over below vars rows) v ≡ head_depth below v
    other_head invalid e = refl
    other_head never e = refl
    other_head void e = refl
    other_head null e = refl
    other_head (interface c ts) e = ap (λ (o : Option ClassRow). option_map_or (λ (row : ClassRow). row.depth) o 0) (row_below below vars declared rows same c e)
    other_head (function r o n t) e = refl
    other_head (variable x) e = refl
    other_head (promoted x t) e = refl
    other_head (nullable t) e = refl

    module _ (each : All (λ (row : ClassRow). IsDepthOver below declared row.supers row.depth) rows) where
      declared_head : (v : Ty) (d : DeclaredClass) (m : ℕ) → head_in declared v ≡ Some d → IsDepthOver below declared d.supers m → head_depth (over below vars rows) v ≡ m
      declared_head invalid d m e a = cc
      declared_head never d m e a = cc
      declared_head void d m e a = cc
      declared_head null d m e a = cc
      declared_head (interface c ts) d m e a =
          let f = found_row below vars declared rows same c d e in
          let here : depth_of (over below vars rows) c ≡ f.0.depth = ap (λ (o : Option ClassRow). option_map_or (λ (row : ClassRow). row.depth) o 0) f.1 in
          let own : IsDepthOver below declared d.supers f.0.depth = subst (λ (x : DeclaredClass). IsDepthOver below declared x.supers f.0.depth) f.2 (All-contains (λ (row : ClassRow). IsDepthOver below declared row.supers row.depth) rows f.0 each f.3) in
          here ∙ unique own a
      declared_head (function r o n t) d m e a = cc
      declared_head (variable x) d m e a = cc
      declared_head (promoted x t) d m e a = cc
      declared_head (nullable t) d m e a = cc

      agree : {vs : List Ty} {n : ℕ} → IsDepthOver below declared vs n → depth_above (over below vars rows) vs ≡ n
      agree over_none = refl
      agree (over_below {v = v} {vs = vs} h a) =
          ap (λ (k : ℕ). max (k + 1) (depth_above (over below vars rows) vs)) (other_head v h)
          ∙ ap (λ (k : ℕ). max (head_depth below v + 1) k) (agree a)
      agree (over_declared {v = v} {vs = vs} {d = d} {m = m} h a b) =
          ap (λ (k : ℕ). max (k + 1) (depth_above (over below vars rows) vs)) (declared_head v d m h a)
          ∙ ap (λ (k : ℕ). max (m + 1) k) (agree b)

      -- rows with such depths are settled
      pub settled_rows : AreSettled below vars declared rows
      settled_rows = record {
        same = same;
        depths = All-weaker (λ (row : ClassRow). IsDepthOver below declared row.supers row.depth) (λ (row : ClassRow). row.depth ≡ depth_above (over below vars rows) row.supers) (λ row h. sym (agree h)) rows each;
      }

module _ (below : Table) (vars : List VarRow) (declared : List DeclaredClass) (others : List ClassRow) (fits : AreSettled below vars declared others) where
  abbrev table : Table
  table = over below vars others

  -- a declared class is as deep as it follows from its direct supertypes
  fitting_head : (v : Ty) (d : DeclaredClass) (m : ℕ) → head_in declared v ≡ Some d → depth_above table d.supers ≡ m → head_depth table v ≡ m
  fitting_head invalid d m e a = cc
  fitting_head never d m e a = cc
  fitting_head void d m e a = cc
  fitting_head null d m e a = cc
  fitting_head (interface c ts) d m e a =
      let f = found_row below vars declared others fits.same c d e in
      let here : depth_of table c ≡ f.0.depth = ap (λ (o : Option ClassRow). option_map_or (λ (row : ClassRow). row.depth) o 0) f.1 in
      let deep : f.0.depth ≡ depth_above table f.0.supers = All-contains (λ (row : ClassRow). row.depth ≡ depth_above table row.supers) others f.0 fits.depths f.3 in
      here ∙ (deep ∙ (ap (λ (x : DeclaredClass). depth_above table x.supers) f.2 ∙ a))
  fitting_head (function r o n t) d m e a = cc
  fitting_head (variable x) d m e a = cc
  fitting_head (promoted x t) d m e a = cc
  fitting_head (nullable t) d m e a = cc

  -- a depth that follows is the one that fits
  fitting : {vs : List Ty} {n : ℕ} → IsDepthOver below declared vs n → depth_above table vs ≡ n
  fitting over_none = refl
  fitting (over_below {v = v} {vs = vs} h a) =
      ap (λ (k : ℕ). max (k + 1) (depth_above table vs)) (other_head below declared vars others fits.same v h)
      ∙ ap (λ (k : ℕ). max (head_depth below v + 1) k) (fitting a)
  fitting (over_declared {v = v} {vs = vs} {d = d} {m = m} h a b) =
      ap (λ (k : ℕ). max (k + 1) (depth_above table vs)) (fitting_head v d m h (fitting a))
      ∙ ap (λ (k : ℕ). max (m + 1) k) (fitting b)

  -- rows whose depths follow are rows whose depths fit
  pub same_rows : (xs ys : List ClassRow) → map declared_of xs ≡ map declared_of ys → All (λ (row : ClassRow). row.depth ≡ depth_above table row.supers) xs → All (λ (row : ClassRow). IsDepthOver below declared row.supers row.depth) ys → xs ≡ ys
  same_rows [] [] e fit derived = refl
  same_rows [] (y ∷ ys) e fit derived = cc
  same_rows (x ∷ xs) [] e fit derived = cc
  same_rows (x ∷ xs) (y ∷ ys) e fit derived =
      let class : declared_of x ≡ declared_of y = cc in
      let classes : map declared_of xs ≡ map declared_of ys = cc in
      let own : x.depth ≡ depth_above table x.supers = All-head (λ (row : ClassRow). row.depth ≡ depth_above table row.supers) x xs fit in
      let follows : IsDepthOver below declared y.supers y.depth = All-head (λ (row : ClassRow). IsDepthOver below declared row.supers row.depth) y ys derived in
      let depth : x.depth ≡ y.depth = own ∙ (ap (λ (d : DeclaredClass). depth_above table d.supers) class ∙ fitting follows) in
      let first : x ≡ y = λ k. record { id = (class k).id; params = (class k).params; supers = (class k).supers; depth = depth k } in
      let rest = same_rows xs ys classes (All-tail (λ (row : ClassRow). row.depth ≡ depth_above table row.supers) x xs fit) (All-tail (λ (row : ClassRow). IsDepthOver below declared row.supers row.depth) y ys derived) in
      ap (λ (row : ClassRow). row ∷ xs) first ∙ ap (λ (rows : List ClassRow). y ∷ rows) rest

module _ (below : Table) (declared : List DeclaredClass) where
  -- the depths of rows follow from what is declared
  abbrev pub AreDerived : List ClassRow → Type 0
  AreDerived rows = All (λ (row : ClassRow). IsDepthOver below declared row.supers row.depth) rows

  -- the row of the next class
  pub next_row : (rows later : List ClassRow) (i n : ℕ) (d : DeclaredClass) → i < length declared → d ≡ get_or declared i d → map declared_of rows ≡ take i declared → AreDerived rows → IsDepthAt below declared i n → later ≡ rows ++ row_of d n ∷ [] → (map declared_of later ≡ take (i + 1) declared) × AreDerived later
  next_row rows later i n d lt is same each depth pushed =
      let read : d ≡ class_at declared i = get_or_read declared i d lt is no_class in
      let own : IsDepthOver below declared d.supers n = subst (λ (x : DeclaredClass). IsDepthOver below declared x.supers n) (sym read) depth in
      let more : take (i + 1) declared ≡ take i declared ++ d ∷ [] = take_more declared i d lt ∙ ap (λ (x : DeclaredClass). take i declared ++ x ∷ []) (sym is) in (
        ap (map declared_of) pushed ∙ (map-append declared_of rows (row_of d n ∷ []) ∙ (ap (λ (ds : List DeclaredClass). ds ++ d ∷ []) same ∙ sym more)),
        subst AreDerived (sym pushed) (All-push (λ (row : ClassRow). IsDepthOver below declared row.supers row.depth) rows (row_of d n) each own),
      )

  -- the rows of all, and of no others
  pub all_rows : (vars : List VarRow) (rows : List ClassRow) (i : ℕ) → length declared ≤ i → map declared_of rows ≡ take i declared → AreDerived rows → AreRowsOf below vars declared rows
  all_rows vars rows i end same each =
      let whole : map declared_of rows ≡ declared = same ∙ take_all i declared end in
      record {
        settled = settled_rows below declared vars rows whole each;
        alone = λ others fits. same_rows below vars declared others fits others rows (fits.same ∙ sym whole) fits.depths each;
      }
