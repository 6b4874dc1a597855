-- What is said of the nodes of a body is found by their numbers, and their slots have the types that are said.
use Rattle.std.proofs.Common.{◌≡◌, ◌≢◌, ℕ, zero, suc, ◌+◌, ◌-◌, ◌<◌, ◌≤◌, Bool, true, false, cond, nat_eq, List, [], ◌∷◌, ◌++◌, length, get_or, Option, Some, None, refl, sym, ap, ◌∙◌, subst, arith, inl, inr}
use Rattle.std.specs.List.{list_any}
use Rattle.std.specs.Option.{option_map, option_map_or}
use Rattle.std.specs.Prelude.{All, find}
use Rattle.std.proofs.lemmas.Bool.{cases_eq, cases_lt, ne_eqb, eq-eqb, or_from, or_left, or_right}
use Rattle.std.proofs.lemmas.Bool.Decides.{nat_tests}
use Rattle.std.proofs.lemmas.List.{get_or_default}
use Rattle.std.proofs.lemmas.List.Elements.{All-head, All-tail}
use Rattle.std.proofs.lemmas.List.FromFn.{get_or-map-range_with_len, length-map-range_with_len}
use Rattle.dart_types.specs.Ty.{Ty, invalid}
use Rattle.flow_model.specs.Flow.{declared_in, facts_of}
use Rattle.flow_model.specs.declared.locals.Facts.{Facts}
use Rattle.flow_model.specs.declared.locals.LocalId.{LocalId}
use Rattle.judgement.specs.NodeFacts.{NodeFacts}
use Rattle.judgement.specs.declared.meaning.Meaning.{Meaning}
use Rattle.judgement.specs.declared.meaning.Meaning.TheVariants.{Nothing, Local, Print, Class, Other}
use Rattle.rule_laws.specs.Keys.{AreOnce, IsFoundByNumber, declared_number, local_declared, number_meant, numbers_said}
use Rattle.core_ir.specs.Values.{declared_at}
use Rattle.elaborate.specs.Sources.{local_meant, slot_of}
use Rattle.elaborate.specs.Elaborated.{past_all, slot_count, slot_type, slot_type_by, slot_types, type_by, type_of_local}
use Rattle.elaborate.proofs.Given.{Setting}
use Rattle.elaborate.proofs.Standing.{IsSlotOf, IsValueSlot, is_declared}
use Rattle.elaborate.proofs.Expressions.{AreSaid}

-- each number that is said is in the range
module _ (P : ℕ → Type 0) where
  left_of : (xs ys : List ℕ) → All P (xs ++ ys) → All P xs
  left_of [] ys all k d lt = absurd (omega arith)
  left_of (x ∷ xs) ys all zero d lt = All-head P x (xs ++ ys) all
  left_of (x ∷ xs) ys all (suc k) d lt = left_of xs ys (All-tail P x (xs ++ ys) all) k d (omega arith)

  right_of : (xs ys : List ℕ) → All P (xs ++ ys) → All P ys
  right_of [] ys all = all
  right_of (x ∷ xs) ys all = right_of xs ys (All-tail P x (xs ++ ys) all)

  -- so of each node
  pub each_number : (typed : List NodeFacts) → All P (numbers_said typed) → All (λ (n : NodeFacts). P n.node.0 × All P (declared_number n)) typed
  each_number [] all k d lt = absurd (omega arith)
  each_number (n ∷ typed) all zero d lt =
      let own = left_of (n.node.0 ∷ declared_number n) (numbers_said typed) all in (All-head P n.node.0 (declared_number n) own, All-tail P n.node.0 (declared_number n) own)
  each_number (n ∷ typed) all (suc k) d lt = each_number typed (right_of (n.node.0 ∷ declared_number n) (numbers_said typed) all) k d (omega arith)

-- a local that a node declares by what it names
pub declares_it : (n : NodeFacts) (var : LocalId) → n.ty ≡ None → n.element ≡ Some (Local var) → declared_number n ≡ var.0 ∷ []
declares_it n var none is = ap (λ t. local_declared t n.element) none ∙ ap number_meant is

-- a number that no node declares isn't a declared one
any_none : (n : ℕ) (numbers : List ℕ) → All (λ m. m ≢ n) numbers → list_any (nat_eq n) numbers ≡ false
any_none n [] all = refl
any_none n (m ∷ numbers) all = or_from (nat_eq n m) (list_any (nat_eq n) numbers) (ne_eqb n m (λ e. All-head (λ k. k ≢ n) m numbers all (sym e))) (any_none n numbers (All-tail (λ k. k ≢ n) m numbers all))

pub undeclared : (n : ℕ) (typed : List NodeFacts) → All (λ (said : NodeFacts). All (λ m. m ≢ n) (declared_number said)) typed → is_declared typed n ≡ false
undeclared n [] all = refl
undeclared n (said ∷ typed) all =
    or_from (list_any (nat_eq n) (declared_number said)) (is_declared typed n) (any_none n (declared_number said) (All-head (λ (s : NodeFacts). All (λ m. m ≢ n) (declared_number s)) said typed all))
    (undeclared n typed (All-tail (λ (s : NodeFacts). All (λ m. m ≢ n) (declared_number s)) said typed all))

pub declared : (n : ℕ) (typed : List NodeFacts) (k : ℕ) (d : NodeFacts) → k < length typed → declared_number (get_or typed k d) ≡ n ∷ [] → is_declared typed n ≡ true
declared n [] k d lt is = absurd (omega arith)
declared n (said ∷ typed) zero d lt is = or_left (list_any (nat_eq n) (declared_number said)) (is_declared typed n) (ap (list_any (nat_eq n)) is ∙ or_left (nat_eq n n) false (eq-eqb n n refl))
declared n (said ∷ typed) (suc k) d lt is = or_right (list_any (nat_eq n) (declared_number said)) (is_declared typed n) (declared n typed k d (omega arith) is)

-- The type of a slot is the one that is said, where no node says another.
abbrev Agrees : ℕ → Ty → NodeFacts → Type 0
Agrees n t said = (u : Ty) → slot_type_by n said ≡ Some u → u ≡ t

slot_type_at : (n : ℕ) (t : Ty) (said : NodeFacts) (rest : List NodeFacts) (found : Option Ty) → slot_type_by n said ≡ found → Agrees n t said → (found ≡ None → slot_type rest n ≡ t) → option_map_or (λ (u : Ty). u) found (slot_type rest n) ≡ t
slot_type_at n t said rest (Some u) is agrees behind = agrees u is
slot_type_at n t said rest None is agrees behind = behind refl

pub slot_type_is : (n : ℕ) (t : Ty) (typed : List NodeFacts) (k : ℕ) (d : NodeFacts) → k < length typed → All (Agrees n t) typed → slot_type_by n (get_or typed k d) ≡ Some t → slot_type typed n ≡ t
slot_type_is n t [] k d lt agree is = absurd (omega arith)
slot_type_is n t (said ∷ typed) zero d lt agree is = ap (λ found. option_map_or (λ (u : Ty). u) found (slot_type typed n)) is
slot_type_is n t (said ∷ typed) (suc k) d lt agree is =
    slot_type_at n t said typed (slot_type_by n said) refl (All-head (Agrees n t) said typed agree) (λ none. slot_type_is n t typed k d (omega arith) (All-tail (Agrees n t) said typed agree) is)

-- what a node gives to a slot: by its own number, or by that of the local that it declares
pub data Gives (n : ℕ) (said : NodeFacts) (u : Ty) : Type 0 where
  by_node : said.ty ≡ Some u → said.node.0 ≡ n → Gives n said u
  by_local : (var : LocalId) → said.ty ≡ None → said.element ≡ Some (Local var) → var.0 ≡ n → declared_in said.after var ≡ Some u → Gives n said u

gives_node : (n : ℕ) (said : NodeFacts) (t u : Ty) (same : Bool) → nat_eq said.node.0 n ≡ same → said.ty ≡ Some t → cond same (Some t) None ≡ Some u → Gives n said u
gives_node n said t u true e is gives = let same : t ≡ u = cc in by_node (is ∙ ap Some same) (grind (arith, nat_tests))
gives_node n said t u false e is gives = absurd cc

gives_local : (n : ℕ) (said : NodeFacts) (var : LocalId) (u : Ty) (same : Bool) → nat_eq var.0 n ≡ same → said.ty ≡ None → said.element ≡ Some (Local var) → cond same (declared_in said.after var) None ≡ Some u → Gives n said u
gives_local n said var u true e none is gives = by_local var none is (grind (arith, nat_tests)) gives
gives_local n said var u false e none is gives = absurd cc

gives_by : (n : ℕ) (said : NodeFacts) (u : Ty) (element : Option Meaning) → said.ty ≡ None → said.element ≡ element → type_of_local n said (local_meant element) ≡ Some u → Gives n said u
gives_by n said u (Some (Local var)) none is gives = gives_local n said var u (nat_eq var.0 n) refl none is gives
gives_by n said u (Some Nothing) none is gives = absurd cc
gives_by n said u (Some Print) none is gives = absurd cc
gives_by n said u (Some (Class class)) none is gives = absurd cc
gives_by n said u (Some Other) none is gives = absurd cc
gives_by n said u None none is gives = absurd cc

gives_at : (n : ℕ) (said : NodeFacts) (u : Ty) (ty : Option Ty) → said.ty ≡ ty → type_by n said ty ≡ Some u → Gives n said u
gives_at n said u (Some t) is gives = gives_node n said t u (nat_eq said.node.0 n) refl is gives
gives_at n said u None is gives = gives_by n said u said.element is refl gives

pub gives : (n : ℕ) (said : NodeFacts) (u : Ty) → slot_type_by n said ≡ Some u → Gives n said u
gives n said u is = gives_at n said u said.ty refl is

-- each of some numbers is before the one past all
pub before_past : (ns : List ℕ) → All (λ n. n < past_all ns) ns
before_past [] k d lt = absurd (omega arith)
before_past (n ∷ ns) zero d lt = omega arith
before_past (n ∷ ns) (suc k) d lt = let behind = before_past ns k d (omega arith) in omega arith

-- each node's number is before the one past all
pub nodes_before : (typed : List NodeFacts) → All (λ (n : NodeFacts). n.node.0 < past_all (numbers_said typed)) typed
nodes_before typed k d lt = (each_number (λ n. n < past_all (numbers_said typed)) typed (before_past (numbers_said typed)) k d lt).0

module _ (c : Setting) (last : ℕ) (slots : c.g.slots ≡ slot_types c.x) (once : AreOnce c.x.first last (numbers_said c.x.typed)) (by : IsFoundByNumber c.x.typed) where
  abbrev past : ℕ
  past = past_all (numbers_said c.x.typed)

  module _ (k : ℕ) (d : NodeFacts) (lt : k < length c.x.typed) where
    abbrev said : NodeFacts
    said = get_or c.x.typed k d

    from : c.x.first ≤ said.node.0
    from = (each_number (λ n. c.x.first ≤ n) c.x.typed once.from_first k d lt).0

    before : said.node.0 < past
    before = (each_number (λ n. n < past) c.x.typed (before_past (numbers_said c.x.typed)) k d lt).0

    -- the slot of a number has the type that is said of it
    typed_at : (n : ℕ) (t : Ty) → c.x.first ≤ n → n < past → slot_type c.x.typed n ≡ t → (n - c.x.first < length c.g.slots) × (declared_at c.g (n - c.x.first) ≡ t)
    typed_at n t from before is =
        let long : length c.g.slots ≡ slot_count c.x = ap length slots ∙ length-map-range_with_len (slot_type c.x.typed) c.x.first (slot_count c.x) in (
          omega arith,
          ap (λ (ts : List Ty). get_or ts (n - c.x.first) invalid) slots ∙ get_or-map-range_with_len (slot_type c.x.typed) c.x.first (slot_count c.x) (n - c.x.first) n invalid (omega arith) (omega arith) ∙ is,
        )

    -- no other node gives another type to the slot of an expression
    value_agrees : (t : Ty) → said.ty ≡ Some t → All (Agrees said.node.0 t) c.x.typed
    value_agrees t is j e inside u gives_u = elim (gives said.node.0 (get_or c.x.typed j e) u gives_u) [
      | by_node typed same ↦
          (let other = get_or c.x.typed j e in
          let one : find (λ (n : NodeFacts). nat_eq n.node.0 other.node.0) c.x.typed ≡ Some other = by.found j e inside in
          let two : find (λ (n : NodeFacts). nat_eq n.node.0 said.node.0) c.x.typed ≡ Some said = by.found k d lt in
          let both : Some other ≡ Some said = sym one ∙ ap (λ m. find (λ (n : NodeFacts). nat_eq n.node.0 m) c.x.typed) same ∙ two in
          let equal : other ≡ said = cc in
          let types : Some u ≡ Some t = sym typed ∙ ap (λ (n : NodeFacts). n.ty) equal ∙ is in
          cc)
      | by_local var none element same is_declared ↦
          absurd (let other = get_or c.x.typed j e in
          let apart = by.names_apart j e inside in
          let numbers = declares_it other var none element in
          let here = subst (λ (ns : List ℕ). All (λ n. All (λ (o : NodeFacts). n ≢ o.node.0) c.x.typed) ns) numbers apart in
          All-head (λ n. All (λ (o : NodeFacts). n ≢ o.node.0) c.x.typed) var.0 [] here k d lt same)
    ]

    value_said : (t : Ty) → said.ty ≡ Some t → IsValueSlot c (slot_of c.x said.node.0).0 × (declared_at c.g (slot_of c.x said.node.0).0 ≡ t)
    value_said t is =
        let own : slot_type_by said.node.0 said ≡ Some t = ap (type_by said.node.0 said) is ∙ ap (λ b. cond b (Some t) None) (eq-eqb said.node.0 said.node.0 refl) in
        let typed = typed_at said.node.0 t from before (slot_type_is said.node.0 t c.x.typed k d lt (value_agrees t is) own) in
        let same : (slot_of c.x said.node.0).0 + c.x.first ≡ said.node.0 = let f = from in omega arith in (
          record {
            inside = typed.0;
            unnamed = ap (is_declared c.x.typed) same
                ∙ undeclared said.node.0 c.x.typed (λ j e inside i f within. by.names_apart j e inside i f within k d lt);
          },
          typed.1,
        )

    module _ (var : LocalId) (l : Facts) (none : said.ty ≡ None) (element : said.element ≡ Some (Local var)) (found : facts_of said.after var ≡ Some l) where
      own_numbers : declared_number said ≡ var.0 ∷ []
      own_numbers = declares_it said var none element

      var_from : c.x.first ≤ var.0
      var_from = All-head (λ n. c.x.first ≤ n) var.0 [] (subst (All (λ n. c.x.first ≤ n)) own_numbers (each_number (λ n. c.x.first ≤ n) c.x.typed once.from_first k d lt).1)

      var_before : var.0 < past
      var_before = All-head (λ n. n < past) var.0 [] (subst (All (λ n. n < past)) own_numbers (each_number (λ n. n < past) c.x.typed (before_past (numbers_said c.x.typed)) k d lt).1)

      -- two nodes that declare one number are one node
      clash : (i j : ℕ) (a b : NodeFacts) (v w : LocalId) → i < j → j < length c.x.typed → declared_number (get_or c.x.typed i a) ≡ v.0 ∷ [] → declared_number (get_or c.x.typed j a) ≡ w.0 ∷ [] → v.0 ≡ w.0 → ⊥
      clash i j a b v w less inside one two same =
          let apart = by.declared_once i j a less inside in
          let first = subst (λ (ns : List ℕ). All (λ n. All (λ m. n ≢ m) (declared_number (get_or c.x.typed j a))) ns) one apart in
          let at = All-head (λ n. All (λ m. n ≢ m) (declared_number (get_or c.x.typed j a))) v.0 [] first in
          All-head (λ m. v.0 ≢ m) w.0 [] (subst (All (λ m. v.0 ≢ m)) two at) same

      local_agrees : All (Agrees var.0 l.ty) c.x.typed
      local_agrees j e inside u gives_u = elim (gives var.0 (get_or c.x.typed j e) u gives_u) [
        | by_node typed same ↦
            absurd (let apart = subst (λ (ns : List ℕ). All (λ n. All (λ (o : NodeFacts). n ≢ o.node.0) c.x.typed) ns) own_numbers (by.names_apart k d lt) in
            All-head (λ n. All (λ (o : NodeFacts). n ≢ o.node.0) c.x.typed) var.0 [] apart j e inside (sym same))
        | by_local w none' element' same is_declared ↦ elim (cases_eq j k) [
          | inl at_same ↦
              (let equal : get_or c.x.typed j e ≡ said = ap (λ i. get_or c.x.typed i e) at_same ∙ get_or_default c.x.typed k e d lt in
              let locals : Some (Local w) ≡ Some (Local var) = sym element' ∙ ap (λ (n : NodeFacts). n.element) equal ∙ element in
              let same_var : w ≡ var = local_inside w var locals in
              let types : Some u ≡ Some l.ty = sym is_declared ∙ ap (λ (n : NodeFacts). declared_in n.after w) equal ∙ ap (declared_in said.after) same_var ∙ ap (option_map (λ (f : Facts). f.ty)) found in
              cc)
          | inr apart ↦
              absurd (let one = declares_it (get_or c.x.typed j e) w none' element' in
              let own = ap declared_number (get_or_default c.x.typed k e d lt) ∙ own_numbers in
              elim (cases_lt j k) [
                | inl less ↦ clash j k e e w var less lt one own same
                | inr more ↦ clash k j e e var w (omega arith) inside own one (sym same)
              ])
        ]
      ]
        where
          local_inside : (w v : LocalId) → Some (Local w) ≡ Some (Local v) → w ≡ v
          local_inside w v is = cc

      local_said : IsSlotOf c var.0 l.ty
      local_said =
          let own : slot_type_by var.0 said ≡ Some l.ty =
          ap (type_by var.0 said) none ∙ ap (λ (m : Option Meaning). type_of_local var.0 said (local_meant m)) element ∙ ap (λ b. cond b (declared_in said.after var) None) (eq-eqb var.0 var.0 refl) ∙ ap (option_map (λ (f : Facts). f.ty)) found in
          let typed = typed_at var.0 l.ty var_from var_before (slot_type_is var.0 l.ty c.x.typed k d lt local_agrees own) in
          record {
            from = var_from;
            inside = typed.0;
            typed = typed.1;
            named = declared var.0 c.x.typed k d lt own_numbers;
          }

  -- all that is said is found, and has its slots
  pub all_said : AreSaid c c.x.typed
  all_said k d lt = record {
    found = by.found k d lt;
    value = λ t is. value_said k d lt t is;
    local = λ var l none element found. local_said k d lt var l none element found;
  }
