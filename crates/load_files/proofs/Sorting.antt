-- Sorted entries are the entries in order.
use Rattle.std.proofs.Common.{◌≡◌, ◌≢◌, ◌⊎◌, ◌↔◌, inl, inr, ℕ, zero, suc, ◌+◌, ◌<◌, Bool, true, false, cond, List, [], ◌∷◌, length, map, get_or, set, Option, None, Some, Contains, refl, sym, ap, ◌∙◌, subst, arith, T}
use Rattle.std.specs.Prelude.{◌&&◌}
use Rattle.std.specs.FinMap.Entries.{find, is_sorted, below_all, is_sorted-put, find-put, same_entries}
use Rattle.std.specs.List.{swap}
use Rattle.std.specs.List.Sorted.{IsPermutation, IsSortedBy}
use Rattle.std.specs.Ordering.{is_lt, is_eq, eq_by_cmp}
use Rattle.std.specs.declared.cmp.Ordering.{Ordering}
use Rattle.std.specs.declared.cmp.Ordering.TheVariants.{Less, Equal, Greater}
use Rattle.std.proofs.lemmas.Cmp.{nat_list_cmp_total}
use Rattle.std.proofs.lemmas.List.{get_or-set_same, get_or-set_other, length-set}
use Rattle.std.proofs.lemmas.List.Sorted.{IsPermutation-keeps, Contains-permutation, IsPermutation-sym}
use Rattle.std.proofs.lemmas.List.Elements.{Contains-get_or}
use Rattle.fault_io.specs.Stored.{Stored, are_files, entries_toward, AreEntries}
use Rattle.fault_io.specs.declared.traits.Entry.{Entry}
use Rattle.fault_io.specs.declared.traits.EntryKind.{EntryKind}
use Rattle.load_files.specs.Tables.{path_cmp}
use Rattle.load_files.specs.Folders.{in_order}
use Rattle.load_files.proofs.PathOrder.{by_comparison, turned, same_path, compares_equal}
use Rattle.load_files.proofs.Places.{front_holds, back_holds, less_holds}
use Rattle.load_files.proofs.Names.{one_kind}

-- the name and the kind of an entry
abbrev pub pair : Entry → List ℕ × EntryKind
pair entry = (entry.name, entry.kind)

-- no two places have the same name
abbrev Distinct : List Entry → Type 0
Distinct es = (i j : ℕ) (d : Entry) → i < length es → j < length es → i ≢ j → (get_or es i d).name ≢ (get_or es j d).name

-- where what stands at k stood before places a and b were exchanged
record Moved (es ws : List Entry) (a b k : ℕ) (d : Entry) : Type 0 where
  from : ℕ
  in_range : from < length es
  is : get_or ws k d ≡ get_or es from d
  case : ((k ≡ b) × (from ≡ a)) ⊎ (((k ≢ b) × (k ≡ a) × (from ≡ b)) ⊎ ((k ≢ b) × (k ≢ a) × (from ≡ k)))

either : (m n : ℕ) → (m ≡ n) ⊎ (m ≢ n)
either zero zero = inl refl
either zero (suc n) = inr (λ e. cc)
either (suc m) zero = inr (λ e. cc)
either (suc m) (suc n) = elim (either m n) [ inl e ↦ inl (ap suc e) | inr e ↦ inr (λ same. e (omega (arith, same))) ]

moved : (x : Entry) (xs : List Entry) (a b k : ℕ) (d : Entry) → a < length (x ∷ xs) → b < length (x ∷ xs) → k < length (x ∷ xs) → Moved (x ∷ xs) (swap (x ∷ xs) a b) a b k d
moved x xs a b k d la lb lk =
    let es = x ∷ xs in
    let first = set es a (get_or es b x) in
    let long = length-set es a (get_or es b x) in
    elim (either k b) [
      | inl is ↦ record { from = a; in_range = la; is = ap (λ (n : ℕ). get_or (set first b (get_or es a x)) n d) is ∙ get_or-set_same first b (get_or es a x) d (omega (arith, long)) ∙ same es a x d la; case = inl (is, refl) }
      | inr other ↦ elim (either k a) [
        | inl is ↦ record { from = b; in_range = lb; is = get_or-set_other first b k (get_or es a x) d other ∙ ap (λ (n : ℕ). get_or first n d) is ∙ get_or-set_same es a (get_or es b x) d la ∙ same es b x d lb; case = inr (inl (other, is, refl)) }
        | inr third ↦ record { from = k; in_range = lk; is = get_or-set_other first b k (get_or es a x) d other ∙ get_or-set_other es a k (get_or es b x) d third; case = inr (inr (other, third, refl)) }
      ]
    ]
  where
    same : (ys : List Entry) (n : ℕ) (c d : Entry) → n < length ys → get_or ys n c ≡ get_or ys n d
    same [] n c d l = absurd (omega (arith, l))
    same (y ∷ ys) zero c d l = refl
    same (y ∷ ys) (suc n) c d l = same ys n c d (omega (arith, l))

swapped : (es : List Entry) (a b : ℕ) → a < length es → b < length es → Distinct es → Distinct (swap es a b)
swapped [] a b la lb h = absurd (omega (arith, la))
swapped (x ∷ xs) a b la lb h = λ i j d li lj other same.
    let long = length_swap in
    let at_i = moved x xs a b i d la lb (omega (arith, li, long)) in
    let at_j = moved x xs a b j d la lb (omega (arith, lj, long)) in
    h at_i.from at_j.from d at_i.in_range at_j.in_range (apart at_i.case at_j.case other) (ap (λ (e : Entry). e.name) (sym at_i.is) ∙ same ∙ ap (λ (e : Entry). e.name) at_j.is)
  where
    length_swap : length (swap (x ∷ xs) a b) ≡ length (x ∷ xs)
    length_swap = length-set (set (x ∷ xs) a (get_or (x ∷ xs) b x)) b (get_or (x ∷ xs) a x) ∙ length-set (x ∷ xs) a (get_or (x ∷ xs) b x)

    apart : {i j f g : ℕ} → ((i ≡ b) × (f ≡ a)) ⊎ (((i ≢ b) × (i ≡ a) × (f ≡ b)) ⊎ ((i ≢ b) × (i ≢ a) × (f ≡ i))) → ((j ≡ b) × (g ≡ a)) ⊎ (((j ≢ b) × (j ≡ a) × (g ≡ b)) ⊎ ((j ≢ b) × (j ≢ a) × (g ≡ j))) → i ≢ j → f ≢ g
    apart (inl p) (inl q) other is = other (p.0 ∙ sym q.0)
    apart (inl p) (inr (inl q)) other is = q.0 (q.1 ∙ sym p.1 ∙ is ∙ q.2)
    apart (inl p) (inr (inr q)) other is = q.1 (sym q.2 ∙ sym is ∙ p.1)
    apart (inr (inl p)) (inl q) other is = p.0 (p.1 ∙ sym q.1 ∙ sym is ∙ p.2)
    apart (inr (inl p)) (inr (inl q)) other is = other (p.1 ∙ sym q.1)
    apart (inr (inl p)) (inr (inr q)) other is = q.0 (sym q.2 ∙ sym is ∙ p.2)
    apart (inr (inr p)) (inl q) other is = p.1 (sym p.2 ∙ is ∙ q.1)
    apart (inr (inr p)) (inr (inl q)) other is = p.0 (sym p.2 ∙ is ∙ q.2)
    apart (inr (inr p)) (inr (inr q)) other is = other (sym p.2 ∙ is ∙ q.2)

-- the entries of a folder have distinct names, in any order
distinct : (files : Stored) (folder : List ℕ) (es : List Entry) → are_files files ≡ true → AreEntries files folder es → Distinct es
distinct files folder es sound are i j d li lj other same =
    let c_i = (are.exactly (get_or es i d)).0 (Contains-get_or es i d li) in
    let c_j = (are.exactly (get_or es j d)).0 (Contains-get_or es j d lj) in
    let is = one_kind files folder sound (get_or es i d) (get_or es j d) c_i c_j same in
    elim (order i j other) [
      | inl below ↦ are.once i j d below lj is
      | inr above ↦ are.once j i d above li (sym is)
    ]
  where
    order : (m n : ℕ) → m ≢ n → (m < n) ⊎ (n < m)
    order zero zero e = absurd (e refl)
    order zero (suc n) e = inl (omega arith)
    order (suc m) zero e = inr (omega arith)
    order (suc m) (suc n) e = elim (order m n (λ same. e (ap suc same))) [ inl l ↦ inl (omega (arith, l)) | inr l ↦ inr (omega (arith, l)) ]

distinct_sorted : (files : Stored) (folder : List ℕ) (es ws : List Entry) → are_files files ≡ true → AreEntries files folder es → IsPermutation es ws → Distinct ws
distinct_sorted files folder es ws sound are shuffled =
    IsPermutation-keeps es Distinct (distinct files folder es sound are) (λ l i j li lj h. swapped l i j li lj h) ws shuffled

-- by rising names
abbrev pub by_name : Entry → Entry → Bool
by_name x y = is_lt (path_cmp x.name y.name)

-- a first entry below all others
below_rest : (x : Entry) (ws : List Entry) → Distinct (x ∷ ws) → IsSortedBy by_name (x ∷ ws) → T (below_all path_cmp x.name (map pair ws))
below_rest x [] h sorted = tt
below_rest x (w ∷ ws) h sorted = both (is_lt (path_cmp x.name w.name)) (below_all path_cmp x.name (map pair ws)) first (onward x w ws first (below_rest w ws tail_distinct tail_sorted))
  where
    both : (a b : Bool) → T a → T b → T (a && b)
    both true b p q = q
    both false b p q = p

    tail_distinct : Distinct (w ∷ ws)
    tail_distinct i j d li lj other = h (suc i) (suc j) d (omega (arith, li)) (omega (arith, lj)) (λ same. other (omega (arith, same)))

    tail_sorted : IsSortedBy by_name (w ∷ ws)
    tail_sorted k d from to =
        let e : suc k + 1 ≡ suc (k + 1) = omega arith in
        subst (λ (n : ℕ). by_name (get_or (x ∷ w ∷ ws) n d) (get_or (w ∷ ws) k d) ≡ false) e (sorted (suc k) d (omega arith) (omega (arith, to)))

    first : T (is_lt (path_cmp x.name w.name))
    first = by_comparison x.name w.name (λ o. T (is_lt o)) (λ less. tt) (λ equal. absurd (h 0 1 x (omega arith) (omega arith) (λ e. cc) (same_path x.name w.name equal)))
        (λ greater.
        let back = turned x.name w.name Greater greater in
        let no = sorted 0 x (omega arith) (omega arith) in
        let yes : is_lt (path_cmp w.name x.name) ≡ true = ap is_lt back in
        cc)

    onward : (y z : Entry) (rest : List Entry) → T (is_lt (path_cmp y.name z.name)) → T (below_all path_cmp z.name (map pair rest)) → T (below_all path_cmp y.name (map pair rest))
    onward y z [] less all = tt
    onward y z (r ∷ rest) less all =
        both (is_lt (path_cmp y.name r.name)) (below_all path_cmp y.name (map pair rest))
        (subst (λ o. T (is_lt o)) (sym (nat_list_cmp_total.trans y.name z.name r.name (less_holds _ less) (less_holds _ (front_holds _ _ all)))) tt)
        (onward y z rest less (back_holds _ _ all))

-- sorted entries of distinct names rise
pub rise : (ws : List Entry) → Distinct ws → IsSortedBy by_name ws → T (is_sorted path_cmp (map pair ws))
rise [] h sorted = tt
rise (w ∷ ws) h sorted =
    both (below_all path_cmp w.name (map pair ws)) (is_sorted path_cmp (map pair ws)) (below_rest w ws h sorted)
    (rise ws (λ i j d li lj other. h (suc i) (suc j) d (omega (arith, li)) (omega (arith, lj)) (λ same. other (omega (arith, same)))) tail_sorted)
  where
    both : (a b : Bool) → T a → T b → T (a && b)
    both true b p q = q
    both false b p q = p

    tail_sorted : IsSortedBy by_name ws
    tail_sorted k d from to =
        let e : suc k + 1 ≡ suc (k + 1) = omega arith in
        subst (λ (n : ℕ). by_name (get_or (w ∷ ws) n d) (get_or ws k d) ≡ false) e (sorted (suc k) d (omega arith) (omega (arith, to)))

-- entries in order rise
in_order-sorted : (es : List Entry) → T (is_sorted path_cmp (in_order es))
unfolding in_order
in_order-sorted [] = tt
in_order-sorted (e ∷ es) = is_sorted-put path_cmp nat_list_cmp_total e.name e.kind (in_order es) (in_order-sorted es)

-- the kind under a name is that of an entry of the name
abbrev pub IsOf : List Entry → List ℕ → Option EntryKind → Type 0
IsOf es name None = (e : Entry) → Contains es e → e.name ≢ name
IsOf es name (Some kind) = Contains es (record { name = name; kind = kind })

later_none : (x : Entry) (es : List Entry) (name : List ℕ) → x.name ≢ name → ((e : Entry) → Contains es e → e.name ≢ name) → (e : Entry) → Contains (x ∷ es) e → e.name ≢ name
later_none x es name other h e (zero, _, same) is = other (ap (λ (y : Entry). y.name) same ∙ is)
later_none x es name other h e (suc k, below, same) is = h e (k, omega (arith, below), same) is

later : (x : Entry) (es : List Entry) (name : List ℕ) (o : Option EntryKind) → x.name ≢ name → IsOf es name o → IsOf (x ∷ es) name o
later x es name None other h = later_none x es name other h
later x es name (Some kind) other h = (suc h.0, omega (arith, h.1), h.2)

here : (x : Entry) (es : List Entry) (name : List ℕ) → name ≡ x.name → IsOf (x ∷ es) name (Some x.kind)
here x es name is = (zero, omega arith, λ i. record { name = sym is i; kind = x.kind })

-- whether two names are the same, as a table tests it
pub same_name : (p q : List ℕ) → eq_by_cmp path_cmp p q ≡ true → p ≡ q
same_name p q e = same_path p q (equal (path_cmp p q) e)
  where
    equal : (o : Ordering) → is_eq o ≡ true → o ≡ Equal
    equal Less h = cc
    equal Equal h = refl
    equal Greater h = cc

other_name : (p q : List ℕ) → eq_by_cmp path_cmp p q ≡ false → q ≢ p
other_name p q e same = let yes : eq_by_cmp path_cmp p q ≡ true = ap is_eq (compares_equal p q (sym same)) in cc

found_pairs : (es : List Entry) (name : List ℕ) → IsOf es name (find path_cmp name (map pair es))
found_pairs [] name = λ e c. absurd (omega (arith, c.1))
found_pairs (x ∷ es) name =
    elim (eq_by_cmp path_cmp name x.name) as (λ b. eq_by_cmp path_cmp name x.name ≡ b → IsOf (x ∷ es) name (cond b (Some x.kind) (find path_cmp name (map pair es)))) [
      | true ↦ λ e. here x es name (same_name name x.name e)
      | false ↦ λ e. later x es name (find path_cmp name (map pair es)) (other_name name x.name e) (found_pairs es name)
    ] refl

pub found_in_order : (es : List Entry) (name : List ℕ) → IsOf es name (find path_cmp name (in_order es))
unfolding in_order
found_in_order [] name = λ e c. absurd (omega (arith, c.1))
found_in_order (x ∷ es) name =
    subst (λ (o : Option EntryKind). IsOf (x ∷ es) name o) (sym (find-put path_cmp nat_list_cmp_total name x.name x.kind (in_order es)))
    (elim (eq_by_cmp path_cmp name x.name) as (λ b. eq_by_cmp path_cmp name x.name ≡ b → IsOf (x ∷ es) name (cond b (Some x.kind) (find path_cmp name (in_order es)))) [
      | true ↦ λ e. here x es name (same_name name x.name e)
      | false ↦ λ e. later x es name (find path_cmp name (in_order es)) (other_name name x.name e) (found_in_order es name)
    ] refl)

-- what is found among entries of one kind a name depends on the entries alone
same_found : (files : Stored) (folder : List ℕ) (ws : List Entry) → are_files files ≡ true → ((e : Entry) → Contains ws e ↔ Contains (entries_toward folder files) e) → (name : List ℕ) (o p : Option EntryKind) → IsOf ws name o → IsOf (entries_toward folder files) name p → o ≡ p
same_found files folder ws sound same name None None h k = refl
same_found files folder ws sound same name None (Some kind) h k = absurd (h (record { name = name; kind = kind }) ((same (record { name = name; kind = kind })).1 k) refl)
same_found files folder ws sound same name (Some kind) None h k = absurd (k (record { name = name; kind = kind }) ((same (record { name = name; kind = kind })).0 h) refl)
same_found files folder ws sound same name (Some kind) (Some other) h k =
    let is = one_kind files folder sound (record { name = name; kind = kind }) (record { name = name; kind = other }) ((same (record { name = name; kind = kind })).0 h) k refl in
    ap (λ (e : Entry). Some e.kind) is

-- entries of a folder that were sorted by name are those in order
pub sorted_entries : (files : Stored) (folder : List ℕ) (es ws : List Entry) → are_files files ≡ true → AreEntries files folder es → IsPermutation es ws → IsSortedBy by_name ws → map pair ws ≡ in_order (entries_toward folder files)
sorted_entries files folder es ws sound are shuffled sorted =
    same_entries path_cmp nat_list_cmp_total same_path (map pair ws) (in_order (entries_toward folder files))
    (rise ws (distinct_sorted files folder es ws sound are shuffled) sorted) (in_order-sorted (entries_toward folder files))
    (λ name. same_found files folder ws sound (λ e. (there e, back e)) name _ _ (found_pairs ws name) (found_in_order (entries_toward folder files) name))
  where
    there : (e : Entry) → Contains ws e → Contains (entries_toward folder files) e
    there e c = (are.exactly e).0 (Contains-permutation ws es e (IsPermutation-sym es ws shuffled) c)

    back : (e : Entry) → Contains (entries_toward folder files) e → Contains ws e
    back e c = Contains-permutation es ws e shuffled ((are.exactly e).1 c)
