-- What is said of a node is found where its entry leads.
use Rattle.std.proofs.Common.{◌≡◌, ◌≢◌, ℕ, zero, suc, ◌+◌, ◌-◌, ◌<◌, ◌≤◌, ◌⊎◌, inl, inr, Bool, true, false, cond, nat_eq, List, [], ◌∷◌, length, get_or, drop, set, map, All, Some, None, slice_get, refl, sym, ap, ◌∙◌, subst, arith, drop-cons}
use Rattle.std.specs.List.{find, range_with_len}
use Rattle.std.proofs.lemmas.Bool.Decides.{nat_tests}
use Rattle.std.proofs.lemmas.List.{drop_all, get_or-set_same, get_or-set_other}
use Rattle.std.proofs.lemmas.List.FromFn.{length-map-range_with_len, get_or-map-range_with_len}
use Rattle.std.proofs.lemmas.Option.{slice_get_past, slice_get_read}
use Rattle.std.proofs.Math.ListN.{length-set}
use Rattle.flow_model.specs.Flow.{FlowModel}
use Rattle.judgement.specs.NodeFacts.{NodeFacts}
use Rattle.elaborate.specs.Sources.{is_of_node, nowhere}
use Rattle.elaborate.specs.Lookups.{HasNumbers, Indexes, IsIndexed}

-- a word past the last is empty
pub no_word : (words : List (List ℕ)) (word : ℕ) → None ≡ slice_get words word → [] ≡ get_or words word []
no_word [] word is = refl
no_word (first ∷ rest) zero is = absurd (cc)
no_word (first ∷ rest) (suc word) is = no_word rest word is

-- at first all entries lead past what is said, and nothing has been seen
pub indexes_none : (first count : ℕ) (typed : List NodeFacts) (entries : List ℕ) → entries ≡ map (λ (k : ℕ). length typed) (range_with_len 0 count)
    → Indexes first count typed (drop (length typed) typed) entries
indexes_none first count typed entries is = record {
  as_many = ap length is ∙ length-map-range_with_len (λ (k : ℕ). length typed) 0 count;
  found = λ k within.
      ap (slice_get typed) (ap (λ (es : List ℕ). get_or es k 0) is ∙ get_or-map-range_with_len (λ (k : ℕ). length typed) 0 count k k 0 within (omega arith))
      ∙ slice_get_past typed (length typed) (omega arith)
      ∙ sym (ap (find (is_of_node (first + k))) (drop_all (length typed) typed (omega arith)));
}

-- a look-up among what is said with one more before it
one_more : (said : NodeFacts) (rest : List NodeFacts) (n : ℕ) (b : Bool) → is_of_node n said ≡ b → find (is_of_node n) (said ∷ rest) ≡ cond b (Some said) (find (is_of_node n) rest)
one_more said rest n b is = ap (λ (c : Bool). cond c (Some said) (find (is_of_node n) rest)) is

-- the entry of its node leads to it, those of others as before
found_more : (all rest : List NodeFacts) (said : NodeFacts) (entries : List ℕ) (j first k : ℕ) (b : Bool) → nat_eq said.node.0 (first + k) ≡ b
    → slice_get all j ≡ Some said → first ≤ said.node.0 → k < length entries → slice_get all (get_or entries k 0) ≡ find (is_of_node (first + k)) rest
    → slice_get all (get_or (set entries (said.node.0 - first) j) k 0) ≡ find (is_of_node (first + k)) (said ∷ rest)
found_more all rest said entries j first k true is at from within before =
    let same : said.node.0 - first ≡ k = grind (arith, nat_tests) in
    ap (λ (i : ℕ). slice_get all (get_or (set entries i j) k 0)) same
    ∙ ap (slice_get all) (get_or-set_same entries k j 0 within)
    ∙ at
    ∙ sym (one_more said rest (first + k) true is)
found_more all rest said entries j first k false is at from within before =
    let other : k ≢ said.node.0 - first = λ e. grind (arith, nat_tests) in
    ap (slice_get all) (get_or-set_other entries (said.node.0 - first) k j 0 other) ∙ before ∙ sym (one_more said rest (first + k) false is)

-- and then one more is seen
pub indexes_more : (first count j : ℕ) (typed : List NodeFacts) (said : NodeFacts) (entries : List ℕ) → j < length typed → said ≡ get_or typed j said → first ≤ said.node.0
    → Indexes first count typed (drop (suc j) typed) entries → Indexes first count typed (drop j typed) (set entries (said.node.0 - first) j)
indexes_more first count j typed said entries within is from before =
    let here : drop j typed ≡ said ∷ drop (suc j) typed = drop-cons typed j said within ∙ ap (λ (s : NodeFacts). s ∷ drop (suc j) typed) (sym is) in
    record {
      as_many = length-set entries (said.node.0 - first) j ∙ before.as_many;
      found = λ k below.
          found_more typed (drop (suc j) typed) said entries j first k _ refl (slice_get_read typed (length typed) j said refl within is) from (omega (arith, before.as_many)) (before.found k below)
          ∙ sym (ap (find (is_of_node (first + k))) here);
    }

-- of a node of another number nothing is said
none_said : (n : ℕ) (typed : List NodeFacts) → All (λ (said : NodeFacts). is_of_node n said ≡ false) typed → find (is_of_node n) typed ≡ None
none_said n [] others = refl
none_said n (said ∷ rest) others = one_more said rest n false (others 0 said (omega arith)) ∙ none_said n rest (λ k d within. others (suc k) d (omega arith))

is_other : (first count n number : ℕ) → (n < first) ⊎ (first + count ≤ n) → (first ≤ number) × (number < first + count) → nat_eq number n ≡ false
is_other first count n number (inl below) numbered = grind (arith, nat_tests)
is_other first count n number (inr beyond) numbered = grind (arith, nat_tests)

outside : (first count n : ℕ) (typed : List NodeFacts) → (n < first) ⊎ (first + count ≤ n) → HasNumbers first count typed → All (λ (said : NodeFacts). is_of_node n said ≡ false) typed
outside first count n typed out numbers = λ k d within. is_other first count n (get_or typed k d).node.0 out (numbers k d within)

-- entries that lead to the first that is said find what is said of each node
pub is_indexed : (first count : ℕ) (typed : List NodeFacts) (entries : List ℕ) (unreached : FlowModel) → HasNumbers first count typed → Indexes first count typed typed entries → unreached ≡ nowhere
    → IsIndexed first typed entries unreached
is_indexed first count typed entries unreached numbers indexes is = record {
  below = λ n less. none_said n typed (outside first count n typed (inl less) numbers);
  beyond = λ n past. none_said n typed (outside first count n typed (inr (omega (arith, indexes.as_many, past))) numbers);
  within = λ k below. indexes.found k (omega (arith, indexes.as_many, below));
  unreached_is = is;
}

-- a turn of the loop that goes from the last that is said to the first
pub indexes_step : (first count i : ℕ) (typed : List NodeFacts) (said : NodeFacts) (number : ℕ) (entries : List ℕ) → 0 < i → i ≤ length typed → said ≡ get_or typed (i - 1) said → number ≡ said.node.0
    → HasNumbers first count typed → Indexes first count typed (drop i typed) entries → Indexes first count typed (drop (i - 1) typed) (set entries (number - first) (i - 1))
indexes_step first count zero typed said number entries some within is numbered numbers before = absurd (omega arith)
indexes_step first count (suc j) typed said number entries some within is numbered numbers before =
    let back : suc j - 1 ≡ j = omega arith in
    let here : said ≡ get_or typed j said = is ∙ ap (λ (k : ℕ). get_or typed k said) back in
    let from : first ≤ said.node.0 = subst (λ (s : NodeFacts). first ≤ s.node.0) (sym here) (numbers j said (omega arith)).0 in
    subst (λ (k : ℕ). Indexes first count typed (drop k typed) (set entries (number - first) k)) (sym back)
    (subst (λ (n : ℕ). Indexes first count typed (drop j typed) (set entries (n - first) j)) (sym numbered)
    (indexes_more first count j typed said entries (omega arith) here from before))
