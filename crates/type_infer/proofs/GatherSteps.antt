-- The constraints of pairs, one pair after another.
use Rattle.std.proofs.Common.{◌≡◌, ℕ, suc, ◌+◌, ◌<◌, ◌≤◌, Bool, true, false, List, [], ◌∷◌, ◌++◌, drop, length, get_or, Ok, Err, refl, sym, ◌∙◌, ap, subst, add-one, drop-cons, append_assoc}
use Rattle.std.proofs.lemmas.List.{append-nil, drop_all}
use Rattle.dart_types.specs.Ty.{Ty, Types, no_more, more, types_of}
use Rattle.dart_types.specs.Tables.{Table}
use Rattle.dart_types.specs.declared.ids.VarId.{VarId}
use Rattle.dart_types.specs.declared.refusal.TypeRefusal.{TypeRefusal}
use Rattle.dart_types.specs.declared.refusal.TypeRefusal.TheVariants.{TooLarge, Memory}
use Rattle.type_infer.specs.Pairs.{Pair, pair, paired}
use Rattle.type_infer.specs.Matching.{End, matched, mismatched, Match}
use Rattle.type_infer.specs.Finds.{Finds}
use Rattle.type_infer.specs.Inference.{IsWithin, Gathered, none_left, one_pair, large_later, large_here}
use Rattle.type_infer.specs.Gathers.{EndsGathering, GathersInto}
use Rattle.type_infer.specs.declared.constraints.Side.{Side}
use Rattle.type_infer.specs.declared.constraints.Constraint.{Constraint}

module _ (table : Table) (params : List VarId) where
  -- the constraints of one list of pairs, then of another
  both_gathered : {ps qs : List Pair} {cs ds : List Constraint} → Gathered table params ps (Ok cs) → Gathered table params qs (Ok ds) → Gathered table params (ps ++ qs) (Ok (cs ++ ds))
  both_gathered none_left h = h
  both_gathered {ps = p ∷ ps} {qs = qs} {ds = es} (one_pair {cs = cs} {ds = ds} m w g) h =
      subst (λ (all : List Constraint). Gathered table params (p ∷ (ps ++ qs)) (Ok all)) (sym (append_assoc cs ds es)) (one_pair m w (both_gathered g h))

  first_large : {ps : List Pair} {nodes : ℕ} (qs : List Pair) → Gathered table params ps (Err nodes) → Gathered table params (ps ++ qs) (Err nodes)
  first_large qs (large_later m w g) = large_later m w (first_large qs g)
  first_large qs (large_here m) = large_here m

  second_large : {ps qs : List Pair} {cs : List Constraint} {nodes : ℕ} → Gathered table params ps (Ok cs) → Gathered table params qs (Err nodes) → Gathered table params (ps ++ qs) (Err nodes)
  second_large none_left h = h
  second_large (one_pair m w g) h = large_later m w (second_large g h)

  module _ (ps qs : List Pair) where
    pub first_ends : (why : TypeRefusal) → EndsGathering table params ps why → EndsGathering table params (ps ++ qs) why
    first_ends (TooLarge nodes) h = first_large qs h
    first_ends Memory h = tt

    pub second_ends : (before after : List Constraint) → GathersInto table params ps before after (Ok tt) → (why : TypeRefusal) → EndsGathering table params qs why → EndsGathering table params (ps ++ qs) why
    second_ends before after (cs, g, e) (TooLarge nodes) h = second_large g h
    second_ends before after (cs, g, e) Memory h = tt

    pub both_into : (middle after : List Constraint) → GathersInto table params ps [] middle (Ok tt) → GathersInto table params qs middle after (Ok tt) → Gathered table params (ps ++ qs) (Ok after)
    both_into middle after (cs, g, e) (ds, h, f) =
        subst (λ (all : List Constraint). Gathered table params (ps ++ qs) (Ok all)) (sym (f ∙ ap (λ (m : List Constraint). m ++ ds) e)) (both_gathered g h)

  -- what a match has found
  found_some : (so : List Constraint → End → Type 0) (before after : List Constraint) (fits : Bool) → Finds so before after (Ok fits) → (cs : List Constraint) × (end : End) × (so cs end × IsWithin end × (after ≡ before ++ cs))
  found_some so before after true (cs, m, e) = (cs, matched, (m, tt, e))
  found_some so before after false (cs, m, e) = (cs, mismatched, (m, tt, e))

  module _ (side : Side) (formal other : Ty) where
    pub match_refused : (before after : List Constraint) (why : TypeRefusal) → Finds (Match table params side formal other) before after (Err why) → (ps : List Pair) → EndsGathering table params (pair side formal other ∷ ps) why
    match_refused before after (TooLarge nodes) (cs, m) ps = large_here m
    match_refused before after Memory h ps = tt

    pub one_match : (before after : List Constraint) (fits : Bool) → Finds (Match table params side formal other) before after (Ok fits) → GathersInto table params (pair side formal other ∷ []) before after (Ok tt)
    one_match before after fits h = at (found_some (Match table params side formal other) before after fits h)
      where
        at : ((cs : List Constraint) × (end : End) × (Match table params side formal other cs end × IsWithin end × (after ≡ before ++ cs))) → GathersInto table params (pair side formal other ∷ []) before after (Ok tt)
        at (cs, end, (m, w, e)) = (cs ++ [], one_pair m w none_left, e ∙ ap (λ (ds : List Constraint). before ++ ds) (sym (append-nil cs)))

  -- so far on the way through all pairs: those that are left, and what was found
  pub record IsOnWay (all left : List Pair) (before found : List Constraint) : Type 0 where
    pub found_all : (ds : List Constraint) → Gathered table params left (Ok ds) → GathersInto table params all before (found ++ ds) (Ok tt)
    pub ended : (why : TypeRefusal) → EndsGathering table params left why → EndsGathering table params all why

  pub way_begins : (all : List Pair) (before : List Constraint) → IsOnWay all all before before
  way_begins all before = record { found_all = λ ds g. (ds, g, refl); ended = λ why h. h }

  pub way_goes_on : {all left : List Pair} {before found : List Constraint} (now : List Constraint) (side : Side) (formal other : Ty) (fits : Bool) → Finds (Match table params side formal other) found now (Ok fits) → IsOnWay all (pair side formal other ∷ left) before found → IsOnWay all left before now
  way_goes_on {all} {left} {before} {found} now side formal other fits h way = at (found_some (Match table params side formal other) found now fits h)
    where
      ends : (end : End) (cs : List Constraint) → Match table params side formal other cs end → IsWithin end → (why : TypeRefusal) → EndsGathering table params left why → EndsGathering table params (pair side formal other ∷ left) why
      ends end cs m w (TooLarge nodes) g = large_later m w g
      ends end cs m w Memory g = tt

      at : ((cs : List Constraint) × (end : End) × (Match table params side formal other cs end × IsWithin end × (now ≡ found ++ cs))) → IsOnWay all left before now
      at (cs, end, (m, w, e)) = record {
        found_all = λ ds g.
            subst (λ (fs : List Constraint). GathersInto table params all before fs (Ok tt)) (sym (append_assoc found cs ds) ∙ ap (λ (fs : List Constraint). fs ++ ds) (sym e))
            (way.found_all (cs ++ ds) (one_pair m w g));
        ended = λ why g. way.ended why (ends end cs m w why g);
      }

  pub way_ends : {all left : List Pair} {before found : List Constraint} → left ≡ [] → IsOnWay all left before found → GathersInto table params all before found (Ok tt)
  way_ends {all} {left} {before} {found} e way =
      subst (λ (now : List Constraint). GathersInto table params all before now (Ok tt)) (append-nil found)
      (way.found_all [] (subst (λ (ps : List Pair). Gathered table params ps (Ok [])) (sym e) none_left))

-- the pairs of two lists from one place on
abbrev pub paired_from : Side → List Ty → List Ty → ℕ → List Pair
paired_from side fs ts i = paired side (types_of (drop i fs)) (types_of (drop i ts))

pub next_pair : (side : Side) (fs ts : List Ty) (i : ℕ) (d t : Ty) → i < length fs → i < length ts → t ≡ get_or ts i t → paired_from side fs ts i ≡ pair side (get_or fs i d) t ∷ paired_from side fs ts (i + 1)
next_pair side fs ts i d t lf lt is =
    let f = get_or fs i d in
    let ef : drop i fs ≡ f ∷ drop (i + 1) fs = drop-cons fs i d lf ∙ ap (λ (n : ℕ). f ∷ drop n fs) (sym (add-one i)) in
    let et : drop i ts ≡ t ∷ drop (i + 1) ts = drop-cons ts i t lt ∙ ap (λ (u : Ty). u ∷ drop (suc i) ts) (sym is) ∙ ap (λ (n : ℕ). t ∷ drop n ts) (sym (add-one i)) in
    ap (λ (us : List Ty). paired side (types_of us) (types_of (drop i ts))) ef
    ∙ ap (λ (us : List Ty). paired side (types_of (f ∷ drop (i + 1) fs)) (types_of us)) et

none_paired : (side : Side) (fs : Types) → paired side fs no_more ≡ []
none_paired side no_more = refl
none_paired side (more f fs) = refl

pub no_pair : (side : Side) (fs ts : List Ty) (i : ℕ) → length ts ≤ i → paired_from side fs ts i ≡ []
no_pair side fs ts i end =
    ap (λ (us : List Ty). paired side (types_of (drop i fs)) (types_of us)) (drop_all i ts end)
    ∙ none_paired side (types_of (drop i fs))
