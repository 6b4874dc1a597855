-- What calls that look for constraints answer, one after another.
use Rattle.std.proofs.Common.{◌≡◌, ℕ, zero, suc, ◌+◌, ◌<◌, ◌≤◌, ◌++◌, min, Bool, true, false, List, [], ◌∷◌, length, drop, get_or, Option, None, Result, Ok, Err, refl, sym, ◌∙◌, ap, subst, append_assoc, append-nil, drop-cons, add-one, arith}
use Rattle.std.proofs.lemmas.List.{drop_all}
use Rattle.std.specs.Prelude.{bytes_eq, find}
use Rattle.std.specs.Option.{option_map}
use Rattle.dart_types.specs.Ty.{Ty, Types, no_more, more, types_of}
use Rattle.dart_types.specs.Named.{named_of}
use Rattle.dart_types.specs.Tables.{Table}
use Rattle.dart_types.specs.declared.ids.VarId.{VarId}
use Rattle.dart_types.specs.declared.refusal.TypeRefusal.{TypeRefusal}
use Rattle.dart_types.specs.declared.refusal.TypeRefusal.TheVariants.{TooLarge, Memory}
use Rattle.dart_types.specs.declared.types.NamedType.{NamedType}
use Rattle.type_infer.specs.Pairs.{Pair, pair, paired, paired_with, paired_by_name}
use Rattle.type_infer.specs.Matching.{End, matched, mismatched, too_large, Match, MatchAll, all_matched, open_part, part_matched, part_ended}
use Rattle.type_infer.specs.Finds.{Finds}
use Rattle.type_infer.specs.Open.{is_open}
use Rattle.type_infer.specs.declared.constraints.Constraint.{Constraint}
use Rattle.type_infer.specs.declared.constraints.Side.{Side}
use Rattle.type_infer.proofs.SideFalls.{found_named}

-- what is found by one rule is found by another that goes by it
pub finds_by : (so so' : List Constraint → End → Type 0) (before after : List Constraint) (r : Result Bool TypeRefusal) → ((cs : List Constraint) (end : End) → so cs end → so' cs end) → Finds so before after r → Finds so' before after r
finds_by so so' before after (Ok true) f q = (q.0, f q.0 matched q.1, q.2)
finds_by so so' before after (Ok false) f q = (q.0, f q.0 mismatched q.1, q.2)
finds_by so so' before after (Err (TooLarge nodes)) f q = (q.0, f q.0 (too_large nodes) q.1)
finds_by so so' before after (Err Memory) f q = tt

-- nothing is found, and the types fit or don't
pub finds_nothing : (so : List Constraint → End → Type 0) (before : List Constraint) → so [] matched → Finds so before before (Ok true)
finds_nothing so before m = ([], m, sym (append-nil before))

pub finds_no_fit : (so : List Constraint → End → Type 0) (before : List Constraint) → so [] mismatched → Finds so before before (Ok false)
finds_no_fit so before m = ([], m, sym (append-nil before))

module _ (table : Table) (params : List VarId) where
  abbrev All : List Pair → List Constraint → End → Type 0
  All ps = MatchAll table params ps

  append_matched : {ps : List Pair} {cs : List Constraint} (qs : List Pair) (ds : List Constraint) (end last : End) → All ps cs last → last ≡ matched → All qs ds end → All (ps ++ qs) (cs ++ ds) end
  append_matched qs ds end last all_matched e n = n
  append_matched qs ds end last (open_part o m) e n = open_part o (append_matched qs ds end last m e n)
  append_matched qs ds end last (part_matched {cs = cs} {ds = ds'} o p m) e n = rw append_assoc (part_matched o p (append_matched qs ds end last m e n))
  append_matched qs ds end last (part_ended o k p) e n = absurd (k e)

  append_ended : {ps : List Pair} {cs : List Constraint} (qs : List Pair) (end : End) → All ps cs end → (end ≡ matched → ⊥) → All (ps ++ qs) cs end
  append_ended qs end all_matched k = absurd (k refl)
  append_ended qs end (open_part o m) k = open_part o (append_ended qs end m k)
  append_ended qs end (part_matched o p m) k = part_matched o p (append_ended qs end m k)
  append_ended qs end (part_ended o l p) k = part_ended o l p

  -- pairs that match, and then others
  pub finds_then : (ps qs : List Pair) (before mid after : List Constraint) (b : Bool) (r : Result Bool TypeRefusal) → Finds (All ps) before mid (Ok b) → b ≡ true → Finds (All qs) mid after r → Finds (All (ps ++ qs)) before after r
  finds_then ps qs before mid after false r p e q = cc
  finds_then ps qs before mid after true (Ok true) p e q = (p.0 ++ q.0, append_matched qs q.0 matched matched p.1 refl q.1, q.2 ∙ ap (λ (xs : List Constraint). xs ++ q.0) p.2 ∙ append_assoc before p.0 q.0)
  finds_then ps qs before mid after true (Ok false) p e q = (p.0 ++ q.0, append_matched qs q.0 mismatched matched p.1 refl q.1, q.2 ∙ ap (λ (xs : List Constraint). xs ++ q.0) p.2 ∙ append_assoc before p.0 q.0)
  finds_then ps qs before mid after true (Err (TooLarge nodes)) p e q = (p.0 ++ q.0, append_matched qs q.0 (too_large nodes) matched p.1 refl q.1)
  finds_then ps qs before mid after true (Err Memory) p e q = tt

  -- pairs that don't match end it, and so does a refusal
  pub finds_end : (ps qs : List Pair) (before after : List Constraint) (b : Bool) → Finds (All ps) before after (Ok b) → b ≡ false → Finds (All (ps ++ qs)) before after (Ok false)
  finds_end ps qs before after true p e = cc
  finds_end ps qs before after false p e = (p.0, append_ended qs mismatched p.1 (λ k. cc), p.2)

  pub finds_refusal : (ps qs : List Pair) (before mid after : List Constraint) (e : TypeRefusal) → Finds (All ps) before mid (Err e) → Finds (All (ps ++ qs)) before after (Err e)
  finds_refusal ps qs before mid after (TooLarge nodes) p = (p.0, append_ended qs (too_large nodes) p.1 (λ k. cc))
  finds_refusal ps qs before mid after Memory p = tt

  -- a part that is open, and one that isn't
  pub finds_open : (p : Pair) (before : List Constraint) → is_open p.other ≡ true → Finds (All (p ∷ [])) before before (Ok true)
  finds_open p before o = finds_nothing (All (p ∷ [])) before (open_part {p = p} o all_matched)

  pub finds_part : (p : Pair) (before after : List Constraint) (r : Result Bool TypeRefusal) → is_open p.other ≡ false → Finds (Match table params p.side p.formal p.other) before after r → Finds (All (p ∷ [])) before after r
  finds_part p before after (Ok true) o q = (q.0 ++ [], part_matched {p = p} o q.1 all_matched, q.2 ∙ ap (λ (xs : List Constraint). before ++ xs) (sym (append-nil q.0)))
  finds_part p before after (Ok false) o q = (q.0, part_ended {p = p} o (λ k. cc) q.1, q.2)
  finds_part p before after (Err (TooLarge nodes)) o q = (q.0, part_ended {p = p} o (λ k. cc) q.1)
  finds_part p before after (Err Memory) o q = tt

  -- what is found in the pairs that are left is found in all
  abbrev pub Passes : List Pair → List Pair → List Constraint → List Constraint → Type 0
  Passes all left before now = (after : List Constraint) (r : Result Bool TypeRefusal) → Finds (All left) now after r → Finds (All all) before after r

  -- lists of types
  paired_from : (side : Side) (xs ys : List Ty) (i : ℕ) (d e : Ty) → i < length xs → i < length ys → paired side (types_of (drop i xs)) (types_of (drop i ys)) ≡ pair side (get_or xs i d) (get_or ys i e) ∷ paired side (types_of (drop (i + 1) xs)) (types_of (drop (i + 1) ys))
  paired_from side xs ys i d e h k = rw (add-one, drop-cons xs i d h, drop-cons ys i e k) refl

  paired_end : (side : Side) (xs ys : List Ty) (i : ℕ) → min (length xs) (length ys) ≤ i → paired side (types_of (drop i xs)) (types_of (drop i ys)) ≡ []
  paired_end side [] ys i h = ap (λ (ts : List Ty). paired side (types_of ts) (types_of (drop i ys))) (drop_all i [] (omega arith))
  paired_end side (x ∷ xs) [] i h = ap (λ (ts : List Ty). paired side (types_of (drop i (x ∷ xs))) (types_of ts)) (drop_all i [] (omega arith)) ∙ none (types_of (drop i (x ∷ xs)))
    where
      none : (ts : Types) → paired side ts no_more ≡ []
      none no_more = refl
      none (more t ts) = refl
  paired_end side (x ∷ xs) (y ∷ ys) zero h = absurd (omega arith)
  paired_end side (x ∷ xs) (y ∷ ys) (suc i) h = paired_end side xs ys i (omega arith)

  module _ (side : Side) (xs ys : List Ty) (before now : List Constraint) (i : ℕ) where
    abbrev Whole : List Pair
    Whole = paired side (types_of xs) (types_of ys)

    abbrev Left : ℕ → List Pair
    Left k = paired side (types_of (drop k xs)) (types_of (drop k ys))

    pub all_passed : Passes Whole (Left i) before now → min (length xs) (length ys) ≤ i → Finds (All Whole) before now (Ok true)
    all_passed p h = p now (Ok true) (subst (λ (ps : List Pair). Finds (All ps) now now (Ok true)) (sym (paired_end side xs ys i h)) (finds_nothing (All []) now all_matched))

    module _ (t s : Ty) (h : i < length xs) (k : i < length ys) (is : t ≡ get_or xs i t) (other_is : s ≡ get_or ys i s) (p : Passes Whole (Left i) before now) where
      here : Left i ≡ pair side t s ∷ Left (i + 1)
      here = paired_from side xs ys i t s h k ∙ ap (λ (u : Ty). pair side u (get_or ys i s) ∷ Left (i + 1)) (sym is) ∙ ap (λ (u : Ty). pair side t u ∷ Left (i + 1)) (sym other_is)

      abbrev One : List Pair
      One = pair side t s ∷ []

      pub passed_one : (mid : List Constraint) (b : Bool) → Finds (All One) now mid (Ok b) → b ≡ true → Passes Whole (Left (i + 1)) before mid
      passed_one mid b f e after r q = p after r (subst (λ (ps : List Pair). Finds (All ps) now after r) (sym here) (finds_then One (Left (i + 1)) now mid after b r f e q))

      pub ended_one : (after : List Constraint) (b : Bool) → Finds (All One) now after (Ok b) → b ≡ false → Finds (All Whole) before after (Ok false)
      ended_one after b f e = p after (Ok false) (subst (λ (ps : List Pair). Finds (All ps) now after (Ok false)) (sym here) (finds_end One (Left (i + 1)) now after b f e))

      pub refused_one : (mid after : List Constraint) (e : TypeRefusal) → Finds (All One) now mid (Err e) → Finds (All Whole) before after (Err e)
      refused_one mid after e f = p after (Err e) (subst (λ (ps : List Pair). Finds (All ps) now after (Err e)) (sym here) (finds_refusal One (Left (i + 1)) now mid after e f))

  -- named parameters
  module _ (side : Side) (ns ms : List NamedType) (before now : List Constraint) (i : ℕ) where
    abbrev Names : List Pair
    Names = paired_by_name side (named_of ns) (named_of ms)

    abbrev NamesLeft : ℕ → List Pair
    NamesLeft k = paired_by_name side (named_of (drop k ns)) (named_of ms)

    pub all_names_passed : Passes Names (NamesLeft i) before now → length ns ≤ i → Finds (All Names) before now (Ok true)
    all_names_passed p h =
        p now (Ok true) (subst (λ (ks : List NamedType). Finds (All (paired_by_name side (named_of ks) (named_of ms))) now now (Ok true)) (sym (drop_all i ns h)) (finds_nothing (All []) now all_matched))

    module _ (n : NamedType) (h : i < length ns) (is : n ≡ get_or ns i n) (p : Passes Names (NamesLeft i) before now) (o : Option NamedType) (found : find (λ (m : NamedType). bytes_eq m.name n.name) ms ≡ o) where
      abbrev Here : List Pair
      Here = paired_with side n.ty (option_map (λ (m : NamedType). m.ty) o)

      here_named : NamesLeft i ≡ Here ++ NamesLeft (i + 1)
      here_named =
          let e : drop i ns ≡ n ∷ drop (i + 1) ns = rw add-one (drop-cons ns i n h) ∙ ap (λ (m : NamedType). m ∷ drop (i + 1) ns) (sym is) in
          ap (λ (ks : List NamedType). paired_by_name side (named_of ks) (named_of ms)) e
          ∙ ap (λ (t : Option Ty). paired_with side n.ty t ++ NamesLeft (i + 1)) (found_named table ms n.name o found)

      pub passed_name : (mid : List Constraint) (b : Bool) → Finds (All Here) now mid (Ok b) → b ≡ true → Passes Names (NamesLeft (i + 1)) before mid
      passed_name mid b f e after r q = p after r (subst (λ (ps : List Pair). Finds (All ps) now after r) (sym here_named) (finds_then Here (NamesLeft (i + 1)) now mid after b r f e q))

      pub ended_name : (after : List Constraint) (b : Bool) → Finds (All Here) now after (Ok b) → b ≡ false → Finds (All Names) before after (Ok false)
      ended_name after b f e = p after (Ok false) (subst (λ (ps : List Pair). Finds (All ps) now after (Ok false)) (sym here_named) (finds_end Here (NamesLeft (i + 1)) now after b f e))

      pub refused_name : (mid after : List Constraint) (e : TypeRefusal) → Finds (All Here) now mid (Err e) → Finds (All Names) before after (Err e)
      refused_name mid after e f = p after (Err e) (subst (λ (ps : List Pair). Finds (All ps) now after (Err e)) (sym here_named) (finds_refusal Here (NamesLeft (i + 1)) now mid after e f))

    pub other_name : (n : NamedType) → i < length ns → n ≡ get_or ns i n → Passes Names (NamesLeft i) before now → find (λ (m : NamedType). bytes_eq m.name n.name) ms ≡ None → Passes Names (NamesLeft (i + 1)) before now
    other_name n h is p e = passed_name n h is p None e now true (finds_nothing (All []) now all_matched) refl
