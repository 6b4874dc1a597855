-- How many files there are.
use Rattle.std.proofs.Common.{◌≡◌, ℕ, suc, ◌+◌, ◌*◌, ◌≤◌, Bool, true, false, not, ◌&&◌, ◌||◌, cond, T, List, [], ◌∷◌, length, map, refl, sym, ap, ◌∙◌, arith}
use Rattle.std.specs.Prelude.{bytes_eq, count_by, is_some}
use Rattle.std.specs.List.{filter}
use Rattle.std.specs.Ordering.{nat_cmp, is_eq, is_lt}
use Rattle.std.specs.Cmp.Lexicographic.{slice_cmp}
use Rattle.std.specs.FinMap.Entries.{below_all}
use Rattle.std.specs.declared.cmp.Ordering.{Ordering}
use Rattle.std.specs.declared.cmp.Ordering.TheVariants.{Less, Equal, Greater}
use Rattle.std.proofs.lemmas.List.{length-append, length-map}
use Rattle.std.proofs.lemmas.List.Elements.{filter-append}
use Rattle.std.proofs.lemmas.List.Filters.{length-filter_both}
use Rattle.std.proofs.lemmas.List.Sums.{count_by-le-length, length-filter}
use Rattle.std.proofs.lemmas.Map.Text.{is_eq-slice_cmp}
use Rattle.std.proofs.lemmas.Slice.Eq.{bytes_eq-Decides}
use Rattle.load_files.specs.Counts.{path_count}
use Rattle.load_files.specs.Kept.{is_kept}
use Rattle.load_files.specs.Tables.{IsInOrder, Table, path_cmp}
use Rattle.load_files.specs.declared.contents.FileContents.{FileContents}
use Rattle.load_files.specs.declared.kept.KeptFile.{KeptFile}
use Rattle.load_files.specs.declared.loading.TheConstants.{MAX_PATHS}
use Rattle.overlays.specs.Tables.{PathsAndTexts}
use Rattle.check_files.specs.Lent.{table_view, file_view}
use Rattle.check_files.specs.declared.lent.LentFile.{LentFile}
use Rattle.protocol_rules.specs.Files.{analyzed_count, files_of, given_file, is_analyzed, is_new, overlaid}
use Rattle.protocol_rules.specs.Limits.{kept_in, AreWithin}
use Rattle.protocol_rules.specs.State.{State}

abbrev File : Type 0
File = List ℕ × FileContents

-- what is less isn't equal
less_apart : (o : Ordering) → T (is_lt o) → is_eq o ≡ false
less_apart Less h = refl
less_apart Equal h = absurd h
less_apart Greater h = absurd h

-- both of two tests that pass together
both_of : (a b : Bool) → T (a && b) → T a × T b
both_of true true h = (tt, tt)
both_of true false h = absurd h
both_of false b h = absurd h

-- a path before all others is none of them
none_behind : (path : List ℕ) (more : Table) → T (below_all path_cmp path more) → length (filter (λ (f : File). bytes_eq path f.0) more) ≡ 0
none_behind path [] h = refl
none_behind path (f ∷ more) h =
    let parts = both_of _ _ h in
    rw (sym (is_eq-slice_cmp path f.0) ∙ less_apart (slice_cmp nat_cmp path f.0) parts.0) (none_behind path more parts.1)

-- at most one file of a table in order has a path
one_at_most : (path : List ℕ) (table : Table) → IsInOrder table → length (filter (λ (f : File). bytes_eq path f.0) table) ≤ 1
one_at_most path [] order = omega arith
one_at_most path (f ∷ more) order =
    let parts = both_of _ _ order in
    elim (bytes_eq path f.0) as (λ b. bytes_eq path f.0 ≡ b → length (cond b (f ∷ filter (λ (f : File). bytes_eq path f.0) more) (filter (λ (f : File). bytes_eq path f.0) more)) ≤ 1) [
      | true ↦ λ is. let none : length (filter (λ (f : File). bytes_eq path f.0) more) ≡ 0 = rw ((bytes_eq-Decides path f.0).0 is) (none_behind f.0 more parts.0) in omega (arith, none)
      | false ↦ λ is. one_at_most path more parts.1
    ] refl

-- one element more, whichever of two tests it passes
one_more : (a b : Bool) (f : File) (xs ys zs : Table) → length xs ≤ length ys + length zs → length (cond (a || b) (f ∷ xs) xs) ≤ length (cond a (f ∷ ys) ys) + length (cond b (f ∷ zs) zs)
one_more true true f xs ys zs h = omega (arith, h)
one_more true false f xs ys zs h = omega (arith, h)
one_more false true f xs ys zs h = omega (arith, h)
one_more false false f xs ys zs h = h

-- what passes one of two tests is no more than what passes each
either_at_most : (p q : File → Bool) (table : Table) → length (filter (λ f. p f || q f) table) ≤ length (filter p table) + length (filter q table)
either_at_most p q [] = omega arith
either_at_most p q (f ∷ more) = one_more (p f) (q f) f (filter (λ f. p f || q f) more) (filter p more) (filter q more) (either_at_most p q more)

-- nothing passes where nothing is kept
none_kept : (table : Table) → length (filter (λ (f : File). is_kept f.0 []) table) ≡ 0
none_kept [] = refl
none_kept (f ∷ more) = none_kept more

-- no more files are kept than there are paths to keep
kept_at_most : (kept : List KeptFile) (table : Table) → IsInOrder table → length (filter (λ (f : File). is_kept f.0 kept) table) ≤ length kept
kept_at_most [] table order = let none = none_kept table in omega (arith, none)
kept_at_most (k ∷ more) table order =
    let each = either_at_most (λ f. bytes_eq k.path f.0) (λ f. is_kept f.0 more) table in
    let one = one_at_most k.path table order in
    let rest = kept_at_most more table order in
    omega (arith, each, one, rest)

-- the files of a table are no more than the paths that count, and those that are kept
table_at_most : (kept : List KeptFile) (table : Table) → IsInOrder table → length table ≤ path_count kept table
table_at_most kept table order =
    let both = length-filter_both (λ (f : File). is_kept f.0 kept) (λ (f : File). not (is_kept f.0 kept)) (λ f. refl) table in
    let others = length-filter (λ (f : File). not (is_kept f.0 kept)) table in
    let few = kept_at_most kept table order in
    omega (arith, both, others, few)

-- the limits hold of all files
pub all_are_few : (s : State) → AreWithin s.snapshot s.overlays → IsInOrder s.snapshot → length (files_of s) ≤ 2 * MAX_PATHS
all_are_few s within order =
    let stored = length-map s.snapshot (overlaid s.overlays) in
    let new = length-map (filter (is_new s.snapshot) s.overlays) given_file ∙ length-filter (is_new s.snapshot) s.overlays in
    let given = count_by-le-length (is_new s.snapshot) s.overlays in
    let kept = length-map {B = KeptFile} s.overlays (λ e. record { path = e.0; bytes = length e.1 }) in
    let whole = length-append (map (overlaid s.overlays) s.snapshot) (map given_file (filter (is_new s.snapshot) s.overlays)) in
    let table = table_at_most (kept_in s.overlays) s.snapshot order in
    let limit = within.paths in
    let counted = count_by-le-length (λ (f : File). not (is_kept f.0 (kept_in s.overlays))) s.snapshot in
    omega (arith, stored, new, given, kept, whole, table, limit, counted)

-- and of the files that are lent
pub files_are_few : (files : List LentFile) (s : State) → AreWithin s.snapshot s.overlays → IsInOrder s.snapshot → table_view files ≡ files_of s → length files ≤ 2 * MAX_PATHS
files_are_few files s within order same =
    let lent = sym (length-map files file_view) ∙ ap length same in
    let few = all_are_few s within order in
    omega (arith, lent, few)

-- texts that are given of files don't move the files that pass a test of their paths
stored_passing : (test : List ℕ → Bool) (overlays : PathsAndTexts) (table : Table) → length (filter (λ (f : File). test f.0) (map (overlaid overlays) table)) ≡ length (filter (λ (f : File). test f.0) table)
stored_passing test overlays [] = refl
stored_passing test overlays (f ∷ more) =
    elim (test f.0) as (λ b. length (cond b (overlaid overlays f ∷ filter (λ (g : File). test g.0) (map (overlaid overlays) more)) (filter (λ (g : File). test g.0) (map (overlaid overlays) more))) ≡ length (cond b (f ∷ filter (λ (g : File). test g.0) more) (filter (λ (g : File). test g.0) more))) [
      | true ↦ ap suc (stored_passing test overlays more)
      | false ↦ stored_passing test overlays more
    ]

-- the new files that pass a test of their paths are the overlays that are new and pass it
new_passing : (test : List ℕ → Bool) (new : List ℕ × List ℕ → Bool) (overlays : PathsAndTexts) → length (filter (λ (f : File). test f.0) (map given_file (filter new overlays))) ≡ length (filter (λ (o : List ℕ × List ℕ). new o && test o.0) overlays)
new_passing test new [] = refl
new_passing test new (o ∷ more) =
    elim (new o) as (λ b. length (filter (λ (f : File). test f.0) (map given_file (cond b (o ∷ filter new more) (filter new more)))) ≡ length (cond (b && test o.0) (o ∷ filter (λ (p : List ℕ × List ℕ). new p && test p.0) more) (filter (λ (p : List ℕ × List ℕ). new p && test p.0) more))) [
      | true ↦ elim (test o.0) as (λ b. length (cond b (given_file o ∷ filter (λ (f : File). test f.0) (map given_file (filter new more))) (filter (λ (f : File). test f.0) (map given_file (filter new more)))) ≡ length (cond b (o ∷ filter (λ (p : List ℕ × List ℕ). new p && test p.0) more) (filter (λ (p : List ℕ × List ℕ). new p && test p.0) more))) [
        | true ↦ ap suc (new_passing test new more)
        | false ↦ new_passing test new more
      ]
      | false ↦ new_passing test new more
    ]

-- the analyzed files are those of the store, and the others that the client has given
pub analyzed_are_counted : (s : State) → analyzed_count s ≡ count_by (λ (f : File). is_analyzed s f.0) s.snapshot + count_by (λ (o : List ℕ × List ℕ). is_new s.snapshot o && is_analyzed s o.0) s.overlays
analyzed_are_counted s =
    let stored = map (overlaid s.overlays) s.snapshot in
    let new = map given_file (filter (is_new s.snapshot) s.overlays) in
    let all = length-filter (λ (f : File). is_analyzed s f.0) (files_of s) in
    let parts = ap length (filter-append (λ (f : File). is_analyzed s f.0) stored new) ∙ length-append (filter (λ (f : File). is_analyzed s f.0) stored) (filter (λ (f : File). is_analyzed s f.0) new) in
    let of_store = stored_passing (is_analyzed s) s.overlays s.snapshot ∙ length-filter (λ (f : File). is_analyzed s f.0) s.snapshot in
    let of_client = new_passing (is_analyzed s) (is_new s.snapshot) s.overlays ∙ length-filter (λ (o : List ℕ × List ℕ). is_new s.snapshot o && is_analyzed s o.0) s.overlays in
    omega (arith, all, parts, of_store, of_client)

-- and they are few
pub analyzed_are_few : (s : State) → AreWithin s.snapshot s.overlays → IsInOrder s.snapshot → analyzed_count s ≤ 2 * MAX_PATHS
analyzed_are_few s within order =
    let counted = count_by-le-length (λ (f : File). is_analyzed s f.0) (files_of s) in
    let few = all_are_few s within order in
    omega (arith, counted, few)
