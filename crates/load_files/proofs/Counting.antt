-- What one more file does to the counts.
use Rattle.std.proofs.Common.{◌≡◌, inl, inr, ℕ, ◌+◌, ◌<◌, ◌≤◌, true, false, not, cond, List, [], length, Result, Ok, Err, refl, sym, ap, ◌∙◌, subst, arith}
use Rattle.std.specs.Prelude.{◌&&◌, nat_le, nat_lt, sum_by, count_by, ⊤, if◌then◌else◌}
use Rattle.std.specs.List.{insert}
use Rattle.std.specs.Str.{is_utf8}
use Rattle.std.proofs.lemmas.Bool.{lt-ltb, le-ltb, leb-true}
use Rattle.std.proofs.lemmas.List.Sums.{sum_by-insert}
use Rattle.dart_text.specs.Edits.{max_text, short_text, text_in_bytes}
use Rattle.dart_text.specs.Results.{IsUnlessMemory}
use Rattle.dart_text.specs.declared.text.TextRefusal.{TextRefusal}
use Rattle.dart_text.specs.declared.text.TextRefusal.TheVariants as text_refusal
use Rattle.load_files.specs.Contents.{contents_of, size_of}
use Rattle.load_files.specs.Counts.{path_count, byte_count, IsCounted}
use Rattle.load_files.specs.Kept.{is_kept, bytes_of, are_distinct, are_kept}
use Rattle.load_files.specs.Loads.{limited, with_file}
use Rattle.load_files.specs.Places.{WouldStandAt, StandsAt}
use Rattle.load_files.specs.Tables.{Table, with_contents}
use Rattle.load_files.specs.declared.contents.FileContents.{FileContents}
use Rattle.load_files.specs.declared.contents.FileContents.TheVariants.{Text, NotUtf8, TooLong}
use Rattle.load_files.specs.declared.kept.KeptFile.{KeptFile}
use Rattle.load_files.specs.declared.loading.TheConstants.{MAX_PATHS, MAX_BYTES}
use Rattle.load_files.specs.declared.refusal.LoadRefusal.TheVariants.{TooManyFiles, TooMuch}
use Rattle.load_files.proofs.Names.{left_true, right_true}
use Rattle.load_files.proofs.Places.{some_there, contents_absent, with_absent}

-- what bytes are has their count
pub size : (bytes : List ℕ) → size_of (contents_of bytes) ≡ length bytes
unfolding contents_of
size bytes =
    elim (is_utf8 bytes) as (λ b. size_of (if b then (if nat_le (length bytes) max_text then Text bytes else TooLong (length bytes)) else NotUtf8 (length bytes)) ≡ length bytes) [
      | true ↦ elim (nat_le (length bytes) max_text) as (λ b. size_of (if b then Text bytes else TooLong (length bytes)) ≡ length bytes) [ true ↦ refl | false ↦ refl ]
      | false ↦ refl
    ]

module _ (kept : List KeptFile) (path : List ℕ) (bytes : List ℕ) (files : Table) (place : ℕ) (gap : WouldStandAt files path place) where
  -- the files with the new one
  abbrev new : Table
  new = with_contents path (contents_of bytes) files

  is_insert : new ≡ insert files place (path, contents_of bytes)
  is_insert = with_absent path (contents_of bytes) files place gap

  -- the counts with it
  pub paths_with : path_count kept new ≡ path_count kept files + cond (not (is_kept path kept)) 1 0
  paths_with =
      let counted = ap (count_by (λ (f : List ℕ × FileContents). not (is_kept f.0 kept))) is_insert
      ∙ sum_by-insert (λ (f : List ℕ × FileContents). cond (not (is_kept f.0 kept)) 1 0) files place (path, contents_of bytes) in
      omega (arith, counted)

  pub bytes_with : byte_count kept new ≡ byte_count kept files + length bytes
  bytes_with =
      let counted = ap (sum_by (λ (f : List ℕ × FileContents). size_of f.1)) is_insert
      ∙ sum_by-insert (λ (f : List ℕ × FileContents). size_of f.1) files place (path, contents_of bytes) in
      let same = size bytes in
      omega (arith, counted, same)

  -- a new file counts in the limits
  counts : with_file kept path bytes files ≡ limited kept new
  unfolding with_file
  counts = rw (contents_absent path files place gap) refl

  pub too_many : (paths : ℕ) → paths ≡ path_count kept files + cond (not (is_kept path kept)) 1 0 → MAX_PATHS < paths → with_file kept path bytes files ≡ Err (TooManyFiles paths)
  too_many paths is past =
      let count : path_count kept new ≡ paths = paths_with ∙ sym is in
      counts ∙ subst (λ (n : ℕ). (if nat_lt MAX_PATHS n then Err (TooManyFiles n) else (if nat_lt MAX_BYTES (byte_count kept new) then Err (TooMuch (byte_count kept new)) else Ok new)) ≡ Err (TooManyFiles paths)) (sym count)
      (rw (lt-ltb MAX_PATHS paths past) refl)

  few : (paths : ℕ) → paths ≡ path_count kept files + cond (not (is_kept path kept)) 1 0 → paths ≤ MAX_PATHS → nat_lt MAX_PATHS (path_count kept new) ≡ false
  few paths is within = ap (nat_lt MAX_PATHS) (paths_with ∙ sym is) ∙ le-ltb MAX_PATHS paths within

  pub too_much : (paths sum : ℕ) → paths ≡ path_count kept files + cond (not (is_kept path kept)) 1 0 → paths ≤ MAX_PATHS → sum ≡ byte_count kept files + length bytes → MAX_BYTES < sum → with_file kept path bytes files ≡ Err (TooMuch sum)
  too_much paths sum is within sum_is past =
      let count : byte_count kept new ≡ sum = bytes_with ∙ sym sum_is in
      counts ∙ rw (few paths is within) (subst (λ (n : ℕ). (if nat_lt MAX_BYTES n then Err (TooMuch n) else Ok new) ≡ Err (TooMuch sum)) (sym count) (rw (lt-ltb MAX_BYTES sum past) refl))

  pub fits : (paths sum : ℕ) → paths ≡ path_count kept files + cond (not (is_kept path kept)) 1 0 → paths ≤ MAX_PATHS → sum ≡ byte_count kept files + length bytes → sum ≤ MAX_BYTES → with_file kept path bytes files ≡ Ok new
  fits paths sum is within sum_is sum_within =
      let small : nat_lt MAX_BYTES (byte_count kept new) ≡ false = ap (nat_lt MAX_BYTES) (bytes_with ∙ sym sum_is) ∙ le-ltb MAX_BYTES sum sum_within in
      counts ∙ rw (few paths is within, small) refl

-- a file that was read before changes nothing
pub read_before : (kept : List KeptFile) (path bytes : List ℕ) (files : Table) (place : ℕ) → StandsAt files path place → with_file kept path bytes files ≡ Ok files
unfolding with_file
read_before kept path bytes files place stands = rw (some_there path files place stands) refl

-- the sum of equal parts
pub same_sum : (a b c d : ℕ) → a ≡ b → c ≡ d → a + c ≡ b + d
same_sum a b c d e f = λ i. e i + f i

-- what bytes are, by the text that they give
abbrev pub Tells : List ℕ → FileContents → Result (List ℕ) TextRefusal → Type 0
Tells bytes contents (Ok text) = Text text ≡ contents
Tells bytes contents (Err text_refusal.NotUtf8) = NotUtf8 (length bytes) ≡ contents
Tells bytes contents (Err (text_refusal.TooLong count)) = TooLong (length bytes) ≡ contents
Tells bytes contents (Err text_refusal.Memory) = ⊤

tells : (bytes : List ℕ) → Tells bytes (contents_of bytes) (text_in_bytes bytes)
unfolding contents_of text_in_bytes short_text
tells bytes =
    elim (is_utf8 bytes) as (λ b. Tells bytes (if b then (if nat_le (length bytes) max_text then Text bytes else TooLong (length bytes)) else NotUtf8 (length bytes)) (if b then (if nat_le (length bytes) max_text then Ok bytes else Err (text_refusal.TooLong (length bytes))) else Err text_refusal.NotUtf8)) [
      | true ↦ elim (nat_le (length bytes) max_text) as (λ b. Tells bytes (if b then Text bytes else TooLong (length bytes)) (if b then Ok bytes else Err (text_refusal.TooLong (length bytes)))) [ true ↦ refl | false ↦ refl ]
      | false ↦ refl
    ]

pub told_by : (bytes : List ℕ) (result : Result (List ℕ) TextRefusal) → IsUnlessMemory result (text_in_bytes bytes) → Tells bytes (contents_of bytes) result
told_by bytes result (inl memory) = subst (λ (r : Result (List ℕ) TextRefusal). Tells bytes (contents_of bytes) r) (sym memory) tt
told_by bytes result (inr same) = subst (λ (r : Result (List ℕ) TextRefusal). Tells bytes (contents_of bytes) r) (sym same) (tells bytes)

-- overlays are within the limits by themselves
pub kept_small : (kept : List KeptFile) → are_kept kept ≡ true → bytes_of kept ≤ MAX_BYTES
kept_small kept h = leb-true (bytes_of kept) MAX_BYTES (left_true (nat_le (bytes_of kept) MAX_BYTES) (are_distinct kept) (right_true (nat_le (length kept) MAX_PATHS) (nat_le (bytes_of kept) MAX_BYTES && are_distinct kept) h))

pub kept_few : (kept : List KeptFile) → are_kept kept ≡ true → length kept ≤ MAX_PATHS
kept_few kept h = leb-true (length kept) MAX_PATHS (left_true (nat_le (length kept) MAX_PATHS) (nat_le (bytes_of kept) MAX_BYTES && are_distinct kept) h)

-- without files the counts are those of the overlays
pub counted_none : (kept : List KeptFile) → are_kept kept ≡ true → IsCounted kept [] (length kept) (bytes_of kept)
counted_none kept h =
    let few = kept_few kept h in
    let small = kept_small kept h in
    record { paths_are = omega arith; bytes_are = omega arith; within = record { paths = omega (arith, few); bytes = omega (arith, small) } }

-- a new file's counts
pub counted_more : (kept : List KeptFile) (path bytes : List ℕ) (files : Table) (place : ℕ) → WouldStandAt files path place → (paths sum : ℕ)
    → paths ≡ path_count kept files + cond (not (is_kept path kept)) 1 0 → paths ≤ MAX_PATHS → sum ≡ byte_count kept files + length bytes → sum ≤ MAX_BYTES
    → IsCounted kept (with_contents path (contents_of bytes) files) paths sum
counted_more kept path bytes files place gap paths sum is few sum_is small =
    let p = paths_with kept path bytes files place gap in
    let b = bytes_with kept path bytes files place gap in
    record { paths_are = is ∙ sym p; bytes_are = sum_is ∙ sym b; within = record { paths = omega (arith, p, is, few); bytes = omega (arith, b, sum_is, small) } }
