-- The places of lent files.
use Rattle.std.proofs.Common.{◌≡◌, ℕ, zero, suc, ◌-◌, ◌<◌, true, List, [], ◌∷◌, length, map, nat_lt, slice_index_or, refl, sym, ap, subst, ◌∙◌, arith}
use Rattle.std.specs.Prelude.{bytes_eq, position}
use Rattle.std.specs.List.{position_or_len}
use Rattle.std.proofs.lemmas.Bool.{ltb-true}
use Rattle.std.proofs.lemmas.List.{length-map}
use Rattle.libraries.specs.Naming.{core_path}
use Rattle.check_files.specs.Lent.{file_view, table_view}
use Rattle.check_files.specs.Lines.{text_at, text_of, texts_of}
use Rattle.check_files.specs.declared.lent.LentFile.{LentFile}

-- so many lent files come before the first with a path as among those of the table
many_before : (path : List ℕ) (files : List LentFile) → position_or_len (λ (file : LentFile). bytes_eq file.path.now path) files ≡ position_or_len (λ file. bytes_eq file.0 path) (table_view files)
many_before path [] = refl
many_before path (file ∷ files) = rw (many_before path files) refl

-- a path has the place among lent files that it has among those of the table
pub place_among : (path : List ℕ) (files : List LentFile) → position (λ (file : LentFile). bytes_eq file.path.now path) files ≡ position (λ file. bytes_eq file.0 path) (table_view files)
place_among path files = rw (many_before path files, length-map files file_view) refl

-- a file that is lent is read as its text
held_at : (files : List LentFile) (n : ℕ) (d : LentFile) → n < length files → slice_index_or (map text_of (table_view files)) n (core_path, []) ≡ text_of (file_view (slice_index_or files n d))
held_at [] n d less = absurd (omega (arith, less))
held_at (f ∷ files) zero d less = refl
held_at (f ∷ files) (suc n) d less = held_at files n d (omega (arith, less))

-- the text of the file behind `dart:core` at a place
pub text_is : (files : List LentFile) (place : ℕ) (file d : LentFile) → (place ≡ 0 → ⊥) → true ≡ nat_lt (place - 1) (length files) → file ≡ slice_index_or files (place - 1) d → text_at (texts_of (table_view files)) place ≡ text_of (file_view file)
text_is files zero file d other within is = absurd (other refl)
text_is files (suc n) file d other within is =
    let back : suc n - 1 ≡ n = omega arith in
    let less : n < length files = ltb-true n (length files) (sym (subst (λ (m : ℕ). true ≡ nat_lt m (length files)) back within)) in
    let same : file ≡ slice_index_or files n d = subst (λ (m : ℕ). file ≡ slice_index_or files m d) back is in
    held_at files n d less ∙ ap (λ (g : LentFile). text_of (file_view g)) (sym same)
