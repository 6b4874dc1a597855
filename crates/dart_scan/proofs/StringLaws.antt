-- What the pieces of a string are, whether it ends or not.
use Rattle.std.proofs.Common.{◌≡◌, ℕ, Bool, true, false, List, [], ◌∷◌, ◌++◌, length, take, drop, if◌then◌else◌, Option, Some, None, refl, sym, ap, subst, ◌∙◌, append-nil}
use Rattle.std.specs.Prelude.{All, IfSome, IsTrue, take_while}
use Rattle.std.specs.Option.{option_map_or, ForSome}
use Rattle.std.proofs.lemmas.List.Elements.{All-nil, All-cons, All-take, All-same}
use Rattle.std.proofs.lemmas.List.Sums.{take_while-cons}
use Rattle.std.proofs.Math.Seq.{take-append_seam}
use Rattle.dart_scan.specs.declared.piece.Class.TheVariants.{UnterminatedString}
use Rattle.dart_scan.specs.Characters.{is_within_line}
use Rattle.dart_scan.specs.Strings.{Form, opening_of, string_form, within_reach}
use Rattle.dart_scan.specs.Pieces.{Read, read_piece, string_at, next_at, within_steps}
use Rattle.dart_scan.specs.FormLemmas.{opens, reaches}
use Rattle.dart_scan.specs.StepLemmas.{bytes_of, Fair, fair}

-- a string of one quote stands in one line

front-passes : (p : ℕ → Bool) (text : List ℕ) → All (λ x. IsTrue (p x)) (take_while p text)
front-passes p [] = All-nil (λ x. IsTrue (p x))
front-passes p (b ∷ text) = All-same (λ x. IsTrue (p x)) _ _ (take_while-cons p b text) (chosen (p b) refl (front-passes p text))
  where
    chosen : (s : Bool) → p b ≡ s → All (λ x. IsTrue (p x)) (take_while p text) → All (λ x. IsTrue (p x)) (if s then b ∷ take_while p text else [])
    chosen true e h = All-cons (λ x. IsTrue (p x)) b (take_while p text) e h
    chosen false e h = All-nil (λ x. IsTrue (p x))

all-front : (P : ℕ → Type 0) (xs ys whole : List ℕ) → xs ++ ys ≡ whole → All P whole → All P xs
all-front P xs ys whole e h = All-same P xs (take (length xs) whole) (sym (ap (take (length xs)) (sym e) ∙ take-append_seam xs ys)) (All-take P (length xs) whole h)

pub in_one_line : (text : List ℕ) → ForSome (string_form text) (λ form. length form.quotes ≡ 1
    → All (λ byte. IsTrue (is_within_line byte)) (bytes_of (next_at (within_steps (length text)) false text).pieces))
in_one_line text form e one = of (string_form text) e
  where
    line : within_reach form text ≡ take_while is_within_line text
    line = rw one refl

    inside : (opening rest reach beyond : List ℕ) (o : Option Read) → reach ≡ opening ++ rest → All (λ byte. IsTrue (is_within_line byte)) reach → IfSome o (Fair (opening ++ rest) (length rest))
        → All (λ byte. IsTrue (is_within_line byte)) (bytes_of (option_map_or {U = Read} (λ read. record { pieces = read.pieces; rest = read.rest ++ beyond }) o (record { pieces = (UnterminatedString, reach) ∷ []; rest = beyond })).pieces)
    inside opening rest reach beyond None e h f = All-same (λ byte. IsTrue (is_within_line byte)) (reach ++ []) reach (append-nil reach) h
    inside opening rest reach beyond (Some read) e h f = all-front (λ byte. IsTrue (is_within_line byte)) (bytes_of read.pieces) read.rest reach (f.cover ∙ sym e) h

    of : (o : Option Form) → o ≡ Some form → All (λ byte. IsTrue (is_within_line byte)) (bytes_of (option_map_or {U = Read} (λ f. string_at (within_steps (length text)) f text) o (read_piece false text)).pieces)
    of None e' = absurd (cc)
    of (Some f) e' =
        let same : f ≡ form = cc in
        subst (λ x. All (λ byte. IsTrue (is_within_line byte)) (bytes_of (string_at (within_steps (length text)) x text).pieces)) (sym same)
        (inside (opening_of form) (drop (length (opening_of form)) (within_reach form text)) (within_reach form text) (drop (length (within_reach form text)) text)
        ((within_steps (length text)).parts form (opening_of form) (drop (length (opening_of form)) (within_reach form text)))
        (reaches form text (opens text form e)).opened
        (subst (λ xs. All (λ byte. IsTrue (is_within_line byte)) xs) (sym line) (front-passes is_within_line text))
        ((fair (length text)).parts form (opening_of form) (drop (length (opening_of form)) (within_reach form text)) (opens text form e).some))
