-- Pieces of which the last is a lexeme.
use Rattle.std.proofs.Common.{◌≡◌, ℕ, Bool, true, false, List, [], ◌∷◌, ◌++◌, if◌then◌else◌, Option, Some, refl, sym, ap, subst, ◌∙◌, arith, append_assoc}
use Rattle.std.specs.List.{list_all}
use Rattle.std.proofs.lemmas.Bool.{and_parts, and_from}
use Rattle.dart_scan.specs.Characters.{is_blank}
use Rattle.dart_scan.specs.declared.piece.Class.{Class}
use Rattle.dart_scan.specs.declared.piece.Class.TheVariants.{Gap, UnterminatedComment, IllegalCharacter, BeyondAscii, Word, Integer, Double, Mark, StringLiteral, StringOpening, StringPart, StringClosing, UnterminatedString, InterpolationMark, InterpolationOpening, InterpolationClosing}
use Rattle.dart_scan.specs.Pieces.{Spelled}
use Rattle.dart_scan.specs.Scanned.{is_gap}
use Rattle.dart_scan.specs.StepLemmas.{bytes_of}
use Rattle.tree_print.proofs.Alike.{Alike, blank, alike-behind, alike-less}
use Rattle.tree_print.proofs.Relaid.{separator_byte, separator, between, relaid, relaid-lexeme}

-- the last of these pieces is a lexeme, behind which this byte separates
pub data Ended : List Spelled → (byte : ℕ) → Type 0 where
  one : (piece : Spelled) → is_gap piece.0 ≡ false → Ended (piece ∷ []) (separator_byte piece.0)
  more : (piece : Spelled) {ps : List Spelled} {byte : ℕ} → Ended ps byte → Ended (piece ∷ ps) byte

pub ended-behind : (ps : List Spelled) {qs : List Spelled} {byte : ℕ} → Ended qs byte → Ended (ps ++ qs) byte
ended-behind [] e = e
ended-behind (p ∷ ps) e = more p (ended-behind ps e)

-- classes behind which the same byte separates
pub relaid-class : (class other : Class) → separator_byte class ≡ separator_byte other → (wide : Bool) (ps : List Spelled) → relaid (Some class) wide ps ≡ relaid (Some other) wide ps
relaid-class class other e wide [] = refl
relaid-class class other e wide (p ∷ ps) = of (is_gap p.0) (relaid-class class other e true ps)
  where
    same : (wide : Bool) → between (Some class) wide ≡ between (Some other) wide
    same true = ap (λ (b : ℕ). (Gap, b ∷ []) ∷ []) e
    same false = refl

    of : (s : Bool) → relaid (Some class) true ps ≡ relaid (Some other) true ps
        → (if s then relaid (Some class) true ps else between (Some class) wide ++ p ∷ relaid (Some p.0) false ps) ≡ (if s then relaid (Some other) true ps else between (Some other) wide ++ p ∷ relaid (Some p.0) false ps)
    of true h = h
    of false h = ap (λ (xs : List Spelled). xs ++ p ∷ relaid (Some p.0) false ps) (same wide)

pub ended-closes : {ps : List Spelled} {byte : ℕ} → Ended ps byte → (class : Class) → separator_byte class ≡ byte → (before : Option Class) (wide : Bool) (rest : List Spelled)
    → relaid before wide (ps ++ rest) ≡ relaid before wide ps ++ relaid (Some class) false rest
ended-closes (one piece e) class k before wide rest =
    relaid-lexeme before wide piece rest e ∙ ap (λ (xs : List Spelled). between before wide ++ piece ∷ xs) (relaid-class piece.0 class (sym k) false rest)
    ∙ sym (append_assoc (between before wide) (piece ∷ []) (relaid (Some class) false rest))
    ∙ ap (λ (xs : List Spelled). xs ++ relaid (Some class) false rest) (sym (relaid-lexeme before wide piece [] e))
ended-closes (more p {ps = ps} ended) class k before wide rest = of (is_gap p.0) (ended-closes ended class k before true rest) (ended-closes ended class k (Some p.0) false rest)
  where
    of : (s : Bool) → relaid before true (ps ++ rest) ≡ relaid before true ps ++ relaid (Some class) false rest
        → relaid (Some p.0) false (ps ++ rest) ≡ relaid (Some p.0) false ps ++ relaid (Some class) false rest
        → (if s then relaid before true (ps ++ rest) else between before wide ++ p ∷ relaid (Some p.0) false (ps ++ rest))
        ≡ (if s then relaid before true ps else between before wide ++ p ∷ relaid (Some p.0) false ps) ++ relaid (Some class) false rest
    of true h j = h
    of false h j = ap (λ (xs : List Spelled). between before wide ++ p ∷ xs) j ∙ sym (append_assoc (between before wide) (p ∷ relaid (Some p.0) false ps) (relaid (Some class) false rest))

-- behind a gap a separator comes first
pub ended-wide : {ps : List Spelled} {byte : ℕ} → Ended ps byte → (before : Class) → (rest : List Spelled) × (relaid (Some before) true ps ≡ separator before ∷ rest)
ended-wide (one piece e) before = (piece ∷ [], relaid-lexeme (Some before) true piece [] e)
ended-wide (more p {ps = ps} ended) before = of (is_gap p.0) (ended-wide ended before)
  where
    of : (s : Bool) → (rest : List Spelled) × (relaid (Some before) true ps ≡ separator before ∷ rest)
        → (rest : List Spelled) × ((if s then relaid (Some before) true ps else between (Some before) true ++ p ∷ relaid (Some p.0) false ps) ≡ separator before ∷ rest)
    of true h = h
    of false h = (p ∷ relaid (Some p.0) false ps, refl)

pub separator-blank : (class : Class) → is_blank (separator_byte class) ≡ true
separator-blank Word = refl
separator-blank Mark = refl
separator-blank Gap = refl
separator-blank UnterminatedComment = refl
separator-blank IllegalCharacter = refl
separator-blank BeyondAscii = refl
separator-blank Integer = refl
separator-blank Double = refl
separator-blank StringLiteral = refl
separator-blank StringOpening = refl
separator-blank StringPart = refl
separator-blank StringClosing = refl
separator-blank UnterminatedString = refl
separator-blank InterpolationMark = refl
separator-blank InterpolationOpening = refl
separator-blank InterpolationClosing = refl

wide-alike : {ps : List Spelled} {byte : ℕ} → Ended ps byte → (before : Class) (text rest : List ℕ) → Alike 0 text (bytes_of (relaid (Some before) true ps) ++ rest)
wide-alike {ps = ps} ended before text rest =
    let w = ended-wide ended before in
    subst (λ (xs : List Spelled). Alike 0 text (bytes_of xs ++ rest)) (sym w.1) (blank (separator_byte before) (bytes_of w.0 ++ rest) (separator-blank before))

-- behind the same bytes
behind-alike : (front bytes text other rest : List ℕ) → Alike 0 (bytes ++ text) (other ++ rest) → Alike 0 ((front ++ bytes) ++ text) ((front ++ other) ++ rest)
behind-alike front bytes text other rest a =
    subst (λ (xs : List ℕ). Alike 0 xs ((front ++ other) ++ rest)) (sym (append_assoc front bytes text))
    (subst (λ (xs : List ℕ). Alike 0 (front ++ (bytes ++ text)) xs) (sym (append_assoc front other rest)) (alike-less 0 (omega arith) (alike-behind front a)))

-- The text of pieces goes on alike, where they are laid anew.
pub ended-alike : {ps : List Spelled} {byte : ℕ} → Ended ps byte → (before : Class) (wide : Bool) (text rest : List ℕ) → Alike 0 text rest → Alike 0 (bytes_of ps ++ text) (bytes_of (relaid (Some before) wide ps) ++ rest)
ended-alike (one piece e) before true text rest a = wide-alike (one piece e) before (bytes_of (piece ∷ []) ++ text) rest
ended-alike (one piece e) before false text rest a =
    subst (λ (xs : List Spelled). Alike 0 ((piece.1 ++ []) ++ text) (bytes_of xs ++ rest)) (sym (relaid-lexeme (Some before) false piece [] e)) (behind-alike piece.1 [] text [] rest a)
ended-alike (more p {ps = ps} ended) before true text rest a = wide-alike (more p ended) before (bytes_of (p ∷ ps) ++ text) rest
ended-alike (more p {ps = ps} ended) before false text rest a = of (is_gap p.0) (ended-alike ended p.0 false text rest a)
  where
    of : (s : Bool) → Alike 0 (bytes_of ps ++ text) (bytes_of (relaid (Some p.0) false ps) ++ rest)
        → Alike 0 (bytes_of (p ∷ ps) ++ text) (bytes_of (if s then relaid (Some before) true ps else between (Some before) false ++ p ∷ relaid (Some p.0) false ps) ++ rest)
    of true h = wide-alike ended before (bytes_of (p ∷ ps) ++ text) rest
    of false h = behind-alike p.1 (bytes_of ps) text (bytes_of (relaid (Some p.0) false ps)) rest h

-- the first of these pieces is a lexeme
pub record Starts (ps : List Spelled) : Type 0 where
  pub first : Spelled
  pub rest : List Spelled
  pub is : ps ≡ first ∷ rest
  pub lexeme : is_gap first.0 ≡ false

-- pieces as they are laid anew where nothing stands before them
abbrev pub laid : List Spelled → List Spelled
laid ps = relaid (Some StringClosing) false ps

pub relaid-starts : (ps : List Spelled) → Starts ps → (before : Option Class) (wide : Bool) → relaid before wide ps ≡ between before wide ++ laid ps
relaid-starts ps s before wide =
    subst (λ (xs : List Spelled). relaid before wide xs ≡ between before wide ++ laid xs) (sym s.is)
    (relaid-lexeme before wide s.first s.rest s.lexeme ∙ ap (λ (xs : List Spelled). between before wide ++ xs) (sym (relaid-lexeme (Some StringClosing) false s.first s.rest s.lexeme)))

pub starts-more : (ps qs : List Spelled) → Starts ps → Starts (ps ++ qs)
starts-more ps qs s = record { first = s.first; rest = s.rest ++ qs; is = ap (λ (xs : List Spelled). xs ++ qs) s.is; lexeme = s.lexeme }

-- All of a list.

pub all-both : (p : ℕ → Bool) (xs ys : List ℕ) → list_all p xs ≡ true → list_all p ys ≡ true → list_all p (xs ++ ys) ≡ true
all-both p [] ys h k = k
all-both p (x ∷ xs) ys h k = let parts = and_parts (p x) (list_all p xs) h in and_from (p x) (list_all p (xs ++ ys)) parts.0 (all-both p xs ys parts.1 k)

pub all-front : (p : ℕ → Bool) (xs ys : List ℕ) → list_all p (xs ++ ys) ≡ true → list_all p xs ≡ true
all-front p [] ys h = refl
all-front p (x ∷ xs) ys h = let parts = and_parts (p x) (list_all p (xs ++ ys)) h in and_from (p x) (list_all p xs) parts.0 (all-front p xs ys parts.1)

pub all-rest : (p : ℕ → Bool) (xs ys : List ℕ) → list_all p (xs ++ ys) ≡ true → list_all p ys ≡ true
all-rest p [] ys h = h
all-rest p (x ∷ xs) ys h = all-rest p xs ys (and_parts (p x) (list_all p (xs ++ ys)) h).1
