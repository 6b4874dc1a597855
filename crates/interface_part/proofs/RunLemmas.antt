-- The runs of lexemes in an interface part.
use Rattle.std.proofs.Common.{◌≡◌, ◌↔◌, ℕ, zero, suc, Bool, true, false, List, [], ◌∷◌, ◌++◌, take, drop, refl, sym, ap, ◌∙◌, if◌then◌else◌}
use Rattle.std.specs.List.{flat_map}
use Rattle.dart_tokens.specs.declared.token.Token.{Token}
use Rattle.dart_tree.specs.declared.unit.Unit.{Unit}
use Rattle.interface_part.specs.declared.hidden.Hidden.{Hidden}
use Rattle.interface_part.specs.Hidden.{hidden_in}
use Rattle.interface_part.specs.Parts.{Part, mark, lexeme}
use Rattle.interface_part.specs.Interface.{count_before, interface_of, is_seen, lexeme_of, lexemes, parts_of}
use Rattle.interface_part.specs.Runs.{Runs, behind_lexemes, behind_mark, runs_of, seen_of}

-- the runs of parts
abbrev pub runs_in : List Part → Runs
runs_in [] = ([], [])
runs_in (mark ∷ parts) = behind_mark (runs_in parts)
runs_in (lexeme kind letters adjoins ∷ parts) = behind_lexemes (lexeme kind letters adjoins ∷ []) (runs_in parts)

-- the parts whose runs these are
abbrev pub parts_in : Runs → List Part
parts_in runs = runs.0 ++ flat_map (λ run. mark ∷ run) runs.1

pub parts_in-runs_in : (parts : List Part) → parts_in (runs_in parts) ≡ parts
parts_in-runs_in [] = refl
parts_in-runs_in (mark ∷ parts) = ap (λ (rest : List Part). mark ∷ rest) (parts_in-runs_in parts)
parts_in-runs_in (lexeme kind letters adjoins ∷ parts) = ap (λ (rest : List Part). lexeme kind letters adjoins ∷ rest) (parts_in-runs_in parts)

-- lexemes alone are one run
runs_in-lexemes : (words : List (List ℕ)) (ts : List Token) → runs_in (lexemes words ts) ≡ (lexemes words ts, [])
runs_in-lexemes words [] = refl
runs_in-lexemes words (t ∷ ts) = ap (λ (runs : Runs). behind_lexemes (lexeme_of words t ts ∷ []) runs) (runs_in-lexemes words ts)

-- lexemes belong to the run behind them
runs_in-taken : (words : List (List ℕ)) (n : ℕ) (ts : List Token) (parts : List Part) →
    runs_in (take n (lexemes words ts) ++ parts) ≡ behind_lexemes (take n (lexemes words ts)) (runs_in parts)
runs_in-taken words zero ts parts = refl
runs_in-taken words (suc n) [] parts = refl
runs_in-taken words (suc n) (t ∷ ts) parts = ap (λ (runs : Runs). behind_lexemes (lexeme_of words t ts ∷ []) runs) (runs_in-taken words n ts parts)

pub runs_in-parts_of : (words : List (List ℕ)) (hs : List Hidden) (ts : List Token) → runs_in (parts_of words hs ts) ≡ runs_of words hs ts
runs_in-parts_of words [] ts = runs_in-lexemes words ts
runs_in-parts_of words (h ∷ hs) ts =
    let n = count_before h.span.start ts in
    let behind = drop n ts in
    let m = count_before h.span.end behind in
    let further = parts_of words hs (drop m behind) in
    let rest : runs_in further ≡ runs_of words hs (drop m behind) = runs_in-parts_of words hs (drop m behind) in
    runs_in-taken words n ts ((if is_seen h (take m behind) then take m (lexemes words behind) else mark ∷ []) ++ further)
    ∙ ap (λ (runs : Runs). behind_lexemes (take n (lexemes words ts)) runs)
    (by (is_seen h (take m behind)) m behind further
    ∙ ap (λ (runs : Runs). if is_seen h (take m behind) then behind_lexemes (take m (lexemes words behind)) runs else behind_mark runs) rest)
  where
    by : (b : Bool) (m : ℕ) (behind : List Token) (further : List Part) →
        runs_in ((if b then take m (lexemes words behind) else mark ∷ []) ++ further)
        ≡ (if b then behind_lexemes (take m (lexemes words behind)) (runs_in further) else behind_mark (runs_in further))
    by true m behind further = runs_in-taken words m behind further
    by false m behind further = refl

-- interface parts are equal exactly where what is seen is
pub equal-seen : (u v : Unit) → (interface_of u ≡ interface_of v) ↔ (seen_of u ≡ seen_of v)
equal-seen u v = (
  λ e. sym (runs_in-parts_of u.words (hidden_in u.tree) u.tokens) ∙ ap (λ (parts : List Part). runs_in parts) e ∙ runs_in-parts_of v.words (hidden_in v.tree) v.tokens,
  λ e. sym (parts_in-runs_in (interface_of u)) ∙ ap (λ (runs : Runs). parts_in runs)
      (runs_in-parts_of u.words (hidden_in u.tree) u.tokens ∙ e ∙ sym (runs_in-parts_of v.words (hidden_in v.tree) v.tokens))
      ∙ parts_in-runs_in (interface_of v),
)
