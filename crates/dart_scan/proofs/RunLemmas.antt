-- A cut that pauses where no string is open, and what is left of its text.
use Rattle.std.proofs.Common.{◌≡◌, ℕ, ◌≤◌, ◌<◌, Bool, true, false, List, [], ◌∷◌, ◌++◌, length, drop, All, refl, sym, ap, subst, ◌∙◌, arith}
use Rattle.std.specs.Prelude.{slice_range}
use Rattle.std.proofs.lemmas.List.{append-nil, drop_all}
use Rattle.dart_scan.specs.declared.piece.Piece.{Piece}
use Rattle.dart_scan.specs.declared.cut.line.Line.{Line}
use Rattle.dart_scan.specs.declared.cut.strings.OpenString.{OpenString}
use Rattle.dart_scan.specs.declared.cut.cutting.Within.{Within}
use Rattle.dart_scan.specs.declared.cut.cutting.Within.TheVariants.{InCode, InString}
use Rattle.dart_scan.specs.Pieces.{Spelled, spelled, pieces_within}
use Rattle.dart_scan.specs.Suspended.{pieces_behind, resumed}
use Rattle.dart_scan.specs.Cutting.{Cut, rest_of, size_of, Ends, all_suspended, to_come_within, to_come, Nested, Stands, Sound, IsCode, IsOutside, StepsOrEnds, IsDone, fresh}
use Rattle.dart_scan.specs.Runs.{Pauses, StepsOrPauses, IsRun}
use Rattle.dart_scan.proofs.RangeLemmas.{range-last}
use Rattle.dart_scan.proofs.CuttingViews.{begins-cut}

-- outside all strings what is left is a text of its own
outside_come : (cut : Cut) → Sound cut → IsOutside cut → to_come cut ≡ spelled cut.pieces cut.text ++ pieces_behind (drop cut.at cut.text)
unfolding Nested all_suspended resumed
outside_come cut s o = of cut.within o.code s.stands
  where
    of : (within : Within) → IsCode within → Stands within cut → to_come_within within cut ≡ spelled cut.pieces cut.text ++ pieces_behind (drop cut.at cut.text)
    of (InCode braces) h stands =
        let whole : cut.end ≡ length cut.text = subst (λ (around : List OpenString). Nested cut.text cut.pieces cut.end around) o.none stands.1 in
        let rest : rest_of cut ≡ drop cut.at cut.text = ap (λ (n : ℕ). slice_range cut.text cut.at n) whole ∙ range-last cut.text cut.at in
        ap (λ (around : List OpenString). resumed (all_suspended cut.text cut.pieces cut.end braces around) (spelled cut.pieces cut.text) (rest_of cut)) o.none
        ∙ ap (λ (text : List ℕ). spelled cut.pieces cut.text ++ pieces_behind text) rest
    of (InString string begun) h stands = absurd h

fresh_come : (text : List ℕ) (line : Line) → to_come (fresh text line) ≡ pieces_behind text
unfolding all_suspended resumed spelled
fresh_come text line = ap (λ (t : List ℕ). pieces_behind t) (range-last text 0)

none_behind : (text : List ℕ) → text ≡ [] → pieces_behind text ≡ []
unfolding pieces_within
none_behind text e = ap (λ (t : List ℕ). pieces_behind t) e

-- a cut that is done pauses
done_pauses : (old new : Cut) → IsDone old new → Pauses old new
done_pauses old new d =
    let over : drop new.at new.text ≡ [] = drop_all new.at new.text (let e : new.at ≡ length new.text = d.end in omega (arith, e)) in
    record {
      text = d.text;
      sound = d.sound;
      same = outside_come new d.sound d.outside ∙ ap (λ (ps : List Spelled). spelled new.pieces new.text ++ ps) (none_behind (drop new.at new.text) over) ∙ append-nil (spelled new.pieces new.text) ∙ d.all;
      outside = d.outside;
      last = λ _. d.end;
    }

pub steps_or_pauses : (more : Bool) (old new : Cut) → StepsOrEnds more old new → StepsOrPauses more old new
steps_or_pauses true old new s = s
steps_or_pauses false old new d = done_pauses old new d

empty_text : (text : List ℕ) → length text ≡ 0 → text ≡ []
empty_text [] e = refl
empty_text (byte ∷ text) e = absurd (omega (arith, e))

spelled_none : (text : List ℕ) → spelled [] text ≡ []
unfolding spelled
spelled_none text = refl

-- the pieces up to a pause are a run
pub run_is : (old paused new : Cut) (run : List Piece) → paused.text ≡ old.text → to_come paused ≡ to_come old → Sound paused → IsOutside paused → (paused.pieces ≡ [] → paused.at ≡ length paused.text) →
    run ≡ paused.pieces → new ≡ fresh (drop paused.at paused.text) new.line → Ends (drop paused.at paused.text) new.line → new.line.from ≡ 0 → IsRun old new run
run_is old paused new run text same s o last is made ends from =
    let rest : List ℕ = drop paused.at paused.text in
    let size : size_of run ≡ paused.at = ap (λ (ps : List Piece). size_of ps) is ∙ s.pieces in
    let left : new.text ≡ rest = ap (λ (c : Cut). c.text) made in
    let front : spelled paused.pieces paused.text ≡ spelled run old.text = ap (λ (ps : List Piece). spelled ps paused.text) (sym is) ∙ ap (λ (t : List ℕ). spelled run t) text in
    let come : to_come new ≡ pieces_behind rest = ap (λ (c : Cut). to_come c) made ∙ fresh_come rest new.line in
    let here : to_come paused ≡ spelled paused.pieces paused.text ++ pieces_behind rest = outside_come paused s o in
    record {
      sound = subst (λ (c : Cut). Sound c) (sym made) (begins-cut rest new.line ends from);
      within = (let a : paused.at ≤ paused.end = s.within in let b : paused.end ≤ length paused.text = s.inside in let c : length paused.text ≡ length old.text = ap (λ (t : List ℕ). length t) text in omega (arith, size, a, b, c));
      text = left ∙ ap (λ (n : ℕ). drop n paused.text) (sym size) ∙ ap (λ (t : List ℕ). drop (size_of run) t) text;
      some = subst (λ (ps : List Piece). All (λ (piece : Piece). 0 < piece.size) ps) (sym is) s.some;
      same = sym same ∙ here ∙ ap (λ (ps : List Spelled). ps ++ pieces_behind rest) front ∙ ap (λ (ps : List Spelled). spelled run old.text ++ ps) (sym come);
      last = λ none.
          (let no_pieces : paused.pieces ≡ [] = sym is ∙ none in
          let end : paused.at ≡ length paused.text = last no_pieces in
          let start : paused.at ≡ 0 = sym s.pieces ∙ ap (λ (ps : List Piece). size_of ps) no_pieces in
          let empty : paused.text ≡ [] = empty_text paused.text (sym end ∙ start) in
          let over : rest ≡ [] = drop_all paused.at paused.text (omega (arith, end)) in (
            sym text ∙ empty,
            sym same ∙ here ∙ ap (λ (ps : List Piece). spelled ps paused.text ++ pieces_behind rest) no_pieces ∙ ap (λ (ps : List Spelled). ps ++ pieces_behind rest) (spelled_none paused.text) ∙ none_behind rest over,
          ));
    }

-- a run is spelled by the text that is left, and what is to come stands behind it
pub run_here : (old new : Cut) (run list : List Piece) (rest : List ℕ) → IsRun old new run → old.text ≡ rest → list ≡ run → to_come old ≡ spelled list rest ++ to_come new
run_here old new run list rest r text is =
    r.same ∙ ap (λ (t : List ℕ). spelled run t ++ to_come new) text ∙ ap (λ (ps : List Piece). spelled ps rest ++ to_come new) (sym is)

pub run_left : (old new : Cut) (run list : List Piece) (rest after : List ℕ) → IsRun old new run → old.text ≡ rest → list ≡ run → after ≡ drop (size_of list) rest → new.text ≡ after
run_left old new run list rest after r text is e =
    r.text ∙ ap (λ (t : List ℕ). drop (size_of run) t) text ∙ ap (λ (ps : List Piece). drop (size_of ps) rest) (sym is) ∙ sym e
