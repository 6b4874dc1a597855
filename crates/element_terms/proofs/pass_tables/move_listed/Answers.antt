use Rattle.std.proofs.Common.{rules, ◌≡◌, ℕ, ◌+◌, ◌<◌, Bool, ◌&&◌, ◌||◌, List, [], ◌∷◌, ◌++◌, length, take, get_or, sym, ap, ◌∙◌, arith}
use Rattle.std.specs.Prelude.{◌==◌, if◌then◌else◌}
use Rattle.std.proofs.lemmas.List.{take_more}
use Rattle.std.proofs.lemmas.List.Folds.{list_any-append}
use Rattle.element_terms.specs.Combinators.{is_among}
use Rattle.element_terms.specs.NameTexts.{means}
use Rattle.element_terms.specs.PassTables.{stage_of}
use Rattle.element_terms.proofs.Stages.{moved_more, or_none}
use Rattle.element_terms.proofs.pass_tables.move_listed.Goals as goal

pub loop-name-preserved : goal.loop-name-preserved
loop-name-preserved c =
    let names = c.args.names.now in
    let i = c.loop-name.name-index in
    let name = c.name-item.result in
    let from = c.args.from in
    let to = c.args.to in
    let old = c.args.stages.now in
    let mid = c.loop-name.stages in
    let new = c.move_written.new.stages in
    let here : i < length names = omega arith in
    let read : get_or names i name ≡ name = search rules in
    let more : take (i + 1) names ≡ take i names ++ name ∷ [] = take_more names i name here ∙ ap (λ (q : List ℕ). take i names ++ q ∷ []) read in
    record {
      stages = λ q.
          let among : is_among (take (i + 1) names) q ≡ (is_among (take i names) q || means name q) = ap (λ (ns : List (List ℕ)). is_among ns q) more ∙ (list_any-append (λ (w : List ℕ). means w q) (take i names) (name ∷ []) ∙ ap (λ (b : Bool). is_among (take i names) q || b) (or_none (means name q))) in
          let step : stage_of new q ≡ (if means name q && stage_of mid q == from then to else stage_of mid q) = c.in_ok-move_written.ensures.stages q ∙ ap (λ (n : List ℕ). if means n q && stage_of mid q == from then to else stage_of mid q) c.as_str.ensures in
          moved_more (is_among (take i names) q) (means name q) from to (stage_of old q) (stage_of mid q) (stage_of new q) c.requires (c.loop-name.invariant.stages q) step ∙ ap (λ (b : Bool). if b && stage_of old q == from then to else stage_of old q) (sym among);
    }
