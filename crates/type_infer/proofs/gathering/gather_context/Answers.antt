use Rattle.std.proofs.Common.{◌≡◌, ◌∙◌, List, [], ◌∷◌, Ok, Err, sym, ap, subst}
use Rattle.std.specs.Option.{option_copied}
use Rattle.std.proofs.lemmas.List.{append-nil}
use Rattle.dart_types.specs.Ty.{Ty}
use Rattle.type_infer.specs.Pairs.{Pair, pair}
use Rattle.type_infer.specs.Matching.{Match}
use Rattle.type_infer.specs.Finds.{Finds}
use Rattle.type_infer.specs.Inference.{context_pair, Gathered, none_left}
use Rattle.type_infer.specs.Gathers.{GathersInto}
use Rattle.type_infer.specs.declared.constraints.Side.TheVariants.{AtMost}
use Rattle.type_infer.proofs.GatherSteps.{match_refused, one_match}
use Rattle.type_infer.proofs.HandOn.{handed_on}
use Rattle.type_infer.proofs.gathering.gather_context.Goals as goal

pub returns-in_err-match_types-in-Some : goal.returns-in_err-match_types-in-Some
returns-in_err-match_types-in-Some c =
    let table = c.args.rows.now.table in
    let params = c.args.params.now in
    let formal = c.args.returned.now in
    let other = c.as_type.result.now in
    let before = c.args.found.now.items in
    let after = c.match_types.new.found.items in
    let why = c.in_err-match_types-in-Some.field-0.0 in
    let ended : Finds (Match table params AtMost formal other) before after (Err why) = c.in_err-match_types-in-Some.ensures in
    let there : pair AtMost formal other ∷ [] ≡ context_pair formal (option_copied c.args.context) =
    ap (λ (t : Ty). pair AtMost formal t ∷ []) c.as_type.ensures ∙ ap (λ o. context_pair formal (option_copied o)) (sym c.in-Some.is) in
    subst (λ (ps : List Pair). GathersInto table params ps before after c.from_residual.result) there
    (handed_on (GathersInto table params (pair AtMost formal other ∷ []) before after) c.from_residual.result why c.from_residual.ensures.1
    (match_refused table params AtMost formal other before after why ended []))

pub returns-in-None : goal.returns-in-None
returns-in-None c =
    let table = c.args.rows.now.table in
    let params = c.args.params.now in
    let none : [] ≡ context_pair c.args.returned.now (option_copied c.args.context) = ap (λ o. context_pair c.args.returned.now (option_copied o)) (sym c.in-None.is) in
    ([], subst (λ (ps : List Pair). Gathered table params ps (Ok [])) none none_left, sym (append-nil c.args.found.now.items))

pub returns-in_ok-match_types-in-Some : goal.returns-in_ok-match_types-in-Some
returns-in_ok-match_types-in-Some c =
    let table = c.args.rows.now.table in
    let params = c.args.params.now in
    let formal = c.args.returned.now in
    let other = c.as_type.result.now in
    let before = c.args.found.now.items in
    let after = c.match_types.new.found.items in
    let fits = c.in_ok-match_types-in-Some.field-0 in
    let ended : Finds (Match table params AtMost formal other) before after (Ok fits) = c.in_ok-match_types-in-Some.ensures in
    let there : pair AtMost formal other ∷ [] ≡ context_pair formal (option_copied c.args.context) =
    ap (λ (t : Ty). pair AtMost formal t ∷ []) c.as_type.ensures ∙ ap (λ o. context_pair formal (option_copied o)) (sym c.in-Some.is) in
    subst (λ (ps : List Pair). GathersInto table params ps before after (Ok tt)) there
    (one_match table params AtMost formal other before after fits ended)
