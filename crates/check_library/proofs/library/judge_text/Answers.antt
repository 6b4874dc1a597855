use Rattle.std.proofs.Common.{◌≡◌, ◌∙◌, ℕ, List, ap}
use Rattle.dart_scan.specs.Scanned.{words_of}
use Rattle.dart_tree.specs.Tree.{Tree}
use Rattle.judgement.specs.NodeFacts.{NodeFacts}
use Rattle.built_forms.specs.Units.{has_main, meanings_in, unbuilt}
use Rattle.resolve.specs.Said.{kept}
use Rattle.check_library.specs.Units.{unit_of_text, outside_of}
use Rattle.check_library.proofs.Parts.{typed_of_text, judged_of_text, reported}
use Rattle.check_library.proofs.library.judge_text.Goals as goal

pub judged-requires-clause-outside : goal.judged-requires-clause-outside
judged-requires-clause-outside c = c.in_ok-forms.ensures.outside ∙ ap (λ (ws : List (List ℕ)). meanings_in ws c.in_ok-unit.unit.tree) c.as_slice.ensures

pub returns-clause-outside : goal.returns-clause-outside
returns-clause-outside c =
    let unit = c.in_ok-unit.ensures in
    c.in_ok-forms.ensures.outside
    ∙ ap (λ (ws : List (List ℕ)). meanings_in ws c.in_ok-unit.unit.tree) (c.as_slice.ensures ∙ unit.words)
    ∙ ap (λ (tree : Tree). meanings_in (words_of c.args.text.now) tree) unit.tree

pub returns-clause-one : goal.returns-clause-one
returns-clause-one c =
    let unit = c.in_ok-unit.ensures in
    c.in_ok-forms.ensures.main
    ∙ ap (λ (ws : List (List ℕ)). has_main ws c.in_ok-unit.unit.tree) (c.as_slice.ensures ∙ unit.words)
    ∙ ap (λ (tree : Tree). has_main (words_of c.args.text.now) tree) unit.tree

pub returns-clause-nodes : goal.returns-clause-nodes
returns-clause-nodes c =
    let text = c.args.text.now in
    let unit = c.in_ok-unit.ensures in
    let outside : c.in_ok-forms.forms.outside.items ≡ outside_of text =
    c.in_ok-forms.ensures.outside ∙ ap (λ (ws : List (List ℕ)). meanings_in ws c.in_ok-unit.unit.tree) (c.as_slice.ensures ∙ unit.words) ∙ ap (λ (tree : Tree). meanings_in (words_of text) tree) unit.tree in
    c.in_ok-nodes.ensures.nodes ∙ ap (λ (ns : List NodeFacts). kept c.args.keep ns) (typed_of_text text _ _ _ _ c.in_ok-rows.ensures unit.words outside unit.tree)

pub returns-clause-diagnostics : goal.returns-clause-diagnostics
returns-clause-diagnostics c =
    let text = c.args.text.now in
    let unit = c.in_ok-unit.ensures in
    let forms = c.in_ok-forms.ensures in
    let words : c.as_slice.result.now ≡ words_of text = c.as_slice.ensures ∙ unit.words in
    let outside : c.in_ok-forms.forms.outside.items ≡ outside_of text =
    forms.outside ∙ ap (λ (ws : List (List ℕ)). meanings_in ws c.in_ok-unit.unit.tree) words ∙ ap (λ (tree : Tree). meanings_in (words_of text) tree) unit.tree in
    let spans : c.as_slice-2.result.now ≡ unbuilt (words_of text) (unit_of_text text) =
    c.as_slice-2.ensures.value ∙ forms.unbuilt ∙ ap (λ (ws : List (List ℕ)). unbuilt ws c.in_ok-unit.unit.tree) words ∙ ap (λ (tree : Tree). unbuilt (words_of text) tree) unit.tree in
    reported text c.in_ok-faults.faults.items _ _ _ _ _ c.in_ok-faults.ensures spans c.in_ok-add_not_built.ensures
    (judged_of_text text _ _ _ _ c.in_ok-rows.ensures unit.words outside unit.tree _ forms.names) c.in_ok-nodes.ensures.faults c.in_ok-faults-2.ensures
