use Rattle.std.proofs.Common.{rules, ◌≡◌, ◌+◌, ◌<◌, ◌&&◌, List, [], ◌∷◌, ◌++◌, length, take, get_or, sym, ap, ◌∙◌, subst, arith}
use Rattle.std.specs.List.{list_any}
use Rattle.std.proofs.lemmas.List.{take_more}
use Rattle.namespaces.specs.declared.elements.Exported.{Exported}
use Rattle.namespaces.specs.Ambiguities.{clash, is_brought}
use Rattle.namespaces.specs.BroughtNames.{AddsClashes}
use Rattle.namespaces.proofs.Clashing.{adds_more}
use Rattle.namespaces.proofs.ambiguities.add_brought.Goals as goal

pub loop-pair-preserved : goal.loop-pair-preserved
loop-pair-preserved c =
    let pairs = c.args.pairs.now in
    let i = c.loop-pair.pair-index in
    let pair = c.pair-item.result in
    let here : i < length pairs = omega arith in
    let read : get_or pairs i pair ≡ pair = search rules in
    let more : take (i + 1) pairs ≡ take i pairs ++ pair ∷ [] = take_more pairs i pair here ∙ ap (λ (q : Exported). take i pairs ++ q ∷ []) read in
    subst (λ (qs : List Exported). AddsClashes (λ p. list_any (λ q. is_brought c.args.library.now c.args.combinators.now q && clash p q) qs) c.args.names.now.names c.add_if_brought.new.names.names) (sym more) (adds_more (λ p q. is_brought c.args.library.now c.args.combinators.now q && clash p q) c.args.names.now.names c.loop-pair.names.names c.add_if_brought.new.names.names (take i pairs) pair c.loop-pair.invariant c.in_ok-add_if_brought.ensures)
