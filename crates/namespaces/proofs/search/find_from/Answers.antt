use Rattle.std.proofs.Common.{◌<◌, List, length, take, get_or, sym, subst, arith}
use Rattle.std.proofs.lemmas.List.{take_more}
use Rattle.namespaces.specs.declared.links.Link.{Link}
use Rattle.namespaces.specs.Links.{Finds}
use Rattle.namespaces.proofs.Searching.{finds_more}
use Rattle.namespaces.proofs.search.find_from.Goals as goal

pub loop-link-preserved : goal.loop-link-preserved
loop-link-preserved c =
    let links = c.args.links.now in
    let i = c.loop-link.link-index in
    let zero : Link = record { from = 0; export = 0; to = 0 } in
    let here : i < length links = omega arith in
    subst (λ (ls : List Link). Finds c.args.libraries.now c.args.name.now ls c.args.search.now c.find.new.search) (sym (take_more links i zero here)) (finds_more c.args.libraries.now c.args.name.now (take i links) (get_or links i zero) c.args.search.now c.loop-link.search c.find.new.search c.loop-link.invariant c.in_ok-find.ensures)
