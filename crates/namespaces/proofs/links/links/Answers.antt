use Rattle.std.proofs.Common.{rules, ◌≡◌, [], length, replicate, sym, ap, ◌∙◌}
use Rattle.namespaces.proofs.LinkLemmas.{no_links}
use Rattle.namespaces.proofs.links.links.Goals as goal

pub loop-from-init : goal.loop-from-init
loop-from-init c =
    let none : c.in_ok-links.links.items ≡ replicate c.args.count [] = search rules in
    let listed : replicate c.args.count [] ≡ replicate (length c.args.libraries.now) [] = ap (λ n. replicate n []) (sym c.requires) in
    no_links c.args.libraries.now c.in_ok-links.links.items (none ∙ listed)
