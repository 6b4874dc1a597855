use Rattle.std.proofs.Common.{rules, ◌≡◌}
use Rattle.std.proofs.lemmas.Map.Text.{btree_map_updates_str}
use Rattle.namespaces.specs.BroughtNames.{found_of}
use Rattle.namespaces.specs.Meanings.{or_also}
use Rattle.namespaces.proofs.Clashing.{adds_one, puts}
use Rattle.namespaces.proofs.brought.BroughtNames.add.Goals as goal

pub returns : goal.returns
returns c =
    let m = c.args.self.now.names in
    let q = c.args.pair.now in
    let named : c.as_str-name.result.now ≡ q.name = search rules in
    let found : c.or_also-found.result ≡ or_also (found_of m q.name) q.element = search rules in
    adds_one m c.insert.new.self q (rw (named, found) at (puts m c.insert.new.self c.as_str-name.result.now c.or_also-found.result (btree_map_updates_str c.as_str-name.result.now m c.insert.new.self _ c.in_ok-insert.ensures.updates)))
