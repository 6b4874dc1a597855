use Rattle.std.proofs.Common.{◌++◌, Bool, false, List, [], drop, ◌∙◌, sym, ap}
use Rattle.dart_tree.specs.Tree.{trees_of}
use Rattle.dart_tree.specs.declared.places.Span.{Span}
use Rattle.directives.specs.declared.order.Seen.{Seen}
use Rattle.directives.specs.Order.{has_part_of, misplaced_from}
use Rattle.directives.proofs.Seeing.{from_seen}
use Rattle.directives.proofs.order.misplaced_in.Goals as goal

pub loop-item-init : goal.loop-item-init
loop-item-init c =
    let items = trees_of c.args.items.now in
    let none : Seen = record { declaration = false; directive = false; part = false; part_of = false } in
    ap (λ (spans : List Span). spans ++ misplaced_from c.has_part_of-beside.result none (trees_of (drop 0 c.args.items.now))) c.new-spans.ensures.items
    ∙ (ap (λ (beside : Bool). misplaced_from beside none items) c.has_part_of-beside.ensures ∙ sym (from_seen (has_part_of items) [] items))
