use Rattle.std.proofs.Common.{ℕ, List, subst, arith}
use Rattle.std.proofs.lemmas.List.{take_all}
use Rattle.dart_types.specs.Groups.{PutsIn, PutsAll}
use Rattle.dart_types.specs.declared.class_libraries.LibraryClasses.{LibraryClasses}
use Rattle.dart_types.proofs.Groups.{puts_none, puts_next}
use Rattle.dart_types.proofs.class_libraries.put_all_classes.Goals as goal

abbrev lib : LibraryClasses → ℕ
lib l = l.lib.0

pub loop-other-init : goal.loop-other-init
loop-other-init c = puts_none lib c.args.libraries.now.items c.args.others.now c.requires

pub put_classes-requires : goal.put_classes-requires
put_classes-requires c = c.loop-other.invariant.rise

pub loop-other-preserved : goal.loop-other-preserved
loop-other-preserved c =
    puts_next lib c.args.libraries.now.items c.loop-other.libraries.items c.put_classes.new.libraries.items c.args.others.now c.loop-other.other-index c.other-item.result c.loop-other-test.true c.other-item.is c.loop-other.invariant
    (subst (λ (g : LibraryClasses). PutsIn lib c.loop-other.libraries.items g c.put_classes.new.libraries.items) c.in_ok-share.ensures c.in_ok-put_classes.ensures)

pub returns : goal.returns
returns c =
    subst (λ (gs : List LibraryClasses). PutsAll lib c.args.libraries.now.items gs c.loop-other.libraries.items) (take_all c.loop-other.other-index c.args.others.now (omega arith)) c.loop-other.invariant
