use Rattle.std.proofs.Common.{ℕ, List, subst, arith}
use Rattle.std.proofs.lemmas.List.{take_all}
use Rattle.dart_types.specs.Groups.{PutsIn, PutsAll}
use Rattle.dart_types.specs.declared.var_libraries.LibraryVars.{LibraryVars}
use Rattle.dart_types.proofs.Groups.{puts_none, puts_next}
use Rattle.dart_types.proofs.var_libraries.put_all_vars.Goals as goal

abbrev lib : LibraryVars → ℕ
lib l = l.lib.0

pub loop-other-init : goal.loop-other-init
loop-other-init c = puts_none lib c.args.libraries.now.items c.args.others.now c.requires

pub put_vars-requires : goal.put_vars-requires
put_vars-requires c = c.loop-other.invariant.rise

pub loop-other-preserved : goal.loop-other-preserved
loop-other-preserved c =
    puts_next lib c.args.libraries.now.items c.loop-other.libraries.items c.put_vars.new.libraries.items c.args.others.now c.loop-other.other-index c.other-item.result c.loop-other-test.true c.other-item.is c.loop-other.invariant
    (subst (λ (g : LibraryVars). PutsIn lib c.loop-other.libraries.items g c.put_vars.new.libraries.items) c.in_ok-share.ensures c.in_ok-put_vars.ensures)

pub returns : goal.returns
returns c =
    subst (λ (gs : List LibraryVars). PutsAll lib c.args.libraries.now.items gs c.loop-other.libraries.items) (take_all c.loop-other.other-index c.args.others.now (omega arith)) c.loop-other.invariant
