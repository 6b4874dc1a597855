use Rattle.std.proofs.Common.{◌≡◌, ℕ, List, true, false, nat_lt, get_or, sym, ap, ◌∙◌, arith, subst}
use Rattle.std.specs.List.Sorted.{IsPartitionPoint}
use Rattle.std.proofs.lemmas.List.{get_or_default}
use Rattle.dart_types.specs.Groups.{PutsIn}
use Rattle.dart_types.specs.declared.var_libraries.LibraryVars.{LibraryVars}
use Rattle.dart_types.proofs.Groups.{puts_known, puts_new}
use Rattle.dart_types.proofs.var_libraries.put_vars.Goals as goal
use Rattle.dart_types.proofs.var_libraries.put_vars.Goals.{else-at-len-via-then-at-len+else-library-lib, else-at-len-via-else-at-len}

abbrev lib : LibraryVars → ℕ
lib l = l.lib.0

-- the library stands there
pub returns-then-library-lib : goal.returns-then-library-lib
returns-then-library-lib c =
    let here = c.index.result.now in
    puts_known lib c.args.libraries.now.items c.args.library c.requires here (c.place_of_library-at.result, omega arith, sym c.index.ensures)
    (ap lib (sym c.library-then-at-len.ensures) ∙ c.if-library-lib.true ∙ ap lib c.library-2.ensures)

-- it is put there
pub returns : goal.returns
returns c =
    let gs = c.args.libraries.now.items in
    let at = c.place_of_library-at.result in
    let g = c.args.library in
    let same : c.library-2.result.now ≡ g = c.library-2.ensures in
    let parts =
    subst (λ (l : LibraryVars). IsPartitionPoint (λ (h : LibraryVars). nat_lt h.lib.0 l.lib.0 ≡ true) (λ (h : LibraryVars). nat_lt h.lib.0 l.lib.0 ≡ false) gs at) same
    (subst (λ (hs : List LibraryVars). IsPartitionPoint (λ (h : LibraryVars). nat_lt h.lib.0 c.library-2.result.now.lib.0 ≡ true) (λ (h : LibraryVars). nat_lt h.lib.0 c.library-2.result.now.lib.0 ≡ false) hs at) c.deref.ensures.value c.place_of_library-at.ensures.parts) in
    subst (λ (hs : List LibraryVars). PutsIn lib gs g hs) (sym c.in_ok-insert.ensures.items)
    (puts_new lib gs g c.requires at (omega arith) parts (λ lt e. elim c.else-at-len.branch [
      | else-at-len-via-then-at-len+else-library-lib w ↦
          let there : w.library-then-at-len.result.now ≡ get_or gs at g = w.library-then-at-len.ensures ∙ w.index.ensures ∙ get_or_default gs at w.index.result.now g lt in
          w.if-library-lib.false (ap lib there ∙ e ∙ ap lib (sym same))
      | else-at-len-via-else-at-len w ↦ absurd (omega (arith, lt, w.if-at-len.false))
    ]))
