use Rattle.std.proofs.Common.{◌≡◌, ◌∙◌, List, ◌∷◌, ◌-◌, ap, sym, subst, arith, drop}
use Rattle.load_files.specs.declared.packages.Package.{Package}
use Rattle.packages_file.proofs.Names.{AreNames, one_more, comes_again, one_before}
use Rattle.packages_file.proofs.read.are_distinct.Goals as goal

pub returns-then-not-branch : goal.returns-then-not-branch
returns-then-not-branch c =
    let here : drop (c.loop-index.index - 1) c.args.packages.now ≡ (c.index-packages-index.result ∷ drop c.loop-index.index c.args.packages.now) =
    one_before c.args.packages.now (c.loop-index.index - 1) c.loop-index.index c.index-packages-index.result (omega arith) (omega arith) c.index-packages-index.is in
    let named : c.as_str-name.result.now ≡ c.index-packages-index.result.name = c.as_str-name.ensures ∙ ap (λ (found : Package). found.name) (sym c.index-packages-index.is) in
    sym (comes_again (c.loop-index.index - 1) c.args.packages.now c.loop-index.names c.index-packages-index.result c.as_str-name.result (drop c.loop-index.index c.args.packages.now)
    here named c.loop-index.invariant (sym c.in_ok-insert.ensures.added ∙ c.if-not-branch.true))

pub loop-index-preserved : goal.loop-index-preserved
loop-index-preserved c =
    let here : drop (c.loop-index.index - 1) c.args.packages.now ≡ (c.index-packages-index.result ∷ drop c.loop-index.index c.args.packages.now) =
    one_before c.args.packages.now (c.loop-index.index - 1) c.loop-index.index c.index-packages-index.result (omega arith) (omega arith) c.index-packages-index.is in
    let named : c.as_str-name.result.now ≡ c.index-packages-index.result.name = c.as_str-name.ensures ∙ ap (λ (found : Package). found.name) (sym c.index-packages-index.is) in
    subst (λ (last : List Package). AreNames c.insert.new.self last) (sym here)
    (one_more c.loop-index.names c.insert.new.self c.index-packages-index.result c.as_str-name.result (drop c.loop-index.index c.args.packages.now)
    named c.loop-index.invariant (sym c.in_ok-insert.ensures.added ∙ c.if-not-branch.false) c.in_ok-insert.ensures.updates)
