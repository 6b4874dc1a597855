use Rattle.std.proofs.Common.{length, sym, ap, ◌∙◌, ◌==◌}
use Rattle.std.proofs.lemmas.Bool.{cond-true, cond-false, eq-eqb, ne_eqb}
use Rattle.dart_tokens.specs.declared.token.Kind.TheVariants.{Identifier}
use Rattle.dart_scan.proofs.KindLemmas.{kind_if_whole, kind_of_mark-whole}
use Rattle.dart_scan.proofs.kind.kind_of_mark.Goals as goal

pub returns-in_default : goal.returns-in_default
returns-in_default c = sym (kind_of_mark-whole c.args.mark.now ∙ ap (kind_if_whole c.args.mark.now) (sym c.mark_at.ensures.mark ∙ c.in_default.is))

pub returns-then-size-mark : goal.returns-then-size-mark
returns-then-size-mark c =
    sym (kind_of_mark-whole c.args.mark.now ∙ ap (kind_if_whole c.args.mark.now) (sym c.mark_at.ensures.mark ∙ c.in-Some.is)
    ∙ cond-true (c.in-Some.size == length c.args.mark.now) c.in-Some.kind Identifier (eq-eqb c.in-Some.size (length c.args.mark.now) c.if-size-mark.true))

pub returns : goal.returns
returns c =
    sym (kind_of_mark-whole c.args.mark.now ∙ ap (kind_if_whole c.args.mark.now) (sym c.mark_at.ensures.mark ∙ c.in-Some.is)
    ∙ cond-false (c.in-Some.size == length c.args.mark.now) c.in-Some.kind Identifier (ne_eqb c.in-Some.size (length c.args.mark.now) c.if-size-mark.false))
