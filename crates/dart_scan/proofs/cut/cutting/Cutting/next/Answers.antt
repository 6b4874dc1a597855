use Rattle.std.proofs.Common.{false, length, sym, ap, subst, ◌∙◌, arith}
use Rattle.dart_scan.specs.Strings.{string_form}
use Rattle.dart_scan.specs.Pieces.{piece_at, braces_behind}
use Rattle.dart_scan.specs.Cutting.{Steps}
use Rattle.dart_scan.proofs.CuttingLemmas.{enters, passes, rest-size, braces-within}
use Rattle.dart_scan.proofs.CuttingViews.{on-ok}
use Rattle.dart_scan.proofs.cut.cutting.Cutting.next.Goals as goal

pub piece_at-requires : goal.piece_at-requires
piece_at-requires c = omega (arith, ap length c.rest-rest.ensures.rest, rest-size c.args.self.now c.requires.sound, c.requires.some)

pub braces_behind-requires : goal.braces_behind-requires
braces_behind-requires c = omega (arith, braces-within c.args.self.now c.args.braces c.requires.sound c.requires.code, c.requires.some, c.rest-rest.ensures.bound)

pub pass-requires : goal.pass-requires
pass-requires c =
    omega (arith, c.piece_at.ensures.within, ap length c.rest-rest.ensures.rest, rest-size c.args.self.now c.requires.sound, c.requires.some, c.requires.sound.inside)

pub returns-in-Some : goal.returns-in-Some
returns-in-Some c =
    subst (λ n. Steps c.args.self.now n) (sym c.enter.ensures.entered)
    (enters c.args.self.now c.in-Some.form c.args.braces c.enter.new.self.line c.requires.sound c.requires.code c.requires.some c.requires.outside
    (ap string_form (sym c.rest-rest.ensures.rest) ∙ sym c.in-Some.ensures) c.enter.ensures.line c.enter.ensures.from)

pub returns-in-None : goal.returns-in-None
returns-in-None c =
    on-ok c.pass.result c.pass.ensures
    (λ e. subst (λ n. Steps c.args.self.now n) (sym e)
    (passes c.args.self.now c.piece_at.result c.args.braces c.braces_behind.result c.requires.sound c.requires.code c.requires.some c.requires.outside
    (ap string_form (sym c.rest-rest.ensures.rest) ∙ sym c.in-None.ensures) (c.piece_at.ensures.piece ∙ ap (piece_at false) c.rest-rest.ensures.rest) c.piece_at.ensures.some
    (omega (arith, c.piece_at.ensures.within, ap length c.rest-rest.ensures.rest)) (c.braces_behind.ensures ∙ ap (braces_behind c.args.braces) c.rest-rest.ensures.rest)))
