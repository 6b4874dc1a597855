use Rattle.std.proofs.Common.{◌+◌, ◌<◌, List, ◌++◌, get_or, length, drop, take, false, sym, ap, ◌∙◌, arith}
use Rattle.std.proofs.lemmas.List.{get_or_default}
use Rattle.dart_tokens.specs.declared.token.Token.{Token}
use Rattle.interface_part.specs.declared.hidden.Hidden.{Hidden}
use Rattle.interface_part.specs.Interface.{count_before}
use Rattle.interface_part.specs.Numbers.{seen_from, tokens_of_parts}
use Rattle.interface_part.proofs.Numbering.{parts_within, seen_more}
use Rattle.interface_part.proofs.numbers.seen_among.Goals as goal

pub loop-range-preserved : goal.loop-range-preserved
loop-range-preserved c =
    let hs = c.args.hidden.now in
    let i = c.loop-range.range-index in
    let within : i < length hs = omega (arith, c.loop-range-test.true) in
    let h : Hidden = get_or hs i (record { span = record { start = 0; end = 0 }; in_mixin = false }) in
    let m = c.count_before-inside.result in
    let first = c.see_tokens.new.seen.items in
    let second = c.see_hidden.new.seen.items in
    let is_rest = c.behind-rest.ensures in (
      seen_more h hs i c.count_before-first.result m c.loop-range.marks c.in_ok-marks.marks _ c.loop-range.seen.items first second c.loop-range.rest.now within (get_or_default hs i _ _ within)
          c.count_before-first.ensures.count (c.count_before-inside.ensures.count ∙ ap (λ (ts : List Token). count_before h.span.end ts) is_rest) c.loop-range.invariant.0 c.in_ok-see_tokens.ensures
          (λ parts. c.in_ok-marks.ensures.added parts ∙ ap (λ (ts : List Token). first ++ seen_from (length first + c.loop-range.marks) (parts_within h (take m ts) ++ parts)) is_rest)
          ∙ ap (λ (ts : List Token). second ++ seen_from (length second + c.in_ok-marks.marks) (tokens_of_parts (drop (i + 1) hs) ts)) (sym (c.behind-rest-in-loop-range.ensures ∙ ap (λ (ts : List Token). drop m ts) is_rest)),
      omega (arith, c.in_ok-marks.ensures.more, c.loop-range.invariant.1),
    )
