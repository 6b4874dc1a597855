use Rattle.std.proofs.Common.{◌≡◌, ◌+◌, ◌∷◌, drop, get_or, if◌then◌else◌, true, false, sym, ◌∙◌, arith}
use Rattle.std.proofs.lemmas.List.{drop_more}
use Rattle.dart_tokens.specs.declared.token.Kind.TheVariants as kind
use Rattle.dart_tokens.specs.declared.grouped_token.GroupedToken.{GroupedToken as Token}
use Rattle.segment_faults.specs.Nesting.{is_punctuation}
use Rattle.segment_faults.proofs.Outsides.{counted_inside, counted_outside}
use Rattle.segment_faults.proofs.nesting.is_long.Goals as goal
use Rattle.segment_faults.proofs.nesting.is_long.Goals.{then-inside-gt0, else-inside-gt0, then-is_punctuation, else-is_punctuation}

pub loop-token-preserved : goal.loop-token-preserved
loop-token-preserved c =
    let segment = c.args.segment.now in
    let index = c.loop-token.token-index in
    let t : Token = get_or segment index (record { kind = kind.Identifier; is_closed = false; start = 0; end = 0; word = 0; width = 0 }) in
    let front : drop index segment ≡ t ∷ drop (index + 1) segment = drop_more segment index _ c.loop-token-test.true in
    elim c.if-inside-gt0.branch [
      | then-inside-gt0 w ↦
          (
          let some = w.if-inside-gt0.true in
          let less = w.inside-is in
          counted_inside segment (drop index segment) (drop (index + 1) segment) t index c.loop-token.inside c.if-inside-gt0.inside c.loop-token.lexemes c.if-inside-gt0.lexemes
          front (omega (arith, some, less)) w.lexemes-is c.loop-token.invariant
          )
      | else-inside-gt0 w ↦
          (
          let more : c.if-inside-gt0.lexemes ≡ (if is_punctuation t then c.loop-token.lexemes + 1 else c.loop-token.lexemes) = elim w.if-is_punctuation.branch [
            | then-is_punctuation v ↦ (let p : is_punctuation t ≡ true = sym w.is_punctuation.ensures ∙ v.if-is_punctuation.true in rw p (w.lexemes-is ∙ v.lexemes-is))
            | else-is_punctuation v ↦ (let p : is_punctuation t ≡ false = sym w.is_punctuation.ensures ∙ v.if-is_punctuation.false in rw p (w.lexemes-is ∙ v.lexemes-is))
          ] in
          counted_outside segment (drop index segment) (drop (index + 1) segment) t index c.loop-token.inside c.if-inside-gt0.inside c.loop-token.lexemes c.if-inside-gt0.lexemes
          front w.if-inside-gt0.false w.inside-is more c.loop-token.invariant
          )
    ]
