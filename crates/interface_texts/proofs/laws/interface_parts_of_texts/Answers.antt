use Rattle.std.proofs.Common.{ℕ, Bool, List, sym, subst, refl}
use Rattle.std.specs.Str.{IsUtf8}
use Rattle.dart_scan.specs.Scanned.{tokens_of, words_of}
use Rattle.grammar.specs.Tokens.{grammar_tokens}
use Rattle.grammar.specs.Whole.{unit_of}
use Rattle.node_counts.specs.Rising.{TextRises}
use Rattle.interface_part.specs.declared.hidden.Hidden.{Hidden}
use Rattle.interface_part.specs.Order.{RangesInOrder}
use Rattle.interface_texts.specs.TextParts.{hidden_of}
use Rattle.interface_texts.proofs.Numbering.{numbered_hides}
use Rattle.interface_texts.proofs.Ranges.{hidden_in_order}
use Rattle.interface_texts.proofs.TokenOrder.{tokens_in_order}
use Rattle.interface_texts.proofs.laws.interface_parts_of_texts.Goals as goal

pub returns : goal.returns
returns c =
    let text : List ℕ = c.args._text.now in
    let rises : IsUtf8 text → TextRises (tokens_of text) = λ utf8. (c.tokens_rise.ensures.some utf8, c.tokens_rise.ensures.apart utf8) in
    let hidden : (in_core : Bool) → IsUtf8 text → RangesInOrder 0 (hidden_of in_core text) =
    λ in_core utf8.
    let tree = unit_of in_core (grammar_tokens (tokens_of text)) in
    subst (λ (hs : List Hidden). RangesInOrder 0 hs) (sym (numbered_hides 0 tree)) (hidden_in_order tree (c.nodes_of_texts_stand_in_order.ensures.parts in_core (tokens_of text) (rises utf8))) in
    let tokens = λ (utf8 : IsUtf8 text). tokens_in_order (tokens_of text) (rises utf8) in
    record {
      tokens = tokens;
      hidden = hidden;
      lexemes = λ in_core utf8. c.interface_laws.ensures.lexemes (words_of text) (hidden_of in_core text) (tokens_of text) (tokens utf8) (hidden in_core utf8);
      marks = λ in_core utf8. c.interface_laws.ensures.marks (words_of text) (hidden_of in_core text) (tokens_of text) (tokens utf8) (hidden in_core utf8);
      unit = λ in_core u tree tokens words. rw (tree, tokens, words) refl;
    }
