use Rattle.std.proofs.Common.{◌≡◌, List, [], ◌∷◌, ◌++◌, map, refl, sym, ap, ◌∙◌}
use Rattle.dart_scan.specs.Scanned.{tokens_of, words_of}
use Rattle.grammar.specs.Tokens.{grammar_tokens}
use Rattle.grammar.specs.Whole.{unit_of}
use Rattle.interface_part.specs.declared.hidden.Hidden.{Hidden}
use Rattle.body_laws.specs.Bodies.{moved}
use Rattle.interface_texts.specs.TextParts.{hidden_of}
use Rattle.interface_texts.proofs.Numbering.{numbered_hides}
use Rattle.interface_texts.proofs.laws.edits_inside_bodies_leave_interface_parts.Goals as goal

map_both : (f : Hidden → Hidden) (xs ys : List Hidden) → map f (xs ++ ys) ≡ map f xs ++ map f ys
map_both f [] ys = refl
map_both f (x ∷ xs) ys = ap (λ (zs : List Hidden). f x ∷ zs) (map_both f xs ys)

pub returns : goal.returns
returns c in_core text other e =
    let one = unit_of in_core (grammar_tokens (tokens_of text)) in
    let two = unit_of in_core (grammar_tokens (tokens_of other)) in
    let hides : hidden_of in_core other ≡ map (moved e.moves) (hidden_of in_core text) =
    numbered_hides 0 two ∙ c.bodies_hide_alike.ensures e.moves e.freedom e.steps in_core (grammar_tokens (tokens_of text)) (grammar_tokens (tokens_of other)) e.suits e.alike
    ∙ ap (λ (hs : List Hidden). map (moved e.moves) hs) (sym (numbered_hides 0 one)) in
    let shifted : hidden_of in_core other ≡ e.above ++ moved e.moves e.part ∷ map (moved e.moves) e.below =
    hides ∙ ap (λ (hs : List Hidden). map (moved e.moves) hs) e.ranges ∙ map_both (moved e.moves) e.above (e.part ∷ e.below)
    ∙ ap (λ (hs : List Hidden). hs ++ moved e.moves e.part ∷ map (moved e.moves) e.below) e.fixed in
    c.edits_inside_leave_the_interface_part.ensures.parts (words_of text) (hidden_of in_core text) (tokens_of text) (words_of other) (hidden_of in_core other) (tokens_of other)
    (record {
      before = e.before;
      first = e.first;
      inside = e.inside;
      behind = e.behind;
      tokens = e.tokens;
      earlier = e.earlier;
      other = e.begun;
      instead = e.instead;
      moved = e.later;
      edited = e.edited;
      above = e.above;
      part = e.part;
      below = e.below;
      ranges = e.ranges;
      place = moved e.moves e.part;
      later = map (moved e.moves) e.below;
      shifted = shifted;
      begins = e.begins;
      old = e.old;
      new = e.new;
      stays = e.stays;
      comes_first = e.comes_first;
      hidden_first = e.hidden_first;
      hides_first = e.hides_first;
      on = e.on;
      back = e.back;
      moves = e.moves_on;
      hides = e.hides_on;
    })
