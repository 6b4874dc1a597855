use Rattle.std.proofs.Common.{◌≡◌, ℕ, Bool, List}
use Rattle.std.specs.Str.{IsUtf8}
use Rattle.dart_scan.specs.Scanned.{tokens_of}
use Rattle.interface_texts.specs.TextParts.{interface_of_text}
use Rattle.text_edits.specs.EditedBraces.{EditedBraces}
use Rattle.text_edits.proofs.Shifts.{in_turn}
use Rattle.text_edits.proofs.Whole.{edited_body}
use Rattle.text_edits.proofs.Pieces.{edited_braces}
use Rattle.text_edits.proofs.laws.edits_in_braces_leave_interface_parts.Goals as goal

pub returns : goal.returns
returns c =
    let text : List ℕ = c.args._text.now in
    let other : List ℕ = c.args._other.now in
    let lexemes : (in_core : Bool) → IsUtf8 text → IsUtf8 other → EditedBraces in_core text other → interface_of_text in_core text ≡ interface_of_text in_core other =
    λ in_core utf8 utf8_too e.
    let turn = in_turn (tokens_of text) (c.tokens_rise.ensures.some utf8) (c.tokens_rise.ensures.apart utf8) in
    let turn_too = in_turn (tokens_of other) (c.tokens_rise-2.ensures.some utf8_too) (c.tokens_rise-2.ensures.apart utf8_too) in
    c.edits_inside_bodies_leave_interface_parts.ensures in_core text other (edited_body in_core text other e (c.interface_parts_of_texts.ensures.hidden in_core utf8) turn turn_too) in
    record { lexemes = lexemes; pieces = λ in_core utf8 utf8_too e. lexemes in_core utf8 utf8_too (edited_braces in_core text other e) }
