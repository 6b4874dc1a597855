use Rattle.std.proofs.Common.{◌≡◌, ◌≤◌, length, Ok, sym, ap, ◌∙◌, subst, List, ℕ, map-id}
use Rattle.std.specs.List.{splice}
use Rattle.std.proofs.lemmas.Iterator.{items_from_drains}
use Rattle.std.proofs.lemmas.Iterator.Adapters.{YieldsList-from_vec}
use Rattle.dart_text.specs.Edits.{max_text, edited}
use Rattle.dart_text.specs.Pieces.{spelt}
use Rattle.dart_text.specs.declared.piece.Piece.{Piece}
use Rattle.dart_text.proofs.PieceLemmas.{changed_puts, changed_short}
use Rattle.dart_text.proofs.edited_text.EditedText.edit.Goals as goal

-- the pieces of the change stand in the place of the old ones
pieces_after : (c : goal.After-drop-change-2) → c.splice.new.self.items ≡ splice c.deref.result.now c.in_ok-change.change.first c.in_ok-change.change.last c.in_ok-pieces.pieces.items
pieces_after c =
    let h = c.in_ok-splice.ensures.items in
    let drained : h.1 ≡ c.in_ok-pieces.pieces.items =
    sym (map-id h.1)
    ∙ items_from_drains h.1 (h.3.1.0, h.3.1.1, (λ _. (h.3.0, h.3.1.2)))
    (YieldsList-from_vec {s = h.0} c.in_ok-pieces.pieces.items h.2.0 (h.2.1 ∙ c.in_ok-pieces.pieces.ok.0)) in
    h.4
    ∙ (ap (λ (l : List Piece). splice c.self.inside.pieces.items c.in_ok-change.change.first c.in_ok-change.change.last l) drained
    ∙ ap (λ (l : List Piece). splice l c.in_ok-change.change.first c.in_ok-change.change.last c.in_ok-pieces.pieces.items) (sym c.deref.ensures.value))

pub invariant_of-self-2 : goal.invariant_of-self-2
invariant_of-self-2 c =
    let P : List Piece → Type 0 = λ l. length (spelt l) ≤ max_text in
    subst P (sym (pieces_after c))
    (changed_short c.deref.result.now c.in_ok-pieces.pieces.items (edited (spelt c.deref.result.now) c.args.offset c.args.length c.args.with.now) c.in_ok-change.change c.in_ok-change.ensures.ok (c.in_ok-pieces.ensures ∙ c.as_str.ensures.value))

pub returns : goal.returns
returns c =
    ap (λ (l : List ℕ). edited l c.args.offset c.args.length c.args.with.now) (sym c.gather.ensures ∙ (sym c.self.view_is ∙ ap (λ (l : List Piece). spelt l) (sym c.deref.ensures.value)))
    ∙ (changed_puts c.deref.result.now c.in_ok-pieces.pieces.items (edited (spelt c.deref.result.now) c.args.offset c.args.length c.args.with.now) c.in_ok-change.change c.in_ok-change.ensures.ok (c.in_ok-pieces.ensures ∙ c.as_str.ensures.value)
    ∙ ap (λ (l : List Piece). Ok (spelt l)) (sym (pieces_after c)))
