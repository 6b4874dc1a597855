use Rattle.std.proofs.Common.{◌≡◌, ℕ, List, Bor, Some, bytes_eq, map, position, slice_get, subst}
use Rattle.text_places.proofs.TextLemmas.{position_where_alone}
use Rattle.text_places.proofs.text_places.TextPlaces.hinted.Goals as goal

pub returns-then-is_at : goal.returns-then-is_at
returns-then-is_at c =
    let text : List ℕ = c.args.text.now in
    let texts : List (List ℕ) = map (λ t. t.now) c.self.inside.texts.items in
    let place : ℕ = c.in_ok-place.place in
    let here : slice_get texts place ≡ Some text =
    subst (λ (lent : List (Bor (List ℕ))). slice_get (map (λ t. t.now) lent) place ≡ Some text) c.as_slice.ensures.value (c.is_at.ensures.0 c.if-is_at.true) in
    subst (λ (those : List (List ℕ)). position (bytes_eq text) those ≡ Some place) c.self.view_is (position_where_alone text texts place here (λ other is. c.self.invariant.once other place text is here))
