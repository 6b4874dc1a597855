use Rattle.std.proofs.Common.{◌≡◌, ◌<◌, ℕ, List, Bor, Some, bytes_eq, length, map, slice_get, sym, ap, ◌∙◌, subst, rules}
use Rattle.std.specs.List.{list_any}
use Rattle.text_places.proofs.TextLemmas.{new_in_front}
use Rattle.text_places.proofs.text_places.TextPlaces.widened.Goals as goal

pub put-requires : goal.put-requires
put-requires c =
    let lent : List (Bor (List ℕ)) = c.as_slice-texts.result.now in
    let same : c.as_slice-texts.result.now ≡ c.self.inside.texts.items = c.as_slice-texts.ensures.value in
    let less : c.loop-text.text-index < length c.as_slice-texts.result.now = search rules in
    let once : (one other : ℕ) (text : List ℕ) → slice_get (map (λ t. t.now) lent) one ≡ Some text → slice_get (map (λ t. t.now) lent) other ≡ Some text → one ≡ other =
    subst (λ (l : List (Bor (List ℕ))). (one other : ℕ) (text : List ℕ) → slice_get (map (λ t. t.now) l) one ≡ Some text → slice_get (map (λ t. t.now) l) other ≡ Some text → one ≡ other) (sym same) c.self.invariant.once in
    ap (list_any (bytes_eq _)) c.loop-text.invariant ∙ new_in_front lent once c.loop-text.text-index _ less
