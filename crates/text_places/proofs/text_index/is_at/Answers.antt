use Rattle.std.proofs.Common.{◌≡◌, Some, None, bytes_eq, map, slice_get, sym, ap, ◌∙◌, rules}
use Rattle.std.specs.Option.{option_copied, option_map}
use Rattle.std.specs.Cmp.Lexicographic.{bytes_decides}
use Rattle.std.proofs.lemmas.Option.{none-some, same_Some, slice_get-map}
use Rattle.text_places.proofs.text_index.is_at.Goals as goal

pub returns-in-Some : goal.returns-in-Some
returns-in-Some c =
    let here : slice_get c.args.texts.now c.args.place ≡ Some c.in-Some.held.now = sym c.text_at.ensures ∙ ap option_copied c.in-Some.is in
    let there : slice_get (map (λ t. t.now) c.args.texts.now) c.args.place ≡ Some c.in-Some.held.now.now = slice_get-map _ c.args.texts.now c.args.place ∙ ap (option_map (λ t. t.now)) here in
    let test : c.eq.result ≡ bytes_eq c.in-Some.held.now.now c.args.text.now = search rules in (
      λ is. there ∙ ap Some ((bytes_decides c.in-Some.held.now.now c.args.text.now).0 (sym test ∙ is)),
      λ is. test ∙ (bytes_decides c.in-Some.held.now.now c.args.text.now).1 (same_Some c.in-Some.held.now.now c.args.text.now (sym there ∙ is)),
    )

pub returns-in-None : goal.returns-in-None
returns-in-None c =
    let here : slice_get c.args.texts.now c.args.place ≡ None = sym c.text_at.ensures ∙ ap option_copied c.in-None.is in
    let there : slice_get (map (λ t. t.now) c.args.texts.now) c.args.place ≡ None = slice_get-map _ c.args.texts.now c.args.place ∙ ap (option_map (λ t. t.now)) here in
    (λ is. cc is, λ is. absurd (none-some c.args.text.now (sym there ∙ is)))
