use Rattle.std.proofs.Common.{◌≡◌, [], ◌∷◌, ◌++◌, None, false, bytes_eq, length, sym, ap, ◌∙◌, rules}
use Rattle.std.proofs.lemmas.List.{length-map}
use Rattle.std.specs.List.{list_any}
use Rattle.std.proofs.lemmas.Bool.{cond-false, cond-true}
use Rattle.text_places.proofs.TextLemmas.{any_where_some, length_where_none, none_any, nowhere_where_none}
use Rattle.text_places.proofs.text_places.TextPlaces.add_unhinted.Goals.{then-is_full_of+in_ok-self-inside, else-is_full_of}
use Rattle.text_places.proofs.text_places.TextPlaces.add_unhinted.Goals as goal

pub returns-in-Some-clause-texts : goal.returns-in-Some-clause-texts
returns-in-Some-clause-texts c = sym (cond-true _ _ _ (any_where_some c.args.text.now c.args.self.now c.in-Some.place (sym c.place_of.ensures ∙ c.in-Some.is)))

pub put-requires : goal.put-requires
put-requires c =
    let none : c.place_of.result ≡ None = search rules in
    let same : c.if-is_full_of.self ≡ c.args.self.now = elim c.if-is_full_of.branch [
      | then-is_full_of+in_ok-self-inside w ↦ search rules
      | else-is_full_of w ↦ search rules
    ] in
    ap (list_any (bytes_eq c.args.text.now)) same ∙ none_any c.args.text.now c.args.self.now (nowhere_where_none c.args.text.now c.args.self.now (sym c.place_of.ensures ∙ none))

pub returns-clause-texts : goal.returns-clause-texts
returns-clause-texts c =
    let none : c.place_of.result ≡ None = search rules in
    let same : c.if-is_full_of.self ≡ c.args.self.now = elim c.if-is_full_of.branch [
      | then-is_full_of+in_ok-self-inside w ↦ search rules
      | else-is_full_of w ↦ search rules
    ] in
    let put : c.put.new.self ≡ c.if-is_full_of.self ++ c.args.text.now ∷ [] = search rules in
    let absent : list_any (bytes_eq c.args.text.now) c.args.self.now ≡ false = none_any c.args.text.now c.args.self.now (nowhere_where_none c.args.text.now c.args.self.now (sym c.place_of.ensures ∙ none)) in
    put ∙ (ap (λ ts. ts ++ c.args.text.now ∷ []) same ∙ sym (cond-false _ _ _ absent))

pub returns-clause-place : goal.returns-clause-place
returns-clause-place c =
    let none : c.place_of.result ≡ None = search rules in
    let len : c.len-place.result ≡ length c.self.inside.texts.items = search rules in
    len ∙ (sym (length-map _ _) ∙ (ap length c.self.view_is ∙ sym (length_where_none c.args.text.now c.args.self.now (nowhere_where_none c.args.text.now c.args.self.now (sym c.place_of.ensures ∙ none)))))
