use Rattle.std.proofs.Common.{◌≡◌, ◌<◌, ◌+◌, ◌∷◌, [], ◌++◌, false, map, List, ℕ, Bor, length, bytes_eq, sym, ap, ◌∙◌, subst, rules}
use Rattle.std.proofs.lemmas.List.{length-map}
use Rattle.std.specs.List.{list_any}
use Rattle.text_places.specs.Tables.{IsTable, IsFoundAt}
use Rattle.text_places.proofs.TableLemmas.{table_kept, table_more}
use Rattle.text_places.proofs.TextLemmas.{map_snoc}
use Rattle.text_places.proofs.text_places.TextPlaces.put.Goals as goal

pub invariant_of-self : goal.invariant_of-self
invariant_of-self c =
    let texts : List (List ℕ) = map (λ t. t.now) c.self.inside.texts.items in
    let text : List ℕ = c.args.text.now in
    let len : c.len.result ≡ length c.self.inside.texts.items = search rules in
    let absent : list_any (bytes_eq text) texts ≡ false = ap (list_any (bytes_eq text)) c.self.view_is ∙ c.requires in
    table_kept texts text c.self.inside.index c.put.new.self c.self.invariant absent
    (subst (λ (n : ℕ). (other : List ℕ) (at : ℕ) → at < n → bytes_eq text other ≡ false → IsFoundAt c.self.inside.index n other at → IsFoundAt c.put.new.self n other at) (len ∙ sym (length-map _ _)) c.put.ensures.others)

pub invariant_of-self-in_err-push : goal.invariant_of-self-in_err-push
invariant_of-self-in_err-push c =
    let texts : List (List ℕ) = map (λ t. t.now) c.self.inside.texts.items in
    let text : List ℕ = c.args.text.now in
    let len : c.len.result ≡ length c.self.inside.texts.items = search rules in
    let items : c.push.new.self.items ≡ c.self.inside.texts.items = search rules in
    let absent : list_any (bytes_eq text) texts ≡ false = ap (list_any (bytes_eq text)) c.self.view_is ∙ c.requires in
    subst (λ (l : List (Bor (List ℕ))). IsTable (map (λ t. t.now) l) c.put.new.self) (sym items) (table_kept texts text c.self.inside.index c.put.new.self c.self.invariant absent
    (subst (λ (n : ℕ). (other : List ℕ) (at : ℕ) → at < n → bytes_eq text other ≡ false → IsFoundAt c.self.inside.index n other at → IsFoundAt c.put.new.self n other at) (len ∙ sym (length-map _ _)) c.put.ensures.others))

pub invariant_of-self-2 : goal.invariant_of-self-2
invariant_of-self-2 c =
    let texts : List (List ℕ) = map (λ t. t.now) c.self.inside.texts.items in
    let text : List ℕ = c.args.text.now in
    let len : c.len.result ≡ length c.self.inside.texts.items = search rules in
    let items : c.push.new.self.items ≡ c.self.inside.texts.items ++ c.args.text ∷ [] = search rules in
    let absent : list_any (bytes_eq text) texts ≡ false = ap (list_any (bytes_eq text)) c.self.view_is ∙ c.requires in
    let found : IsFoundAt c.put.new.self (c.len.result + 1) text c.len.result = search rules in
    subst (λ (l : List (List ℕ)). IsTable l c.put.new.self) (sym (ap (map (λ t. t.now)) items ∙ map_snoc c.self.inside.texts.items c.args.text)) (table_more texts text c.self.inside.index c.put.new.self c.self.invariant absent
    (subst (λ (n : ℕ). (other : List ℕ) (at : ℕ) → at < n → bytes_eq text other ≡ false → IsFoundAt c.self.inside.index n other at → IsFoundAt c.put.new.self n other at) (len ∙ sym (length-map _ _)) c.put.ensures.others)
    (subst (λ (n : ℕ). IsFoundAt c.put.new.self (n + 1) text n) (len ∙ sym (length-map _ _)) found))
