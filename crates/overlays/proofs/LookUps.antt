-- What is found among texts after one is put or dropped, and that texts in order are what is found among them.
use Rattle.std.proofs.Common.{◌≡◌, ◌≢◌, ℕ, Bool, false, not, List, [], ◌∷◌, Option, Some, None, cond, if◌then◌else◌, refl, sym, ap, ◌∙◌, subst}
use Rattle.std.specs.Prelude.{filter, bytes_eq}
use Rattle.std.specs.Ordering.{match_ordering}
use Rattle.std.specs.declared.cmp.Ordering.TheVariants.{Less, Greater}
use Rattle.std.proofs.lemmas.Map.Keys.{sorted_head, sorted_tail}
use Rattle.overlays.specs.Tables.{PathsAndTexts, IsInOrder, text_in, put_text, drop_text, with_text}
use Rattle.overlays.proofs.Paths.{path_cmp, by_order, by_sameness, turned, same_path, is_same, differs, differs-below, differs-above}
use Rattle.overlays.proofs.Order.{paths_of, AllBehind, all_behind, order-put, order-drop}

module _ (path text : List ℕ) where
  -- the text that was put at a path is found there
  pub text_in-put : (table : PathsAndTexts) → text_in path (put_text path text table) ≡ Some text
  unfolding text_in put_text
  text_in-put [] = rw (is_same path path refl) refl
  text_in-put (e ∷ more) =
      by_order path e.0 (λ o. text_in path (match_ordering o ((path, text) ∷ e ∷ more) ((path, text) ∷ more) (e ∷ put_text path text more)) ≡ Some text)
      (λ less. rw (is_same path path refl) refl) (λ equal. rw (is_same path path refl) refl) (λ greater. rw (differs-above path e.0 greater) (text_in-put more))

  -- every other path has the text that it had
  pub text_in-put_other : (other : List ℕ) → other ≢ path → (table : PathsAndTexts) → text_in other (put_text path text table) ≡ text_in other table
  unfolding text_in put_text
  text_in-put_other other is_other [] = rw (differs other path is_other) refl
  text_in-put_other other is_other (e ∷ more) =
      by_order path e.0 (λ o. text_in other (match_ordering o ((path, text) ∷ e ∷ more) ((path, text) ∷ more) (e ∷ put_text path text more)) ≡ (if bytes_eq other e.0 then Some e.1 else text_in other more))
      (λ less. rw (differs other path is_other) refl)
      (λ equal. rw (← same_path path e.0 equal, differs other path is_other) refl)
      (λ greater. ap (λ (found : Option (List ℕ)). if bytes_eq other e.0 then Some e.1 else found) (text_in-put_other other is_other more))

module _ (path : List ℕ) where
  -- the texts without the one at the path, of a first one and others
  abbrev kept : List ℕ × List ℕ → PathsAndTexts → Bool → PathsAndTexts
  kept e more b = cond (not b) (e ∷ filter (λ e. not (bytes_eq path e.0)) more) (filter (λ e. not (bytes_eq path e.0)) more)

  -- a text that was dropped is found no more
  pub text_in-drop : (table : PathsAndTexts) → text_in path (drop_text path table) ≡ None
  unfolding text_in drop_text
  text_in-drop [] = refl
  text_in-drop (e ∷ more) =
      by_sameness path e.0 (λ b. text_in path (kept e more b) ≡ None)
      (λ same. text_in-drop more) (λ other. rw other (text_in-drop more))

  -- every other path has the text that it had
  pub text_in-drop_other : (other : List ℕ) → other ≢ path → (table : PathsAndTexts) → text_in other (drop_text path table) ≡ text_in other table
  unfolding text_in drop_text
  text_in-drop_other other is_other [] = refl
  text_in-drop_other other is_other (e ∷ more) =
      by_sameness path e.0 (λ b. text_in other (kept e more b) ≡ (if bytes_eq other e.0 then Some e.1 else text_in other more))
      (λ same. rw (← same, differs other path is_other) (text_in-drop_other other is_other more))
      (λ differ. ap (λ (found : Option (List ℕ)). if bytes_eq other e.0 then Some e.1 else found) (text_in-drop_other other is_other more))

-- what another file has afterwards
pub text_in-with_other : (path : List ℕ) (text : Option (List ℕ)) (other : List ℕ) → other ≢ path → (table : PathsAndTexts) → text_in other (with_text path text table) ≡ text_in other table
text_in-with_other path None other is_other table = text_in-drop_other path other is_other table
text_in-with_other path (Some text) other is_other table = text_in-put_other path text other is_other table

pub order-with : (path : List ℕ) (text : Option (List ℕ)) (table : PathsAndTexts) → IsInOrder table → IsInOrder (with_text path text table)
order-with path None table order = order-drop path table order
order-with path (Some text) table order = order-put path text table order

-- a path before all others has no text
none_before : (path : List ℕ) (table : PathsAndTexts) → AllBehind path (paths_of table) → text_in path table ≡ None
unfolding text_in
none_before path [] all = refl
none_before path (e ∷ more) all = rw (differs-below path e.0 all.0) (none_before path more all.1)

-- no texts have one
none_among : (path : List ℕ) → text_in path [] ≡ None
unfolding text_in
none_among path = refl

-- the path of the first text has that text
first_text : (e : List ℕ × List ℕ) (more : PathsAndTexts) → text_in e.0 (e ∷ more) ≡ Some e.1
unfolding text_in
first_text e more = rw (is_same e.0 e.0 refl) refl

-- the path of a text before all others is in no others that begin with a greater one
first_is_missing : (e f : List ℕ × List ℕ) (more : PathsAndTexts) → IsInOrder (f ∷ more) → path_cmp e.0 f.0 ≡ Less → text_in e.0 (f ∷ more) ≡ None
unfolding text_in
first_is_missing e f more order less =
    rw (differs-below e.0 f.0 less) (none_before e.0 more (all_behind e.0 f.0 less (paths_of more) (sorted_head path_cmp f.0 (paths_of more) order)))

-- another path has what it has behind the first text
next_text : (path : List ℕ) (e : List ℕ × List ℕ) (more : PathsAndTexts) → bytes_eq path e.0 ≡ false → text_in path (e ∷ more) ≡ text_in path more
unfolding text_in
next_text path e more other = rw other refl

module _ (e f : List ℕ × List ℕ) (left right : PathsAndTexts) (order_left : IsInOrder (e ∷ left)) (order_right : IsInOrder (f ∷ right)) (same : (path : List ℕ) → text_in path (e ∷ left) ≡ text_in path (f ∷ right)) where
  -- of two first texts neither has the smaller path
  not_less : path_cmp e.0 f.0 ≡ Less → ⊥
  not_less less = let found = sym (first_text e left) ∙ (same e.0 ∙ first_is_missing e f right order_right less) in cc

  not_greater : path_cmp e.0 f.0 ≡ Greater → ⊥
  not_greater greater =
      let found = sym (first_text f right) ∙ (sym (same f.0) ∙ first_is_missing f e left order_left (turned e.0 f.0 Greater greater)) in cc

  -- of the same path they are the same
  same_first : e.0 ≡ f.0 → e ≡ f
  same_first is =
      let found = sym (first_text e left) ∙ (same e.0 ∙ (ap (λ (p : List ℕ). text_in p (f ∷ right)) is ∙ first_text f right)) in
      let text : e.1 ≡ f.1 = cc in
      let pair : List ℕ → List ℕ → List ℕ × List ℕ = λ p t. (p, t) in
      ap (λ (p : List ℕ). pair p e.1) is ∙ ap (λ (t : List ℕ). pair f.0 t) text

  -- and then each path finds the same behind them
  same_behind : e.0 ≡ f.0 → (path : List ℕ) → text_in path left ≡ text_in path right
  same_behind is path =
      by_sameness path e.0 (λ _. text_in path left ≡ text_in path right)
      (λ first.
      none_before path left (subst (λ p. AllBehind p (paths_of left)) (sym first) (sorted_head path_cmp e.0 (paths_of left) order_left))
      ∙ sym (none_before path right (subst (λ p. AllBehind p (paths_of right)) (sym (first ∙ is)) (sorted_head path_cmp f.0 (paths_of right) order_right))))
      (λ other. sym (next_text path e left other) ∙ (same path ∙ next_text path f right (ap (bytes_eq path) (sym is) ∙ other)))

-- texts in order are the same where each path finds the same among them
pub same_texts : (left right : PathsAndTexts) → IsInOrder left → IsInOrder right → ((path : List ℕ) → text_in path left ≡ text_in path right) → left ≡ right
same_texts [] [] order_left order_right same = refl
same_texts [] (f ∷ right) order_left order_right same = let found = same f.0 ∙ first_text f right in cc (found, none_among f.0)
same_texts (e ∷ left) [] order_left order_right same = let found = sym (same e.0) ∙ first_text e left in cc (found, none_among e.0)
same_texts (e ∷ left) (f ∷ right) order_left order_right same =
    by_order e.0 f.0 (λ _. e ∷ left ≡ f ∷ right)
    (λ less. absurd (not_less e f left right order_left order_right same less))
    (λ equal.
    let is = same_path e.0 f.0 equal in
    let behind = same_behind e f left right order_left order_right same is in
    let rest = same_texts left right (sorted_tail path_cmp e.0 (paths_of left) order_left) (sorted_tail path_cmp f.0 (paths_of right) order_right) behind in
    ap (λ (first : List ℕ × List ℕ). first ∷ left) (same_first e f left right order_left order_right same is) ∙ ap (λ (more : PathsAndTexts). f ∷ more) rest)
    (λ greater. absurd (not_greater e f left right order_left order_right same greater))
