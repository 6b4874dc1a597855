-- What is known of the items before one.
use Rattle.std.proofs.Common.{◌≡◌, Bool, true, false, ◌||◌, List, [], ◌∷◌, ◌++◌, ◌∙◌, refl, ap}
use Rattle.std.specs.List.{list_any}
use Rattle.std.proofs.lemmas.List.Folds.{list_any-append}
use Rattle.dart_tree.specs.Tree.{Trees, no_more, more}
use Rattle.dart_tree.specs.declared.places.Span.{Span}
use Rattle.directives.specs.declared.order.Role.{Role}
use Rattle.directives.specs.declared.order.Seen.{Seen}
use Rattle.directives.specs.Order.{is_declaration, is_directive, is_part, is_part_of, misplaced_behind, misplaced_from, misplaced_item, role_of, seen_after, seen_in}

or_none : (b : Bool) → (b || false) ≡ b
or_none true = refl
or_none false = refl

-- one more is of a kind, or one before is
one_more : (p : Role → Bool) (before : List Role) (role : Role) → list_any p (before ++ role ∷ []) ≡ (list_any p before || p role)
one_more p before role = list_any-append p before (role ∷ []) ∙ ap (λ b. list_any p before || b) (or_none (p role))

-- one more item is seen
pub seen_more : (before : List Role) (role : Role) → seen_in (before ++ role ∷ []) ≡ seen_after (seen_in before) role
seen_more before role =
    let declaration : list_any is_declaration (before ++ role ∷ []) ≡ (list_any is_declaration before || is_declaration role) = one_more is_declaration before role in
    let directive : list_any is_directive (before ++ role ∷ []) ≡ (list_any is_directive before || is_directive role) = one_more is_directive before role in
    let part : list_any is_part (before ++ role ∷ []) ≡ (list_any is_part before || is_part role) = one_more is_part before role in
    let part_of : list_any is_part_of (before ++ role ∷ []) ≡ (list_any is_part_of before || is_part_of role) = one_more is_part_of before role in
    cc

-- what is known of the items before is enough
pub from_seen : (beside : Bool) (before : List Role) (items : Trees) → misplaced_behind beside before items ≡ misplaced_from beside (seen_in before) items
from_seen beside before no_more = refl
from_seen beside before (more first rest) =
    ap (λ (spans : List Span). misplaced_item beside (seen_in before) first ++ spans) (from_seen beside (before ++ role_of first ∷ []) rest ∙ ap (λ (seen : Seen). misplaced_from beside seen rest) (seen_more before (role_of first)))
