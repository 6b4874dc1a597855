-- What a declaration hides is put back.
use Rattle.std.proofs.Common.{◌≡◌, ℕ, List, [], ◌∷◌, ◌++◌, cond, Bool, true, false, Option, Some, None, refl, ap, sym, ◌∙◌}
use Rattle.std.specs.Ordering.{nat_cmp, eq_by_cmp, is_eq}
use Rattle.std.specs.declared.cmp.Ordering.TheVariants.{Less, Equal, Greater}
use Rattle.std.specs.Cmp.{nat_cmp_total}
use Rattle.std.specs.FinMap.{get, insert, get-insert, get-remove, get_tied, same_map, nat_cmp-IsAntisymmetric}
use Rattle.flow_model.specs.declared.locals.LocalId.{LocalId}
use Rattle.judgement.specs.Surroundings.{Names}
use Rattle.resolve.specs.declared.names.Shadowed.{Shadowed}
use Rattle.resolve.specs.Shadows.{with_local, restored, undone}

-- names that mean the same are the same
same_names : (m n : Names) → ((q : ℕ) → get m q ≡ get n q) → m ≡ n
same_names m n is = same_map nat_cmp_total nat_cmp-IsAntisymmetric m n is

-- the second of two answers to one test is never reached
shadowed : {A : Type 0} (b : Bool) (x y z : A) → cond b x (cond b y z) ≡ cond b x z
shadowed true x y z = refl
shadowed false x y z = refl

-- a word that is given the meaning that it has means what it meant
put_back : (names : Names) (word q : ℕ) (before : Option LocalId) → get names word ≡ before
    → cond (eq_by_cmp nat_cmp q word) before (get names q) ≡ get names q
put_back names word q before is =
    elim (nat_cmp q word) as (λ r. nat_cmp q word ≡ r → cond (is_eq r) before (get names q) ≡ get names q) [
      | Less ↦ λ _. refl
      | Equal ↦ λ tied. sym is ∙ get_tied nat_cmp_total names q word tied
      | Greater ↦ λ _. refl
    ] refl

-- so does one that was declared in between
meaning_again : (names : Names) (word q : ℕ) (local : LocalId) (before : Option LocalId) → get names word ≡ before
    → cond (eq_by_cmp nat_cmp q word) before (get (insert names word local) q) ≡ get names q
meaning_again names word q local before is =
    ap (cond (eq_by_cmp nat_cmp q word) before) (get-insert nat_cmp_total names word local q)
    ∙ shadowed (eq_by_cmp nat_cmp q word) before (Some local) (get names q)
    ∙ put_back names word q before is

-- a word that is declared and then means again what it meant before changes nothing
pub with_local-insert : (names : Names) (word : ℕ) (local : LocalId) → with_local (insert names word local) word (get names word) ≡ names
with_local-insert names word local =
    elim (get names word) as (λ o. get names word ≡ o → with_local (insert names word local) word o ≡ names) [
      | None ↦ λ is. same_names _ _ (λ q. get-remove nat_cmp_total (insert names word local) word q ∙ meaning_again names word q local None is)
      | Some before ↦ λ is. same_names _ _ (λ q. get-insert nat_cmp_total (insert names word local) word before q ∙ meaning_again names word q local (Some before) is)
    ] refl

-- of what is hidden the last is put back first
pub undone-push : (names : Names) (hidden : List Shadowed) (last : Shadowed) → undone names (hidden ++ last ∷ []) ≡ undone (restored names last) hidden
undone-push names [] last = refl
undone-push names (first ∷ rest) last = ap (λ (ns : Names). restored ns first) (undone-push names rest last)

-- a declaration and what it hides change nothing together
pub undone-declared : (names : Names) (hidden : List Shadowed) (word : ℕ) (local : LocalId)
    → undone (insert names word local) (hidden ++ record { word = word; before = get names word } ∷ []) ≡ undone names hidden
undone-declared names hidden word local =
    undone-push (insert names word local) hidden (record { word = word; before = get names word })
    ∙ ap (λ (ns : Names). undone ns hidden) (with_local-insert names word local)
