-- The name of a setter is a name and a last `=`.
use Rattle.std.proofs.Common.{◌≡◌, ℕ, ◌+◌, Bool, true, false, List, [], ◌∷◌, ◌++◌, length, take, drop, get_or, Decides, refl, sym, ap, ◌∙◌, arith}
use Rattle.std.proofs.lemmas.List.{drop_more, drop_all, take-append-drop, take_at, get_or_at}
use Rattle.std.proofs.lemmas.Bool.Decides.{same_from_decides}
use Rattle.std.proofs.lemmas.Bool.{false_from_ne_true}
use Rattle.std.proofs.lemmas.Slice.Eq.{bytes_eq-Decides}
use Rattle.std.specs.Str.{bytes_eq}
use Rattle.element_terms.specs.NameTexts.{is_setter_of}

module _ (name setter : List ℕ) (size : length setter ≡ length name + 1) where
  last_part : get_or setter (length name) 0 ≡ 61 → setter ≡ take (length name) setter ++ 61 ∷ []
  last_part last =
      let rest : drop (length name) setter ≡ 61 ∷ [] = drop_more setter (length name) 0 (omega arith) ∙ (ap (λ (k : ℕ). k ∷ drop (length name + 1) setter) last ∙ ap (λ (ks : List ℕ). 61 ∷ ks) (drop_all (length name + 1) setter (omega arith))) in
      sym (take-append-drop (length name) setter) ∙ ap (λ (ks : List ℕ). take (length name) setter ++ ks) rest

  pub setter_then : get_or setter (length name) 0 ≡ 61 → (r : Bool) → r ≡ bytes_eq (take (length name) setter) name → r ≡ is_setter_of name setter
  setter_then last r is =
      let fronts = bytes_eq-Decides (take (length name) setter) name in
      let same : Decides r (name ++ 61 ∷ [] ≡ setter) = (
        λ e. ap (λ (ks : List ℕ). ks ++ 61 ∷ []) (sym (fronts.0 (sym is ∙ e))) ∙ sym (last_part last),
        λ e. is ∙ fronts.1 (ap (λ (ks : List ℕ). take (length name) ks) (sym e) ∙ take_at name (61 ∷ []) (length name) refl),
      ) in
      same_from_decides r (is_setter_of name setter) same (bytes_eq-Decides (name ++ 61 ∷ []) setter)

  pub setter_else : (get_or setter (length name) 0 ≡ 61 → ⊥) → false ≡ is_setter_of name setter
  setter_else other =
      let wholes = bytes_eq-Decides (name ++ 61 ∷ []) setter in
      let never : is_setter_of name setter ≡ true → ⊥ = λ e. other (ap (λ (ks : List ℕ). get_or ks (length name) 0) (sym (wholes.0 e)) ∙ get_or_at name 61 [] 0 (length name) refl) in
      sym (false_from_ne_true (is_setter_of name setter) never)
