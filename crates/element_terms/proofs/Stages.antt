-- Names that move from one stage to another.
use Rattle.std.proofs.Common.{◌≡◌, inl, inr, ℕ, Bool, true, false, ◌&&◌, ◌||◌, bytes_eq, List, refl, sym, ap, ◌∙◌}
use Rattle.std.specs.Prelude.{◌==◌, if◌then◌else◌, Option, Some, String, unwrap_or}
use Rattle.std.specs.BTreeMap.{BTreeMap, get_by_text}
use Rattle.std.proofs.lemmas.Bool.{eq-eqb, ne_eqb}
use Rattle.std.proofs.lemmas.Slice.Eq.{bytes_eq-Decides}
use Rattle.element_terms.specs.PassTables.{stage_of}

pub or_none : (a : Bool) → (a || false) ≡ a
or_none true = refl
or_none false = refl

unmoved : (b t : Bool) (to mid : ℕ) → t ≡ false → (if b && t then to else mid) ≡ mid
unmoved true t to mid e = ap (λ (s : Bool). if s then to else mid) e
unmoved false t to mid e = refl

-- a name that was moved by the one test and then by the other was moved by either
pub moved_more : (a b : Bool) (from to old mid new : ℕ) → (from ≡ to → ⊥) → mid ≡ (if a && old == from then to else old) → new ≡ (if b && mid == from then to else mid) → new ≡ (if (a || b) && old == from then to else old)
moved_more a b from to old mid new apart first second = at a first (old == from) refl
  where
    at : (c : Bool) → mid ≡ (if c && old == from then to else old) → (x : Bool) → (old == from) ≡ x → new ≡ (if (c || b) && old == from then to else old)
    at false is x here = second ∙ ap (λ (m : ℕ). if b && m == from then to else m) is
    at true is true here =
        let moved : mid ≡ to = is ∙ ap (λ (t : Bool). if t then to else old) here in
        let other : (mid == from) ≡ false = ne_eqb mid from (λ e. apart (sym e ∙ moved)) in
        second ∙ (unmoved b (mid == from) to mid other ∙ (moved ∙ sym (ap (λ (t : Bool). if t then to else old) here)))
    at true is false here =
        let kept : mid ≡ old = is ∙ ap (λ (t : Bool). if t then to else old) here in
        let other : (mid == from) ≡ false = ap (λ (m : ℕ). m == from) kept ∙ here in
        second ∙ (unmoved b (mid == from) to mid other ∙ (kept ∙ sym (ap (λ (t : Bool). if t then to else old) here)))

-- a name at a stage is put at another
pub put_moves : {A : Type 0} (name : List ℕ) (from to : ℕ) (old new : BTreeMap (String A) ℕ) → stage_of old name ≡ from → (q : List ℕ) → get_by_text new q ≡ (if bytes_eq name q then Some to else get_by_text old q) → stage_of new q ≡ (if bytes_eq name q && stage_of old q == from then to else stage_of old q)
put_moves name from to old new stands q puts = at (bytes_eq name q) refl
  where
    at : (b : Bool) → bytes_eq name q ≡ b → stage_of new q ≡ (if bytes_eq name q && stage_of old q == from then to else stage_of old q)
    at true is =
        let found : get_by_text new q ≡ Some to = puts ∙ ap (λ (b : Bool). if b then Some to else get_by_text old q) is in
        let there : stage_of old q ≡ from = ap (λ (n : List ℕ). stage_of old n) (sym ((bytes_eq-Decides name q).0 is)) ∙ stands in
        ap (λ (o : Option ℕ). unwrap_or o 1) found ∙ sym (ap (λ (b : Bool). if b && stage_of old q == from then to else stage_of old q) is ∙ ap (λ (b : Bool). if b then to else stage_of old q) (eq-eqb (stage_of old q) from there))
    at false is =
        let found : get_by_text new q ≡ get_by_text old q = puts ∙ ap (λ (b : Bool). if b then Some to else get_by_text old q) is in
        ap (λ (o : Option ℕ). unwrap_or o 1) found ∙ sym (ap (λ (b : Bool). if b && stage_of old q == from then to else stage_of old q) is)
