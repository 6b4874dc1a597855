-- Steps that change one local, by its place, and steps that change none.
use Rattle.std.proofs.Common.{◌≡◌, ◌<◌, ℕ, suc, Bool, false, List, [], ◌∷◌, length, get_or, set, take, sym, ap, ◌∙◌}
use Rattle.std.proofs.Math.Seq.{take-suc}
use Rattle.std.proofs.lemmas.List.{set-get_or}
use Rattle.dart_types.specs.Ty.{Ty}
use Rattle.flow_model.specs.Flow.{FlowModel, IsInOrder, at_local}
use Rattle.flow_model.specs.Place.{with_facts, StandsAt}
use Rattle.flow_model.specs.Steps.{conservative_of}
use Rattle.flow_model.specs.declared.locals.LocalId.{LocalId}
use Rattle.flow_model.specs.declared.locals.Facts.{Facts}
use Rattle.flow_model.proofs.Forgets.{after_write, conservative_of-twice, write_there}
use Rattle.flow_model.proofs.Places.{map_there}
use Rattle.flow_model.proofs.Scopes.{with_locals}

-- the facts of a local that stand at its place already
pub facts_kept : (m : FlowModel) (at : ℕ) (l : Facts) → l ≡ get_or m.locals at l → m ≡ with_facts m at l
facts_kept m at l is =
    ap (with_locals m.reachable) (sym (ap (λ (k : Facts). set m.locals at k) is ∙ set-get_or m.locals at l))

module _ (m : FlowModel) (order : IsInOrder m.locals) (var : LocalId) (at : ℕ) (stands : StandsAt m.locals var at) (l : Facts) (is : l ≡ get_or m.locals at l) where
  -- a change of a local is made at its place
  pub changed_there : (change : Facts → Facts) → with_facts m at (change l) ≡ at_local m var change
  changed_there change =
      ap (with_locals m.reachable) (ap (λ (k : Facts). set m.locals at (change k)) is ∙ sym (map_there m.locals order var at stands change l))

  -- code that writes it changes nothing where it is promoted to nothing and may have a value
  pub kept_by_write : l.chain ≡ [] → l.unassigned ≡ false → conservative_of m (var ∷ []) [] ≡ m
  kept_by_write chain unassigned =
      let same : l ≡ after_write l = ap (λ (c : List Ty). record l { chain = c; unassigned = l.unassigned }) chain ∙ ap (λ (u : Bool). record l { chain = []; unassigned = u }) unassigned in
      ap (with_locals m.reachable)
      (write_there m.locals order var at stands l
      ∙ ap (λ (k : Facts). set m.locals at (after_write k)) (sym is)
      ∙ ap (λ (k : Facts). set m.locals at k) (sym same)
      ∙ ap (λ (k : Facts). set m.locals at k) is
      ∙ set-get_or m.locals at l)

-- code that writes one local more of a list changes nothing
pub kept_by_one_more : (m : FlowModel) (written : List LocalId) (i : ℕ) (d : LocalId) → i < length written → conservative_of m (get_or written i d ∷ []) [] ≡ m → conservative_of m (take i written) [] ≡ m → conservative_of m (take (suc i) written) [] ≡ m
kept_by_one_more m written i d within now so =
    ap (λ (vars : List LocalId). conservative_of m vars []) (take-suc written i d within)
    ∙ sym (conservative_of-twice (take i written) [] (get_or written i d ∷ []) [] m)
    ∙ ap (λ (n : FlowModel). conservative_of n (get_or written i d ∷ []) []) so
    ∙ now
