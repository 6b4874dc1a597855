-- What code forgets that changes locals one after another.
use Rattle.std.proofs.Common.{◌≡◌, ℕ, suc, ◌<◌, Bool, true, false, List, [], ◌∷◌, ◌++◌, length, get_or, set, drop, map, if◌then◌else◌, refl, sym, ap, ◌∙◌, arith, drop-cons}
use Rattle.std.specs.Prelude.{◌||◌}
use Rattle.std.proofs.Math.Bool.{or_assoc, or-false, or-true}
use Rattle.std.proofs.lemmas.Bool.Decides.{nat_tests}
use Rattle.std.proofs.lemmas.List.{map-id}
use Rattle.std.proofs.lemmas.List.Folds.{list_any-append}
use Rattle.dart_types.specs.Ty.{Ty}
use Rattle.flow_model.specs.Flow.{FlowModel, IsInOrder, is_of, is_listed}
use Rattle.flow_model.specs.Place.{StandsAt, WouldStandAt}
use Rattle.flow_model.specs.Steps.{conservative_facts, conservative_of}
use Rattle.flow_model.specs.declared.locals.LocalId.{LocalId}
use Rattle.flow_model.specs.declared.locals.Facts.{Facts}
use Rattle.flow_model.proofs.ListTests.{map-same}
use Rattle.flow_model.proofs.Places.{map_there, map_absent}
use Rattle.flow_model.proofs.Scopes.{with_locals}
use Rattle.flow_model.proofs.SameScope.{local-conservative}

-- what is known of a local that is promoted to nothing and may have a value
abbrev forgotten : Facts → Bool → Facts
forgotten l captured = record l { chain = []; unassigned = false; captured = captured }

-- what code leaves of what is known of a local, by whether it touches it, and whether it captures it
abbrev left_by : Bool → Bool → Facts → Facts
left_by touches captures l = if touches then forgotten l (l.captured || captures) else l

-- two pieces of code leave what both together do; w and c tell whether the first writes and captures the local, x and
-- d whether the second does
left_by_both : (l : Facts) (w c x d : Bool) → left_by (x || d) d (left_by (w || c) c l) ≡ left_by ((w || x) || (c || d)) (c || d) l
left_by_both l false false x d = refl
left_by_both l false true false false = refl
left_by_both l false true false true = ap (forgotten l) (or_assoc l.captured true true)
left_by_both l false true true d = ap (forgotten l) (or_assoc l.captured true d)
left_by_both l true true false false = refl
left_by_both l true false false false = refl
left_by_both l true c false true = ap (forgotten l) (or_assoc l.captured c true)
left_by_both l true c true d = ap (forgotten l) (or_assoc l.captured c d)

module _ (ws cs vs ds : List LocalId) where
  -- what two pieces of code leave of what is known of a local
  conservative_facts-twice : (l : Facts) → conservative_facts vs ds (conservative_facts ws cs l) ≡ conservative_facts (ws ++ vs) (cs ++ ds) l
  conservative_facts-twice l =
      let first = conservative_facts ws cs l in
      let same : first.var ≡ l.var = ap (λ (local : LocalId × Ty). local.0) (local-conservative ws cs l) in
      ap (λ (var : LocalId). left_by (is_listed vs var || is_listed ds var) (is_listed ds var) first) same
      ∙ (left_by_both l (is_listed ws l.var) (is_listed cs l.var) (is_listed vs l.var) (is_listed ds l.var)
      ∙ (ap (λ (w : Bool). left_by (w || (is_listed cs l.var || is_listed ds l.var)) (is_listed cs l.var || is_listed ds l.var) l) (sym (list_any-append _ ws vs))
      ∙ ap (λ (c : Bool). left_by (is_listed (ws ++ vs) l.var || c) c l) (sym (list_any-append _ cs ds))))

  -- and of the locals
  map-twice : (locals : List Facts) → map (conservative_facts vs ds) (map (conservative_facts ws cs) locals) ≡ map (conservative_facts (ws ++ vs) (cs ++ ds)) locals
  map-twice [] = refl
  map-twice (l ∷ ls) =
      rw (conservative_facts-twice l) (ap (λ (more : List Facts). conservative_facts (ws ++ vs) (cs ++ ds) l ∷ more) (map-twice ls))

  -- and of the whole model
  pub conservative_of-twice : (m : FlowModel) → conservative_of (conservative_of m ws cs) vs ds ≡ conservative_of m (ws ++ vs) (cs ++ ds)
  conservative_of-twice m = ap (with_locals m.reachable) (map-twice m.locals)

-- code that touches nothing leaves the model as it was
pub conservative_of-none : (m : FlowModel) → conservative_of m [] [] ≡ m
conservative_of-none m = ap (with_locals m.reachable) (map-id m.locals)

-- one more written local of a list
pub write_one_more : (m : FlowModel) (ws cs : List LocalId) (i : ℕ) (d : LocalId) → i < length ws → conservative_of (conservative_of m (get_or ws i d ∷ []) []) (drop (suc i) ws) cs ≡ conservative_of m (drop i ws) cs
write_one_more m ws cs i d within =
    conservative_of-twice (get_or ws i d ∷ []) [] (drop (suc i) ws) cs m
    ∙ ap (λ (vars : List LocalId). conservative_of m vars cs) (sym (drop-cons ws i d within))

-- one more captured local of a list
pub capture_one_more : (m : FlowModel) (cs : List LocalId) (i : ℕ) (d : LocalId) → i < length cs → conservative_of (conservative_of m [] (get_or cs i d ∷ [])) [] (drop (suc i) cs) ≡ conservative_of m [] (drop i cs)
capture_one_more m cs i d within =
    conservative_of-twice [] (get_or cs i d ∷ []) [] (drop (suc i) cs) m
    ∙ ap (λ (vars : List LocalId). conservative_of m [] vars) (sym (drop-cons cs i d within))

-- what a write leaves of what is known of a local
abbrev pub after_write : Facts → Facts
after_write l = record l { chain = []; unassigned = false }

-- what a capture leaves of it
abbrev pub after_capture : Facts → Facts
after_capture l = record l { chain = []; unassigned = false; captured = true }

-- code that writes one local, by whether it is this one
written_alone_at : (l : Facts) (b : Bool) → left_by ((b || false) || false) false l ≡ (if b then after_write l else l)
written_alone_at l true = ap (forgotten l) (or-false l.captured)
written_alone_at l false = refl

-- code that captures one local, by whether it is this one
captured_alone_at : (l : Facts) (b : Bool) → left_by (false || (b || false)) (b || false) l ≡ (if b then after_capture l else l)
captured_alone_at l true = ap (forgotten l) (or-true l.captured)
captured_alone_at l false = refl

module _ (var : LocalId) where
  -- the listed local is the one that is looked for
  listed_alone : (l : Facts) → is_listed (var ∷ []) l.var ≡ (is_of var l || false)
  listed_alone l = grind (arith, nat_tests)

  -- code that writes this local alone
  pub written_alone : (l : Facts) → conservative_facts (var ∷ []) [] l ≡ (if is_of var l then after_write l else l)
  written_alone l =
      ap (λ (b : Bool). left_by (b || false) false l) (listed_alone l) ∙ written_alone_at l (is_of var l)

  -- code that captures this local alone
  captured_alone : (l : Facts) → conservative_facts [] (var ∷ []) l ≡ (if is_of var l then after_capture l else l)
  captured_alone l =
      ap (λ (b : Bool). left_by (false || b) b l) (listed_alone l) ∙ captured_alone_at l (is_of var l)

module _ (locals : List Facts) (order : IsInOrder locals) (var : LocalId) (at : ℕ) (stands : StandsAt locals var at) where
  -- such code changes what stands at the place of the local
  pub write_there : (d : Facts) → map (conservative_facts (var ∷ []) []) locals ≡ set locals at (after_write (get_or locals at d))
  write_there d =
      map-same (conservative_facts (var ∷ []) []) (λ l. if is_of var l then after_write l else l) (written_alone var) locals
      ∙ map_there locals order var at stands after_write d

  -- where it captures the local too
  pub capture_there : (d : Facts) → map (conservative_facts [] (var ∷ [])) locals ≡ set locals at (after_capture (get_or locals at d))
  capture_there d =
      map-same (conservative_facts [] (var ∷ [])) (λ l. if is_of var l then after_capture l else l) (captured_alone var) locals
      ∙ map_there locals order var at stands after_capture d

module _ (locals : List Facts) (var : LocalId) (at : ℕ) (gap : WouldStandAt locals var at) where
  -- and nothing where the local isn't in scope
  pub write_absent : map (conservative_facts (var ∷ []) []) locals ≡ locals
  write_absent =
      map-same (conservative_facts (var ∷ []) []) (λ l. if is_of var l then after_write l else l) (written_alone var) locals
      ∙ map_absent locals var at gap after_write

  -- where it captures the local too
  pub capture_absent : map (conservative_facts [] (var ∷ [])) locals ≡ locals
  capture_absent =
      map-same (conservative_facts [] (var ∷ [])) (λ l. if is_of var l then after_capture l else l) (captured_alone var) locals
      ∙ map_absent locals var at gap after_capture
