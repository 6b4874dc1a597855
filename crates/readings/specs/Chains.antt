-- Left-nested repeats.
use Rattle.std.specs.Prelude.{◌≡◌, ℕ, zero, suc, ◌<◌, ◌++◌, Bool, true, false, List, [], ◌∷◌, Option, Some, None, length, if◌then◌else◌, map, refl}
use Rattle.std.specs.List.{flat_map}
use Rattle.std.proofs.Common.{sym, ◌∙◌, ap, subst, inl, inr, arith, append-nil}
use Rattle.readings.specs.Readings.{Reading, Rule, Test, optional, tokens_read, onto, chain, once}
use Rattle.readings.specs.Descent.{Descent, bind, or_else, take_onto, take_chain, take_once}
use Rattle.readings.specs.Leading.{Each, Leads, Matches, Shrinks, Keeps, Fewer, AtMost, Parses, Sole}
use Rattle.readings.specs.Lists.{each_append, each_implies, each_flat, each_map, leads_append, leads_has}
use Rattle.readings.specs.Repetition.{IsFound}

-- what was found leads the readings, and there is one
abbrev Found : {T A : Type 0} → Test T → List (Reading T A) → Option (Reading T A) → Type 0
Found v all o = Matches v all o × IsFound o

found_left : {T A : Type 0} (v : Test T) (x : Reading T A) → Found v (x ∷ []) (Some x)
found_left v x = (inl (refl, tt), tt)

behind_at : {T A : Type 0} (v : Test T) (xs : List (Reading T A)) (x : Reading T A) (n : ℕ) → Each (AtMost {A = A} n) xs → n < length x.1 → v x.1 ≡ true → (o : Option (Reading T A)) → Found v xs o →
    Found v ((xs ++ []) ++ x ∷ []) (or_else o (Some x))
behind_at v xs x n each less heads None f = elim f.1 [ ]
behind_at {T = T} {A = A} v xs x n each less heads (Some b) f =
    (subst (λ (ys : List (Reading T A)). Leads v (ys ++ x ∷ []) b) (sym (append-nil xs)) (leads_append v xs (x ∷ []) b f.0 (inr (omega (arith, leads_has v (AtMost {A = A} n) xs b f.0 each, less), heads), tt)), tt)

heads_at : {A : Type 0} (f : Bool) (x : A) (xs : List A) → (f ≡ false → x ∷ xs ≡ []) → f ≡ true
heads_at true x xs h = refl
heads_at false x xs h = absurd (let e : x ∷ xs ≡ [] = h refl in cc)

step_at : {T A B : Type 0} (v : Test T) (x : Reading T A) (t : Bool) (go : Reading T B → List (Reading T A)) (take : Reading T B → Option (Reading T A)) (o : Option (Reading T B)) →
    ((y : Reading T B) → Found v (go y) (take y)) → ((y : Reading T B) → Each (AtMost {A = A} (length y.1)) (go y)) → (v x.1 ≡ false → optional o ≡ []) → Each (Fewer {A = B} (length x.1)) (optional o) →
    Found v ((if t then flat_map go (optional o) else []) ++ x ∷ []) (if t then or_else (bind o take) (Some x) else Some x)
step_at v x false go take o each keeps st sh = found_left v x
step_at v x true go take None each keeps st sh = found_left v x
step_at v x true go take (Some y) each keeps st sh = behind_at v (go y) x (length y.1) (keeps y) sh.0 (heads_at (v x.1) y [] st) (take y) (each y)

keeps_at : {T A B : Type 0} (x : Reading T A) (t : Bool) (go : Reading T B → List (Reading T A)) → ((y : Reading T B) → Each (AtMost {A = A} (length y.1)) (go y)) → (ws : List (Reading T B)) → Each (Fewer {A = B} (length x.1)) ws →
    Each (AtMost {A = A} (length x.1)) ((if t then flat_map go ws else []) ++ x ∷ [])
keeps_at x false go each ws sh = (omega arith, tt)
keeps_at {T = T} {A = A} {B = B} x true go each ws sh =
    each_append (AtMost {A = A} (length x.1)) (flat_map go ws) (x ∷ [])
    (each_flat (Fewer {A = B} (length x.1)) (AtMost {A = A} (length x.1)) go (λ y h. each_implies (AtMost {A = A} (length y.1)) (AtMost {A = A} (length x.1)) (λ z l. omega (arith, h, l)) (go y) (each y)) ws sh)
    (omega arith, tt)

keeps_onto : {T A B : Type 0} (start : List T) (n : ℕ) (room : A → Bool) (join : List T → A → B → A) (q : Rule T B) → Shrinks q → (left : A) → Keeps (onto start n room join q left)
keeps_onto start zero room join q sh left ts = (omega arith, tt)
keeps_onto start (suc n) room join q sh left ts =
    keeps_at (left, ts) (room left) (λ y. onto start n room join q (join (tokens_read start y.1) left y.0) y.1) (λ y. keeps_onto start n room join q sh (join (tokens_read start y.1) left y.0) y.1) (q ts) (sh ts)

found_onto : {T A B : Type 0} {v : Test T} {q : Rule T B} {h : Descent T B} (start : List T) (n : ℕ) (room : A → Bool) (join : List T → A → B → A) → Sole v q h → (left : A) (ts : List T) →
    Found v (onto start n room join q left ts) (take_onto start n room join h left ts)
found_onto {v = v} start zero room join a left ts = found_left v (left, ts)
found_onto {T = T} {A = A} {B = B} {v = v} {q = q} {h = h} start (suc n) room join a left ts =
    let go : Reading T B → List (Reading T A) = λ y. onto start n room join q (join (tokens_read start y.1) left y.0) y.1 in
    let take : Reading T B → Option (Reading T A) = λ y. take_onto start n room join h (join (tokens_read start y.1) left y.0) y.1 in
    subst (λ (ws : List (Reading T B)). Found v ((if room left then flat_map go ws else []) ++ (left, ts) ∷ []) (if room left then or_else (bind (h ts) take) (Some (left, ts)) else Some (left, ts))) (sym (a.alone ts))
    (step_at v (left, ts) (room left) go take (h ts) (λ y. found_onto start n room join a (join (tokens_read start y.1) left y.0) y.1)
    (λ y. keeps_onto start n room join q a.shrinks (join (tokens_read start y.1) left y.0) y.1)
    (λ e. sym (a.alone ts) ∙ a.starts ts e) (subst (λ (ws : List (Reading T B)). Each (Fewer {A = B} (length ts)) ws) (a.alone ts) (a.shrinks ts)))

chain_at : {T A B : Type 0} {v : Test T} {q : Rule T B} {h : Descent T B} (most : A → List T → ℕ) (room : A → Bool) (join : List T → A → B → A) → Sole v q h → (ts : List T) (o : Option (Reading T A)) →
    Matches v (flat_map (λ x. onto ts (most x.0 x.1) room join q x.0 x.1) (optional o)) (bind o (λ x. take_onto ts (most x.0 x.1) room join h x.0 x.1))
chain_at most room join a ts None = refl
chain_at {T = T} {A = A} {v = v} {q = q} {h = h} most room join a ts (Some x) =
    subst (λ (xs : List (Reading T A)). Matches v xs (take_onto ts (most x.0 x.1) room join h x.0 x.1)) (sym (append-nil (onto ts (most x.0 x.1) room join q x.0 x.1))) (found_onto ts (most x.0 x.1) room join a x.0 x.1).0

-- a left-nested repeat, where operand and right side have no other readings
pub parses_chain : {T A B : Type 0} {f v : Test T} {p : Rule T A} {q : Rule T B} {g : Descent T A} {h : Descent T B} (most : A → List T → ℕ) (room : A → Bool) (join : List T → A → B → A) →
    Sole f p g → Sole v q h → Parses v f (chain most room join p q) (take_chain most room join g h)
parses_chain {T = T} {A = A} {B = B} {f = f} {v = v} {p = p} {q = q} {g = g} {h = h} most room join a b = record {
  leads = λ ts. subst (λ (xs : List (Reading T A)). Matches v (flat_map (λ x. onto ts (most x.0 x.1) room join q x.0 x.1) xs) (take_chain most room join g h ts)) (sym (a.alone ts)) (chain_at most room join b ts (g ts));
  starts = λ ts e. ap (flat_map (λ (x : Reading T A). onto ts (most x.0 x.1) room join q x.0 x.1)) (a.starts ts e);
  shrinks = λ ts. each_flat (Fewer {A = A} (length ts)) (Fewer {A = A} (length ts)) (λ x. onto ts (most x.0 x.1) room join q x.0 x.1)
      (λ x l. each_implies (AtMost {A = A} (length x.1)) (Fewer {A = A} (length ts)) (λ z k. omega (arith, l, k)) (onto ts (most x.0 x.1) room join q x.0 x.1) (keeps_onto ts (most x.0 x.1) room join q b.shrinks x.0 x.1)) (p ts) (a.shrinks ts);
}

-- An operand and one right side.

once_sides : {T A B : Type 0} (t : Bool) (f : Reading T B → Reading T A) (o : Option (Reading T B)) → (if t then map f (optional o) else []) ≡ optional (if t then bind o (λ y. Some (f y)) else None)
once_sides true f None = refl
once_sides true f (Some x) = refl
once_sides false f o = refl

once_fewer : {T A B : Type 0} (n : ℕ) (t : Bool) (f : Reading T B → Reading T A) → ((y : Reading T B) → (f y).1 ≡ y.1) → (m : ℕ) → m < n → (ws : List (Reading T B)) → Each (Fewer {A = B} m) ws → Each (Fewer {A = A} n) (if t then map f ws else [])
once_fewer {T = T} {A = A} {B = B} n true f same m h ws a =
    each_map (Fewer {A = A} n) f ws (each_implies (Fewer {A = B} m) (λ y. Fewer {A = A} n (f y)) (λ y l. omega (arith, h, l, ap (λ (us : List T). length us) (same y))) ws a)
once_fewer n false f same m h ws a = tt

once_at : {T A B : Type 0} {v : Test T} {q : Rule T B} {h : Descent T B} (room : A → Bool) (join : List T → A → B → A) → Sole v q h → (ts : List T) (o : Option (Reading T A)) →
    flat_map (λ x. if room x.0 then map (λ y. (join (tokens_read ts y.1) x.0 y.0, y.1)) (q x.1) else []) (optional o)
    ≡ optional (bind o (λ x. if room x.0 then bind (h x.1) (λ y. Some (join (tokens_read ts y.1) x.0 y.0, y.1)) else None))
once_at room join a ts None = refl
once_at {T = T} {A = A} {B = B} {q = q} {h = h} room join a ts (Some x) =
    append-nil (if room x.0 then map (λ (y : Reading T B). (join (tokens_read ts y.1) x.0 y.0, y.1)) (q x.1) else [])
    ∙ ap (λ (ws : List (Reading T B)). if room x.0 then map (λ (y : Reading T B). (join (tokens_read ts y.1) x.0 y.0, y.1)) ws else []) (a.alone x.1)
    ∙ once_sides (room x.0) (λ (y : Reading T B). (join (tokens_read ts y.1) x.0 y.0, y.1)) (h x.1)

pub sole_once : {T A B : Type 0} {f v : Test T} {p : Rule T A} {q : Rule T B} {g : Descent T A} {h : Descent T B} (room : A → Bool) (join : List T → A → B → A) → Sole f p g → Sole v q h → Sole f (once room join p q) (take_once room join g h)
sole_once {T = T} {A = A} {B = B} {p = p} {q = q} {g = g} room join a b = record {
  alone = λ ts. ap (flat_map (λ (x : Reading T A). if room x.0 then map (λ (y : Reading T B). (join (tokens_read ts y.1) x.0 y.0, y.1)) (q x.1) else [])) (a.alone ts) ∙ once_at room join b ts (g ts);
  starts = λ ts e. ap (flat_map (λ (x : Reading T A). if room x.0 then map (λ (y : Reading T B). (join (tokens_read ts y.1) x.0 y.0, y.1)) (q x.1) else [])) (a.starts ts e);
  shrinks = λ ts. each_flat (Fewer {A = A} (length ts)) (Fewer {A = A} (length ts)) (λ (x : Reading T A). if room x.0 then map (λ (y : Reading T B). (join (tokens_read ts y.1) x.0 y.0, y.1)) (q x.1) else [])
      (λ x l. once_fewer (length ts) (room x.0) (λ (y : Reading T B). (join (tokens_read ts y.1) x.0 y.0, y.1)) (λ y. refl) (length x.1) l (q x.1) (b.shrinks x.1)) (p ts) (a.shrinks ts);
}

once_found_at : {T A B : Type 0} (ts : List T) (t : Bool) (join : List T → A → B → A) (x : Reading T A) (o : Option (Reading T B)) (b : Reading T A) → (if t then bind o (λ y. Some (join (tokens_read ts y.1) x.0 y.0, y.1)) else None) ≡ Some b →
    (y : Reading T B) × (o ≡ Some y) × (b.1 ≡ y.1)
once_found_at ts false join x o b e = absurd (cc)
once_found_at ts true join x None b e = absurd (cc)
once_found_at {T = T} {A = A} ts true join x (Some y) b e = let same : (join (tokens_read ts y.1) x.0 y.0, y.1) ≡ b = cc in (y, refl, sym (ap (λ (v : Reading T A). v.1) same))

once_operand_at : {T A B : Type 0} (ts : List T) (room : A → Bool) (join : List T → A → B → A) (h : Descent T B) (o : Option (Reading T A)) (b : Reading T A) →
    bind o (λ x. if room x.0 then bind (h x.1) (λ y. Some (join (tokens_read ts y.1) x.0 y.0, y.1)) else None) ≡ Some b → (x : Reading T A) × (y : Reading T B) × (o ≡ Some x) × (h x.1 ≡ Some y) × (b.1 ≡ y.1)
once_operand_at ts room join h None b e = absurd (cc)
once_operand_at ts room join h (Some x) b e = let r = once_found_at ts (room x.0) join x (h x.1) b e in (x, r.0, refl, r.1, r.2)

-- what was found is an operand and a right side
pub once_found : {T A B : Type 0} (room : A → Bool) (join : List T → A → B → A) (g : Descent T A) (h : Descent T B) (ts : List T) (b : Reading T A) → take_once room join g h ts ≡ Some b →
    (x : Reading T A) × (y : Reading T B) × (g ts ≡ Some x) × (h x.1 ≡ Some y) × (b.1 ≡ y.1)
once_found room join g h ts b e = once_operand_at ts room join h (g ts) b e
