-- What is left out or repeated.
use Rattle.std.specs.Prelude.{◌≡◌, ℕ, zero, suc, ◌≤◌, ◌++◌, Bool, true, false, ◌||◌, List, [], ◌∷◌, Option, Some, None, length, map, if◌then◌else◌, refl}
use Rattle.std.specs.List.{flat_map}
use Rattle.std.proofs.Common.{sym, ◌∙◌, ap, subst, inl, inr, arith, append-nil}
use Rattle.readings.specs.Readings.{Reading, Rule, Test, nothing, next, either, token, where_next, given, behind, made, turn, ◌▹◌, ◌∣◌, maybe, listed, at_most, many}
use Rattle.readings.specs.Descent.{Descent, bind, or_else, take_given, take_token, take_where, ◌▸◌, ◌⊘◌, take_maybe, take_at_most, take_many, take_turn}
use Rattle.readings.specs.Leading.{Each, Apart, Within, Late, Leads, Matches, Starts, Keeps, Fewer, AtMost, Parses}
use Rattle.readings.specs.Lists.{each_append, each_implies, each_flat, each_map, or_false_left, or_false_right, or_left, or_right, leads_append, leads_each, leads_has, leads_map, leads_within, matches_within, late_within, within_left, within_right}
use Rattle.readings.specs.Combinators.{followed_by, leads_seq, starts_seq, shrinks_seq, shrinks_after, keeps_shrinks, keeps_seq, starts_at, parses_turn, parses_token}

-- What is total: it always reads, at least nothing.

-- there is a reading
abbrev pub IsFound : {T A : Type 0} → Option (Reading T A) → Type 0
IsFound None = ⊥
IsFound (Some x) = Unit {0}

-- the descent always finds a reading, the first of the longest, and the rule adds no token; before tokens that don't pass first it reads nothing, and gives a
pub record Offers {T A : Type 0} (stop first : Test T) (a : A) (p : Rule T A) (g : Descent T A) : Type 0 where
  pub leads : (ts : List T) → Matches stop (p ts) (g ts)
  pub found : (ts : List T) → IsFound (g ts)
  pub idle : (ts : List T) → first ts ≡ false → p ts ≡ (a, ts) ∷ []
  pub keeps : Keeps p

begins_at : {T A : Type 0} (s : Test T) (xs : List (Reading T A)) (b : Reading T A) (f : Bool) → Leads s xs b → (f ≡ false → xs ≡ []) → f ≡ true
begins_at s xs b true i e = refl
begins_at {T = T} {A = A} s xs b false i e = let j : Leads s [] b = subst (λ (v : List (Reading T A)). Leads s v b) (e refl) i in elim j [ ]

optional_at : {T A : Type 0} (s f : Test T) (xs : List (Reading T A)) (a : A) (ts : List T) → (f ts ≡ false → xs ≡ []) → Each (Fewer {A = A} (length ts)) xs → (o : Option (Reading T A)) → Matches s xs o →
    Matches (either s f) (xs ++ (a, ts) ∷ []) (or_else o (Some (a, ts)))
optional_at {T = T} {A = A} s f xs a ts st sh None m = subst (λ (v : List (Reading T A)). Matches (either s f) (v ++ (a, ts) ∷ []) (Some (a, ts))) (sym m) (inl (refl, tt))
optional_at {T = T} {A = A} s f xs a ts st sh (Some b) m =
    leads_append (either s f) xs ((a, ts) ∷ []) b (leads_within s (either s f) (within_left s f) xs b m)
    (inr (leads_has s (Fewer {A = A} (length ts)) xs b m sh, or_right (s ts) (f ts) (begins_at s xs b (f ts) m st)), tt)

pub found_or : {T A : Type 0} (o : Option (Reading T A)) (x : Reading T A) → IsFound (or_else o (Some x))
found_or None x = tt
found_or (Some y) x = tt

pub offers_or : {T A : Type 0} {s f : Test T} {p : Rule T A} {g : Descent T A} (a : A) → Parses s f p g → Offers (either s f) f a (p ∣ given a) (g ⊘ take_given a)
offers_or {T = T} {A = A} {s = s} {f = f} {p = p} {g = g} a m = record {
  leads = λ ts. optional_at s f (p ts) a ts (m.starts ts) (m.shrinks ts) (g ts) (m.leads ts);
  found = λ ts. found_or (g ts) (a, ts);
  idle = λ ts e. ap (λ (v : List (Reading T A)). v ++ (a, ts) ∷ []) (m.starts ts e);
  keeps = λ ts. each_append (AtMost {A = A} (length ts)) (p ts) ((a, ts) ∷ []) (keeps_shrinks p m.shrinks ts) (omega arith, tt);
}

pub offers_maybe : {T A : Type 0} {s f : Test T} {p : Rule T A} {g : Descent T A} → Parses s f p g → Offers (either s f) f None (maybe p) (take_maybe g)
offers_maybe m = offers_or None (parses_turn (λ a. Some a) m)

-- One after the other, where the second is total.

last_late : {T A B : Type 0} (s u v : Test T) (r : Rule T B) (a : B) → ((ts : List T) → v ts ≡ false → r ts ≡ (a, ts) ∷ []) → Apart s v → (x : Reading T A) (b : Reading T B) → Leads u (r x.1) b → length b.1 ≤ length x.1 →
    (y : Reading T A) → Late s x y → Each (Late {A = A × B} {B = A × B} (either s u) (behind x.0 b)) (followed_by r y)
last_late {T = T} {A = A} {B = B} s u v r a idle far x b m less y (inl e) =
    each_map (Late {A = A × B} {B = A × B} (either s u) (behind x.0 b)) (behind y.0) (r y.1)
    (each_implies (Late {A = B} {B = B} u b) (λ w. Late {A = A × B} {B = A × B} (either s u) (behind x.0 b) (behind y.0 w)) (λ w. late_within u (either s u) (behind x.0 b) (behind y.0 w) (within_right s u)) (r y.1)
    (subst (λ (ts : List T). Each (Late {A = B} {B = B} u b) (r ts)) (sym e) (leads_each u (r x.1) b m)))
last_late {T = T} {A = A} {B = B} s u v r a idle far x b m less y (inr d) =
    subst (λ (ws : List (Reading T B)). Each (Late {A = A × B} {B = A × B} (either s u) (behind x.0 b)) (map (behind y.0) ws)) (sym (idle y.1 (far y.1 d.1)))
    (inr (omega (arith, d.0, less), or_left (s y.1) (u y.1) d.1), tt)

last_some : {T A B : Type 0} (s u v : Test T) (r : Rule T B) (a : B) → ((ts : List T) → v ts ≡ false → r ts ≡ (a, ts) ∷ []) → Apart s v → (all : List (Reading T A)) (x : Reading T A) → Leads s all x →
    (b : Reading T B) → Leads u (r x.1) b → length b.1 ≤ length x.1 → Leads (either s u) (flat_map (followed_by r) all) (behind x.0 b)
last_some s u v r a idle far [] x i b m less = elim i [ ]
last_some {T = T} {A = A} {B = B} s u v r a idle far (z ∷ zs) x (inl h) b m less =
    leads_append (either s u) (followed_by r z) (flat_map (followed_by r) zs) (behind x.0 b)
    (subst (λ (w : Reading T A). Leads (either s u) (followed_by r w) (behind x.0 b)) (sym h.0) (leads_within u (either s u) (within_right s u) (followed_by r x) (behind x.0 b) (leads_map u (behind x.0) (λ w. refl) (r x.1) b m)))
    (each_flat (Late {A = A} {B = A} s x) (Late {A = A × B} {B = A × B} (either s u) (behind x.0 b)) (followed_by r) (λ y. last_late s u v r a idle far x b m less y) zs h.1)
last_some {T = T} {A = A} {B = B} s u v r a idle far (z ∷ zs) x (inr h) b m less =
    subst (λ (ws : List (Reading T B)). Leads (either s u) (map (behind z.0) ws ++ flat_map (followed_by r) zs) (behind x.0 b)) (sym (idle z.1 (far z.1 h.0.1)))
    (inr ((omega (arith, h.0.0, less), or_left (s z.1) (u z.1) h.0.1), last_some s u v r a idle far zs x h.1 b m less))

last_at : {T A B : Type 0} (s u v : Test T) (r : Rule T B) (a : B) → ((ts : List T) → v ts ≡ false → r ts ≡ (a, ts) ∷ []) → Apart s v → (all : List (Reading T A)) (x : Reading T A) → Leads s all x → Keeps r →
    (o : Option (Reading T B)) → Matches u (r x.1) o → IsFound o → Matches (either s u) (flat_map (followed_by r) all) (bind o (λ y. Some (behind x.0 y)))
last_at s u v r a idle far all x i k None m found = elim found [ ]
last_at {A = A} {B = B} s u v r a idle far all x i k (Some b) m found = last_some s u v r a idle far all x i b m (leads_has u (AtMost {A = B} (length x.1)) (r x.1) b m (k x.1))

leads_last : {T A B : Type 0} {u v : Test T} {r : Rule T B} {h : Descent T B} {a : B} (s : Test T) → Offers u v a r h → Apart s v → (all : List (Reading T A)) (o : Option (Reading T A)) → Matches s all o →
    Matches (either s u) (flat_map (followed_by r) all) (bind o (λ x. bind (h x.1) (λ y. Some (behind x.0 y))))
leads_last {r = r} s m far all None i = ap (flat_map (followed_by r)) i
leads_last {u = u} {v = v} {r = r} {h = h} {a = a} s m far all (Some x) i = last_at s u v r a m.idle far all x i m.keeps (h x.1) (m.leads x.1) (m.found x.1)

-- something, and something total behind it
pub parses_last : {T A B : Type 0} {s f u v : Test T} {p : Rule T A} {r : Rule T B} {g : Descent T A} {h : Descent T B} {a : B} → Parses s f p g → Offers u v a r h → Apart s v → Parses (either s u) f (p ▹ r) (g ▸ h)
parses_last {s = s} {f = f} {p = p} {r = r} {g = g} a m far = record {
  leads = λ ts. leads_last s m far (p ts) (g ts) (a.leads ts);
  starts = starts_seq f p r a.starts;
  shrinks = shrinks_seq p r a.shrinks m.keeps;
}

-- something total before what is not
starts_offered : {T A B : Type 0} (f v : Test T) (a : A) (p : Rule T A) (q : Rule T B) → ((ts : List T) → f ts ≡ false → p ts ≡ (a, ts) ∷ []) → Starts v q → Starts (either f v) (p ▹ q)
starts_offered {T = T} {A = A} f v a p q idle st ts e =
    ap (flat_map (followed_by q)) (idle ts (or_false_left (f ts) (v ts) e)) ∙ append-nil (followed_by q (a, ts)) ∙ ap (map (behind a)) (st ts (or_false_right (f ts) (v ts) e))

pub parses_offered : {T A B : Type 0} {s f u v : Test T} {p : Rule T A} {q : Rule T B} {g : Descent T A} {h : Descent T B} {a : A} → Offers s f a p g → Parses u v q h → Apart s v → Parses u (either f v) (p ▹ q) (g ▸ h)
parses_offered {s = s} {f = f} {u = u} {v = v} {p = p} {q = q} {g = g} {h = h} {a = a} m b far = record {
  leads = λ ts. leads_seq s u v q h b.leads b.starts far (p ts) (g ts) (m.leads ts);
  starts = starts_offered f v a p q m.idle b.starts;
  shrinks = shrinks_after p q m.keeps b.shrinks;
}

-- two total ones
found_behind : {T A B : Type 0} (a : A) (o : Option (Reading T B)) → IsFound o → IsFound (bind o (λ y. Some (behind a y)))
found_behind a None found = elim found [ ]
found_behind a (Some y) found = tt

followed_idle : {T A B : Type 0} (q : Rule T B) (a : A) (b : B) (ts : List T) (all : List (Reading T A)) → all ≡ (a, ts) ∷ [] → q ts ≡ (b, ts) ∷ [] → flat_map (followed_by q) all ≡ ((a, b), ts) ∷ []
followed_idle q a b ts all e d = ap (flat_map (followed_by q)) e ∙ append-nil (followed_by q (a, ts)) ∙ ap (map (behind a)) d

found_seq : {T A B : Type 0} (h : Descent T B) → ((ts : List T) → IsFound (h ts)) → (o : Option (Reading T A)) → IsFound o → IsFound (bind o (λ x. bind (h x.1) (λ y. Some (behind x.0 y))))
found_seq h each None found = elim found [ ]
found_seq h each (Some x) found = found_behind x.0 (h x.1) (each x.1)

pub offers_seq : {T A B : Type 0} {s f u v : Test T} {p : Rule T A} {q : Rule T B} {g : Descent T A} {h : Descent T B} {a : A} {b : B} → Offers s f a p g → Offers u v b q h → Apart s v →
    Offers (either s u) (either f v) (a, b) (p ▹ q) (g ▸ h)
offers_seq {s = s} {f = f} {u = u} {v = v} {p = p} {q = q} {g = g} {h = h} {a = a} {b = b} m n far = record {
  leads = λ ts. leads_last s n far (p ts) (g ts) (m.leads ts);
  found = λ ts. found_seq h n.found (g ts) (m.found ts);
  idle = λ ts e. followed_idle q a b ts (p ts) (m.idle ts (or_false_left (f ts) (v ts) e)) (n.idle ts (or_false_right (f ts) (v ts) e));
  keeps = keeps_seq p q m.keeps n.keeps;
}

-- What is repeated.

pub offers_given : {T A : Type 0} (s f : Test T) (a : A) → Offers {T = T} s f a (given a) (take_given a)
offers_given s f a = record { leads = λ ts. inl (refl, tt); found = λ ts. tt; idle = λ ts e. refl; keeps = λ ts. (omega arith, tt) }

pub offers_within : {T A : Type 0} {s f : Test T} {p : Rule T A} {g : Descent T A} {a : A} (u : Test T) → ((ts : List T) → s ts ≡ true → u ts ≡ true) → Offers s f a p g → Offers u f a p g
offers_within {s = s} {p = p} {g = g} u w m = record { leads = λ ts. matches_within s u w (p ts) (g ts) (m.leads ts); found = m.found; idle = m.idle; keeps = m.keeps }

-- and with a weaker test of what is read
pub offers_begins : {T A : Type 0} {s f : Test T} {p : Rule T A} {g : Descent T A} {a : A} (v : Test T) → Within f v → Offers s f a p g → Offers s v a p g
offers_begins {f = f} v w m = record { leads = m.leads; found = m.found; idle = λ ts e. m.idle ts (starts_at (f ts) (v ts) (w ts) e); keeps = m.keeps }

collapse : (a b : Bool) → ((a || (a || b)) || b) ≡ true → (a || b) ≡ true
collapse true b e = refl
collapse false true e = refl
collapse false false e = e

pub offers_at_most : {T A : Type 0} {s f : Test T} {p : Rule T A} {g : Descent T A} (n : ℕ) → Parses s f p g → Apart s f → Offers (either s f) f [] (at_most n p) (take_at_most n g)
offers_at_most {s = s} {f = f} zero m far = offers_given (either s f) f []
offers_at_most {s = s} {f = f} (suc n) m far =
    offers_within (either s f) (λ ts e. collapse (s ts) (f ts) e) (offers_or [] (parses_turn listed (parses_last m (offers_at_most n m far) far)))

pub offers_many : {T A : Type 0} {s f : Test T} {p : Rule T A} {g : Descent T A} → Parses s f p g → Apart s f → Offers (either s f) f [] (many p) (take_many g)
offers_many m far = record {
  leads = λ ts. (offers_at_most (length ts) m far).leads ts;
  found = λ ts. (offers_at_most (length ts) m far).found ts;
  idle = λ ts e. (offers_at_most (length ts) m far).idle ts e;
  keeps = λ ts. (offers_at_most (length ts) m far).keeps ts;
}

-- What is read exactly where the next tokens pass.

taken_at : {T : Type 0} (t : T) (ts : List T) (b : Bool) → b ≡ true → IsFound (bind (if b then Some (t, ts) else None) (λ x. Some (made (λ read a. Some a) (t ∷ ts) x)))
taken_at t ts true e = tt
taken_at t ts false e = absurd (cc)

taken_found : {T : Type 0} (test : T → Bool) (ts : List T) → next test ts ≡ true → IsFound (take_turn (λ a. Some a) (take_token test) ts)
taken_found test [] e = absurd (cc)
taken_found test (t ∷ ts) e = taken_at t ts (test t) e

where_found : {T A : Type 0} (b : Bool) (o : Option (Reading T A)) (x : Reading T A) → (b ≡ true → IsFound o) → IsFound (if b then o else Some x)
where_found true o x h = h refl
where_found false o x h = tt

where_matches : {T A : Type 0} (b : Bool) (all : List (Reading T A)) (o : Option (Reading T A)) (x : Reading T A) → Matches nothing all o → Matches nothing (if b then all else x ∷ []) (if b then o else Some x)
where_matches true all o x m = m
where_matches false all o x m = inl (refl, tt)

where_idle : {A : Type 0} (b : Bool) (all : List A) (x : A) → b ≡ false → (if b then all else x ∷ []) ≡ x ∷ []
where_idle b all x e = rw e refl

where_keeps : {T A : Type 0} (n : ℕ) (b : Bool) (all : List (Reading T A)) (x : Reading T A) → Each (AtMost {A = A} n) all → length x.1 ≤ n → Each (AtMost {A = A} n) (if b then all else x ∷ [])
where_keeps n true all x a h = a
where_keeps n false all x a h = (h, tt)

-- a token that is read exactly where the next tokens pass
pub offers_taken : {T : Type 0} (c : Test T) (test : T → Bool) → Within c (next test) →
    Offers nothing c None (where_next c (turn (λ a. Some a) (token test)) (given None)) (take_where c (take_turn (λ a. Some a) (take_token test)) (take_given None))
offers_taken {T = T} c test w = record {
  leads = λ ts. where_matches (c ts) (turn (λ a. Some a) (token test) ts) (take_turn (λ a. Some a) (take_token test) ts) (None, ts) ((parses_turn (λ a. Some a) (parses_token test)).leads ts);
  found = λ ts. where_found (c ts) (take_turn (λ a. Some a) (take_token test) ts) (None, ts) (λ e. taken_found test ts (w ts e));
  idle = λ ts e. where_idle (c ts) (turn (λ a. Some a) (token test) ts) (None, ts) e;
  keeps = λ ts. where_keeps (length ts) (c ts) (turn (λ a. Some a) (token test) ts) (None, ts) (keeps_shrinks (turn (λ a. Some a) (token test)) ((parses_turn (λ a. Some a) (parses_token test)).shrinks) ts) (omega arith);
}
