-- Descents parse rules, combinator by combinator.
use Rattle.std.specs.Prelude.{◌≡◌, ℕ, suc, ◌<◌, ◌++◌, Bool, true, false, List, [], ◌∷◌, Option, Some, None, length, map, if◌then◌else◌, refl}
use Rattle.std.specs.List.{flat_map}
use Rattle.std.proofs.Common.{sym, ◌∙◌, ap, subst, inl, inr, arith}
use Rattle.readings.specs.Readings.{Reading, Rule, Test, next, nothing, optional, token, behind, ◌▹◌, made, make, turn, longest, longest_of}
use Rattle.readings.specs.Descent.{Descent, bind, take_token, ◌▸◌, take_make, take_turn}
use Rattle.readings.specs.Leading.{Each, Apart, Within, Late, Leads, Matches, Starts, Shrinks, Keeps, Fewer, AtMost, Parses, Sole}
use Rattle.readings.specs.Lists.{each_implies, each_map, each_flat, flat_none, leads_each, leads_has, leads_append, leads_map, matches_within, matches_optional}
use Rattle.readings.specs.Longest.{parses_longest}

-- A rule without readings, and weaker tests.

pub parses_none : {T A : Type 0} (s f : Test T) → Parses {T = T} {A = A} s f (λ ts. []) (λ ts. None)
parses_none s f = record { leads = λ ts. refl; starts = λ ts e. refl; shrinks = λ ts. tt }

pub starts_at : (a b : Bool) → (a ≡ true → b ≡ true) → b ≡ false → a ≡ false
starts_at true b h e = absurd (let k : b ≡ true = h refl in cc)
starts_at false b h e = refl

pub parses_within : {T A : Type 0} {s f : Test T} {p : Rule T A} {g : Descent T A} (u v : Test T) → Within s u → Within f v → Parses s f p g → Parses u v p g
parses_within {s = s} {f = f} {p = p} {g = g} u v d e a = record {
  leads = λ ts. matches_within s u d (p ts) (g ts) (a.leads ts);
  starts = λ ts h. a.starts ts (starts_at (f ts) (v ts) (e ts) h);
  shrinks = a.shrinks;
}

-- One token.

token_leads : {T A : Type 0} (x : Reading T A) (b : Bool) → Matches nothing (if b then x ∷ [] else []) (if b then Some x else None)
token_leads x true = inl (refl, tt)
token_leads x false = refl

token_shrinks : {T A : Type 0} (n : ℕ) (x : Reading T A) → length x.1 < n → (b : Bool) → Each (Fewer {A = A} n) (if b then x ∷ [] else [])
token_shrinks n x h true = (h, tt)
token_shrinks n x h false = tt

leads_token : {T : Type 0} (test : T → Bool) (ts : List T) → Matches nothing (token test ts) (take_token test ts)
leads_token test [] = refl
leads_token test (t ∷ ts) = token_leads (t, ts) (test t)

starts_token : {T : Type 0} (test : T → Bool) → Starts (next test) (token test)
starts_token test [] e = refl
starts_token test (t ∷ ts) e = rw e refl

shrinks_token : {T : Type 0} (test : T → Bool) → Shrinks (token test)
shrinks_token test [] = tt
shrinks_token test (t ∷ ts) = token_shrinks (suc (length ts)) (t, ts) (omega arith) (test t)

pub parses_token : {T : Type 0} (test : T → Bool) → Parses nothing (next test) (token test) (take_token test)
parses_token test = record { leads = leads_token test; starts = starts_token test; shrinks = shrinks_token test }

-- A value made of a reading.

pub made_leads : {T A B : Type 0} (s : Test T) (f : List T → A → B) (ts : List T) (all : List (Reading T A)) (o : Option (Reading T A)) →
    Matches s all o → Matches s (map (made f ts) all) (bind o (λ x. Some (made f ts x)))
made_leads f ts s all None m = ap (map (made ts s)) m
made_leads s f ts all (Some b) m = leads_map s (made f ts) (λ x. refl) all b m

pub starts_make : {T A B : Type 0} (u : Test T) (f : List T → A → B) (p : Rule T A) → Starts u p → Starts u (make f p)
starts_make u f p a ts e = ap (map (made f ts)) (a ts e)

pub shrinks_make : {T A B : Type 0} (f : List T → A → B) (p : Rule T A) → Shrinks p → Shrinks (make f p)
shrinks_make {B = B} f p a ts = each_map (Fewer {A = B} (length ts)) (made f ts) (p ts) (a ts)

pub keeps_make : {T A B : Type 0} (f : List T → A → B) (p : Rule T A) → Keeps p → Keeps (make f p)
keeps_make {B = B} f p a ts = each_map (AtMost {A = B} (length ts)) (made f ts) (p ts) (a ts)

pub parses_make : {T A B : Type 0} {s f : Test T} {p : Rule T A} {g : Descent T A} (made_of : List T → A → B) → Parses s f p g → Parses s f (make made_of p) (take_make made_of g)
parses_make {s = s} {f = f} {p = p} {g = g} made_of a = record {
  leads = λ ts. made_leads s made_of ts (p ts) (g ts) (a.leads ts);
  starts = starts_make f made_of p a.starts;
  shrinks = shrinks_make made_of p a.shrinks;
}

pub parses_turn : {T A B : Type 0} {s f : Test T} {p : Rule T A} {g : Descent T A} (turned : A → B) → Parses s f p g → Parses s f (turn turned p) (take_turn turned g)
parses_turn turned a = parses_make (λ read x. turned x) a

-- One after the other.

-- the readings of a sequence, given those of its first part
abbrev pub followed_by : {T A B : Type 0} → Rule T B → Reading T A → List (Reading T (A × B))
followed_by q x = map (behind x.0) (q x.1)

-- what stands behind the first part's reading adds nothing that is not behind the whole's
late_followed : {T A B : Type 0} (s u v : Test T) (q : Rule T B) → Starts v q → Apart s v → (x : Reading T A) (b : Reading T B) → Leads u (q x.1) b →
    (y : Reading T A) → Late s x y → Each (Late {A = A × B} {B = A × B} u (behind x.0 b)) (followed_by q y)
late_followed {T = T} {A = A} {B = B} s u v q st far x b m y (inl e) =
    each_map (Late {A = A × B} {B = A × B} u (behind x.0 b)) (behind y.0) (q y.1) (subst (λ (ts : List T). Each (Late {A = B} {B = B} u b) (q ts)) (sym e) (leads_each u (q x.1) b m))
late_followed {T = T} {A = A} {B = B} s u v q st far x b m y (inr d) =
    subst (λ (ws : List (Reading T B)). Each (Late {A = A × B} {B = A × B} u (behind x.0 b)) (map (behind y.0) ws)) (sym (st y.1 (far y.1 d.1))) tt

followed_none : {T A B : Type 0} (s v : Test T) (q : Rule T B) → Starts v q → Apart s v → (x : Reading T A) → q x.1 ≡ [] → (y : Reading T A) → Late s x y → followed_by q y ≡ []
followed_none {T = T} s v q st far x none y (inl e) = ap (λ (ts : List T). map (behind y.0) (q ts)) e ∙ ap (map (behind y.0)) none
followed_none s v q st far x none y (inr d) = ap (map (behind y.0)) (st y.1 (far y.1 d.1))

seq_none : {T A B : Type 0} (s v : Test T) (q : Rule T B) → Starts v q → Apart s v → (all : List (Reading T A)) (x : Reading T A) → Leads s all x → q x.1 ≡ [] → flat_map (followed_by q) all ≡ []
seq_none {T = T} {A = A} {B = B} s v q st far all x i none =
    flat_none (followed_by q) all (each_implies (Late {A = A} {B = A} s x) (λ y. followed_by q y ≡ []) (λ y. followed_none s v q st far x none y) all (leads_each s all x i))

seq_some : {T A B : Type 0} (s u v : Test T) (q : Rule T B) → Starts v q → Apart s v → (all : List (Reading T A)) (x : Reading T A) → Leads s all x → (b : Reading T B) → Leads u (q x.1) b →
    Leads u (flat_map (followed_by q) all) (behind x.0 b)
seq_some s u v q st far [] x i b m = elim i [ ]
seq_some {T = T} {A = A} {B = B} s u v q st far (z ∷ zs) x (inl h) b m =
    leads_append u (followed_by q z) (flat_map (followed_by q) zs) (behind x.0 b)
    (subst (λ (w : Reading T A). Leads u (followed_by q w) (behind x.0 b)) (sym h.0) (leads_map u (behind x.0) (λ w. refl) (q x.1) b m))
    (each_flat (Late {A = A} {B = A} s x) (Late {A = A × B} {B = A × B} u (behind x.0 b)) (followed_by q) (λ y. late_followed s u v q st far x b m y) zs h.1)
seq_some {T = T} {A = A} {B = B} s u v q st far (z ∷ zs) x (inr h) b m =
    subst (λ (ws : List (Reading T B)). Leads u (map (behind z.0) ws ++ flat_map (followed_by q) zs) (behind x.0 b)) (sym (st z.1 (far z.1 h.0.1))) (seq_some s u v q st far zs x h.1 b m)

seq_at : {T A B : Type 0} (s u v : Test T) (q : Rule T B) → Starts v q → Apart s v → (all : List (Reading T A)) (x : Reading T A) → Leads s all x → (o : Option (Reading T B)) → Matches u (q x.1) o →
    Matches u (flat_map (followed_by q) all) (bind o (λ y. Some (behind x.0 y)))
seq_at s u v q st far all x i None m = seq_none s v q st far all x i m
seq_at s u v q st far all x i (Some b) m = seq_some s u v q st far all x i b m

pub leads_seq : {T A B : Type 0} (s u v : Test T) (q : Rule T B) (h : Descent T B) → ((ts : List T) → Matches u (q ts) (h ts)) → Starts v q → Apart s v →
    (all : List (Reading T A)) (o : Option (Reading T A)) → Matches s all o → Matches u (flat_map (followed_by q) all) (bind o (λ x. bind (h x.1) (λ y. Some (behind x.0 y))))
leads_seq s u v q h each st far all None m = ap (flat_map (followed_by q)) m
leads_seq s u v q h each st far all (Some x) m = seq_at s u v q st far all x m (h x.1) (each x.1)

pub starts_seq : {T A B : Type 0} (f : Test T) (p : Rule T A) (q : Rule T B) → Starts f p → Starts f (p ▹ q)
starts_seq f p q a ts e = ap (flat_map (followed_by q)) (a ts e)

fewer_followed : {T A B : Type 0} (q : Rule T B) → Keeps q → (n : ℕ) (y : Reading T A) → Fewer {A = A} n y → Each (Fewer {A = A × B} n) (followed_by q y)
fewer_followed {T = T} {A = A} {B = B} q k n y h =
    each_map (Fewer {A = A × B} n) (behind y.0) (q y.1) (each_implies (AtMost {A = B} (length y.1)) (Fewer {A = B} n) (λ w l. omega (arith, h, l)) (q y.1) (k y.1))

pub shrinks_seq : {T A B : Type 0} (p : Rule T A) (q : Rule T B) → Shrinks p → Keeps q → Shrinks (p ▹ q)
shrinks_seq {T = T} {A = A} {B = B} p q a k ts = each_flat (Fewer {A = A} (length ts)) (Fewer {A = A × B} (length ts)) (followed_by q) (fewer_followed q k (length ts)) (p ts) (a ts)

fewer_after : {T A B : Type 0} (q : Rule T B) → Shrinks q → (n : ℕ) (y : Reading T A) → AtMost {A = A} n y → Each (Fewer {A = A × B} n) (followed_by q y)
fewer_after {T = T} {A = A} {B = B} q k n y h =
    each_map (Fewer {A = A × B} n) (behind y.0) (q y.1) (each_implies (Fewer {A = B} (length y.1)) (Fewer {A = B} n) (λ w l. omega (arith, h, l)) (q y.1) (k y.1))

pub shrinks_after : {T A B : Type 0} (p : Rule T A) (q : Rule T B) → Keeps p → Shrinks q → Shrinks (p ▹ q)
shrinks_after {T = T} {A = A} {B = B} p q a k ts = each_flat (AtMost {A = A} (length ts)) (Fewer {A = A × B} (length ts)) (followed_by q) (fewer_after q k (length ts)) (p ts) (a ts)

pub keeps_shrinks : {T A : Type 0} (p : Rule T A) → Shrinks p → Keeps p
keeps_shrinks {A = A} p a ts = each_implies (Fewer {A = A} (length ts)) (AtMost {A = A} (length ts)) (λ y h. omega (arith, h)) (p ts) (a ts)

at_most_followed : {T A B : Type 0} (q : Rule T B) → Keeps q → (n : ℕ) (y : Reading T A) → AtMost {A = A} n y → Each (AtMost {A = A × B} n) (followed_by q y)
at_most_followed {T = T} {A = A} {B = B} q k n y h =
    each_map (AtMost {A = A × B} n) (behind y.0) (q y.1) (each_implies (AtMost {A = B} (length y.1)) (AtMost {A = B} n) (λ w l. omega (arith, h, l)) (q y.1) (k y.1))

pub keeps_seq : {T A B : Type 0} (p : Rule T A) (q : Rule T B) → Keeps p → Keeps q → Keeps (p ▹ q)
keeps_seq {T = T} {A = A} {B = B} p q a k ts = each_flat (AtMost {A = A} (length ts)) (AtMost {A = A × B} (length ts)) (followed_by q) (at_most_followed q k (length ts)) (p ts) (a ts)

-- one after the other, where no tokens stop the first and begin the second
pub parses_seq : {T A B : Type 0} {s f u v : Test T} {p : Rule T A} {q : Rule T B} {g : Descent T A} {h : Descent T B} → Parses s f p g → Parses u v q h → Apart s v → Parses u f (p ▹ q) (g ▸ h)
parses_seq {s = s} {f = f} {u = u} {v = v} {p = p} {q = q} {g = g} {h = h} a b e = record {
  leads = λ ts. leads_seq s u v q h b.leads b.starts e (p ts) (g ts) (a.leads ts);
  starts = starts_seq f p q a.starts;
  shrinks = shrinks_seq p q a.shrinks (keeps_shrinks q b.shrinks);
}

-- The first of the longest readings alone.

pub longest_of_parses : {T A : Type 0} {s f : Test T} {p : Rule T A} {g : Descent T A} → Parses s f p g → (ts : List T) → longest_of p ts ≡ optional (g ts)
longest_of_parses a ts = ap optional (parses_longest a ts)

starts_longest : {T A : Type 0} (f : Test T) (p : Rule T A) → Starts f p → Starts f (longest_of p)
starts_longest {T = T} {A = A} f p a ts e = ap (λ (xs : List (Reading T A)). optional (longest xs)) (a ts e)

optional_shrinks : {T A : Type 0} (s : Test T) (P : Reading T A → Type 0) (all : List (Reading T A)) (o : Option (Reading T A)) → Matches s all o → Each P all → Each P (optional o)
optional_shrinks s P all None m a = tt
optional_shrinks s P all (Some b) m a = (leads_has s P all b m a, tt)

pub sole_longest : {T A : Type 0} {s f : Test T} {p : Rule T A} {g : Descent T A} → Parses s f p g → Sole f (longest_of p) g
sole_longest {T = T} {A = A} {s = s} {f = f} {p = p} {g = g} a = record {
  alone = longest_of_parses a;
  starts = starts_longest f p a.starts;
  shrinks = λ ts. subst (λ (xs : List (Reading T A)). Each (Fewer {A = A} (length ts)) xs) (sym (longest_of_parses a ts)) (optional_shrinks s (Fewer {A = A} (length ts)) (p ts) (g ts) (a.leads ts) (a.shrinks ts));
}

-- a rule without other readings
pub parses_sole : {T A : Type 0} {f : Test T} {p : Rule T A} {g : Descent T A} → Sole f p g → Parses nothing f p g
parses_sole {T = T} {A = A} {f = f} {p = p} {g = g} a = record {
  leads = λ ts. subst (λ (xs : List (Reading T A)). Matches nothing xs (g ts)) (sym (a.alone ts)) (matches_optional (g ts));
  starts = a.starts;
  shrinks = a.shrinks;
}
