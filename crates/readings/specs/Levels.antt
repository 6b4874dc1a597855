-- Levels of operators over one table.
use Rattle.std.specs.Prelude.{◌≡◌, ℕ, zero, suc, Bool, true, false, List, [], ◌∷◌, Option, Some, None, if◌then◌else◌, refl}
use Rattle.std.proofs.Common.{◌∙◌, ap}
use Rattle.readings.specs.Readings.{Reading, Rule, Test, levels, tokens_read}
use Rattle.readings.specs.Descent.{Descent, bind, or_else, take_levels, take_onto, climb}
use Rattle.readings.specs.Leading.{Parses, Sole}
use Rattle.readings.specs.Combinators.{sole_longest}
use Rattle.readings.specs.Chains.{parses_chain}

-- the levels of a table have no other reading, where this is so of what stands under them, and right sides are parsed
pub sole_levels : {T A B R : Type 0} {f : Test T} {s v : R → List R → Test T} {right : R → List R → Rule T B} {take_right : R → List R → Descent T B} {p : Rule T A} {g : Descent T A} (most : R → A → List T → ℕ) (room : A → Bool) (join : List T → A → B → A) →
    ((r : R) (rs : List R) → Parses (s r rs) (v r rs) (right r rs) (take_right r rs)) → Sole f p g → (rs : List R) → Sole f (levels most room join right p rs) (take_levels most room join take_right g rs)
sole_levels most room join each a [] = a
sole_levels most room join each a (r ∷ rs) = sole_longest (parses_chain (most r) room join (sole_levels most room join each a rs) (sole_longest (each r rs)))

bind_some : {T A : Type 0} (o : Option (Reading T A)) → o ≡ bind o (λ x. Some x)
bind_some None = refl
bind_some (Some x) = refl

bind_twice : {T A B C : Type 0} (o : Option (Reading T A)) (f : Reading T A → Option (Reading T B)) (g : Reading T B → Option (Reading T C)) → bind (bind o f) g ≡ bind o (λ x. bind (f x) g)
bind_twice None f g = refl
bind_twice (Some x) f g = refl

-- the operand is read once, and the levels are climbed behind it
pub levels_climb : {T A B R : Type 0} (most : R → A → List T → ℕ) (room : A → Bool) (join : List T → A → B → A) (right : R → List R → Descent T B) (g : Descent T A) (rs : List R) (ts : List T) →
    take_levels most room join right g rs ts ≡ bind (g ts) (climb most room join right ts rs)
levels_climb most room join right g [] ts = bind_some (g ts)
levels_climb {T = T} {A = A} most room join right g (r ∷ rs) ts =
    ap (λ (o : Option (Reading T A)). bind o (λ x. take_onto ts (most r x.0 x.1) room join (right r rs) x.0 x.1)) (levels_climb most room join right g rs ts)
    ∙ bind_twice (g ts) (climb most room join right ts rs) (λ x. take_onto ts (most r x.0 x.1) room join (right r rs) x.0 x.1)

stays_at : {A : Type 0} (t : Bool) (o : A) → (if t then o else o) ≡ o
stays_at true o = refl
stays_at false o = refl

-- where no right side comes next the operand stays as it is
pub onto_stays : {T A B : Type 0} (start : List T) (n : ℕ) (room : A → Bool) (join : List T → A → B → A) (h : Descent T B) (left : A) (ts : List T) → h ts ≡ None → take_onto start n room join h left ts ≡ Some (left, ts)
onto_stays start zero room join h left ts e = refl
onto_stays {T = T} {A = A} {B = B} start (suc n) room join h left ts e =
    ap (λ (o : Option (Reading T B)). if room left then or_else (bind o (λ y. take_onto start n room join h (join (tokens_read start y.1) left y.0) y.1)) (Some (left, ts)) else Some (left, ts)) e ∙ stays_at (room left) (Some (left, ts))

pub climb_stays : {T A B R : Type 0} (most : R → A → List T → ℕ) (room : A → Bool) (join : List T → A → B → A) (right : R → List R → Descent T B) (start : List T) (rs : List R) (x : Reading T A) → ((r : R) (qs : List R) → right r qs x.1 ≡ None) →
    climb most room join right start rs x ≡ Some x
climb_stays most room join right start [] x none = refl
climb_stays {T = T} {A = A} most room join right start (r ∷ rs) x none =
    ap (λ (o : Option (Reading T A)). bind o (λ y. take_onto start (most r y.0 y.1) room join (right r rs) y.0 y.1)) (climb_stays most room join right start rs x none)
    ∙ onto_stays start (most r x.0 x.1) room join (right r rs) x.0 x.1 (none r rs)
