-- Going down by the tokens: of each rule one reading, or none; a reading is never given up for another.
use Rattle.std.specs.Prelude.{ℕ, zero, suc, Bool, List, [], ◌∷◌, Option, Some, None, option_map, length, take, drop, if◌then◌else◌}
use Rattle.readings.specs.Readings.{Reading, Test, behind, tokens_read, made, listed, whole_or, first_behind, item_or_error}

-- a descent: the one reading that begins a list of tokens, with the tokens that it leaves, or none
abbrev pub Descent : Type 0 → Type 0 → Type 0
Descent T A = List T → Option (Reading T A)

-- goes on with a reading, if there is one
abbrev pub bind : {T A B : Type 0} → Option (Reading T A) → (Reading T A → Option (Reading T B)) → Option (Reading T B)
bind None f = None
bind (Some x) f = f x

-- a reading, or else another
abbrev pub or_else : {T A : Type 0} → Option (Reading T A) → Option (Reading T A) → Option (Reading T A)
or_else None other = other
or_else (Some x) other = Some x

-- one token that passes a test
abbrev pub take_token : {T : Type 0} → (T → Bool) → Descent T T
take_token test [] = None
take_token test (t ∷ ts) = if test t then Some (t, ts) else None

-- what takes no token and gives a value
abbrev pub take_given : {T A : Type 0} → A → Descent T A
take_given a ts = Some (a, ts)

infixr 6 ◌▸◌
-- one after the other
abbrev pub ◌▸◌ : {T A B : Type 0} → Descent T A → Descent T B → Descent T (A × B)
(g ▸ h) ts = bind (g ts) (λ x. bind (h x.1) (λ y. Some (behind x.0 y)))

infixr 5 ◌⊘◌
-- the first, and the second only where the first finds nothing
abbrev pub ◌⊘◌ : {T A : Type 0} → Descent T A → Descent T A → Descent T A
(g ⊘ h) ts = or_else (g ts) (h ts)

-- a value made of the reading and its tokens
abbrev pub take_make : {T A B : Type 0} → (List T → A → B) → Descent T A → Descent T B
take_make f g ts = bind (g ts) (λ x. Some (made f ts x))

-- a value made of the reading alone
abbrev pub take_turn : {T A B : Type 0} → (A → B) → Descent T A → Descent T B
take_turn f g = take_make (λ read a. f a) g

-- what may be left out: left out only where it isn't there
abbrev pub take_maybe : {T A : Type 0} → Descent T A → Descent T (Option A)
take_maybe g = take_turn (λ a. Some a) g ⊘ take_given None

-- at most n in a row, as many as there are
abbrev pub take_at_most : {T A : Type 0} → ℕ → Descent T A → Descent T (List A)
take_at_most zero g = take_given []
take_at_most (suc n) g = take_turn listed (g ▸ take_at_most n g) ⊘ take_given []

-- as many in a row as there are
abbrev pub take_many : {T A : Type 0} → Descent T A → Descent T (List A)
take_many g ts = take_at_most (length ts) g ts

-- right sides behind what stands on the left, as many as there are and have room
abbrev pub take_onto : {T A B : Type 0} → List T → ℕ → (A → Bool) → (List T → A → B → A) → Descent T B → A → Descent T A
take_onto start zero room join h left ts = take_given left ts
take_onto start (suc n) room join h left ts =
    if room left then or_else (bind (h ts) (λ y. take_onto start n room join h (join (tokens_read start y.1) left y.0) y.1)) (take_given left ts)
    else take_given left ts

-- a first operand, and as many right sides behind it as there are
abbrev pub take_chain : {T A B : Type 0} → (A → List T → ℕ) → (A → Bool) → (List T → A → B → A) → Descent T A → Descent T B → Descent T A
take_chain most room join g h ts = bind (g ts) (λ x. take_onto ts (most x.0 x.1) room join h x.0 x.1)

-- the value of the reading, if it leaves no token
abbrev pub complete : {T A : Type 0} → Option (Reading T A) → Option A
complete None = None
complete (Some x) = whole_or x.0 x.1 None

-- one descent where the next tokens pass, another where they don't
abbrev pub take_where : {T A : Type 0} → Test T → Descent T A → Descent T A → Descent T A
take_where c g h ts = if c ts then g ts else h ts

-- the reading before tokens that pass a test
abbrev pub take_before : {T A : Type 0} → Test T → Descent T A → Descent T A
take_before c g ts = bind (g ts) (λ x. if c x.1 then Some x else None)

-- the reading whose value passes a test
abbrev pub take_only : {T A : Type 0} → (A → Bool) → Descent T A → Descent T A
take_only c g ts = bind (g ts) (λ x. if c x.0 then Some x else None)

-- as many tokens as size tells
abbrev pub take_within : {T A : Type 0} → (List T → ℕ) → Descent T A → Descent T A
take_within size g ts = option_map (λ a. (a, drop (size ts) ts)) (complete (g (take (size ts) ts)))

-- a bracket with what stands in its group
abbrev pub take_inside : {T A : Type 0} → (T → Bool) → (width past : T → ℕ) → Descent T A → Descent T (T × A)
take_inside opens width past g [] = None
take_inside opens width past g (t ∷ ts) = if opens t then option_map (λ a. ((t, a), drop (past t) ts)) (complete (g (take (width t) ts))) else None

-- an operand and one right side
abbrev pub take_once : {T A B : Type 0} → (A → Bool) → (List T → A → B → A) → Descent T A → Descent T B → Descent T A
take_once room join g h ts = bind (g ts) (λ x. if room x.0 then bind (h x.1) (λ y. Some (join (tokens_read ts y.1) x.0 y.0, y.1)) else None)

-- the levels from those that bind least on, behind an operand that has been read; start is where it began
abbrev pub climb : {T A B R : Type 0} → (R → A → List T → ℕ) → (A → Bool) → (List T → A → B → A) → (R → List R → Descent T B) → List T → List R → Reading T A → Option (Reading T A)
climb most room join right start [] x = Some x
climb most room join right start (r ∷ rs) x = bind (climb most room join right start rs x) (λ y. take_onto start (most r y.0 y.1) room join (right r rs) y.0 y.1)

-- levels of operators
abbrev pub take_levels : {T A B R : Type 0} → (R → A → List T → ℕ) → (A → Bool) → (List T → A → B → A) → (R → List R → Descent T B) → Descent T A → List R → Descent T A
take_levels most room join right first [] = first
take_levels most room join right first (r ∷ rs) = take_chain (most r) room join (take_levels most room join right first rs) (right r rs)

-- elements with commas between them and maybe behind the last
abbrev pub take_at_most_elements : {T A B : Type 0} → ℕ → Descent T A → Descent T B → Descent T (List A)
take_at_most_elements zero g comma = take_given []
take_at_most_elements (suc n) g comma = take_turn first_behind (g ▸ take_maybe (comma ▸ take_at_most_elements n g comma)) ⊘ take_given []

abbrev pub take_elements : {T A B : Type 0} → Descent T A → Descent T B → Descent T (List A)
take_elements g comma ts = take_at_most_elements (length ts) g comma ts

-- a list of items, at most n
abbrev pub take_items_at : {T A : Type 0} → ℕ → Descent T A → (List T → ℕ) → (List T → A) → List T → List A
take_items_at zero g segment error ts = []
take_items_at (suc n) g segment error [] = []
take_items_at (suc n) g segment error (t ∷ ts) = item_or_error (take_items_at n g segment error) segment error (t ∷ ts) (g (t ∷ ts))

-- all tokens as a list of items
abbrev pub all_items : {T A : Type 0} → Descent T A → (List T → ℕ) → (List T → A) → List T → List A
all_items g segment error ts = take_items_at (length ts) g segment error ts

abbrev pub take_items : {T A : Type 0} → Descent T A → (List T → ℕ) → (List T → A) → Descent T (List A)
take_items g segment error ts = Some (all_items g segment error ts, [])
