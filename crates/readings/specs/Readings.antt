-- Grammars as ordered lists of successes: what a rule reads at the beginning of a list of tokens.
use Rattle.std.specs.Prelude.{ℕ, zero, suc, ◌-◌, ◌++◌, Bool, false, ◌||◌, List, [], ◌∷◌, Option, Some, None, option_map, length, map, take, drop, nat_lt, if◌then◌else◌}
use Rattle.std.specs.List.{flat_map}

-- a reading: a value, and the tokens that are left
abbrev pub Reading : Type 0 → Type 0 → Type 0
Reading T A = A × List T

-- a rule: the readings that begin a list of tokens, each with the tokens that it leaves, the preferred before the others
abbrev pub Rule : Type 0 → Type 0 → Type 0
Rule T A = List T → List (Reading T A)

-- a test of the tokens that come next
abbrev pub Test : Type 0 → Type 0
Test T = List T → Bool

-- the next token passes
abbrev pub next : {T : Type 0} → (T → Bool) → Test T
next f [] = false
next f (t ∷ ts) = f t

-- no tokens pass
abbrev pub nothing : {T : Type 0} → Test T
nothing ts = false

-- one of two tests is passed
abbrev pub either : {T : Type 0} → Test T → Test T → Test T
either s u ts = s ts || u ts

-- the reading that there is, or none
abbrev pub optional : {A : Type 0} → Option A → List A
optional None = []
optional (Some x) = x ∷ []

-- one token that passes a test
abbrev pub token : {T : Type 0} → (T → Bool) → Rule T T
token test [] = []
token test (t ∷ ts) = if test t then (t, ts) ∷ [] else []

-- what reads no token and gives a value
abbrev pub given : {T A : Type 0} → A → Rule T A
given a ts = (a, ts) ∷ []

-- a reading behind a value that was read before
abbrev pub behind : {T A B : Type 0} → A → Reading T B → Reading T (A × B)
behind a y = ((a, y.0), y.1)

infixr 6 ◌▹◌
-- one after the other: for each reading of the first, in order, those of the second on what it leaves
abbrev pub ◌▹◌ : {T A B : Type 0} → Rule T A → Rule T B → Rule T (A × B)
(p ▹ q) ts = flat_map (λ x. map (behind x.0) (q x.1)) (p ts)

infixr 5 ◌∣◌
-- one or the other: the readings of the first before those of the second
abbrev pub ◌∣◌ : {T A : Type 0} → Rule T A → Rule T A → Rule T A
(p ∣ q) ts = p ts ++ q ts

-- the tokens that were read, where these were left
abbrev pub tokens_read : {T : Type 0} → List T → List T → List T
tokens_read ts rest = take (length ts - length rest) ts

-- what is made of a reading and the tokens that it read
abbrev pub made : {T A B : Type 0} → (List T → A → B) → List T → Reading T A → Reading T B
made f ts x = (f (tokens_read ts x.1) x.0, x.1)

-- a value made of each reading and its tokens
abbrev pub make : {T A B : Type 0} → (List T → A → B) → Rule T A → Rule T B
make f p ts = map (made f ts) (p ts)

-- a value made of each reading alone
abbrev pub turn : {T A B : Type 0} → (A → B) → Rule T A → Rule T B
turn f p = make (λ read a. f a) p

-- what may be left out: read rather than left out
abbrev pub maybe : {T A : Type 0} → Rule T A → Rule T (Option A)
maybe p = turn (λ a. Some a) p ∣ given None

-- the list of a first element and further ones
abbrev pub listed : {A : Type 0} → A × List A → List A
listed x = x.0 ∷ x.1

-- at most n in a row, more before fewer
abbrev pub at_most : {T A : Type 0} → ℕ → Rule T A → Rule T (List A)
at_most zero p = given []
at_most (suc n) p = turn listed (p ▹ at_most n p) ∣ given []

-- any number in a row, more before fewer: no more than there are tokens
abbrev pub many : {T A : Type 0} → Rule T A → Rule T (List A)
many p ts = at_most (length ts) p ts

-- at most n right sides behind what stands on the left, while there is room for them, more before fewer: each makes one of both, from where the left began
abbrev pub onto : {T A B : Type 0} → List T → ℕ → (A → Bool) → (List T → A → B → A) → Rule T B → A → Rule T A
onto start zero room join q left ts = given left ts
onto start (suc n) room join q left ts =
    (if room left then flat_map (λ y. onto start n room join q (join (tokens_read start y.1) left y.0) y.1) (q ts) else []) ++ given left ts

-- a left-nested repeat: a first operand, and right sides behind it, at most as many as are allowed where the first ends
abbrev pub chain : {T A B : Type 0} → (A → List T → ℕ) → (A → Bool) → (List T → A → B → A) → Rule T A → Rule T B → Rule T A
chain most room join p q ts = flat_map (λ x. onto ts (most x.0 x.1) room join q x.0 x.1) (p ts)

-- an operand and one right side, where there is room for the operand
abbrev pub once : {T A B : Type 0} → (A → Bool) → (List T → A → B → A) → Rule T A → Rule T B → Rule T A
once room join p q ts = flat_map (λ x. if room x.0 then map (λ y. (join (tokens_read ts y.1) x.0 y.0, y.1)) (q x.1) else []) (p ts)

-- a reading before others of which the best is known: it is better unless that one leaves fewer tokens
abbrev pub better : {T A : Type 0} → Reading T A → Option (Reading T A) → Option (Reading T A)
better x None = Some x
better x (Some y) = if nat_lt (length y.1) (length x.1) then Some y else Some x

-- the longest reading, of equally long ones the first
abbrev pub longest : {T A : Type 0} → List (Reading T A) → Option (Reading T A)
longest [] = None
longest (x ∷ xs) = better x (longest xs)

-- the value of a reading that leaves no token, before that of others
abbrev pub whole_or : {T A : Type 0} → A → List T → Option A → Option A
whole_or a [] other = Some a
whole_or a (t ∷ ts) other = other

-- the first reading that leaves no token
abbrev pub whole : {T A : Type 0} → List (Reading T A) → Option A
whole [] = None
whole (x ∷ xs) = whole_or x.0 x.1 (whole xs)

-- of a rule's readings the first of the longest alone
abbrev pub longest_of : {T A : Type 0} → Rule T A → Rule T A
longest_of p ts = optional (longest (p ts))

-- one rule where the next tokens pass, another where they don't
abbrev pub where_next : {T A : Type 0} → Test T → Rule T A → Rule T A → Rule T A
where_next c p q ts = if c ts then p ts else q ts

-- the readings of one list, or where there are none those of another
abbrev pub or_others : {A : Type 0} → List A → List A → List A
or_others [] others = others
or_others (x ∷ xs) others = x ∷ xs

-- one rule wherever it reads anything, another elsewhere
abbrev pub prefer : {T A : Type 0} → Rule T A → Rule T A → Rule T A
prefer p q ts = or_others (p ts) (q ts)

-- what is left out exactly where it can't be read
abbrev pub exactly : {T A : Type 0} → Rule T A → Rule T (Option A)
exactly p = prefer (turn (λ a. Some a) p) (given None)

-- those of a list that pass a test
abbrev pub passing : {A : Type 0} → (A → Bool) → List A → List A
passing c [] = []
passing c (x ∷ xs) = if c x then x ∷ passing c xs else passing c xs

-- the readings before tokens that pass a test
abbrev pub before : {T A : Type 0} → Test T → Rule T A → Rule T A
before c p ts = passing (λ x. c x.1) (p ts)

-- the readings whose value passes a test
abbrev pub only : {T A : Type 0} → (A → Bool) → Rule T A → Rule T A
only c p ts = passing (λ x. c x.0) (p ts)

-- as many tokens as size tells, read to the last of them
abbrev pub within : {T A : Type 0} → (List T → ℕ) → Rule T A → Rule T A
within size p ts = optional (option_map (λ a. (a, drop (size ts) ts)) (whole (p (take (size ts) ts))))

-- A bracket with what stands in its group, read to the group's end. width tells how many tokens stand in it, past how many stand between the bracket and what comes behind the group: one more where a bracket closes it.
abbrev pub inside : {T A : Type 0} → (T → Bool) → (width past : T → ℕ) → Rule T A → Rule T (T × A)
inside opens width past p [] = []
inside opens width past p (t ∷ ts) = if opens t then optional (option_map (λ a. ((t, a), drop (past t) ts)) (whole (p (take (width t) ts)))) else []

-- levels of operators, from those that bind least on: each a left-nested repeat over the levels behind it, of which the operand and each right side is read at its longest
abbrev pub levels : {T A B R : Type 0} → (R → A → List T → ℕ) → (A → Bool) → (List T → A → B → A) → (R → List R → Rule T B) → Rule T A → List R → Rule T A
levels most room join right first [] = first
levels most room join right first (r ∷ rs) = longest_of (chain (most r) room join (levels most room join right first rs) (longest_of (right r rs)))

-- an element, and those behind a comma
abbrev pub first_behind : {A B : Type 0} → A × Option (B × List A) → List A
first_behind (a, None) = a ∷ []
first_behind (a, (Some (comma, more))) = a ∷ more

-- elements with commas between them and maybe behind the last: none, or an element, and maybe a comma and elements behind it
abbrev pub at_most_elements : {T A B : Type 0} → ℕ → Rule T A → Rule T B → Rule T (List A)
at_most_elements zero p comma = given []
at_most_elements (suc n) p comma = turn first_behind (p ▹ maybe (comma ▹ at_most_elements n p comma)) ∣ given []

-- any number of elements
abbrev pub elements : {T A B : Type 0} → Rule T A → Rule T B → Rule T (List A)
elements p comma ts = at_most_elements (length ts) p comma ts

-- the item that was found and those behind it, or an error over the tokens of the segment and the items behind it: segment tells how many further tokens than the first it has
abbrev pub item_or_error : {T A : Type 0} → (List T → List A) → (List T → ℕ) → (List T → A) → List T → Option (Reading T A) → List A
item_or_error more segment error ts None = error (take (suc (segment ts)) ts) ∷ more (drop (suc (segment ts)) ts)
item_or_error more segment error ts (Some x) = x.0 ∷ more x.1

-- a list of items, at most n: at each place the longest item, or else an error
abbrev pub items_at : {T A : Type 0} → ℕ → Rule T A → (List T → ℕ) → (List T → A) → List T → List A
items_at zero p segment error ts = []
items_at (suc n) p segment error [] = []
items_at (suc n) p segment error (t ∷ ts) = item_or_error (items_at n p segment error) segment error (t ∷ ts) (longest (p (t ∷ ts)))

-- all tokens as a list of items
abbrev pub items : {T A : Type 0} → Rule T A → (List T → ℕ) → (List T → A) → Rule T (List A)
items p segment error ts = (items_at (length ts) p segment error ts, []) ∷ []
