-- The order of readings, on a small grammar whose tokens are numbers.
use Rattle.std.proofs.Common.{◌≡◌, ℕ, suc, List, [], ◌∷◌, Some, None, ◌==◌, ◌-◌, true, nat_lt, length, if◌then◌else◌, refl}
use Rattle.readings.specs.Readings.{Rule, next, token, ◌▹◌, ◌∣◌, make, turn, maybe, many, chain, longest, whole, inside, elements, prefer, before, items}
use Rattle.readings.specs.Descent.{take_token, ◌▸◌, take_maybe, take_many}

abbrev one : Rule ℕ ℕ
one = token (λ t. t == 1)

abbrev two : Rule ℕ ℕ
two = token (λ t. t == 2)

-- a token that passes is read, any other is not
token_passes : one (1 ∷ 2 ∷ []) ≡ (1, 2 ∷ []) ∷ []
token_passes = refl

token_fails : one (2 ∷ 1 ∷ []) ≡ []
token_fails = refl

-- more before fewer
many_order : many one (1 ∷ 1 ∷ 2 ∷ []) ≡ (1 ∷ 1 ∷ [], 2 ∷ []) ∷ (1 ∷ [], 1 ∷ 2 ∷ []) ∷ ([], 1 ∷ 1 ∷ 2 ∷ []) ∷ []
many_order = refl

-- read rather than left out
maybe_order : maybe one (1 ∷ []) ≡ (Some 1, []) ∷ (None, 1 ∷ []) ∷ []
maybe_order = refl

-- the first alternative before the second, even where it is shorter
choice_order : (turn (λ a. a ∷ []) one ∣ many one) (1 ∷ 1 ∷ []) ≡ (1 ∷ [], 1 ∷ []) ∷ (1 ∷ 1 ∷ [], []) ∷ (1 ∷ [], 1 ∷ []) ∷ ([], 1 ∷ 1 ∷ []) ∷ []
choice_order = refl

-- the longest, though it comes second
longest_second : longest ((turn (λ a. a ∷ []) one ∣ many one) (1 ∷ 1 ∷ [])) ≡ Some (1 ∷ 1 ∷ [], [])
longest_second = refl

-- of equally long ones the first
longest_first : longest {A = ℕ} ((turn (λ a. 7) one ∣ turn (λ a. 8) one) (1 ∷ [])) ≡ Some (7, [])
longest_first = refl

-- a sequence takes the second part from what the first leaves
sequence_order : (many one ▹ maybe one ▹ two) (1 ∷ 2 ∷ []) ≡ ((1 ∷ [], (None, 2)), []) ∷ (([], (Some 1, 2)), []) ∷ []
sequence_order = refl

-- a node is made of the tokens that were read
make_tokens : make (λ read x. length read) (many one ▹ two) (1 ∷ 1 ∷ 2 ∷ 5 ∷ []) ≡ (3, 5 ∷ []) ∷ []
make_tokens = refl

-- what leaves no token, though a reading before it leaves some
whole_second : whole ((turn (λ a. a ∷ []) one ∣ many one) (1 ∷ 1 ∷ [])) ≡ Some (1 ∷ 1 ∷ [])
whole_second = refl

whole_none : whole (many one (1 ∷ 2 ∷ [])) ≡ None
whole_none = refl

-- a difference of ones, as a number: the left operand is what stands before, and more is read before less
abbrev difference : Rule ℕ ℕ
difference = chain (λ left ts. length ts) (λ left. true) (λ read left right. left - right) (token (λ t. nat_lt 2 t)) (turn (λ x. x.1) (one ▹ token (λ t. nat_lt 2 t)))

chain_order : difference (9 ∷ 1 ∷ 4 ∷ 1 ∷ 3 ∷ []) ≡ (2, []) ∷ (5, 1 ∷ 3 ∷ []) ∷ (9, 1 ∷ 4 ∷ 1 ∷ 3 ∷ []) ∷ []
chain_order = refl

-- a descent takes as many as there are, and does not go back
take_many_order : take_many (take_token (λ t. t == 1)) (1 ∷ 1 ∷ 2 ∷ []) ≡ Some (1 ∷ 1 ∷ [], 2 ∷ [])
take_many_order = refl

take_no_way_back : (take_maybe (take_token (λ t. t == 1)) ▸ take_token (λ t. t == 1)) (1 ∷ 2 ∷ []) ≡ None
take_no_way_back = refl

-- a token past 9 opens a group of as many tokens as it is more than 10
abbrev group_of_ones : Rule ℕ (ℕ × List ℕ)
group_of_ones = inside (λ t. nat_lt 9 t) (λ t. t - 10) (λ t. t - 9) (many one)

group_whole : group_of_ones (12 ∷ 1 ∷ 1 ∷ 0 ∷ 5 ∷ []) ≡ ((12, 1 ∷ 1 ∷ []), 5 ∷ []) ∷ []
group_whole = refl

group_spoilt : group_of_ones (12 ∷ 1 ∷ 2 ∷ 0 ∷ 5 ∷ []) ≡ []
group_spoilt = refl

-- one comma behind the last element, and none without an element
abbrev ones : Rule ℕ (List ℕ)
ones = elements one (token (λ t. t == 0))

last_comma : whole (ones (1 ∷ 0 ∷ 1 ∷ 0 ∷ [])) ≡ Some (1 ∷ 1 ∷ [])
last_comma = refl

comma_alone : whole (ones (0 ∷ [])) ≡ None
comma_alone = refl

-- where the first can be read the second isn't tried, though it is longer
preferred : prefer (turn (λ a. a ∷ []) one) (many one) (1 ∷ 1 ∷ []) ≡ (1 ∷ [], 1 ∷ []) ∷ []
preferred = refl

-- what fits a test alone
before_two : before (next (λ t. t == 2)) (many one) (1 ∷ 1 ∷ 2 ∷ []) ≡ (1 ∷ 1 ∷ [], 2 ∷ []) ∷ []
before_two = refl

-- errors among items: what begins no item is an error up to a token 7
abbrev up_to_seven : List ℕ → ℕ
up_to_seven [] = 0
up_to_seven (t ∷ ts) = if t == 7 then 0 else suc (up_to_seven ts)

items_with_errors : items (turn (λ a. a ∷ []) one) up_to_seven (λ read. 9 ∷ read) (1 ∷ 5 ∷ 7 ∷ 1 ∷ []) ≡ ((1 ∷ []) ∷ (9 ∷ 5 ∷ 7 ∷ []) ∷ (1 ∷ []) ∷ [], []) ∷ []
items_with_errors = refl
