-- The groups that are open before each token, and what the definitions say there.
use Rattle.std.proofs.Common.{◌≡◌, ℕ, zero, suc, ◌+◌, ◌<◌, ◌≤◌, true, List, [], ◌∷◌, Option, Some, None, is_some, length, drop, get_or, slice_get, refl, sym, ap, ◌∙◌, arith, add-one, add-zero, get_or-drop}
use Rattle.std.proofs.lemmas.List.{drop_more, drop-drop}
use Rattle.std.proofs.lemmas.Option.{slice_get_cases, slice_get_within, get_or_from_slice_get}
use Rattle.std.proofs.lemmas.Bool.{cases_eq}
use Rattle.std.proofs.Math.Logic.{⊎_elim}
use Rattle.std.specs.Option.{option_map_or}
use Rattle.dart_tokens.specs.declared.token.Token.{Token}
use Rattle.dart_tokens.specs.Groups.{Open, GroupEnd, is_open, opens, after_token, group_end, partners_from, partners_of, partner_of}
use Rattle.dart_tokens.specs.Stack.{BeganBefore}
use Rattle.dart_tokens.proofs.OpenLemmas.{BeganBefore-token, BeganBefore-later, open_before, open-token, open_itself}

-- the groups that are open before the token at a place
abbrev pub around_before : (place : ℕ) → List Token → List Open
around_before zero tokens = []
around_before (suc place) tokens = option_map_or (λ token. after_token place token.kind (around_before place tokens)) (slice_get tokens place) (around_before place tokens)

-- one place further
pub around_next : (place : ℕ) (tokens : List Token) (token : Token) → slice_get tokens place ≡ Some token → around_before (place + 1) tokens ≡ after_token place token.kind (around_before place tokens)
around_next place tokens token at = rw (add-one, at) refl

pub either_token : {A : Type 0} (P : A → Type 0) (o : Option Token) (f : Token → A) (x : A) → ((token : Token) → o ≡ Some token → P (f token)) → P x → P (option_map_or f o x)
either_token P None f x a b = b
either_token P (Some token) f x a b = a token refl

-- the groups that are open before a place began before it
pub BeganBefore-around : (place : ℕ) (tokens : List Token) → BeganBefore place (around_before place tokens)
BeganBefore-around zero tokens = tt
BeganBefore-around (suc place) tokens =
    let before = BeganBefore-around place tokens in
    either_token (BeganBefore (suc place)) (slice_get tokens place) (λ token. after_token place token.kind (around_before place tokens)) (around_before place tokens)
    (λ token _. rw add-one at (BeganBefore-token place token.kind (around_before place tokens) before)) (BeganBefore-later place (suc place) (around_before place tokens) (omega arith) before)

-- what is left of a list at a place
pub drop_at_some : {A : Type 0} (xs : List A) (n : ℕ) (x : A) → slice_get xs n ≡ Some x → drop n xs ≡ x ∷ drop (n + 1) xs
drop_at_some {A = A} xs n x e = drop_more xs n x (slice_get_within xs n x e) ∙ ap (λ (z : A). z ∷ drop (n + 1) xs) (get_or_from_slice_get xs n x x e)

pub some_at_drop : {A : Type 0} (xs : List A) (n : ℕ) (x : A) (rest : List A) → drop n xs ≡ x ∷ rest → slice_get xs n ≡ Some x
some_at_drop [] zero x rest e = absurd (cc)
some_at_drop [] (suc n) x rest e = absurd (cc)
some_at_drop (y ∷ ys) zero x rest e = let same : y ≡ x = cc in ap (λ z. Some z) same
some_at_drop (y ∷ ys) (suc n) x rest e = some_at_drop ys n x rest e

pub get_or_here : {A : Type 0} (xs : List A) (n : ℕ) (d y : A) (ys : List A) → drop n xs ≡ y ∷ ys → get_or xs n d ≡ y
get_or_here {A = A} xs n d y ys e = let here : get_or (drop n xs) 0 d ≡ get_or xs n d = rw add-zero at (get_or-drop n xs 0 d) in sym here ∙ ap (λ (zs : List A). get_or zs 0 d) e

-- and one place further
pub drop_one_more : {A : Type 0} (xs : List A) (n : ℕ) (y : A) (ys : List A) → drop n xs ≡ y ∷ ys → drop (n + 1) xs ≡ ys
drop_one_more {A = A} xs n y ys e = sym (drop-drop 1 n xs) ∙ ap (λ (zs : List A). drop 1 zs) e

-- a place within a list has an element
pub element_at : {A : Type 0} (xs : List A) (n : ℕ) → n < length xs → (x : A) × (slice_get xs n ≡ Some x)
element_at {A = A} xs n h = ⊎_elim (λ w. (w.0, w.2)) (λ w. absurd (omega (arith, h, w.0))) (slice_get_cases xs n).1

-- the partners from a place on
partners_here : (place : ℕ) (tokens : List Token) (token : Token) → slice_get tokens place ≡ Some token →
    drop place (partners_of tokens) ≡ partners_from place (around_before place tokens) (drop place tokens) →
    drop place (partners_of tokens) ≡ partner_of place token.kind (around_before place tokens) (drop (place + 1) tokens) ∷ partners_from (place + 1) (around_before (place + 1) tokens) (drop (place + 1) tokens)
unfolding partners_from
partners_here place tokens token e before =
    before ∙ ap (partners_from place (around_before place tokens)) (drop_at_some tokens place token e)
    ∙ ap (λ (around : List Open). partner_of place token.kind (around_before place tokens) (drop (place + 1) tokens) ∷ partners_from (place + 1) around (drop (place + 1) tokens)) (sym (around_next place tokens token e))

pub partners_at : (place : ℕ) (tokens : List Token) → place ≤ length tokens → drop place (partners_of tokens) ≡ partners_from place (around_before place tokens) (drop place tokens)
partners_at zero tokens h = refl
partners_at (suc place) tokens h =
    let token = element_at tokens place (omega (arith, h)) in
    rw add-one at (drop_one_more (partners_of tokens) place _ _ (partners_here place tokens token.0 token.1 (partners_at place tokens (omega (arith, h)))))

-- the partner of the token at a place
pub partner_here : (place : ℕ) (tokens : List Token) (token : Token) → slice_get tokens place ≡ Some token → get_or (partners_of tokens) place None ≡ partner_of place token.kind (around_before place tokens) (drop (place + 1) tokens)
partner_here place tokens token e =
    get_or_here (partners_of tokens) place None _ _ (partners_here place tokens token e (partners_at place tokens (omega (arith, slice_get_within tokens place token e))))

-- the end of an open group that is open behind the next token too
end_later : (place k : ℕ) (tokens : List Token) (token : Token) → slice_get tokens place ≡ Some token → is_open k (around_before (place + 1) tokens) ≡ true →
    group_end k place (around_before place tokens) (drop place tokens) ≡ group_end k (place + 1) (around_before (place + 1) tokens) (drop (place + 1) tokens)
unfolding group_end
end_later place k tokens token at stays =
    let next = around_next place tokens token at in
    let still : is_open k (after_token place token.kind (around_before place tokens)) ≡ true = rw next at stays in
    rw (drop_at_some tokens place token at, next, still) refl

-- the partner of a group that is open behind the next token
partner_behind : (place k : ℕ) (tokens : List Token) (token : Token) → slice_get tokens place ≡ Some token → is_open k (around_before (place + 1) tokens) ≡ true →
    (is_open k (around_before place tokens) ≡ true → get_or (partners_of tokens) k None ≡ Some (group_end k place (around_before place tokens) (drop place tokens)).place) →
    get_or (partners_of tokens) k None ≡ Some (group_end k (place + 1) (around_before (place + 1) tokens) (drop (place + 1) tokens)).place
partner_behind place k tokens token at stays before =
    let around = around_before place tokens in
    let next = around_next place tokens token at in
    let still : is_open k (after_token place token.kind around) ≡ true = rw next at stays in
    ⊎_elim
    (λ (e : k ≡ place).
    let opened : is_some (opens token.kind) ≡ true = sym (open_itself place token.kind around (BeganBefore-around place tokens)) ∙ (rw e at still) in
    ap (λ (n : ℕ). get_or (partners_of tokens) n None) e ∙ partner_here place tokens token at ∙ rw (opened, next, e) refl)
    (λ (ne : k ≡ place → ⊥).
    let late : k < place + 1 = open_before (place + 1) k (around_before (place + 1) tokens) (BeganBefore-around (place + 1) tokens) stays in
    let less : k < place = omega (arith, late, ne) in
    before (open-token place token.kind k around less still) ∙ ap (λ (end : GroupEnd). Some end.place) (end_later place k tokens token at stays))
    (cases_eq k place)

-- the partner of a group that is open before a place ends where the group does
pub partner_open : (place k : ℕ) (tokens : List Token) → place ≤ length tokens → is_open k (around_before place tokens) ≡ true →
    get_or (partners_of tokens) k None ≡ Some (group_end k place (around_before place tokens) (drop place tokens)).place
partner_open zero k tokens h e = absurd (cc)
partner_open (suc place) k tokens h e =
    let token = element_at tokens place (omega (arith, h)) in
    let stays : is_open k (around_before (place + 1) tokens) ≡ true = rw add-one e in
    rw add-one at (partner_behind place k tokens token.0 token.1 stays (partner_open place k tokens (omega (arith, h))))
