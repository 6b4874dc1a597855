-- Groups around tokens, and groups that end with them.
use Rattle.std.proofs.Common.{◌≡◌, ℕ, zero, suc, ◌+◌, ◌-◌, ◌<◌, ◌==◌, nat_lt, List, [], ◌∷◌, drop, get_or, length, if◌then◌else◌, sym, ap, ◌∙◌, arith}
use Rattle.std.proofs.lemmas.List.{length-drop, drop_more}
use Rattle.dart_tokens.specs.declared.grouped_token.GroupedToken.{GroupedToken as Token}
use Rattle.segment_faults.specs.Nesting.{groups_around}
use Rattle.segment_faults.specs.Ends.{ending}

-- a group that holds more tokens than stand between, or as many
pub one_fewer : (between width : ℕ) → (if nat_lt (suc between) width then 1 else 0) + (if width == suc between then 1 else 0) ≡ (if nat_lt between width then 1 else 0)
one_fewer between width = grind arith

pub goes_on : (place : ℕ) (text : List Token) (d : Token) → place < length text →
    groups_around (suc place) text + ending place text ≡ groups_around place text + (if nat_lt 0 (get_or text place d).width then 1 else 0)
goes_on place [] d l = absurd (omega (arith, l))
goes_on zero (t ∷ ts) d l = omega arith
goes_on (suc place) (t ∷ ts) d l = let m : place < length ts = omega (arith, l) in
    let rest : groups_around (suc place) ts + ending place ts ≡ groups_around place ts + (if nat_lt 0 (get_or ts place d).width then 1 else 0) = goes_on place ts d m in
    let bit = one_fewer place t.width in omega (arith, rest, bit)

-- at the first of the tokens from a place on
pub goes_on_at : (place : ℕ) (text ts : List Token) (t : Token) → drop place text ≡ t ∷ ts →
    groups_around (suc place) text + ending place text ≡ groups_around place text + (if nat_lt 0 t.width then 1 else 0)
goes_on_at place text ts t e =
    let size : length (drop place text) ≡ suc (length ts) = ap (λ (xs : List Token). length xs) e in
    let left : length (drop place text) ≡ length text - place = length-drop place text in
    let l : place < length text = omega (arith, size, left) in
    let front : drop place text ≡ get_or text place t ∷ drop (place + 1) text = drop_more text place t l in
    let is : t ≡ get_or text place t = ap (λ (xs : List Token). get_or xs 0 t) (sym e ∙ front) in
    goes_on place text t l ∙ ap (λ (x : Token). groups_around place text + (if nat_lt 0 x.width then 1 else 0)) (sym is)
