-- The items of a list one after another, with errors among them.
use Rattle.std.proofs.Common.{◌≡◌, ℕ, zero, suc, ◌-◌, ◌<◌, List, [], ◌∷◌, ◌++◌, length, take, drop, Option, Some, None, refl, sym, ap, ◌∙◌, arith}
use Rattle.std.proofs.lemmas.List.{length-drop, append_assoc}
use Rattle.readings.specs.Readings.{Reading, tokens_read, item_or_error}
use Rattle.readings.specs.Descent.{Descent, take_items_at}
use Rattle.dart_tree.specs.Tree.{Tree}
use Rattle.dart_tokens.specs.declared.grouped_token.GroupedToken.{GroupedToken as Token}
use Rattle.grammar.specs.Statements.{segment, error_of}
use Rattle.parse_leaves.specs.Loops.{items_out, items_end}
use Rattle.parse_expr.specs.Items.{item_found, item_of}

pub list_out : (all : List Tree) (n : ℕ) (g : Descent Token Tree) (done : List Tree) (ts : List Token) → all ≡ done ++ take_items_at n g segment error_of ts → n ≡ 0 → done ≡ all
list_out all n g done ts so e = sym (so ∙ items_out n g segment error_of done ts e)

pub list_end : (all : List Tree) (n : ℕ) (g : Descent Token Tree) (done : List Tree) (ts : List Token) → all ≡ done ++ take_items_at n g segment error_of ts → ts ≡ [] → done ≡ all
list_end all n g done ts so e = sym (so ∙ items_end n g segment error_of done ts (ap length e))

-- one item

item_either : (n : ℕ) (g : Descent Token Tree) (ts : List Token) (o : Option (Reading Token Tree)) →
    item_or_error (take_items_at n g segment error_of) segment error_of ts o ≡ (item_found ts o).0 ∷ take_items_at n g segment error_of (item_found ts o).1
item_either n g ts None = refl
item_either n g ts (Some x) = refl

one_item : (n : ℕ) (g : Descent Token Tree) (done : List Tree) (t : Token) (tail us : List Token) (x : Tree) → item_of g (t ∷ tail) ≡ (x, us) →
    done ++ take_items_at (suc n) g segment error_of (t ∷ tail) ≡ (done ++ x ∷ []) ++ take_items_at n g segment error_of us
one_item n g done t tail us x e =
    ap (λ (xs : List Tree). done ++ xs) (item_either n g (t ∷ tail) (g (t ∷ tail)) ∙ ap (λ (y : Reading Token Tree). y.0 ∷ take_items_at n g segment error_of y.1) e) ∙ sym (append_assoc done (x ∷ []) (take_items_at n g segment error_of us))

pub list_goes : (all : List Tree) (n m : ℕ) (g : Descent Token Tree) (done new : List Tree) (ts us tail : List Token) (t : Token) (x : Tree) → all ≡ done ++ take_items_at n g segment error_of ts → 0 < n → ts ≡ t ∷ tail → item_of g ts ≡ (x, us) →
    new ≡ done ++ x ∷ [] → m ≡ n - 1 → all ≡ new ++ take_items_at m g segment error_of us
list_goes all zero m g done new ts us tail t x so some there e made less = absurd (omega (arith, some))
list_goes all (suc n) m g done new ts us tail t x so some there e made less =
    let same : n ≡ m = omega (arith, less) in
    let next : item_of g (t ∷ tail) ≡ (x, us) = sym (ap (item_of g) there) ∙ e in
    so ∙ ap (λ (vs : List Token). done ++ take_items_at (suc n) g segment error_of vs) there ∙ one_item n g done t tail us x next
    ∙ ap (λ (xs : List Tree). xs ++ take_items_at n g segment error_of us) (sym made) ∙ ap (λ k. new ++ take_items_at k g segment error_of us) same

-- what is read before what is left behind so many tokens
read_before : (k : ℕ) (ts : List Token) → tokens_read ts (drop k ts) ≡ take k ts
read_before zero ts = let none : length ts - length ts ≡ 0 = omega arith in ap (λ n. take n ts) none
read_before (suc k) [] = refl
read_before (suc k) (t ∷ ts) =
    let same : suc (length ts) - length (drop k ts) ≡ suc (length ts - length (drop k ts)) = omega (arith, length-drop k ts) in
    ap (λ n. take n (t ∷ ts)) same ∙ ap (λ (xs : List Token). t ∷ xs) (read_before k ts)

-- nothing can be read
pub item_missing : (g : Descent Token Tree) (ts us : List Token) (a : Tree) → g ts ≡ None → us ≡ drop (suc (segment ts)) ts → a ≡ error_of (tokens_read ts us) → item_of g ts ≡ (a, us)
item_missing g ts us a e at said =
    let read : error_of (take (suc (segment ts)) ts) ≡ a = sym (said ∙ ap (λ (vs : List Token). error_of (tokens_read ts vs)) at ∙ ap error_of (read_before (suc (segment ts)) ts)) in
    ap (item_found ts) e ∙ ap (λ (w : Tree). (w, drop (suc (segment ts)) ts)) read ∙ ap (λ (vs : List Token). (a, vs)) (sym at)
