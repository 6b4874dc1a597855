-- In each object that was read the keys rise, in whatever order its text has them.
use Rattle.std.proofs.Common.{◌≡◌, ℕ, List, [], ◌∷◌, Option, Some, None, option_map, option_and_then, IfSome, Ordering, Less, Equal, Greater, nat_cmp, refl, ap, ◌∙◌}
use Rattle.std.specs.Prelude.{⊤}
use Rattle.std.specs.Cmp.Lexicographic.{slice_cmp}
use Rattle.std.specs.List.{AllByRecursion}
use Rattle.std.specs.List.Sorted.{IsStrictlySortedBy}
use Rattle.std.specs.Ordering.{match_ordering, ordering_reverse}
use Rattle.std.proofs.lemmas.Cmp.{nat_list_cmp_total}
use Rattle.json.specs.Json as json
use Rattle.json.specs.Lex.{tokens}
use Rattle.serde_json.specs.Data.{Data, null, boolean, number, string, array, object, Items, no_items, item, Members, no_members, member, put}
use Rattle.serde_json.specs.Find.{get, get_member, as_object}
use Rattle.serde_json.specs.Read.{number_of, of_json, of_items, of_members, max_depth, read}

-- keys are compared byte by byte
abbrev pub key_cmp : List ℕ → List ℕ → Ordering
key_cmp = slice_cmp nat_cmp

-- the keys of members
abbrev pub keys : Members → List (List ℕ)
keys no_members = []
keys (member k d ms) = k ∷ keys ms

-- they rise
abbrev pub Rise : Members → Type 0
Rise ms = IsStrictlySortedBy key_cmp (keys ms)

-- they rise in each object of a value, of items or of members
abbrev mutual
  pub IsInOrder : Data → Type 0
  IsInOrder null = ⊤
  IsInOrder (boolean b) = ⊤
  IsInOrder (number n) = ⊤
  IsInOrder (string s) = ⊤
  IsInOrder (array ds) = AreInOrder ds
  IsInOrder (object ms) = Rise ms × HaveInOrder ms

  pub AreInOrder : Items → Type 0
  AreInOrder no_items = ⊤
  AreInOrder (item d ds) = IsInOrder d × AreInOrder ds

  pub HaveInOrder : Members → Type 0
  HaveInOrder no_members = ⊤
  HaveInOrder (member k d ms) = IsInOrder d × HaveInOrder ms

-- what holds of each choice that may be made holds of the one that is
chosen : {A : Type 0} (P : A → Type 0) (o : Ordering) (a b c : A) → (o ≡ Less → P a) → (o ≡ Equal → P b) → (o ≡ Greater → P c) → P (match_ordering o a b c)
chosen P Less a b c f g h = f refl
chosen P Equal a b c f g h = g refl
chosen P Greater a b c f g h = h refl

-- a key is below those of members
abbrev IsBelow : List ℕ → Members → Type 0
IsBelow k ms = AllByRecursion (λ y. key_cmp k y ≡ Less) (keys ms)

-- a lesser key is below them too
IsBelow-trans : (k l : List ℕ) (ms : Members) → key_cmp k l ≡ Less → IsBelow l ms → IsBelow k ms
IsBelow-trans k l no_members h below = tt
IsBelow-trans k l (member x d ms) h below = (nat_list_cmp_total.trans k l x h below.0, IsBelow-trans k l ms h below.1)

-- and below them when one more is put in, if it is below that one
IsBelow-put : (l k : List ℕ) (d : Data) (ms : Members) → key_cmp l k ≡ Less → IsBelow l ms → IsBelow l (put k d ms)
IsBelow-put l k d no_members h below = (h, tt)
IsBelow-put l k d (member x e ms) h below =
    chosen (IsBelow l) (key_cmp k x) (member k d (member x e ms)) (member x d ms) (member x e (put k d ms))
    (λ _. (h, below)) (λ _. below) (λ _. (below.0, IsBelow-put l k d ms h below.1))

-- keys still rise when one more is put in
Rise-put : (k : List ℕ) (d : Data) (ms : Members) → Rise ms → Rise (put k d ms)
unfolding IsStrictlySortedBy
Rise-put k d no_members rise = (tt, tt)
Rise-put k d (member l e ms) rise =
    chosen Rise (key_cmp k l) (member k d (member l e ms)) (member l d ms) (member l e (put k d ms))
    (λ less. ((less, IsBelow-trans k l ms less rise.0), rise))
    (λ _. rise)
    (λ greater. (IsBelow-put l k d ms (nat_list_cmp_total.antisymm l k ∙ ap ordering_reverse greater) rise.0, Rise-put k d ms rise.1))

-- and the values are in order when one more is put in that is
HaveInOrder-put : (k : List ℕ) (d : Data) (ms : Members) → IsInOrder d → HaveInOrder ms → HaveInOrder (put k d ms)
HaveInOrder-put k d no_members h hs = (h, tt)
HaveInOrder-put k d (member l e ms) h hs =
    chosen HaveInOrder (key_cmp k l) (member k d (member l e ms)) (member l d ms) (member l e (put k d ms))
    (λ _. (h, hs)) (λ _. (h, hs.1)) (λ _. (hs.0, HaveInOrder-put k d ms h hs.1))

-- what holds of what is made of a value, if there is one
pub IfSome-map : {A B : Type 0} (P : A → Type 0) (Q : B → Type 0) (f : A → B) → ((a : A) → P a → Q (f a)) → (o : Option A) → IfSome o P → IfSome (option_map f o) Q
IfSome-map P Q f h None p = tt
IfSome-map P Q f h (Some a) p = h a p

pub IfSome-and_then : {A B : Type 0} (P : A → Type 0) (Q : B → Type 0) (f : A → Option B) → ((a : A) → P a → IfSome (f a) Q) → (o : Option A) → IfSome o P → IfSome (option_and_then f o) Q
IfSome-and_then P Q f h None p = tt
IfSome-and_then P Q f h (Some a) p = h a p

-- the same where it holds whatever the value is
pub IfSome-map_any : {A B : Type 0} (Q : B → Type 0) (f : A → B) → ((a : A) → Q (f a)) → (o : Option A) → IfSome (option_map f o) Q
IfSome-map_any Q f h None = tt
IfSome-map_any Q f h (Some a) = h a

pub IfSome-and_then_any : {A B : Type 0} (Q : B → Type 0) (f : A → Option B) → ((a : A) → IfSome (f a) Q) → (o : Option A) → IfSome (option_and_then f o) Q
IfSome-and_then_any Q f h None = tt
IfSome-and_then_any Q f h (Some a) = h a

-- no keys rise
Rise-no_members : Rise no_members
unfolding IsStrictlySortedBy
Rise-no_members = tt

-- the value of JSON's grammar that was read is in order
mutual
  IsInOrder-of_json : (j : json.Json) → IfSome (of_json j) IsInOrder
  IsInOrder-of_json json.null = tt
  IsInOrder-of_json (json.boolean b) = tt
  IsInOrder-of_json (json.number s) = IfSome-map_any IsInOrder number (λ n. tt) (number_of s)
  IsInOrder-of_json (json.string s) = tt
  IsInOrder-of_json (json.array js) = IfSome-map AreInOrder IsInOrder array (λ ds h. h) (of_items js) (AreInOrder-of_items js)
  IsInOrder-of_json (json.object ms) =
      IfSome-map (λ found. Rise found × HaveInOrder found) IsInOrder object (λ found h. h) (of_members ms no_members) (IsInOrder-of_members ms no_members (Rise-no_members, tt))

  AreInOrder-of_items : (js : json.Items) → IfSome (of_items js) AreInOrder
  AreInOrder-of_items json.no_items = tt
  AreInOrder-of_items (json.item j js) =
      IfSome-and_then IsInOrder AreInOrder _ (λ d h. IfSome-map AreInOrder AreInOrder (item d) (λ ds hs. (h, hs)) (of_items js) (AreInOrder-of_items js)) (of_json j) (IsInOrder-of_json j)

  IsInOrder-of_members : (ms : json.Members) (found : Members) → Rise found × HaveInOrder found → IfSome (of_members ms found) (λ all. Rise all × HaveInOrder all)
  IsInOrder-of_members json.no_members found h = h
  IsInOrder-of_members (json.member k j ms) found h =
      IfSome-and_then IsInOrder (λ all. Rise all × HaveInOrder all) _
      (λ d in_order. IsInOrder-of_members ms (put k d found) (Rise-put k d found h.0, HaveInOrder-put k d found in_order h.1)) (of_json j) (IsInOrder-of_json j)

-- the value of a text is in order
pub IsInOrder-read : (text : List ℕ) → IfSome (read text) IsInOrder
IsInOrder-read text = IfSome-and_then_any IsInOrder of_json IsInOrder-of_json (option_and_then (λ p. json.if_last p.0 p.1) (json.value max_depth (tokens text)))

-- so is a value at a key
get_member-in_order : (k : List ℕ) (ms : Members) → HaveInOrder ms → IfSome (get_member k ms) IsInOrder
get_member-in_order k no_members hs = tt
get_member-in_order k (member l e ms) hs =
    let rest = get_member-in_order k ms hs.1 in
    chosen (λ found. IfSome found IsInOrder) (key_cmp k l) (get_member k ms) (Some e) (get_member k ms) (λ _. rest) (λ _. hs.0) (λ _. rest)

pub get-in_order : (k : List ℕ) (d : Data) → IsInOrder d → IfSome (get k d) IsInOrder
get-in_order k null h = tt
get-in_order k (boolean b) h = tt
get-in_order k (number n) h = tt
get-in_order k (string s) h = tt
get-in_order k (array ds) h = tt
get-in_order k (object ms) h = get_member-in_order k ms h.1

-- the members of a value in order rise
pub as_object-rises : (d : Data) → IsInOrder d → IfSome (as_object d) Rise
as_object-rises null h = tt
as_object-rises (boolean b) h = tt
as_object-rises (number n) h = tt
as_object-rises (string s) h = tt
as_object-rises (array ds) h = tt
as_object-rises (object ms) h = h.0
