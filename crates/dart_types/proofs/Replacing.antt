-- Types with replacements put in, and their sizes.
use Rattle.std.proofs.Common.{◌≡◌, ◌+◌, ◌<◌, ◌≤◌, ℕ, zero, suc, Bool, true, false, List, [], ◌∷◌, ◌++◌, map, take, length, get_or, Option, Some, None, refl, sym, ◌∙◌, ap, cond, arith, add-one}
use Rattle.std.specs.Prelude.{find, unwrap_or, option_map}
use Rattle.std.proofs.lemmas.List.{map-append}
use Rattle.dart_types.specs.Ty.{Ty, Types, Named, invalid, never, void, null, interface, function, variable, promoted, nullable, no_more, more, no_named, more_named, types_of}
use Rattle.dart_types.specs.Named.{named_of, names_of}
use Rattle.dart_types.specs.Same.{same_var}
use Rattle.dart_types.specs.Sizes.{size_of}
use Rattle.dart_types.specs.Marks.{takes_mark}
use Rattle.dart_types.specs.Substitution.{put, put_all, put_named, by_pairs, argument_of, by_params}
use Rattle.dart_types.specs.Normal.{nullable_of, normal, normal_all, normal_named, substituted}
use Rattle.dart_types.specs.Replacements.{pairs_of, replaced, replaced_all, replaced_named}
use Rattle.dart_types.specs.declared.ids.VarId.{VarId}
use Rattle.dart_types.specs.declared.types.NamedType.{NamedType}
use Rattle.dart_types.specs.declared.replacements.Replacement.{Replacement}
use Rattle.dart_types.proofs.NormalForms.{normal-normal}

-- what a variable stands for is that of its first replacement
by_pairs-find : (rs : List Replacement) (x : VarId) → by_pairs (pairs_of rs) x ≡ unwrap_or (option_map (λ (r : Replacement). r.ty) (find (λ (r : Replacement). same_var r.var x) rs)) (variable x)
by_pairs-find [] x = refl
by_pairs-find (r ∷ rs) x = at (same_var r.var x) (by_pairs-find rs x)
  where
    at : (b : Bool) → by_pairs (pairs_of rs) x ≡ unwrap_or (option_map (λ (s : Replacement). s.ty) (find (λ (s : Replacement). same_var s.var x) rs)) (variable x) → cond b r.ty (by_pairs (pairs_of rs) x) ≡ unwrap_or (option_map (λ (s : Replacement). s.ty) (cond b (Some r) (find (λ (s : Replacement). same_var s.var x) rs))) (variable x)
    at true e = refl
    at false e = e

pub replaced_none : (rs : List Replacement) (x : VarId) → None ≡ find (λ (r : Replacement). same_var r.var x) rs → replaced rs (variable x) ≡ variable x
replaced_none rs x e =
    ap normal (by_pairs-find rs x ∙ ap (λ (o : Option Replacement). unwrap_or (option_map (λ (r : Replacement). r.ty) o) (variable x)) (sym e))

pub replaced_found : (rs : List Replacement) (x : VarId) (r : Replacement) → Some r ≡ find (λ (r : Replacement). same_var r.var x) rs → replaced rs (variable x) ≡ r.ty
replaced_found rs x r e =
    ap normal (by_pairs-find rs x ∙ ap (λ (o : Option Replacement). unwrap_or (option_map (λ (r : Replacement). r.ty) o) (variable x)) (sym e))
    ∙ r.settled

-- a `?` that stays is one node more
pub size_marked : (u : Ty) → takes_mark u ≡ true → size_of (nullable_of u) ≡ size_of u + 1
size_marked invalid h = refl
size_marked never h = cc
size_marked void h = cc
size_marked null h = cc
size_marked (interface c ts) h = omega arith
size_marked (function r o n e) h = omega arith
size_marked (variable x) h = refl
size_marked (promoted x t) h = omega arith
size_marked (nullable t) h = cc

pub size_unmarked : (u : Ty) → takes_mark u ≡ false → size_of (nullable_of u) ≡ size_of u
size_unmarked invalid h = cc
size_unmarked never h = refl
size_unmarked void h = refl
size_unmarked null h = refl
size_unmarked (interface c ts) h = cc
size_unmarked (function r o n e) h = cc
size_unmarked (variable x) h = cc
size_unmarked (promoted x t) h = cc
size_unmarked (nullable t) h = refl

-- no second `?` stays
pub twice_unmarked : (u : Ty) → takes_mark (nullable_of u) ≡ false
twice_unmarked invalid = refl
twice_unmarked never = refl
twice_unmarked void = refl
twice_unmarked null = refl
twice_unmarked (interface c ts) = refl
twice_unmarked (function r o n e) = refl
twice_unmarked (variable x) = refl
twice_unmarked (promoted x t) = refl
twice_unmarked (nullable t) = refl

-- the normal forms of the types of pairs
abbrev pub settled_pairs : List (VarId × Ty) → List (VarId × Ty)
settled_pairs ps = map (λ p. (p.0, normal p.1)) ps

by_pairs-settled : (ps : List (VarId × Ty)) (x : VarId) → by_pairs (settled_pairs ps) x ≡ normal (by_pairs ps x)
by_pairs-settled [] x = refl
by_pairs-settled (p ∷ ps) x = at (same_var p.0 x) (by_pairs-settled ps x)
  where
    at : (b : Bool) → by_pairs (settled_pairs ps) x ≡ normal (by_pairs ps x) → cond b (normal p.1) (by_pairs (settled_pairs ps) x) ≡ normal (cond b p.1 (by_pairs ps x))
    at true e = refl
    at false e = e

-- what is put in may be in normal form before
mutual
  pub normal-put-settled : (τ σ : VarId → Ty) → ((x : VarId) → τ x ≡ normal (σ x)) → (t : Ty) → normal (put τ t) ≡ normal (put σ t)
  normal-put-settled τ σ h invalid = refl
  normal-put-settled τ σ h never = refl
  normal-put-settled τ σ h void = refl
  normal-put-settled τ σ h null = refl
  normal-put-settled τ σ h (interface c ts) = ap (interface c) (normal_all-put_all-settled τ σ h ts)
  normal-put-settled τ σ h (function r o n e) =
      let a = normal_all-put_all-settled τ σ h r in
      let b = normal_all-put_all-settled τ σ h o in
      let c = normal_named-put_named-settled τ σ h n in
      let d = normal-put-settled τ σ h e in
      cc
  normal-put-settled τ σ h (variable x) = ap normal (h x) ∙ normal-normal (σ x)
  normal-put-settled τ σ h (promoted x t) = ap (promoted x) (normal-put-settled τ σ h t)
  normal-put-settled τ σ h (nullable t) = ap nullable_of (normal-put-settled τ σ h t)

  pub normal_all-put_all-settled : (τ σ : VarId → Ty) → ((x : VarId) → τ x ≡ normal (σ x)) → (ts : Types) → normal_all (put_all τ ts) ≡ normal_all (put_all σ ts)
  normal_all-put_all-settled τ σ h no_more = refl
  normal_all-put_all-settled τ σ h (more t ts) =
      let a = normal-put-settled τ σ h t in
      let b = normal_all-put_all-settled τ σ h ts in
      cc

  normal_named-put_named-settled : (τ σ : VarId → Ty) → ((x : VarId) → τ x ≡ normal (σ x)) → (ns : Named) → normal_named (put_named τ ns) ≡ normal_named (put_named σ ns)
  normal_named-put_named-settled τ σ h no_named = refl
  normal_named-put_named-settled τ σ h (more_named n r t ts) =
      let a = normal-put-settled τ σ h t in
      let b = normal_named-put_named-settled τ σ h ts in
      cc

-- without replacements a type stays
mutual
  put_nothing : (t : Ty) → put (by_pairs []) t ≡ t
  put_nothing invalid = refl
  put_nothing never = refl
  put_nothing void = refl
  put_nothing null = refl
  put_nothing (interface c ts) = ap (interface c) (put_nothing_all ts)
  put_nothing (function r o n e) =
      let a = put_nothing_all r in
      let b = put_nothing_all o in
      let c = put_nothing_named n in
      let d = put_nothing e in
      cc
  put_nothing (variable x) = refl
  put_nothing (promoted x t) = ap (promoted x) (put_nothing t)
  put_nothing (nullable t) = ap nullable (put_nothing t)

  put_nothing_all : (ts : Types) → put_all (by_pairs []) ts ≡ ts
  put_nothing_all no_more = refl
  put_nothing_all (more t ts) = let a = put_nothing t in let b = put_nothing_all ts in cc

  put_nothing_named : (ns : Named) → put_named (by_pairs []) ns ≡ ns
  put_nothing_named no_named = refl
  put_nothing_named (more_named n r t ts) = let a = put_nothing t in let b = put_nothing_named ts in cc

pub replaced_nothing : (t : Ty) → replaced [] t ≡ normal t
replaced_nothing t = ap normal (put_nothing t)

-- replacements with the normal forms of the types of pairs do what the pairs do
pub replaced_pairs : (rs : List Replacement) (ps : List (VarId × Ty)) → pairs_of rs ≡ settled_pairs ps → (t : Ty) → replaced rs t ≡ substituted ps t
replaced_pairs rs ps e t =
    ap (λ (qs : List (VarId × Ty)). normal (put (by_pairs qs) t)) e
    ∙ normal-put-settled (by_pairs (settled_pairs ps)) (by_pairs ps) (by_pairs-settled ps) t

-- a list of the normal forms of types
pub types_of-replaced : (rs : List Replacement) (ts : List Ty) → types_of (map (λ t. replaced rs t) ts) ≡ replaced_all rs (types_of ts)
types_of-replaced rs [] = refl
types_of-replaced rs (t ∷ ts) = ap (more (replaced rs t)) (types_of-replaced rs ts)

-- a named parameter with its type in normal form
abbrev pub replaced_param : List Replacement → NamedType → NamedType
replaced_param rs n = record { name = n.name; required = n.required; ty = replaced rs n.ty }

pub named_of-replaced : (rs : List Replacement) (ns : List NamedType) → named_of (map (λ n. replaced_param rs n) ns) ≡ replaced_named rs (named_of ns)
named_of-replaced rs [] = refl
named_of-replaced rs (n ∷ ns) = ap (more_named n.name n.required (replaced rs n.ty)) (named_of-replaced rs ns)

pub names_of-replaced : (rs : List Replacement) (ns : List NamedType) → names_of (map (λ n. replaced_param rs n) ns) ≡ names_of ns
names_of-replaced rs [] = refl
names_of-replaced rs (n ∷ ns) = ap (λ ms. n.name ∷ ms) (names_of-replaced rs ns)

-- one more of what is made of a list's elements
map-take-suc : {X Y : Type 0} (f : X → Y) (xs : List X) (i : ℕ) (x : X) → i < length xs → x ≡ get_or xs i x → map f (take i xs) ++ (f x ∷ []) ≡ map f (take (suc i) xs)
map-take-suc f [] i x h e = absurd (omega arith)
map-take-suc f (y ∷ ys) zero x h e = ap (λ z. f z ∷ []) e
map-take-suc f (y ∷ ys) (suc i) x h e = ap (λ zs. f y ∷ zs) (map-take-suc f ys i x (omega arith) e)

pub map-take-next : {X Y : Type 0} (f : X → Y) (xs : List X) (i : ℕ) (x : X) → i < length xs → x ≡ get_or xs i x → map f (take i xs) ++ (f x ∷ []) ≡ map f (take (i + 1) xs)
map-take-next f xs i x h e = rw (add-one i) (map-take-suc f xs i x h e)

-- the pair that a replacement in normal form gives is the next one
pub pairs_of-next : (rs : List Replacement) (ps : List (VarId × Ty)) (i : ℕ) (p : VarId × Ty) (r : Replacement) → i < length ps → p ≡ get_or ps i p → pairs_of rs ≡ settled_pairs (take i ps) → r.var ≡ p.0 → r.ty ≡ normal p.1 → pairs_of (rs ++ (r ∷ [])) ≡ settled_pairs (take (i + 1) ps)
pairs_of-next rs ps i p r h e before v t =
    map-append (λ (s : Replacement). (s.var, s.ty)) rs (r ∷ [])
    ∙ (let a : r.var ≡ p.0 = v in
    let b : r.ty ≡ normal p.1 = t in
    let c : (pairs_of rs ++ ((r.var, r.ty) ∷ [])) ≡ (settled_pairs (take i ps) ++ ((p.0, normal p.1) ∷ [])) = cc in
    c)
    ∙ map-take-next (λ (q : VarId × Ty). (q.0, normal q.1)) ps i p h e

-- the parameters of a class with its arguments
abbrev pub paired : List VarId → List Ty → List (VarId × Ty)
paired [] ts = []
paired (p ∷ ps) [] = []
paired (p ∷ ps) (t ∷ ts) = (p, t) ∷ paired ps ts

pub at_paired : (ps : List VarId) (ts : List Ty) (i : ℕ) → i < length ps → i < length ts → i < length (paired ps ts)
at_paired [] ts i h k = absurd (omega arith)
at_paired (p ∷ ps) [] i h k = absurd (omega arith)
at_paired (p ∷ ps) (t ∷ ts) zero h k = omega arith
at_paired (p ∷ ps) (t ∷ ts) (suc i) h k = omega (arith, at_paired ps ts i (omega arith) (omega arith))

pub all_paired : (ps : List VarId) (ts : List Ty) → (length (paired ps ts) ≤ length ps) × (length (paired ps ts) ≤ length ts)
all_paired [] ts = (omega arith, omega arith)
all_paired (p ∷ ps) [] = (omega arith, omega arith)
all_paired (p ∷ ps) (t ∷ ts) = let a = all_paired ps ts in (omega (arith, a.0), omega (arith, a.1))

pub get_or-paired : (ps : List VarId) (ts : List Ty) (i : ℕ) (p : VarId) (t : Ty) → i < length ps → i < length ts → p ≡ get_or ps i p → t ≡ get_or ts i t → (p, t) ≡ get_or (paired ps ts) i (p, t)
get_or-paired [] ts i p t h k a b = absurd (omega arith)
get_or-paired (q ∷ ps) [] i p t h k a b = absurd (omega arith)
get_or-paired (q ∷ ps) (u ∷ ts) zero p t h k a b = λ j. (a j, b j)
get_or-paired (q ∷ ps) (u ∷ ts) (suc i) p t h k a b = get_or-paired ps ts i p t (omega arith) (omega arith) a b

by_pairs-paired : (ps : List VarId) (ts : List Ty) (x : VarId) → by_pairs (paired ps ts) x ≡ by_params ps (types_of ts) x
by_pairs-paired [] ts x = refl
by_pairs-paired (p ∷ ps) [] x = refl
by_pairs-paired (p ∷ ps) (t ∷ ts) x = at (same_var p x) (by_pairs-paired ps ts x)
  where
    at : (b : Bool) → by_pairs (paired ps ts) x ≡ by_params ps (types_of ts) x → cond b t (by_pairs (paired ps ts) x) ≡ unwrap_or (cond b (Some t) (argument_of ps (types_of ts) x)) (variable x)
    at true e = refl
    at false e = e

-- replacements of parameters by arguments put the arguments in
pub replaced_params : (rs : List Replacement) (ps : List VarId) (ts : List Ty) → pairs_of rs ≡ settled_pairs (paired ps ts) → (t : Ty) → replaced rs t ≡ normal (put (by_params ps (types_of ts)) t)
replaced_params rs ps ts e t =
    replaced_pairs rs (paired ps ts) e t
    ∙ ap (λ (σ : VarId → Ty). normal (put σ t)) (λ k x. by_pairs-paired ps ts x k)
