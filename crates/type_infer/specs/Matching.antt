-- Matching: the constraints that a type sets on the type parameters in a formal, so that one is a subtype of the other. One constructor is one rule.
use Rattle.std.specs.Prelude.{◌≡◌, ◌<◌, ◌≤◌, ◌≢◌, ℕ, Bool, true, false, ◌&&◌, ◌||◌, not, List, [], ◌∷◌, ◌++◌, Some, None}
use Rattle.dart_types.specs.Ty.{Ty, Types, Named, invalid, never, void, null, interface, function, variable, promoted, nullable}
use Rattle.dart_types.specs.Heads.{is_plain}
use Rattle.dart_types.specs.Same.{same_class}
use Rattle.dart_types.specs.Sizes.{size_of, held}
use Rattle.dart_types.specs.SubTest.{sub}
use Rattle.dart_types.specs.Tables.{Table, bound_of}
use Rattle.dart_types.specs.declared.ids.ClassId.{ClassId}
use Rattle.dart_types.specs.declared.ids.VarId.{VarId}
use Rattle.dart_types.specs.declared.refusal.TheConstants.{NODE_LIMIT}
use Rattle.type_bounds.specs.Bounds.{is_bare}
use Rattle.type_infer.specs.Above.{IsOnlyAbove}
use Rattle.type_infer.specs.Holding.{holds_param}
use Rattle.type_infer.specs.Open.{is_open}
use Rattle.type_infer.specs.Pairs.{Pair, paired, parts_of, signatures_fit}
use Rattle.type_infer.specs.declared.constraints.Side.{Side}
use Rattle.type_infer.specs.declared.constraints.Side.TheVariants.{AtLeast, AtMost}
use Rattle.type_infer.specs.declared.constraints.Constraint.{Constraint}

-- how matching ends: the types fit, they don't, or a superinterface on the way has so many nodes, more than a type may have
pub data End : Type 0 where
  matched : End
  mismatched : End
  too_large : (nodes : ℕ) → End

-- the types fit where this is so
abbrev pub ended : Bool → End
ended true = matched
ended false = mismatched

-- whether a formal, as it stands, is a supertype, or a subtype, of another type
abbrev pub is_on_side : Table → Side → Ty → Ty → Bool
is_on_side table AtLeast t s = sub table s t
is_on_side table AtMost t s = sub table t s

-- the type is a class or a function type, with `?` or without
abbrev pub is_built : Ty → Bool
is_built invalid = false
is_built never = false
is_built void = false
is_built null = false
is_built (interface c ts) = true
is_built (function r o n e) = true
is_built (variable x) = false
is_built (promoted x t) = false
is_built (nullable t) = is_plain t

-- whether another type is taken as it stands: a subtype that is a variable, promoted or not, isn't, nor is a supertype with `?`
abbrev pub is_as_it_stands : Side → Ty → Bool
is_as_it_stands side invalid = true
is_as_it_stands side never = true
is_as_it_stands side void = true
is_as_it_stands side null = true
is_as_it_stands side (interface c ts) = true
is_as_it_stands side (function r o n e) = true
is_as_it_stands AtLeast (variable x) = false
is_as_it_stands AtMost (variable x) = true
is_as_it_stands AtLeast (promoted x t) = false
is_as_it_stands AtMost (promoted x t) = true
is_as_it_stands AtLeast (nullable t) = true
is_as_it_stands AtMost (nullable t) = false

-- whether a subtype's `?` goes while the formal keeps its own: that of a class or a function type
abbrev pub gives_way_at_mark : Side → Ty → Bool
gives_way_at_mark AtLeast t = is_plain t
gives_way_at_mark AtMost t = false

-- the type is a class
abbrev pub is_class : Ty → Bool
is_class invalid = false
is_class never = false
is_class void = false
is_class null = false
is_class (interface c ts) = true
is_class (function r o n e) = false
is_class (variable x) = false
is_class (promoted x t) = false
is_class (nullable t) = false

-- the type is a function type
abbrev pub is_function : Ty → Bool
is_function invalid = false
is_function never = false
is_function void = false
is_function null = false
is_function (interface c ts) = false
is_function (function r o n e) = true
is_function (variable x) = false
is_function (promoted x t) = false
is_function (nullable t) = false

-- whether a formal in which a parameter stands has no part that faces a part of the other type
abbrev pub is_leaf : Side → Ty → Ty → Bool
is_leaf side invalid s = false
is_leaf side never s = false
is_leaf side void s = false
is_leaf side null s = false
is_leaf side (interface c ts) s = is_as_it_stands side s && not (is_class s)
is_leaf side (function r o n e) s = is_as_it_stands side s && not (is_function s)
is_leaf side (variable x) s = false
is_leaf side (promoted x t) s = true
is_leaf side (nullable t) s = false

mutual
  -- a formal that is to be a supertype (at least), or a subtype (at most), of another type sets these constraints
  pub data Match (table : Table) (params : List VarId) : Side → (formal other : Ty) → List Constraint → End → Type 0 where
    -- a formal in which no parameter stands fits where it is a supertype, or a subtype, and constrains nothing
    fixed : {side : Side} {t s : Ty} → holds_param params t ≡ false → Match table params side t s [] (ended (is_on_side table side t s))
    -- any other goes by what it faces
    faced : {side : Side} {t s : Ty} {cs : List Constraint} {end : End} → holds_param params t ≡ true → Face table params side t s cs end → Match table params side t s cs end

  -- likewise a formal in which a parameter stands
  pub data Face (table : Table) (params : List VarId) : Side → (formal other : Ty) → List Constraint → End → Type 0 where
    -- a parameter is at least, or at most, the type that it faces, but for an open one
    constrained : {side : Side} {x : VarId} {s : Ty} → is_open s ≡ false → Face table params side (variable x) s (record { param = x; side = side; ty = s } ∷ []) matched
    open_there : {side : Side} {x : VarId} {s : Ty} → is_open s ≡ true → Face table params side (variable x) s [] matched
    -- against `T?`, Null gives none, `U?` is matched as U, and any other type stands, or gives way first as it does to T
    null_at_mark : {side : Side} {t : Ty} → Face table params side (nullable t) null [] matched
    marked_both : {side : Side} {t s : Ty} {cs : List Constraint} {end : End} → gives_way_at_mark side t ≡ false → Face table params side t s cs end → Face table params side (nullable t) (nullable s) cs end
    marked_formal : {side : Side} {t s : Ty} {cs : List Constraint} {end : End} → is_bare s ≡ true → (is_as_it_stands side s || not (is_plain t)) ≡ true → Face table params side t s cs end → Face table params side (nullable t) s cs end
    -- a class or a function type with `?` is a supertype of `U?` where it is one of U
    marked_subtype : {t s : Ty} {cs : List Constraint} {end : End} → is_plain t ≡ true → Face table params AtLeast (nullable t) s cs end → Face table params AtLeast (nullable t) (nullable s) cs end
    -- without `?` it is a subtype of `U?` where it is one of U
    marked_other : {t s : Ty} {cs : List Constraint} {end : End} → is_plain t ≡ true → Face table params AtMost t s cs end → Face table params AtMost t (nullable s) cs end
    -- with `?` or without, it is a supertype of a variable where it is one of its bound, and of `X & U` where it is one of U
    bound_of_other : {y : VarId} {b t : Ty} {cs : List Constraint} {end : End} → is_built t ≡ true → bound_of table y ≡ Some b → Face table params AtLeast t b cs end → Face table params AtLeast t (variable y) cs end
    unbound_other : {y : VarId} {t : Ty} → is_built t ≡ true → bound_of table y ≡ None → Face table params AtLeast t (variable y) [] mismatched
    promoted_other : {y : VarId} {u t : Ty} {cs : List Constraint} {end : End} → is_built t ≡ true → Face table params AtLeast t u cs end → Face table params AtLeast t (promoted y u) cs end
    -- one class: argument by argument
    one_class : {side : Side} {c d : ClassId} {ts ss : Types} {cs : List Constraint} {end : End} → same_class c d ≡ true → MatchAll table params (paired side ts ss) cs end → Face table params side (interface c ts) (interface d ss) cs end
    -- another class: by the superinterface of the subtype that is of the class of the supertype, if it has one, and one only
    other_climbs : {c d : ClassId} {ts ss us : Types} {cs : List Constraint} {end : End} → same_class c d ≡ false → IsOnlyAbove table d ss c us → size_of (interface c us) ≤ NODE_LIMIT →
        MatchAll table params (paired AtLeast ts us) cs end → Face table params AtLeast (interface c ts) (interface d ss) cs end
    formal_climbs : {c d : ClassId} {ts ss us : Types} {cs : List Constraint} {end : End} → same_class c d ≡ false → IsOnlyAbove table c ts d us → size_of (interface d us) ≤ NODE_LIMIT →
        MatchAll table params (paired AtMost us ss) cs end → Face table params AtMost (interface c ts) (interface d ss) cs end
    other_too_large : {c d : ClassId} {ts ss us : Types} → same_class c d ≡ false → IsOnlyAbove table d ss c us → NODE_LIMIT < size_of (interface c us) →
        Face table params AtLeast (interface c ts) (interface d ss) [] (too_large (held (size_of (interface c us))))
    formal_too_large : {c d : ClassId} {ts ss us : Types} → same_class c d ≡ false → IsOnlyAbove table c ts d us → NODE_LIMIT < size_of (interface d us) →
        Face table params AtMost (interface c ts) (interface d ss) [] (too_large (held (size_of (interface d us))))
    -- without such a one they fit where the one is a subtype of the other
    other_elsewhere : {c d : ClassId} {ts ss : Types} → same_class c d ≡ false → ((us : Types) → IsOnlyAbove table d ss c us → ⊥) →
        Face table params AtLeast (interface c ts) (interface d ss) [] (ended (is_on_side table AtLeast (interface c ts) (interface d ss)))
    formal_elsewhere : {c d : ClassId} {ts ss : Types} → same_class c d ≡ false → ((us : Types) → IsOnlyAbove table c ts d us → ⊥) →
        Face table params AtMost (interface c ts) (interface d ss) [] (ended (is_on_side table AtMost (interface c ts) (interface d ss)))
    -- function types: part by part, where their signatures fit
    functions : {side : Side} {r o r' o' : Types} {n n' : Named} {e e' : Ty} {cs : List Constraint} {end : End} → signatures_fit side r o n r' o' n' ≡ true →
        MatchAll table params (parts_of side r o n e r' o' n' e') cs end → Face table params side (function r o n e) (function r' o' n' e') cs end
    other_signature : {side : Side} {r o r' o' : Types} {n n' : Named} {e e' : Ty} → signatures_fit side r o n r' o' n' ≡ false → Face table params side (function r o n e) (function r' o' n' e') [] mismatched
    -- all else fits where it is a subtype, and constrains nothing
    leaf : {side : Side} {t s : Ty} → is_leaf side t s ≡ true → Face table params side t s [] (ended (is_on_side table side t s))

  -- the pairs, in their order, as far as they match, set these constraints; a part that is open counts as none
  pub data MatchAll (table : Table) (params : List VarId) : List Pair → List Constraint → End → Type 0 where
    all_matched : MatchAll table params [] [] matched
    open_part : {p : Pair} {ps : List Pair} {cs : List Constraint} {end : End} → is_open p.other ≡ true → MatchAll table params ps cs end → MatchAll table params (p ∷ ps) cs end
    part_matched : {p : Pair} {ps : List Pair} {cs ds : List Constraint} {end : End} → is_open p.other ≡ false → Match table params p.side p.formal p.other cs matched → MatchAll table params ps ds end → MatchAll table params (p ∷ ps) (cs ++ ds) end
    part_ended : {p : Pair} {ps : List Pair} {cs : List Constraint} {end : End} → is_open p.other ≡ false → end ≢ matched → Match table params p.side p.formal p.other cs end → MatchAll table params (p ∷ ps) cs end
