-- Nodes one behind the other, with all that is in them.
use Rattle.std.proofs.Common.{ℕ, zero, suc, ◌<◌, ◌≤◌, ◌++◌, List, [], ◌∷◌, arith}
use Rattle.readings.specs.Leading.{Each}
use Rattle.readings.specs.Lists.{each_flat}
use Rattle.dart_tree.specs.Tree.{Tree}
use Rattle.dart_tree.specs.Nodes.{parts_of}
use Rattle.dart_tree.specs.Places.{span_of}
use Rattle.dart_tokens.specs.declared.grouped_token.GroupedToken.{GroupedToken as Token}
use Rattle.place_laws.specs.Standing.{nodes_at, InOrder, PartsInOrder, StandsOnTokens}

-- a node stands on its tokens, with its parts in order
pub record Placed (text : List Token) (t : Tree) : Type 0 where
  pub tokens : StandsOnTokens text t
  pub parts : PartsInOrder t

-- so does each node in it
abbrev pub Stands : List Token → Tree → Type 0
Stands text t = (level : ℕ) → Each (Placed text) (nodes_at level t)

pub stands : (text : List Token) (t : Tree) → Placed text t → Each (Stands text) (parts_of t) → Stands text t
stands text t p each zero = (p, tt)
stands text t p each (suc level) = each_flat (Stands text) (Placed text) (nodes_at level) (λ u s. s level) (parts_of t) each

-- nodes that stand between two offsets, one behind the other
abbrev pub Row : List Token → (from to : ℕ) → List Tree → Type 0
Row text from to [] = from ≤ to
Row text from to (t ∷ ts) = (from ≤ (span_of t).start) × ((span_of t).start < (span_of t).end) × Stands text t × Row text (span_of t).end to ts

pub row_order : (text : List Token) (from to : ℕ) (ts : List Tree) → Row text from to ts → InOrder from to ts
row_order text from to [] r = r
row_order text from to (t ∷ ts) r = (r.0, r.1, row_order text (span_of t).end to ts r.3)

pub row_each : (text : List Token) (from to : ℕ) (ts : List Tree) → Row text from to ts → Each (Stands text) ts
row_each text from to [] r = tt
row_each text from to (t ∷ ts) r = (r.2, row_each text (span_of t).end to ts r.3)

pub row_from : (text : List Token) (before from to : ℕ) (ts : List Tree) → before ≤ from → Row text from to ts → Row text before to ts
row_from text before from to [] h r = omega (arith, h, r)
row_from text before from to (t ∷ ts) h r = (omega (arith, h, r.0), r.1, r.2, r.3)

pub row_to : (text : List Token) (from to behind : ℕ) (ts : List Tree) → to ≤ behind → Row text from to ts → Row text from behind ts
row_to text from to behind [] h r = omega (arith, h, r)
row_to text from to behind (t ∷ ts) h r = (r.0, r.1, r.2, row_to text (span_of t).end to behind ts h r.3)

pub row_append : (text : List Token) (from mid to : ℕ) (ts us : List Tree) → Row text from mid ts → Row text mid to us → Row text from to (ts ++ us)
row_append text from mid to [] us r s = row_from text from mid to us r s
row_append text from mid to (t ∷ ts) us r s = (r.0, r.1, r.2, row_append text (span_of t).end mid to ts us r.3 s)

-- without those in between
pub row_without : (text : List Token) (from to : ℕ) (ts us vs : List Tree) → Row text from to ((ts ++ us) ++ vs) → Row text from to (ts ++ vs)
row_without text from to [] [] vs r = r
row_without text from to [] (u ∷ us) vs r =
    row_from text from (span_of u).end to vs (omega (arith, r.0, r.1)) (row_without text (span_of u).end to [] us vs r.3)
row_without text from to (t ∷ ts) us vs r = (r.0, r.1, r.2, row_without text (span_of t).end to ts us vs r.3)
