-- Trees that are the same with ranges aside, once the lists of statements in them are read.
use Rattle.std.proofs.Common.{◌≡◌, ℕ, Bool, ◌++◌, List, [], ◌∷◌, Option, Some, None, refl}
use Rattle.dart_tree.specs.Tree.{Tree, Trees, Part, trees_of, part_of}
use Rattle.dart_tree.specs.Bare.{bare_of, bare_with, all_bare_with, part_bare_with}
use Rattle.dart_tree.specs.Heights.{height, heights, height_of_part}
use Rattle.unread_lists.specs.WithLists.{list_read, with_lists, all_with_lists, part_with_lists}
use Rattle.dart_tokens.specs.declared.grouped_token.GroupedToken.{GroupedToken as Token}
use Rattle.grammar.specs.Types.{behind_token, listed_or_none}
use Rattle.grammar.specs.Expressions.{reads_on, is_incremented}
use Rattle.grammar.specs.Statements.{ends_open}
use Rattle.range_laws.specs.Agreeing.{Twins}
use Rattle.range_laws.proofs.Follow.{Readers, Both, Pair, Alls}

-- what may stand behind an expression, its height aside
abbrev pub ending : Tree → Bool × Bool
ending t = (reads_on t, is_incremented t)

-- two trees have the same height, end alike, and are the same with ranges aside where their lists are read
pub record Same (r : Readers) (t u : Tree) : Type 0 where
  pub shown : (n : ℕ) → bare_with (λ word. word) (with_lists r.one n t) ≡ bare_with (λ word. word) (with_lists r.other n u)
  pub high : height t ≡ height u
  pub open_end : ends_open t ≡ ends_open u
  pub last : ending t ≡ ending u

-- so of the trees of a list
pub record AllSame (r : Readers) (ts us : Trees) : Type 0 where
  pub shown : (n : ℕ) → all_bare_with (λ word. word) (all_with_lists r.one n ts) ≡ all_bare_with (λ word. word) (all_with_lists r.other n us)
  pub high : heights ts ≡ heights us

-- and of a part
pub record PartSame (r : Readers) (p q : Part) : Type 0 where
  pub shown : (n : ℕ) → part_bare_with (λ word. word) (part_with_lists r.one n p) ≡ part_bare_with (λ word. word) (part_with_lists r.other n q)
  pub high : height_of_part p ≡ height_of_part q

-- two lists of statements that aren't read yet are read the same
pub record ListSame (r : Readers) (ts us : List Tree) : Type 0 where
  pub shown : (n : ℕ) → all_bare_with (λ word. word) (list_read r.one n (trees_of ts)) ≡ all_bare_with (λ word. word) (list_read r.other n (trees_of us))
  pub high : heights (trees_of ts) ≡ heights (trees_of us)

-- trees that hold no lists are the same with ranges aside
abbrev pub Plain : Tree → Tree → Type 0
Plain t u = bare_of t ≡ bare_of u

pub all_same : (r : Readers) (xs ys : List Tree) → Alls (Same r) xs ys → AllSame r (trees_of xs) (trees_of ys)
all_same r [] [] p = record { shown = λ n. refl; high = refl }
all_same r [] (y ∷ ys) p = absurd p
all_same r (x ∷ xs) [] p = absurd p
all_same r (x ∷ xs) (y ∷ ys) p = let more = all_same r xs ys p.1 in record { shown = λ n. rw (p.0.shown n, more.shown n) refl; high = rw (p.0.high, more.high) refl }

pub part_same : (r : Readers) (o p : Option Tree) → Both (Same r) o p → PartSame r (part_of o) (part_of p)
part_same r None None b = record { shown = λ n. refl; high = refl }
part_same r None (Some y) b = absurd b
part_same r (Some x) None b = absurd b
part_same r (Some x) (Some y) b = record { shown = λ n. rw (b.shown n) refl; high = b.high }

pub all_plain : (xs ys : List Tree) → Alls Plain xs ys → all_bare_with (λ word. word) (trees_of xs) ≡ all_bare_with (λ word. word) (trees_of ys)
all_plain [] [] p = refl
all_plain [] (y ∷ ys) p = absurd p
all_plain (x ∷ xs) [] p = absurd p
all_plain (x ∷ xs) (y ∷ ys) p = rw (p.0, all_plain xs ys p.1) refl

-- Options and lists.

pub behind_related : {A : Type 0} (R : A → A → Type 0) (o p : Option (Token × A)) → Both (Pair Twins R) o p → Both R (behind_token o) (behind_token p)
behind_related R None None b = tt
behind_related R None (Some y) b = absurd b
behind_related R (Some x) None b = absurd b
behind_related R (Some x) (Some y) b = b.1

pub listed_related : (R : Tree → Tree → Type 0) (o p : Option (List Tree)) → Both (Alls R) o p → Alls R (listed_or_none o) (listed_or_none p)
listed_related R None None b = tt
listed_related R None (Some y) b = absurd b
listed_related R (Some x) None b = absurd b
listed_related R (Some x) (Some y) b = b

pub append_related : {A : Type 0} (R : A → A → Type 0) (xs ys vs ws : List A) → Alls R xs ys → Alls R vs ws → Alls R (xs ++ vs) (ys ++ ws)
append_related R [] [] vs ws p q = q
append_related R [] (y ∷ ys) vs ws p q = absurd p
append_related R (x ∷ xs) [] vs ws p q = absurd p
append_related R (x ∷ xs) (y ∷ ys) vs ws p q = (p.0, append_related R xs ys vs ws p.1 q)

pub behind_same : (r : Readers) (o p : Option (Token × Tree)) → Both (Pair Twins (Same r)) o p → PartSame r (part_of (behind_token o)) (part_of (behind_token p))
behind_same r o p b = part_same r (behind_token o) (behind_token p) (behind_related (Same r) o p b)
