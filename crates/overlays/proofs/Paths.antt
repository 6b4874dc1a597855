-- The order of paths, and that two are the same exactly where neither comes first.
use Rattle.std.proofs.Common.{◌≡◌, ◌≢◌, ℕ, Bool, true, false, List, refl, sym, ap, ◌∙◌}
use Rattle.std.specs.Prelude.{bytes_eq}
use Rattle.std.specs.Cmp.Lexicographic.{slice_cmp}
use Rattle.std.specs.Ordering.{nat_cmp, is_eq, ordering_reverse}
use Rattle.std.specs.declared.cmp.Ordering.{Ordering}
use Rattle.std.specs.declared.cmp.Ordering.TheVariants.{Less, Equal, Greater}
use Rattle.std.proofs.lemmas.Bool.{false_from_ne_true}
use Rattle.std.proofs.lemmas.Cmp.{nat_list_cmp_total, tied_itself}
use Rattle.std.proofs.lemmas.Map.Text.{is_eq-slice_cmp}
use Rattle.std.proofs.lemmas.Slice.Eq.{bytes_eq-Decides}

-- how two paths compare
abbrev pub path_cmp : List ℕ → List ℕ → Ordering
path_cmp = slice_cmp nat_cmp

-- one of the three, with what the comparison says
pub by_order : (p q : List ℕ) (P : Ordering → Type 0) → (path_cmp p q ≡ Less → P Less) → (path_cmp p q ≡ Equal → P Equal) → (path_cmp p q ≡ Greater → P Greater) → P (path_cmp p q)
by_order p q P less equal greater =
    elim (path_cmp p q) as (λ o. path_cmp p q ≡ o → P o) [ Less ↦ less | Equal ↦ equal | Greater ↦ greater ] refl

-- the comparison the other way round
pub turned : (p q : List ℕ) (o : Ordering) → path_cmp p q ≡ o → path_cmp q p ≡ ordering_reverse o
turned p q o is = nat_list_cmp_total.antisymm q p ∙ ap ordering_reverse is

-- smaller than smaller is smaller
pub chained : (p q r : List ℕ) → path_cmp p q ≡ Less → path_cmp q r ≡ Less → path_cmp p r ≡ Less
chained = nat_list_cmp_total.trans

-- whether two paths are the same, by how they compare
pub same_by : (p q : List ℕ) (o : Ordering) → path_cmp p q ≡ o → bytes_eq p q ≡ is_eq o
same_by p q o is = sym (is_eq-slice_cmp p q) ∙ ap is_eq is

-- paths that compare equal are the same
pub same_path : (p q : List ℕ) → path_cmp p q ≡ Equal → p ≡ q
same_path p q is = (bytes_eq-Decides p q).0 (same_by p q Equal is)

-- a path is the same as itself
pub compares_equal : (p q : List ℕ) → p ≡ q → path_cmp p q ≡ Equal
compares_equal p q is = ap (path_cmp p) (sym is) ∙ tied_itself nat_list_cmp_total p

pub is_same : (p q : List ℕ) → p ≡ q → bytes_eq p q ≡ true
is_same p q is = (bytes_eq-Decides p q).1 is

-- a path that comes before or behind is another
pub differs-below : (p q : List ℕ) → path_cmp p q ≡ Less → bytes_eq p q ≡ false
differs-below p q is = same_by p q Less is

pub differs-above : (p q : List ℕ) → path_cmp p q ≡ Greater → bytes_eq p q ≡ false
differs-above p q is = same_by p q Greater is

pub differs : (p q : List ℕ) → p ≢ q → bytes_eq p q ≡ false
differs p q other = false_from_ne_true (bytes_eq p q) (λ same. other ((bytes_eq-Decides p q).0 same))

-- the same path, or another
pub by_sameness : (p q : List ℕ) (P : Bool → Type 0) → (p ≡ q → P true) → (bytes_eq p q ≡ false → P false) → P (bytes_eq p q)
by_sameness p q P same other =
    elim (bytes_eq p q) as (λ b. bytes_eq p q ≡ b → P b) [ true ↦ (λ is. same ((bytes_eq-Decides p q).0 is)) | false ↦ other ] refl
