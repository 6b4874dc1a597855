-- The order of paths, and that two are the same exactly where neither comes first.
use Rattle.std.proofs.Common.{◌≡◌, ◌≢◌, ℕ, Bool, true, false, List, refl, sym, ap, ◌∙◌}
use Rattle.std.specs.Prelude.{bytes_eq}
use Rattle.std.specs.Ordering.{is_eq, ordering_reverse}
use Rattle.std.specs.declared.cmp.Ordering.{Ordering}
use Rattle.std.specs.declared.cmp.Ordering.TheVariants.{Less, Equal, Greater}
use Rattle.std.proofs.lemmas.Bool.{false_from_ne_true}
use Rattle.std.proofs.lemmas.Cmp.{nat_list_cmp_total, tied_itself}
use Rattle.std.proofs.lemmas.Map.Text.{is_eq-slice_cmp}
use Rattle.std.proofs.lemmas.Slice.Eq.{bytes_eq-Decides}
use Rattle.load_files.specs.Tables.{path_cmp}

-- one of the three, with what the comparison says
pub by_comparison : (p q : List ℕ) (P : Ordering → Type 0) → (path_cmp p q ≡ Less → P Less) → (path_cmp p q ≡ Equal → P Equal) → (path_cmp p q ≡ Greater → P Greater) → P (path_cmp p q)
by_comparison p q P less equal greater =
    elim (path_cmp p q) as (λ o. path_cmp p q ≡ o → P o) [ Less ↦ less | Equal ↦ equal | Greater ↦ greater ] refl

-- the comparison the other way round
pub turned : (p q : List ℕ) (o : Ordering) → path_cmp p q ≡ o → path_cmp q p ≡ ordering_reverse o
turned p q o is = nat_list_cmp_total.antisymm q p ∙ ap ordering_reverse is

-- paths that compare equal are the same
pub same_path : (p q : List ℕ) → path_cmp p q ≡ Equal → p ≡ q
same_path p q is = (bytes_eq-Decides p q).0 (sym (is_eq-slice_cmp p q) ∙ ap is_eq is)

-- a path is the same as itself
pub compares_equal : (p q : List ℕ) → p ≡ q → path_cmp p q ≡ Equal
compares_equal p q is = ap (path_cmp p) (sym is) ∙ tied_itself nat_list_cmp_total p

pub is_same : (p q : List ℕ) → p ≡ q → bytes_eq p q ≡ true
is_same p q is = (bytes_eq-Decides p q).1 is

pub same_from_test : (p q : List ℕ) → bytes_eq p q ≡ true → p ≡ q
same_from_test p q is = (bytes_eq-Decides p q).0 is

pub differs : (p q : List ℕ) → p ≢ q → bytes_eq p q ≡ false
differs p q other = false_from_ne_true (bytes_eq p q) (λ same. other ((bytes_eq-Decides p q).0 same))

-- the same path, or another
pub by_sameness : (p q : List ℕ) (P : Bool → Type 0) → (p ≡ q → P true) → (bytes_eq p q ≡ false → P false) → P (bytes_eq p q)
by_sameness p q P same other =
    elim (bytes_eq p q) as (λ b. bytes_eq p q ≡ b → P b) [ true ↦ (λ is. same ((bytes_eq-Decides p q).0 is)) | false ↦ other ] refl
