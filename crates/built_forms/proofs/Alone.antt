-- Lists of one node, of none and of more.
use Rattle.std.proofs.Common.{◌≡◌, ◌==◌, List, [], ◌∷◌, length, nat_eq, refl, arith}
use Rattle.std.proofs.Math.Dec.{eqb-suc-zero}
use Rattle.std.proofs.lemmas.Bool.Decides.{nat_tests}
use Rattle.dart_tree.specs.Tree.{Tree, absent, trees_of}
use Rattle.judgement.specs.declared.meaning.Meaning.{Meaning}
use Rattle.built_forms.specs.Forms.{is_one_argument, is_one_variable}
use Rattle.built_forms.specs.CoreImports.{brings_all}
use Rattle.built_forms.specs.Units.{are_none}

-- a list is empty where it has no length
pub none_by_length : (items : List Tree) → (length items == 0) ≡ are_none (trees_of items)
none_by_length [] = refl
none_by_length (item ∷ items) = eqb-suc-zero (length items)

-- an import without a prefix brings all names where its list of combinators has no length
pub all_by_length : (items : List Tree) → (length items == 0) ≡ brings_all absent (trees_of items)
all_by_length [] = refl
all_by_length (item ∷ items) = eqb-suc-zero (length items)

-- of no argument, and of two or more, none is alone
pub no_one_argument : (outside : List Meaning) (items : List Tree) → (length items ≡ 1 → ⊥) → nat_eq (length items) 1 ≡ is_one_argument outside (trees_of items)
no_one_argument outside [] other = refl
no_one_argument outside (item ∷ []) other = absurd (other refl)
no_one_argument outside (item ∷ second ∷ items) other = grind (arith, nat_tests)

-- and so of variables
pub no_one_variable : (outside : List Meaning) (items : List Tree) → (length items ≡ 1 → ⊥) → nat_eq (length items) 1 ≡ is_one_variable outside (trees_of items)
no_one_variable outside [] other = refl
no_one_variable outside (item ∷ []) other = absurd (other refl)
no_one_variable outside (item ∷ second ∷ items) other = grind (arith, nat_tests)
