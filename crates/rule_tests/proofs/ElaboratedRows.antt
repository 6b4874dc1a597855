-- The rows of a program that is elaborated.
use Rattle.std.proofs.Common.{◌≡◌, ℕ, List, ap}
use Rattle.dart_tree.specs.Tree.{Tree}
use Rattle.dart_types.specs.FormedTable.{FormedTable}
use Rattle.judgement.specs.declared.meaning.Meaning.{Meaning}
use Rattle.core_ir.specs.Program.{Program}
use Rattle.elaborate.specs.Elaborated.{elaborated}

-- they are those that it is elaborated with
pub rows_of_elaborated : (rows : FormedTable) (words : List (List ℕ)) (outside : List Meaning) (body : Tree) (program : Program)
    → program ≡ elaborated rows words outside body → program.rows ≡ rows
unfolding elaborated
rows_of_elaborated rows words outside body program same = ap (λ (p : Program). p.rows) same
