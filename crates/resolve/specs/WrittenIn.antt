-- The locals that scopes and loops write.
use Rattle.std.specs.Prelude.{List, [], ◌++◌}
use Rattle.dart_tree.specs.Tree.{Tree, Trees}
use Rattle.flow_model.specs.Flow.{FlowModel}
use Rattle.flow_model.specs.declared.locals.LocalId.{LocalId}
use Rattle.judgement.specs.Surroundings.{Surroundings}
use Rattle.judgement.specs.DeclaredNames.{names_declared, names_in, within}
use Rattle.judgement.specs.StatementRows.{loop_head}
use Rattle.judgement.specs.Written.{written_in, written_in_all}

-- those that a statement writes that is a branch or a body, and so a scope
abbrev pub written_in_scope : Surroundings → Tree → List LocalId
written_in_scope s tree = written_in (within s (names_declared tree)) tree

-- those that the statements of a block write, which is a scope
abbrev pub written_in_block : Surroundings → Trees → List LocalId
written_in_block s statements = written_in_all (within s (names_in statements)) statements

-- those that a loop's condition and body write
abbrev pub written_in_loop : Surroundings → (condition body : Tree) → List LocalId
written_in_loop s condition body = written_in s condition ++ written_in_scope s body

-- what is known at the head of a loop, each time that it is come to
abbrev pub known_at_head : Surroundings → (condition body : Tree) → FlowModel → FlowModel
known_at_head s condition body m = loop_head m (written_in_loop s condition body) []
