use Rattle.built_forms.proofs.Blocks.{bodies_are_built, bodies_are_blocks}
use Rattle.built_forms.proofs.laws.built_bodies_are_blocks.Goals as goal

pub returns-clause-built : goal.returns-clause-built
returns-clause-built c = bodies_are_built

pub returns-clause-blocks : goal.returns-clause-blocks
returns-clause-blocks c = bodies_are_blocks
