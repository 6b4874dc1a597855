use Rattle.std.proofs.Common.{◌≡◌, take, fold}
use Rattle.std.specs.Option.{option_copied}
use Rattle.namespaces.specs.Meanings.{no_meanings}
use Rattle.namespaces.specs.Lookups.{with_import}
use Rattle.namespaces.proofs.lookups.meanings_of.Given as goal

abbrev pub invariant-loop-import : goal.invariant-loop-import
invariant-loop-import l = l.meanings ≡ fold (with_import (option_copied l.prefix) l.name) no_meanings (take l.import-index l.imports)
