-- What is kept of what the rules say of nodes.
use Rattle.std.specs.Prelude.{List, ◌++◌, Option, Some, None}
use Rattle.judgement.specs.NodeFacts.{NodeFacts}
use Rattle.resolve.specs.declared.said.Keep.{Keep}
use Rattle.resolve.specs.declared.said.Keep.TheVariants.{NodesToo, FaultsAlone}

-- what is said of nodes, if that is kept
abbrev pub kept : Keep → List NodeFacts → Option (List NodeFacts)
kept NodesToo nodes = Some nodes
kept FaultsAlone nodes = None

-- what is kept where more is said: that behind what was kept before, and nothing where nothing is kept
unfoldable pub said_more : (said : Option (List NodeFacts)) → List NodeFacts → Option (List NodeFacts)
said_more (Some said) nodes = Some (said ++ nodes)
said_more None nodes = None
