-- What is kept of what is said of nodes, one part after another.
use Rattle.std.proofs.Common.{◌≡◌, false, List, [], ◌++◌, Option, Some, None, is_some, refl, sym, ap, append_assoc, append-nil}
use Rattle.judgement.specs.NodeFacts.{NodeFacts}
use Rattle.resolve.specs.Said.{kept, said_more}
use Rattle.resolve.specs.declared.said.Keep.{Keep}
use Rattle.resolve.specs.declared.said.Keep.TheVariants.{NodesToo, FaultsAlone}

-- where no more is said, it stays
pub said_no_more : (said : Option (List NodeFacts)) → said_more said [] ≡ said
unfolding said_more
said_no_more (Some nodes) = ap (λ (ns : List NodeFacts). Some ns) (append-nil nodes)
said_no_more None = refl

pub said_nothing : (said : Option (List NodeFacts)) → said ≡ said_more said []
said_nothing said = sym (said_no_more said)

-- what is said in two parts is said in one
pub said_twice : (said : Option (List NodeFacts)) (first second : List NodeFacts) → said_more (said_more said first) second ≡ said_more said (first ++ second)
unfolding said_more
said_twice (Some nodes) first second = ap (λ (ns : List NodeFacts). Some ns) (append_assoc nodes first second)
said_twice None first second = refl

-- what is said first
pub said_first : (keep : Keep) (nodes : List NodeFacts) → said_more (kept keep []) nodes ≡ kept keep nodes
unfolding said_more
said_first NodesToo nodes = refl
said_first FaultsAlone nodes = refl

-- where nothing is kept, it stays
pub said_unkept : (said : Option (List NodeFacts)) (nodes : List NodeFacts) → is_some said ≡ false → said_more said nodes ≡ said
unfolding said_more
said_unkept (Some said) nodes unkept = absurd (cc)
said_unkept None nodes unkept = refl
