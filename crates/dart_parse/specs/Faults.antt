-- What is wrong with the tree of a text: each of its segments that derives nothing.
use Rattle.std.specs.Prelude.{ℕ, List, length, map, nat_lt}
use Rattle.std.specs.List.{filter}
use Rattle.dart_tree.specs.Tree.{Tree}
use Rattle.dart_tree.specs.declared.places.Place.{Place}
use Rattle.error_nodes.specs.Errors.{errors_of}
use Rattle.dart_tokens.specs.declared.grouped_token.GroupedToken.{GroupedToken as Token}
use Rattle.grammar.specs.Whole.{tokens_over}
use Rattle.segment_faults.specs.Faults.{fault_of}
use Rattle.dart_parse.specs.declared.faults.TreeFault.{TreeFault}

-- how many tokens of a text begin before an offset
abbrev pub begin_before : ℕ → List Token → ℕ
begin_before offset text = length (filter (λ t. nat_lt t.start offset) text)

-- what is wrong with the segment of a text over which an error stands
abbrev pub fault_over : (text : List Token) → Place → TreeFault
fault_over text at = record { span = at.span; fault = fault_of text (begin_before at.span.start text) (length (tokens_over text at)) }

-- what is wrong with each of them, in the order of the text
abbrev pub tree_faults : (text : List Token) → Tree → List TreeFault
tree_faults text tree = map (fault_over text) (errors_of tree)
