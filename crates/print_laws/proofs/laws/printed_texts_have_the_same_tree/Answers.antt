use Rattle.tree_print.specs.Seen.{printed_again}
use Rattle.print_laws.proofs.Printing.{printed-again-text}
use Rattle.print_laws.proofs.laws.printed_texts_have_the_same_tree.Goals as goal

pub returns : goal.returns
returns c =
    let text = c.args._text.now in
    record {
      text = printed-again-text text;
      words = λ t. c.seen_tokens_tell_the_tree.ensures.words (printed_again text) text (c.tokens_are_read_again.ensures.tokens t);
      tree = λ in_core t. c.seen_tokens_tell_the_tree.ensures.tree in_core (printed_again text) text (printed-again-text text t) t (c.tokens_are_read_again.ensures.tokens t);
    }
