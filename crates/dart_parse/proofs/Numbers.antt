-- A text has few tokens, and its tree few nodes for each of them.
use Rattle.std.proofs.Common.{◌≡◌, ℕ, ◌+◌, ◌*◌, ◌<◌, ◌≤◌, Bool, List, length, sym, ap, ◌∙◌, arith}
use Rattle.dart_tokens.specs.declared.token.Token.{Token as TextToken}
use Rattle.dart_scan.specs.Scanned.{tokens_of}
use Rattle.dart_text.specs.Edits.{max_text}
use Rattle.dart_tree.specs.Tree.{Tree}
use Rattle.dart_tree.specs.Numbers.{nodes_in}
use Rattle.grammar.specs.Tokens.{grammar_tokens}
use Rattle.grammar.specs.Whole.{unit_of}

pub fit : (text bytes : List ℕ) (in_core : Bool) (tokens : List TextToken) (tree : Tree) → bytes ≡ text → tokens ≡ tokens_of text → length tokens ≤ max_text → tree ≡ unit_of in_core (grammar_tokens (tokens_of text)) →
    nodes_in (unit_of in_core (grammar_tokens (tokens_of bytes))) ≤ 16 * length (tokens_of bytes) + 1 → nodes_in tree < 4294967296
fit text bytes in_core tokens tree same those few read bound =
    let nodes : nodes_in tree ≡ nodes_in (unit_of in_core (grammar_tokens (tokens_of bytes))) = ap nodes_in (read ∙ ap (λ t. unit_of in_core (grammar_tokens (tokens_of t))) (sym same)) in
    let size : length (tokens_of bytes) ≡ length tokens = ap (λ t. length (tokens_of t)) same ∙ ap length (sym those) in
    omega (arith, nodes, size, few, bound)
