use Rattle.std.proofs.Common.{ℕ, List, length, ap, arith}
use Rattle.check_library.proofs.TokenCounts.{text_tokens-few}
use Rattle.check_library.proofs.library.few_tokens.Goals as goal

pub returns : goal.returns
returns c = omega (arith, text_tokens-few c.args.text.now, c.as_str-bounded.ensures.bounded, ap (λ (text : List ℕ). length text) c.as_str-bounded.ensures.same)
