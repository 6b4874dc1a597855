use Rattle.std.proofs.Common.{◌+◌, Bool, [], ◌∷◌, ◌++◌, length, map, None, Some, sym, ap, ◌∙◌, if◌then◌else◌}
use Rattle.interface_part.specs.Numbers.{seen_from}
use Rattle.interface_part.proofs.Numbering.{after_tokens}
use Rattle.interface_part.proofs.numbers.see_hidden.Goals as goal

pub returns-in_ok-see_tokens-clause-added : goal.returns-in_ok-see_tokens-clause-added
returns-in_ok-see_tokens-clause-added c parts =
    let old = c.args.seen.now.items in
    let within = c.args.within.now in
    after_tokens c.args.marks old c.see_tokens.new.seen.items within parts c.in_ok-see_tokens.ensures
    ∙ ap (λ (b : Bool). old ++ seen_from (length old + c.args.marks) ((if b then map Some within else None ∷ []) ++ parts)) (sym (sym c.is_seen.ensures ∙ c.if-is_seen.true))
