use Rattle.std.proofs.Common.{get_or, sym, ◌∙◌, arith}
use Rattle.std.proofs.lemmas.List.{get_or_default}
use Rattle.interface_part.specs.declared.numbers.SeenToken.{SeenToken}
use Rattle.interface_part.specs.Keys.{key_of}
use Rattle.interface_part.proofs.Search.{found, is_equal, is_other, key_rises, none_at_end, none_found}
use Rattle.interface_part.proofs.numbers.find_by.Goals as goal

pub returns-then-at-tokens : goal.returns-then-at-tokens
returns-then-at-tokens c =
    none_at_end (key_of c.args.by) c.args.key c.args.tokens.now c.smaller-at.result c.smaller-at.ensures.parts.0 (omega arith)

pub returns-then-key_of-key : goal.returns-then-key_of-key
returns-then-key_of-key c =
    let s : SeenToken = get_or c.args.tokens.now c.smaller-at.result (record { number = 0; span = record { start = 0; end = 0 } }) in
    found (key_of c.args.by) c.args.key c.args.tokens.now c.smaller-at.result s c.smaller-at.ensures.parts.0 c.if-at-tokens.false
    (get_or_default c.args.tokens.now c.smaller-at.result _ _ c.if-at-tokens.false) (is_equal (key_of c.args.by s) c.args.key (sym c.key_of.ensures ∙ c.if-key_of-key.true))

pub returns-else-key_of-key : goal.returns-else-key_of-key
returns-else-key_of-key c =
    let s : SeenToken = get_or c.args.tokens.now c.smaller-at.result (record { number = 0; span = record { start = 0; end = 0 } }) in
    none_found (key_of c.args.by) _ c.args.key c.args.tokens.now c.smaller-at.result s (key_rises c.args.by 0 0 c.args.tokens.now c.requires) c.smaller-at.ensures.parts.0 c.smaller-at.ensures.parts.1
    (get_or_default c.args.tokens.now c.smaller-at.result _ _ c.if-at-tokens.false) (is_other (key_of c.args.by s) c.args.key (λ e. c.if-key_of-key.false (c.key_of.ensures ∙ e)))
