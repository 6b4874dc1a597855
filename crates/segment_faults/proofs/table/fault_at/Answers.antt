use Rattle.std.proofs.Common.{sym, ◌∙◌}
use Rattle.segment_faults.proofs.Rows.{told_by_word, told_by_asynchronous, told_by_lexeme, told_by_form}
use Rattle.segment_faults.proofs.table.fault_at.Goals as goal

pub returns-in-Some : goal.returns-in-Some
returns-in-Some c =
    told_by_word c.args.tokens.now c.tokens_behind-ahead.result.now c.args.first c.args.place c.in-Some.fault c.tokens_behind-ahead.ensures (sym c.word_at.ensures ∙ c.in-Some.is)

pub returns-in-Some-asynchronous_at : goal.returns-in-Some-asynchronous_at
returns-in-Some-asynchronous_at c =
    told_by_asynchronous c.args.tokens.now c.tokens_behind-ahead.result.now c.args.first c.args.place c.in-Some-asynchronous_at.fault c.tokens_behind-ahead.ensures
    (sym c.word_at.ensures ∙ c.in_default.is) (sym c.asynchronous_at.ensures ∙ c.in-Some-asynchronous_at.is)

pub returns-in-Some-lexeme_at : goal.returns-in-Some-lexeme_at
returns-in-Some-lexeme_at c =
    told_by_lexeme c.args.tokens.now c.tokens_behind-ahead.result.now c.args.first c.args.place c.in-Some-lexeme_at.fault c.tokens_behind-ahead.ensures
    (sym c.word_at.ensures ∙ c.in_default.is) (sym c.asynchronous_at.ensures ∙ c.in_default-asynchronous_at.is) (sym c.lexeme_at.ensures ∙ c.in-Some-lexeme_at.is)

pub returns : goal.returns
returns c =
    told_by_form c.args.tokens.now c.tokens_behind-ahead.result.now c.args.first c.args.place c.form_at.result c.tokens_behind-ahead.ensures
    (sym c.word_at.ensures ∙ c.in_default.is) (sym c.asynchronous_at.ensures ∙ c.in_default-asynchronous_at.is) (sym c.lexeme_at.ensures ∙ c.in_default-lexeme_at.is) c.form_at.ensures
