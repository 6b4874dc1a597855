use Rattle.std.proofs.Common.{false, ◌∙◌}
use Rattle.std.proofs.lemmas.List.{append-nil}
use Rattle.fault_io.specs.LineLaws.{lines_of-open}
use Rattle.serve_loop.proofs.TextLemmas.{lines_of-text_of}
use Rattle.serve_loop.proofs.laws.lines_law.Goals as goal

pub returns : goal.returns
returns c = record { whole = λ lines rest a n. lines_of-text_of false lines rest a ∙ rw (lines_of-open rest n) (append-nil lines) }
