use Rattle.std.proofs.Common.{◌≡◌, false, refl}
use Rattle.std.proofs.lemmas.Bool.{false_from_ne_true}
use Rattle.serve_loop.proofs.TurnLemmas.{line_step, long_step, end_stop, spent_stop, memory_stop, fault_stop}
use Rattle.serve_loop.proofs.turns.next_line.Goals as goal

pub returns-in-Ok-Line-clause-next : goal.returns-in-Ok-Line-clause-next
returns-in-Ok-Line-clause-next g c = λ input lines e s.
    let k = rw c.in-Ok-Line.field-0-is at c.in-Ok-Line.ensures.next in
    let z = rw c.in-Ok-Line.field-0-is at c.in-Ok-Line.ensures.at_end in
    let o : c.args.line.now.at_end ≡ false = false_from_ne_true _ (λ a. let q = (z a).0 in cc) in
    line_step input lines c.args.line.now c.read_line.new.line s o
    (record { budget = c.read_line.ensures.budget; max = c.read_line.ensures.max; taken = c.read_line.ensures.taken; within = c.read_line.ensures.within; fits = c.read_line.ensures.fits _ e; kept = c.read_line.ensures.kept })
    (k o _ e)

pub returns-in-Ok-TooLong-clause-next : goal.returns-in-Ok-TooLong-clause-next
returns-in-Ok-TooLong-clause-next g c = λ input lines e s.
    let k = rw c.in-Ok-TooLong.field-0-is at c.in-Ok-TooLong.ensures.next in
    let z = rw c.in-Ok-TooLong.field-0-is at c.in-Ok-TooLong.ensures.at_end in
    let o : c.args.line.now.at_end ≡ false = false_from_ne_true _ (λ a. let q = (z a).0 in cc) in
    long_step input lines c.args.line.now c.read_line.new.line s o
    (record { budget = c.read_line.ensures.budget; max = c.read_line.ensures.max; taken = c.read_line.ensures.taken; within = c.read_line.ensures.within; fits = c.read_line.ensures.fits _ e; kept = c.read_line.ensures.kept })
    (k o _ e)

pub returns-in-Ok-End-clause-next : goal.returns-in-Ok-End-clause-next
returns-in-Ok-End-clause-next g c = λ input lines e s.
    let k = rw c.in-Ok-End.field-0-is at c.in-Ok-End.ensures.next in
    end_stop input lines c.args.line.now c.read_line.new.line s c.read_line.ensures.budget c.read_line.ensures.taken (λ o. k o _ e)

pub returns-in-Ok-InputSpent-clause-next : goal.returns-in-Ok-InputSpent-clause-next
returns-in-Ok-InputSpent-clause-next g c = λ input lines e s.
    let k = rw c.in-Ok-InputSpent.field-0-is at c.in-Ok-InputSpent.ensures.next in
    let z = rw c.in-Ok-InputSpent.field-0-is at c.in-Ok-InputSpent.ensures.at_end in
    let o : c.args.line.now.at_end ≡ false = false_from_ne_true _ (λ a. let q = (z a).0 in cc) in
    let h = k o _ e in
    let spent = rw c.in-Ok-InputSpent.field-0-is at c.in-Ok-InputSpent.ensures.spent in
    spent_stop input lines c.args.line.now c.read_line.new.line s c.read_line.ensures.budget o (spent refl) (h.0, h.1)

pub returns-in-Err-Failed-clause-next : goal.returns-in-Err-Failed-clause-next
returns-in-Err-Failed-clause-next g c = λ input lines e s.
    let z = rw c.in-Err-Failed.field-0-is at c.in-Err-Failed.ensures.at_end in
    let u = rw c.in-Err-Failed.field-0-is at c.in-Err-Failed.ensures.open in
    let o : c.args.line.now.at_end ≡ false = false_from_ne_true _ (λ a. let q = (z a).0 in cc) in
    fault_stop input lines c.args.line.now c.read_line.new.line s c.read_line.ensures.budget o c.read_line.ensures.taken c.read_line.ensures.within (c.read_line.ensures.fits _ e) (u refl _ e)

pub returns-in-Err-Memory-clause-next : goal.returns-in-Err-Memory-clause-next
returns-in-Err-Memory-clause-next g c = λ input lines e s.
    let z = rw c.in-Err-Memory.field-0-is at c.in-Err-Memory.ensures.at_end in
    let o : c.args.line.now.at_end ≡ false = false_from_ne_true _ (λ a. let q = (z a).0 in cc) in
    let u = rw c.in-Err-Memory.field-0-is at c.in-Err-Memory.ensures.part in
    let p = u refl _ e in
    memory_stop input lines c.args.line.now c.read_line.new.line s c.read_line.ensures.budget o c.read_line.ensures.taken c.read_line.ensures.within (c.read_line.ensures.fits _ e) c.read_line.ensures.kept p.0 p.1 p.2
