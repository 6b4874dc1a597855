use Rattle.std.proofs.Common.{rules, arith, ◌∙◌, sym, refl, []}
use Rattle.std.proofs.lemmas.Bool.{false≢true}
use Rattle.fault_io.specs.Lines.{input_lines}
use Rattle.fault_io.specs.BytesLaws.{and_then-nil}
use Rattle.serve_loop.proofs.ServeLemmas.{no_marks, may_rise_none}
use Rattle.serve_loop.proofs.ServeLemmas.{served_stop, served_part, quiet_stop, quiet_line, progress_on}
use Rattle.serve_loop.proofs.turns.serve.Goals as goal

pub returns-in-Err-clause-served : goal.returns-in-Err-clause-served
returns-in-Err-clause-served g c = λ input e.
    let i = c.loop-is_too_long.invariant in
    let p = i.progress input e in
    served_stop g.A.Answerer.uses (g.A.Answerer.gives (g.F.Files.told c.args.files.now)) c.args.line_limit c.args.input_limit (g.A.Answerer.state c.args.answerer.now) input
    _ _ _ c.loop-is_too_long.line _ _ _ _ _ _ _ p c.in-Err.end c.next_line.new.line _
    (c.next_line.ensures.budget ∙ i.budget) (c.next_line.ensures.left input p.left_is) (c.in-Err.ensures.next input _ p.left_is p.stands)

pub returns-in-Err-clause-quiet : goal.returns-in-Err-clause-quiet
returns-in-Err-clause-quiet g c = λ input e none.
    let i = c.loop-is_too_long.invariant in
    quiet_stop g.A.Answerer.uses (g.A.Answerer.gives (g.F.Files.told c.args.files.now)) c.args.line_limit c.args.input_limit (g.A.Answerer.state c.args.answerer.now) input
    _ _ _ c.loop-is_too_long.line _ _ _ _ _ _ _ (i.progress input e) i.budget none

pub returns-in-Err-reply_to-clause-served : goal.returns-in-Err-reply_to-clause-served
returns-in-Err-reply_to-clause-served g c = λ input e.
    let i = c.loop-is_too_long.invariant in
    let p = i.progress input e in
    let t = rw i.max at (c.in-Ok-next_line.ensures.next input _ p.left_is p.stands) in
    let part = rw (c.heard_of-heard.ensures, c.bytes.ensures, i.told) at c.in-Err-reply_to.ensures.err in
    served_part g.A.Answerer.uses (g.A.Answerer.gives (g.F.Files.told c.args.files.now)) c.args.line_limit c.args.input_limit (g.A.Answerer.state c.args.answerer.now) input
    _ _ _ c.loop-is_too_long.line _ _ _ _ _ _ _ p c.in-Ok-next_line.is_too_long c.next_line.new.line _
    (c.next_line.ensures.budget ∙ i.budget) (c.next_line.ensures.left input p.left_is) t c.in-Err-reply_to.end _ _ part

pub returns-in-Err-reply_to-clause-quiet : goal.returns-in-Err-reply_to-clause-quiet
returns-in-Err-reply_to-clause-quiet g c = λ input e.
    let i = c.loop-is_too_long.invariant in
    let p = i.progress input e in
    let t = rw i.max at (c.in-Ok-next_line.ensures.next input _ p.left_is p.stands) in
    let unused = rw (c.heard_of-heard.ensures, c.bytes.ensures) at c.in-Err-reply_to.ensures.uncalled in
    quiet_line g.A.Answerer.uses (g.A.Answerer.gives (g.F.Files.told c.args.files.now)) c.args.line_limit c.args.input_limit (g.A.Answerer.state c.args.answerer.now) input
    _ _ _ c.loop-is_too_long.line _ _ _ _ _ _ _ p c.in-Ok-next_line.is_too_long c.next_line.new.line _
    (c.next_line.ensures.budget ∙ i.budget) (c.next_line.ensures.left input p.left_is) t _ _ unused

pub loop-is_too_long-preserved : goal.loop-is_too_long-preserved
loop-is_too_long-preserved g c =
    let i = c.loop-is_too_long.invariant in
    record {
      max = c.next_line.ensures.max ∙ i.max;
      budget = c.next_line.ensures.budget ∙ i.budget;
      progress = λ input e.
          let p = i.progress input e in
          let t = rw i.max at (c.in-Ok-next_line.ensures.next input _ p.left_is p.stands) in
          let replied = rw (c.heard_of-heard.ensures, c.bytes.ensures, i.told) at c.in_default-reply_to.ensures.ok in
          let unused = rw (c.heard_of-heard.ensures, c.bytes.ensures) at c.in_default-reply_to.ensures.uncalled in
          progress_on g.A.Answerer.uses (g.A.Answerer.gives (g.F.Files.told c.args.files.now)) c.args.line_limit c.args.input_limit (g.A.Answerer.state c.args.answerer.now) input
          _ _ _ c.loop-is_too_long.line _ _ _ _ _ _ _ p c.in-Ok-next_line.is_too_long c.next_line.new.line _
          (c.next_line.ensures.budget ∙ i.budget) (c.next_line.ensures.left input p.left_is) t _ _ _ _ _ replied unused;
      told = search rules;
      unused = λ no. c.in_default-reply_to.ensures.unused (no _) ∙ i.unused no;
      uncalled = λ no.
          let k = c.in_default-reply_to.ensures.uncalled (no _) in
          let before = i.uncalled no in
          (k.0 ∙ before.0, k.1 ∙ before.1);
      reads = search rules;
      writes = search rules;
      shortages = search rules;
    }

pub returns-in_default-clause-served : goal.returns-in_default-clause-served
returns-in_default-clause-served g c = λ input e.
    record {
      taken = 0;
      takes = record { left_is = e; fits = omega arith; within = omega arith };
      answered = [];
      given = tt;
      more = input_lines c.args.input_limit input;
      mid = g.F.Files.faults c.args.files.now;
      marks = no_marks _ _ _;
      last = may_rise_none g.A.Answerer.uses c.args.line_limit (input_lines c.args.input_limit input) (g.F.Files.faults c.args.files.now);
      lines = refl;
      first = record { unanswered = []; feeds = refl; ahead = omega arith };
      written = sym (and_then-nil _);
    }

pub loop-is_too_long-init : goal.loop-is_too_long-init
loop-is_too_long-init g c =
    rw c.in-Ok.ensures (record {
      max = refl;
      budget = refl;
      progress = λ input e. record {
        answered = [];
        given = tt;
        marks = no_marks _ _ _;
        quiet = λ _. (refl, refl);
        written = sym (and_then-nil _);
        state_is = refl;
        left_is = e;
        stands = record { within = omega arith; fits = omega arith; before_end = λ _. (refl, tt); past_end = λ z. absurd (false≢true z) };
      };
      told = refl;
      unused = λ no. refl;
      uncalled = λ no. (refl, refl);
      reads = refl;
      writes = refl;
      shortages = refl;
    })
