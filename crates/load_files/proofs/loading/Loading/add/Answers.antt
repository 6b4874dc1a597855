use Rattle.std.proofs.Common.{rules, ◌≡◌, ◌+◌, ◌∙◌, ap, sym, inr, cond, not, arith, length, Ok, Err, subst, ℕ}
use Rattle.load_files.specs.Counts.{IsCounted}
use Rattle.load_files.specs.Kept.{is_kept}
use Rattle.load_files.specs.Loads.{Loaded, with_file}
use Rattle.load_files.specs.Tables.{Table}
use Rattle.load_files.specs.declared.refusal.LoadRefusal.TheVariants.{TooManyFiles, TooMuch}
use Rattle.load_files.proofs.Counting.{read_before, same_sum, too_many, too_much, fits, counted_more}
use Rattle.load_files.proofs.loading.Loading.add.Goals as goal

-- the path was read before
pub returns-in_default-clause-added : goal.returns-in_default-clause-added
returns-in_default-clause-added c =
    subst (λ (l : Loaded). with_file l.kept c.args.path.now c.args.bytes.now l.files ≡ Ok l.files) c.self.view_is
    (read_before c.self.inside.kept.now c.args.path.now c.args.bytes.now c.self.inside.snapshot _ c.in_default.ensures.found)

-- there are too many paths
pub returns-then-paths-gt-MAX_PATHS-clause-added : goal.returns-then-paths-gt-MAX_PATHS-clause-added
returns-then-paths-gt-MAX_PATHS-clause-added c =
    let one : c.from.result ≡ cond (not (is_kept c.args.path.now c.self.inside.kept.now)) 1 0 = search rules in
    let paths = same_sum _ _ _ _ c.self.invariant.paths_are one in
    inr (subst (λ (l : Loaded). with_file l.kept c.args.path.now c.args.bytes.now l.files ≡ Err (TooManyFiles (c.self.inside.paths + c.from.result))) c.self.view_is
    (too_many c.self.inside.kept.now c.args.path.now c.args.bytes.now c.self.inside.snapshot c.in-Err.place c.in-Err.ensures.absent (c.self.inside.paths + c.from.result) paths (omega (arith, c.if-paths-gt-MAX_PATHS.true))))

-- there are too many bytes
pub returns-then-sum-gt-MAX_BYTES-clause-added : goal.returns-then-sum-gt-MAX_BYTES-clause-added
returns-then-sum-gt-MAX_BYTES-clause-added c =
    let one : c.from.result ≡ cond (not (is_kept c.args.path.now c.self.inside.kept.now)) 1 0 = search rules in
    let paths = same_sum _ _ _ _ c.self.invariant.paths_are one in
    let sum = ap (λ (n : ℕ). n + length c.args.bytes.now) c.self.invariant.bytes_are in
    inr (subst (λ (l : Loaded). with_file l.kept c.args.path.now c.args.bytes.now l.files ≡ Err (TooMuch (c.self.inside.bytes + length c.args.bytes.now))) c.self.view_is
    (too_much c.self.inside.kept.now c.args.path.now c.args.bytes.now c.self.inside.snapshot c.in-Err.place c.in-Err.ensures.absent (c.self.inside.paths + c.from.result) (c.self.inside.bytes + length c.args.bytes.now)
    paths (omega (arith, c.if-paths-gt-MAX_PATHS.false)) sum (omega (arith, c.if-sum-gt-MAX_BYTES.true))))

-- the file is within the limits
pub returns-clause-added : goal.returns-clause-added
returns-clause-added c =
    let one : c.from.result ≡ cond (not (is_kept c.args.path.now c.self.inside.kept.now)) 1 0 = search rules in
    let paths = same_sum _ _ _ _ c.self.invariant.paths_are one in
    let sum = ap (λ (n : ℕ). n + length c.args.bytes.now) c.self.invariant.bytes_are in
    subst (λ (l : Loaded). with_file l.kept c.args.path.now c.args.bytes.now l.files ≡ Ok c.insert.new.self) c.self.view_is
    (fits c.self.inside.kept.now c.args.path.now c.args.bytes.now c.self.inside.snapshot c.in-Err.place c.in-Err.ensures.absent (c.self.inside.paths + c.from.result) (c.self.inside.bytes + length c.args.bytes.now)
    paths (omega (arith, c.if-paths-gt-MAX_PATHS.false)) sum (omega (arith, c.if-sum-gt-MAX_BYTES.false)) ∙ ap Ok (sym c.in_ok-insert.ensures.ok))

pub invariant_of-self-2 : goal.invariant_of-self-2
invariant_of-self-2 c =
    let one : c.from.result ≡ cond (not (is_kept c.args.path.now c.self.inside.kept.now)) 1 0 = search rules in
    let paths = same_sum _ _ _ _ c.self.invariant.paths_are one in
    let sum = ap (λ (n : ℕ). n + length c.args.bytes.now) c.self.invariant.bytes_are in
    subst (λ (t : Table). IsCounted c.self.inside.kept.now t (c.self.inside.paths + c.from.result) (c.self.inside.bytes + length c.args.bytes.now)) (sym c.in_ok-insert.ensures.ok)
    (counted_more c.self.inside.kept.now c.args.path.now c.args.bytes.now c.self.inside.snapshot c.in-Err.place c.in-Err.ensures.absent (c.self.inside.paths + c.from.result) (c.self.inside.bytes + length c.args.bytes.now)
    paths (omega (arith, c.if-paths-gt-MAX_PATHS.false)) sum (omega (arith, c.if-sum-gt-MAX_BYTES.false)))
