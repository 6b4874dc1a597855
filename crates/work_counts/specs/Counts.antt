-- How much was done: how many texts were parsed, how many cycles of libraries were linked, and how many libraries were checked.
use Rattle.std.specs.Prelude.{ℕ, ◌+◌, ◌≤◌, ◌-◌, ◌^◌, min}
use Rattle.std.proofs.Common.{arith}
use Rattle.work_counts.specs.declared.kind.WorkKind.{WorkKind}
use Rattle.work_counts.specs.declared.kind.WorkKind.TheVariants.{Parse, Link, Check}

pub record Counts : Type 0 where
  pub parses : ℕ
  pub links : ℕ
  pub checks : ℕ

abbrev pub none_done : Counts
none_done = record { parses = 0; links = 0; checks = 0 }

-- the greatest count, at which a count stays
abbrev pub last_count : ℕ
last_count = 2 ^ 64 - 1

-- a count and so many more
abbrev pub and_more : ℕ → ℕ → ℕ
and_more more count = min (count + more) last_count

-- the counts after one piece of work of the kind
abbrev pub raised : WorkKind → Counts → Counts
raised Parse counts = record counts { parses = and_more 1 counts.parses }
raised Link counts = record counts { links = and_more 1 counts.links }
raised Check counts = record counts { checks = and_more 1 counts.checks }

-- the counts after all of this work
abbrev pub raised_by : (more counts : Counts) → Counts
raised_by more counts = record {
  parses = and_more more.parses counts.parses;
  links = and_more more.links counts.links;
  checks = and_more more.checks counts.checks;
}

-- no count falls
pub record NoLess (old new : Counts) : Type 0 where
  pub parses : old.parses ≤ new.parses
  pub links : old.links ≤ new.links
  pub checks : old.checks ≤ new.checks

-- no count falls where nothing is done, and where one thing is done after another
pub no_less_same : (counts : Counts) → NoLess counts counts
no_less_same counts = record { parses = omega arith; links = omega arith; checks = omega arith }

pub no_less_after : (a b c : Counts) → NoLess a b → NoLess b c → NoLess a c
no_less_after a b c h k = record { parses = omega (arith, h.parses, k.parses); links = omega (arith, h.links, k.links); checks = omega (arith, h.checks, k.checks) }
