-- The order in which diagnostics are reported.
use Rattle.std.specs.Prelude.{◌≡◌, ℕ, ◌-◌, List, [], ◌∷◌}
use Rattle.std.specs.Ordering.{nat_cmp, ordering_then}
use Rattle.std.specs.declared.cmp.Ordering.{Ordering}
use Rattle.std.specs.declared.cmp.Ordering.TheVariants.{Less}
use Rattle.std.specs.BTreeSet.{insert_key}
use Rattle.dart_tree.specs.declared.places.Span.{Span}
use Rattle.judgement.specs.declared.code.DiagnosticCode.{DiagnosticCode}
use Rattle.judgement.specs.declared.fault.Fault.{Fault}
use Rattle.judgement.specs.contracts.code.DiagnosticCodeOrd.TheImpl as code

-- how long a span is
abbrev pub span_length : Span → ℕ
span_length span = span.end - span.start

-- by where they start, then by where they end: of two that start together the shorter is first
abbrev pub span_cmp : Span → Span → Ordering
span_cmp a b = ordering_then (nat_cmp a.start b.start) (nat_cmp a.end b.end)

-- by their names, which is the order in which the codes are declared
abbrev pub code_cmp : DiagnosticCode → DiagnosticCode → Ordering
code_cmp = code.ghosts.cmp

-- by where they stand, then by their codes
abbrev pub fault_cmp : Fault → Fault → Ordering
fault_cmp a b = ordering_then (span_cmp a.span b.span) (code_cmp a.code b.code)

-- a is reported before b
abbrev pub IsBefore : Fault → Fault → Type 0
IsBefore a b = fault_cmp a b ≡ Less

-- the diagnostics in their order, each once: one after another is put at its place, unless it is there
abbrev pub sorted_faults : List Fault → List Fault
sorted_faults [] = []
sorted_faults (fault ∷ faults) = insert_key fault_cmp (sorted_faults faults) fault
