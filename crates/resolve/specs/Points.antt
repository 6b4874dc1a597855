-- What trees give at a point of a body, by the rules.
use Rattle.std.specs.Prelude.{ℕ, Option, None}
use Rattle.dart_tree.specs.Tree.{Tree, if_statement, part_of}
use Rattle.dart_tree.specs.Places.{place_of}
use Rattle.dart_tree.specs.declared.places.Place.{Place}
use Rattle.dart_types.specs.Ty.{Ty}
use Rattle.flow_model.specs.Flow.{FlowModel}
use Rattle.judgement.specs.Given.{Evaluation, Outcome}
use Rattle.judgement.specs.ExpressionRows.{assignment_row, name_row, print_row}
use Rattle.judgement.specs.DeclaredNames.{names_declared}
use Rattle.judgement.specs.StatementRows.{scope_row}
use Rattle.judgement.specs.Surroundings.{Surroundings, meaning_of}
use Rattle.judgement.specs.Judgement.{condition_of, evaluate, form_row, run}
use Rattle.judgement.specs.Written.{named_by}
use Rattle.resolve.specs.Around.{around}
use Rattle.resolve.specs.declared.judge.Point.{Point}
use Rattle.resolve.specs.declared.judge.statements.Branches.{Branches}

-- what surrounds it
abbrev pub surroundings : Point → Surroundings
surroundings point = around point.context point.names.now

-- what is known before it
abbrev pub known : Point → FlowModel
known point = point.before.now.value

-- what an expression gives there, where a type is wanted of it or none
abbrev pub evaluated : Point → Tree → Option Ty → Evaluation
evaluated point tree wanted = evaluate (surroundings point) tree wanted (known point)

-- what its form gives there
abbrev pub by_form : Point → Tree → Option Ty → Evaluation
by_form point tree wanted = form_row (surroundings point) tree wanted (known point)

-- what a condition gives there
abbrev pub tested : Point → Tree → Evaluation
tested point condition = condition_of (surroundings point) condition (known point)

-- what a name gives there, which stands at the place
abbrev pub named : Point → Place → (word : ℕ) → Evaluation
named point at word = name_row (meaning_of (surroundings point) word) at (known point)

-- what an assignment gives there, whatever its operator
abbrev pub assigned : Point → (target value : Tree) → Evaluation
assigned point target value =
    assignment_row (surroundings point).table (named_by (surroundings point) target) (place_of target) (place_of value) (evaluate (surroundings point) value) (known point)

-- what a call of `print` gives there that prints this value
abbrev pub printed_at : Point → Tree → Evaluation
printed_at point value = print_row (surroundings point).table (place_of value) (evaluated point value None)

-- an `if` with these branches
abbrev pub branching : Place → Tree → Branches → Tree
branching at condition branches = if_statement at condition branches.then_branch.now (part_of branches.else_branch.now)

-- what a statement gives that is a scope of what it declares
abbrev pub run_scope : Surroundings → Tree → FlowModel → Outcome
run_scope s tree m = scope_row s (names_declared tree) (λ inner. run inner tree) m
