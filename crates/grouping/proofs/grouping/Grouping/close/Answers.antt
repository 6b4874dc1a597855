use Rattle.std.proofs.Common.{◌≡◌, ◌<◌, ◌≤◌, ◌^◌, ℕ, List, [], ◌∷◌, ◌++◌, length, arith, vec_len, sym, ap, ◌∙◌, length-append}
use Rattle.dart_tokens.specs.declared.grouped_token.GroupedToken.{GroupedToken}
use Rattle.dart_tokens.specs.Read.{ungrouped}
use Rattle.dart_tokens.specs.Stack.{bracket_of}
use Rattle.grouping.specs.SoFar.{closed_at}
use Rattle.grouping.proofs.EndLemmas.{BeganBefore-later}
use Rattle.grouping.proofs.AddLemmas.{IsAdded, closed_added, unopened_added, few_read}
use Rattle.grouping.proofs.grouping.Grouping.close.Goals as goal

pub overflow_cast-end : goal.overflow_cast-end
overflow_cast-end c =
    let read = c.self.inside.read in
    let few : length read.items < 2 ^ 32 = few_read c.args.self.now read.items c.self.inside.unopened.items (2 ^ 32) c.self.view_is c.requires.few in omega (arith, few, read.ok.0, c.len-end.ensures)

left_out : (c : goal.In_ok-push) → IsAdded c.args.self.now c.args.token c.self.inside.read.items c.push.new.self.items c.self.inside.around
left_out c =
    let read = c.self.inside.read in
    unopened_added c.args.self.now c.args.token read.items [] c.self.inside.unopened.items c.push.new.self.items c.self.inside.around [] c.self.view_is c.self.invariant
    (bracket_of c.args.bracket) c.len-end.result c.requires.opens c.requires.closes (sym c.can_close.ensures ∙ c.if-not-can_close.true) (c.len-end.ensures ∙ read.ok.0) c.in_ok-push.ensures.items

pub invariant_of-self-then-not-can_close : goal.invariant_of-self-then-not-can_close
invariant_of-self-then-not-can_close c = (left_out c).so_far

pub returns-then-not-can_close-clause-added : goal.returns-then-not-can_close-clause-added
returns-then-not-can_close-clause-added c = (left_out c).all

pub close_groups-requires-clause-began : goal.close_groups-requires-clause-began
close_groups-requires-clause-began c =
    let read = c.self.inside.read in
    let now = c.add.new.read in
    let more : length now.items ≡ length (read.items ++ ungrouped c.args.token ∷ []) = ap (λ (xs : List GroupedToken). length xs) c.in_ok-add.ensures.added in
    let later : length read.items ≤ vec_len now = omega (arith, more, length-append read.items (ungrouped c.args.token ∷ []), now.ok.0) in
    BeganBefore-later (length read.items) (vec_len now) c.self.inside.around later c.self.invariant.began

closed : (c : goal.After-close_groups) → IsAdded c.args.self.now c.args.token c.close_groups.new.read.items c.self.inside.unopened.items c.close_groups.new.around
closed c =
    let read = c.self.inside.read in
    let bracket = bracket_of c.args.bracket in
    let place : ℕ = c.len-end.result in
    closed_added c.args.self.now c.args.token read.items c.close_groups.new.read.items c.self.inside.unopened.items [] c.self.inside.around c.close_groups.new.around c.self.view_is c.self.invariant
    bracket place c.requires.opens c.requires.closes (sym c.can_close.ensures ∙ c.if-not-can_close.false) (c.len-end.ensures ∙ read.ok.0)
    (c.close_groups.ensures.read ∙ ap (λ (xs : List GroupedToken). closed_at place bracket c.self.inside.around xs) c.in_ok-add.ensures.added) c.close_groups.ensures.around

pub invariant_of-self-2 : goal.invariant_of-self-2
invariant_of-self-2 c = (closed c).so_far

pub returns-clause-added : goal.returns-clause-added
returns-clause-added c = (closed c).all
