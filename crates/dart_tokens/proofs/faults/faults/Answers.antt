use Rattle.std.proofs.Common.{◌≡◌, ℕ, List, ◌++◌, Option, Some, None, Vec, Global, get_or, length, sym, ◌∙◌, ap, arith}
use Rattle.std.proofs.lemmas.List.{append-nil}
use Rattle.std.proofs.lemmas.Option.{slice_get-get_or}
use Rattle.std.specs.Option.{option_map, option_to_list}
use Rattle.dart_tokens.specs.declared.token.Token.{Token}
use Rattle.dart_tokens.specs.declared.token.Kind.TheVariants as kind
use Rattle.dart_tokens.specs.declared.groups.GroupFault.{GroupFault}
use Rattle.dart_tokens.specs.declared.groups.GroupFaultKind.{GroupFaultKind}
use Rattle.dart_tokens.specs.Groups.{fault_at, partners_of}
use Rattle.dart_tokens.specs.Faults.{fault_by}
use Rattle.dart_tokens.proofs.FaultLemmas.{FaultsSoFar-next, FaultsSoFar-end}
use Rattle.dart_tokens.proofs.faults.faults.Goals as goal
use Rattle.dart_tokens.proofs.faults.faults.Goals.{in-Some+in_ok-push, in_default}

-- the faults so far, and that of one token
abbrev with_fault : List GroupFault → (place : ℕ) → Option GroupFaultKind → List GroupFault
with_fault faults place fault = faults ++ option_to_list (option_map (fault_at place) fault)

pub loop-index-preserved : goal.loop-index-preserved
loop-index-preserved c =
    let tokens = c.args.tokens.now in
    let place = c.loop-index.index in
    let faults = c.loop-index.faults.items in
    let token : Token = get_or tokens place (record { kind = kind.Identifier; start = 0; end = 0; word = 0 }) in
    let at = slice_get-get_or tokens place (record { kind = kind.Identifier; start = 0; end = 0; word = 0 }) c.loop-index-test.true in
    let items : Vec GroupFault Global → List GroupFault = λ v. v.items in
    elim c.match-fault.branch [
      | in-Some+in_ok-push w ↦
          let found : Some w.in-Some.kind ≡ fault_by (partners_of tokens) place token.kind = rw c.requires.partner at w.in-Some.ensures in
          FaultsSoFar-next place tokens token faults _ at (ap items w.faults-is ∙ w.in_ok-push.ensures.items ∙ ap (with_fault faults place) found) c.loop-index.invariant
      | in_default w ↦
          let none : None ≡ fault_by (partners_of tokens) place token.kind = rw c.requires.partner at w.in_default.ensures in
          FaultsSoFar-next place tokens token faults _ at (ap items w.faults-is ∙ sym (append-nil faults) ∙ ap (with_fault faults place) none) c.loop-index.invariant
    ]

pub returns : goal.returns
returns c =
    let tokens = c.args.tokens.now in
    let all : c.loop-index.index ≡ length tokens = omega (arith, c.loop-index-test.false, c.loop-index.auto) in
    FaultsSoFar-end tokens c.loop-index.faults.items (rw all at c.loop-index.invariant)
