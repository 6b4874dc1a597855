use Rattle.std.proofs.Common.{◌≡◌, inl, inr, ℕ, ◌+◌, nat_lt, Bool, false, List, get_or, length, ap, ◌∙◌, arith}
use Rattle.dart_tokens.specs.declared.token.Kind.TheVariants as kind
use Rattle.dart_tokens.specs.declared.grouped_token.GroupedToken.{GroupedToken as Token}
use Rattle.segment_faults.specs.Ends.{ahead, inserted, farthest}
use Rattle.segment_faults.proofs.Farthest.{walked_next}
use Rattle.segment_faults.proofs.depths.deep_tokens.Goals as goal
use Rattle.segment_faults.proofs.depths.deep_tokens.Goals.{then-token-gt0+in_ok-add, else-token-gt0}

pub loop-place-preserved : goal.loop-place-preserved
loop-place-preserved c =
    let text = c.args.tokens.now in
    let place = c.loop-place.place in
    let d : Token = record { kind = kind.Identifier; is_closed = false; start = 0; end = 0; word = 0; width = 0 } in
    let t : Token = get_or text place d in
    let ends : List ℕ = c.loop-place.around in
    let passed : c.pass.new.self ≡ ahead place ends = c.pass.ensures in
    let b : Bool = nat_lt 100 c.len.result in
    let is : b ≡ nat_lt 100 (length (ahead place ends)) = ap (λ (n : ℕ). nat_lt 100 n) (c.len.ensures ∙ ap (λ (es : List ℕ). length es) passed) in
    walked_next text place d ends c.if-token-gt0.around c.loop-place.deep.items c.push.new.self.items b c.loop-place-test.true c.loop-place.invariant is c.in_ok-push.ensures.items
    (elim c.if-token-gt0.branch [
      | then-token-gt0+in_ok-add w ↦ inl (w.around-is ∙ w.in_ok-add.ensures ∙ ap (λ (es : List ℕ). farthest (inserted (place + t.width) es)) passed)
      | else-token-gt0 w ↦ inr ((let none = w.if-token-gt0.false in omega (arith, none)), w.around-is ∙ passed)
    ])
