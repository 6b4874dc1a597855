use Rattle.std.proofs.Common.{◌≡◌, ◌++◌, ◌∷◌, [], arith}
use Rattle.type_bounds.proofs.OneMore.{nodes-with, first_too_many, last_too_large, held_over, held_under, formed_types, formed_type, formed-with}
use Rattle.type_bounds.proofs.parts.Parts.with.Goals as goal

pub returns-in-None : goal.returns-in-None
returns-in-None c = λ ts t a b. (
  nodes-with c.saturating_add-nodes.result c.args.self.nodes c.args.part.count.nodes ts t c.saturating_add-nodes.ensures a.0 b.0.0,
  first_too_many c.args.self.formed ts t c.in-None.is a.1,
)

pub returns-in-None-formed : goal.returns-in-None-formed
returns-in-None-formed c = λ ts t a b. (
  nodes-with c.saturating_add-nodes.result c.args.self.nodes c.args.part.count.nodes ts t c.saturating_add-nodes.ensures a.0 b.0.0,
  last_too_large c.args.part.formed ts t c.in-None-formed.is b.1,
)

pub returns-then-nodes-gt-NODE_LIMIT : goal.returns-then-nodes-gt-NODE_LIMIT
returns-then-nodes-gt-NODE_LIMIT c = λ ts t a b.
    let n = nodes-with c.saturating_add-nodes.result c.args.self.nodes c.args.part.count.nodes ts t c.saturating_add-nodes.ensures a.0 b.0.0 in
    (n, held_over c.saturating_add-nodes.result _ n (omega (arith, c.if-nodes-gt-NODE_LIMIT.true)))

pub returns : goal.returns
returns c = λ ts t a b.
    let n = nodes-with c.saturating_add-nodes.result c.args.self.nodes c.args.part.count.nodes ts t c.saturating_add-nodes.ensures a.0 b.0.0 in
    let pushed : c.push.new.self ≡ c.in-Some.types ++ (c.in-Some-formed.formed ∷ []) = let e = c.in_ok-push.ensures.ok in let f = c.in-Some.types-is in let g = c.in-Some-formed.formed-is in cc in (
      n,
      (
        formed-with c.in-Some.types c.push.new.self c.in-Some-formed.formed t ts pushed (formed_types c.args.self.formed c.in-Some.types ts c.in-Some.is a.1) (formed_type c.args.part.formed c.in-Some-formed.formed t c.in-Some-formed.is b.1),
        held_under c.saturating_add-nodes.result _ n (omega (arith, c.if-nodes-gt-NODE_LIMIT.false)),
      ),
    )
