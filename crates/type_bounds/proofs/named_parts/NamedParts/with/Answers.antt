use Rattle.std.proofs.Common.{◌≡◌, ◌++◌, ◌∷◌, [], refl, arith}
use Rattle.dart_types.specs.declared.types.NamedType.{NamedType}
use Rattle.type_bounds.proofs.OneMore.{held_over, held_under, formed_type}
use Rattle.type_bounds.proofs.OneMoreNamed.{nodes-named, first_named_too_many, last_named_too_large, formed_named, formed-with-name}
use Rattle.type_bounds.proofs.named_parts.NamedParts.with.Goals as goal

pub returns-in-None : goal.returns-in-None
returns-in-None c = λ ns t a b. (
  nodes-named ns c.args.name.now c.args.required t c.saturating_add-nodes.result c.args.self.nodes c.args.part.count.nodes c.saturating_add-nodes.ensures a.0 b.0.0,
  first_named_too_many ns c.args.name.now c.args.required t c.args.self.formed c.in-None.is a.1,
)

pub returns-in-None-formed : goal.returns-in-None-formed
returns-in-None-formed c = λ ns t a b. (
  nodes-named ns c.args.name.now c.args.required t c.saturating_add-nodes.result c.args.self.nodes c.args.part.count.nodes c.saturating_add-nodes.ensures a.0 b.0.0,
  last_named_too_large ns c.args.name.now c.args.required t c.args.part.formed c.in-None-formed.is b.1,
)

pub returns-then-nodes-gt-NODE_LIMIT : goal.returns-then-nodes-gt-NODE_LIMIT
returns-then-nodes-gt-NODE_LIMIT c = λ ns t a b.
    let n = nodes-named ns c.args.name.now c.args.required t c.saturating_add-nodes.result c.args.self.nodes c.args.part.count.nodes c.saturating_add-nodes.ensures a.0 b.0.0 in
    (n, held_over c.saturating_add-nodes.result _ n (omega (arith, c.if-nodes-gt-NODE_LIMIT.true)))

pub returns : goal.returns
returns c = λ ns t a b.
    let n = nodes-named ns c.args.name.now c.args.required t c.saturating_add-nodes.result c.args.self.nodes c.args.part.count.nodes c.saturating_add-nodes.ensures a.0 b.0.0 in
    let last : NamedType = record { name = c.in_ok-copy.field-0; required = c.args.required; ty = c.in-Some-formed.ty } in
    let pushed : c.push.new.self ≡ c.in-Some.named ++ (record { name = c.in_ok-copy.field-0; required = c.args.required; ty = c.in-Some-formed.ty } ∷ []) =
    let e = c.in_ok-push.ensures.ok in
    let f = c.in-Some.named-is in
    let g = c.in-Some-formed.ty-is in
    cc
    in (
      n,
      (
        formed-with-name ns c.args.name.now c.args.required t c.in-Some.named c.push.new.self last pushed (formed_named ns c.args.name.now c.args.required t c.args.self.formed c.in-Some.named c.in-Some.is a.1) c.in_ok-copy.ensures refl (formed_type c.args.part.formed c.in-Some-formed.ty t c.in-Some-formed.is b.1),
        held_under c.saturating_add-nodes.result _ n (omega (arith, c.if-nodes-gt-NODE_LIMIT.false)),
      ),
    )
