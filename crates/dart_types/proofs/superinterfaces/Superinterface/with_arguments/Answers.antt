use Rattle.std.proofs.Common.{◌≡◌, List, ap, ◌∙◌, arith}
use Rattle.dart_types.specs.Ty.{Ty, interface, types_of}
use Rattle.dart_types.specs.Sizes.{size_of}
use Rattle.dart_types.specs.Substitution.{put, by_params}
use Rattle.dart_types.specs.Normal.{normal}
use Rattle.dart_types.specs.Replacements.{replaced}
use Rattle.dart_types.specs.Superinterfaces.{interface_of, interface_with}
use Rattle.dart_types.specs.declared.class_arguments.Arguments.{Arguments}
use Rattle.dart_types.specs.declared.superinterfaces.Superinterface.{Superinterface}
use Rattle.dart_types.specs.declared.replacements.Replacement.{Replacement}
use Rattle.dart_types.proofs.superinterfaces.Superinterface.with_arguments.Goals as goal

-- the replacements put the arguments in for the parameters
put_in : (a : Arguments) (s : Superinterface) (rs : List Replacement) (ts : List Ty) → ((t : Ty) → replaced rs t ≡ normal (put (by_params a.params.now (types_of ts)) t)) → ts ≡ a.args.now → replaced rs (interface_of s) ≡ interface_with a s
put_in a s rs ts h e = h (interface_of s) ∙ ap (λ (us : List Ty). normal (put (by_params a.params.now (types_of us)) (interface_of s))) e

pub returns-then-nodes-gt-NODE_LIMIT : goal.returns-then-nodes-gt-NODE_LIMIT
returns-then-nodes-gt-NODE_LIMIT c =
    let s = c.args.self.now in
    let same = put_in c.args.arguments.now s c.in_ok-replacements.replacements.items c.as_slice.result.now c.in_ok-replacements.ensures c.as_slice.ensures in
    let sizes = ap size_of (ap (λ (rs : List Replacement). replaced rs (interface_of s)) c.deref.ensures.value ∙ same) in
    (omega (arith, sizes, c.nodes_with.ensures, c.saturating_add-nodes.ensures, c.if-nodes-gt-NODE_LIMIT.true), omega (arith, sizes, c.nodes_with.ensures, c.saturating_add-nodes.ensures))

pub returns : goal.returns
returns c =
    let s = c.args.self.now in
    let same = put_in c.args.arguments.now s c.in_ok-replacements.replacements.items c.as_slice.result.now c.in_ok-replacements.ensures c.as_slice.ensures in
    let sizes = ap size_of (ap (λ (rs : List Replacement). replaced rs (interface_of s)) c.deref.ensures.value ∙ same) in (
      c.in_ok-formed.ensures ∙ ap (interface s.class) c.in_ok-args.ensures ∙ ap (λ (rs : List Replacement). replaced rs (interface_of s)) c.deref-2.ensures.value ∙ same,
      omega (arith, sizes, c.nodes_with.ensures, c.saturating_add-nodes.ensures, c.if-nodes-gt-NODE_LIMIT.false),
    )
