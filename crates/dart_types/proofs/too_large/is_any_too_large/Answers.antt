use Rattle.std.proofs.Common.{◌<◌, sym, arith}
use Rattle.std.proofs.lemmas.List.Elements.{All-contains}
use Rattle.dart_types.specs.Sizes.{size_of}
use Rattle.dart_types.specs.Replacements.{replaced}
use Rattle.dart_types.specs.Superinterfaces.{interface_of}
use Rattle.dart_types.specs.declared.superinterfaces.Superinterface.{Superinterface}
use Rattle.dart_types.specs.declared.refusal.TheConstants.{NODE_LIMIT}
use Rattle.dart_types.proofs.RowTests.{all_next, all_done}
use Rattle.dart_types.proofs.Steps.{yes, no, granted, refused}
use Rattle.dart_types.proofs.too_large.is_any_too_large.Goals as goal

pub loop-kept-preserved : goal.loop-kept-preserved
loop-kept-preserved c =
    all_next (λ (s : Superinterface). NODE_LIMIT < size_of (replaced c.args.replacements.now (interface_of s)) → ⊥) c.args.list.now c.loop-kept.kept-index c.kept-item.result c.loop-kept-test.true c.kept-item.is c.loop-kept.invariant (refused c.is_too_large.ensures c.if-is_too_large.false)

pub returns-then-is_too_large : goal.returns-then-is_too_large
returns-then-is_too_large c =
    yes (c.kept-item.result, (c.loop-kept.kept-index, c.loop-kept-test.true, sym c.kept-item.is), granted c.is_too_large.ensures c.if-is_too_large.true)

pub returns : goal.returns
returns c =
    no (λ h. All-contains (λ (s : Superinterface). NODE_LIMIT < size_of (replaced c.args.replacements.now (interface_of s)) → ⊥) c.args.list.now h.0
    (all_done (λ (s : Superinterface). NODE_LIMIT < size_of (replaced c.args.replacements.now (interface_of s)) → ⊥) c.args.list.now c.loop-kept.kept-index (omega arith) c.loop-kept.invariant) h.1 h.2)
