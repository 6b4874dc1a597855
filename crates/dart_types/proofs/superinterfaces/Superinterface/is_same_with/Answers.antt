use Rattle.std.proofs.Common.{sym}
use Rattle.dart_types.proofs.SeenEquality.{seen_with, same_arguments}
use Rattle.dart_types.proofs.superinterfaces.Superinterface.is_same_with.Goals as goal

-- the arguments decide, as they are seen
pub returns : goal.returns
returns c =
    let s = c.args.self.now in
    let t = c.args.other.now in
    let a = c.args.arguments.now in
    let b = c.args.other_arguments.now in
    let left = seen_with a.params.now a.args.now s.args c.frame-scope.ensures c.root-root.ensures c.as_slice.ensures c.as_slice-3.ensures in
    let right = seen_with b.params.now b.args.now t.args c.frame-other_scope.ensures c.root-root.ensures c.as_slice-2.ensures c.as_slice-4.ensures in
    same_arguments c.are_lists_same.result s.class t.class (sym c.if-ne.ensures) c.are_lists_same.ensures left right
