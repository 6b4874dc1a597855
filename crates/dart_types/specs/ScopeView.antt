-- A scope as the code keeps it.
use Rattle.std.specs.Prelude.{[], ◌∷◌}
use Rattle.dart_types.specs.Scopes.{Frames}
use Rattle.dart_types.specs.declared.scopes.ScopeNode.{ScopeNode}
use Rattle.dart_types.specs.declared.scopes.ScopeNode.TheVariants.{Root, Frame}

-- the frames of a scope's form
abbrev pub frames_of : ScopeNode → Frames
frames_of Root = []
frames_of (Frame params args outer) = (params.now, args.now) ∷ outer.now
