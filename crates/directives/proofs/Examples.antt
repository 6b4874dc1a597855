-- A few rows, computed.
use Rattle.std.proofs.Common.{◌≡◌, ℕ, [], ◌∷◌, refl}
use Rattle.dart_tokens.specs.declared.token.Kind.TheVariants.{StringLiteral}
use Rattle.dart_tree.specs.Tree.{Tree, no_more, more, simple_string, library_directive, import_directive, part_directive, part_of_directive, absent, error_node}
use Rattle.dart_tree.specs.declared.places.Place.{Place}
use Rattle.dart_tree.specs.declared.places.Span.{Span}
use Rattle.directives.specs.Order.{misplaced_in}

abbrev range : ℕ → ℕ → Span
range start end = record { start = start; end = end }

abbrev place : ℕ → ℕ → Place
place start end = record { node = record { 0 = 0 }; span = range start end }

abbrev uri : Tree
uri = simple_string (place 0 0) StringLiteral 1

-- `part 'b.dart';library l;`
library_behind_a_part : misplaced_in (more (part_directive (place 0 14) uri) (more (library_directive (place 14 24) no_more) no_more)) ≡ range 14 24 ∷ []
library_behind_a_part = refl

-- `part of 'c.dart';part 'a.dart';part of 'd.dart';`
beside_a_part_of : misplaced_in (more (part_of_directive (place 0 17) uri) (more (part_directive (place 17 31) uri) (more (part_of_directive (place 31 48) uri) no_more))) ≡ range 17 31 ∷ range 31 48 ∷ []
beside_a_part_of = refl

-- `int ;import 'b.dart';`
behind_an_error : misplaced_in (more (error_node (place 0 5)) (more (import_directive (place 5 21) uri absent no_more) no_more)) ≡ []
behind_an_error = refl
