-- Depths of declared classes, and what is marked of them.
use Rattle.std.specs.Prelude.{◌≡◌, ◌<◌, ◌+◌, ℕ, max, List, [], ◌∷◌, length, Option, Some, None, slice_index_or}
use Rattle.dart_types.specs.Ty.{Ty, invalid, never, void, null, interface, function, variable, promoted, nullable}
use Rattle.dart_types.specs.Tables.{Table, head_depth}
use Rattle.dart_types.specs.declared.ids.ClassId.{ClassId}
use Rattle.class_depths.specs.Over.{class_in}
use Rattle.class_depths.specs.declared.classes.DeclaredClass.{DeclaredClass}
use Rattle.class_depths.specs.declared.marks.Mark.{Mark}
use Rattle.class_depths.specs.declared.marks.Mark.TheVariants.{Unseen, Open, Settled}
use Rattle.class_depths.specs.declared.marks.Above.{Above}
use Rattle.class_depths.specs.declared.marks.Above.TheVariants.{Known, Ahead, Behind}

-- the declared class of which a type is an interface, if it is one
abbrev pub head_in : List DeclaredClass → Ty → Option DeclaredClass
head_in declared invalid = None
head_in declared never = None
head_in declared void = None
head_in declared null = None
head_in declared (interface c ts) = class_in declared c
head_in declared (function r o n e) = None
head_in declared (variable x) = None
head_in declared (promoted x t) = None
head_in declared (nullable t) = None

-- the longest way up over one of these direct supertypes, as it follows from the declared classes and from those below
pub data IsDepthOver (below : Table) (declared : List DeclaredClass) : List Ty → ℕ → Type 0 where
  over_none : IsDepthOver below declared [] 0
  over_below : {v : Ty} {vs : List Ty} {n : ℕ} → head_in declared v ≡ None → IsDepthOver below declared vs n → IsDepthOver below declared (v ∷ vs) (max (head_depth below v + 1) n)
  over_declared : {v : Ty} {vs : List Ty} {d : DeclaredClass} {m n : ℕ} → head_in declared v ≡ Some d → IsDepthOver below declared d.supers m → IsDepthOver below declared vs n → IsDepthOver below declared (v ∷ vs) (max (m + 1) n)

-- the depth of a direct supertype, with the declared class that it is an interface of
abbrev pub IsDepthOf : Table → List DeclaredClass → Ty → Option DeclaredClass → ℕ → Type 0
IsDepthOf below declared v None n = n ≡ head_depth below v
IsDepthOf below declared v (Some d) n = IsDepthOver below declared d.supers n

-- a class that is nowhere
abbrev pub no_class : DeclaredClass
no_class = record { id = record { lib = record { 0 = 0 }; index = 0 }; params = []; supers = [] }

-- the declared class at a place
abbrev pub class_at : List DeclaredClass → ℕ → DeclaredClass
class_at declared p = slice_index_or declared p no_class

-- the depth of the class at a place
abbrev pub IsDepthAt : Table → List DeclaredClass → ℕ → ℕ → Type 0
IsDepthAt below declared p n = IsDepthOver below declared (class_at declared p).supers n

-- the place of a declared class, if it is one
abbrev pub IsPlaceOf : List DeclaredClass → ClassId → Option ℕ → Type 0
IsPlaceOf declared c None = class_in declared c ≡ None
IsPlaceOf declared c (Some p) = (p < length declared) × (class_in declared c ≡ Some (class_at declared p))

-- the mark at a place
abbrev pub mark_at : List Mark → ℕ → Mark
mark_at marks p = slice_index_or marks p Unseen

-- each class has a mark, and depths that are marked are right
pub record AreMarked (below : Table) (declared : List DeclaredClass) (marks : List Mark) : Type 0 where
  pub size : length marks ≡ length declared
  pub settled : (p n : ℕ) → mark_at marks p ≡ Settled n → IsDepthAt below declared p n

-- what the mark at a place says
abbrev pub IsMarked : List Mark → ℕ → Above → Type 0
IsMarked marks p (Known n) = mark_at marks p ≡ Settled n
IsMarked marks p (Ahead q) = (q ≡ p) × (mark_at marks p ≡ Unseen)
IsMarked marks p (Behind q) = (q ≡ p) × (mark_at marks p ≡ Open)

-- what is known of a direct supertype: its depth, or the place of its class and the mark there
abbrev pub IsAbove : Table → List DeclaredClass → List Mark → Ty → Above → Type 0
IsAbove below declared marks v (Known n) = IsDepthOf below declared v (head_in declared v) n
IsAbove below declared marks v (Ahead p) = (p < length declared) × (head_in declared v ≡ Some (class_at declared p)) × (mark_at marks p ≡ Unseen)
IsAbove below declared marks v (Behind p) = (p < length declared) × (head_in declared v ≡ Some (class_at declared p)) × (mark_at marks p ≡ Open)
