-- The way up from a class whose depth is looked for.
use Rattle.std.specs.Prelude.{◌≡◌, ◌<◌, ◌+◌, ℕ, Bool, true, false, max, List, [], ◌∷◌, ◌++◌, set, drop, length, count_by, AllPairs, Contains}
use Rattle.dart_types.specs.Tables.{Table}
use Rattle.dart_types.specs.declared.ids.ClassId.{ClassId}
use Rattle.class_depths.specs.Over.{IsDirectlyOver, LiesOver}
use Rattle.class_depths.specs.Marked.{AreMarked, IsDepthAt, IsDepthOver, class_at, mark_at}
use Rattle.class_depths.specs.declared.classes.DeclaredClass.{DeclaredClass}
use Rattle.class_depths.specs.declared.marks.Mark.{Mark}
use Rattle.class_depths.specs.declared.marks.Mark.TheVariants.{Unseen, Open, Settled}
use Rattle.class_depths.specs.declared.marks.Step.{Step}
use Rattle.class_depths.specs.declared.marks.Turn.{Turn}
use Rattle.class_depths.specs.declared.marks.Turn.TheVariants.{Done, On, Round}
use Rattle.class_depths.specs.declared.unsettled.Unsettled.{Unsettled}
use Rattle.class_depths.specs.declared.unsettled.Unsettled.TheVariants.{Cycle, Memory}

-- the id of the declared class at a place
abbrev pub id_at : List DeclaredClass → ℕ → ClassId
id_at declared p = (class_at declared p).id

-- a class none of whose direct supertypes has been gone through
abbrev pub first_step : ℕ → Step
first_step p = record { place = p; gone = 0; depth = 0 }

-- the step has the longest way up over one of the direct supertypes that have been gone through
abbrev pub IsPartly : Table → List DeclaredClass → Step → Type 0
IsPartly below declared s = (n : ℕ) → IsDepthOver below declared (drop s.gone (class_at declared s.place).supers) n → IsDepthAt below declared s.place (max s.depth n)

-- the class at p is a direct supertype's of that of the step, and has this mark
pub record LeadsTo (declared : List DeclaredClass) (marks : List Mark) (s : Step) (p : ℕ) (mark : Mark) : Type 0 where
  pub place : p < length declared
  pub marked : mark_at marks p ≡ mark
  pub over : IsDirectlyOver declared (id_at declared p) (id_at declared s.place)

-- where the way leads from a class
abbrev pub Turns : Table → List DeclaredClass → List Mark → Step → Turn → Type 0
Turns below declared marks s (Done n) = IsDepthAt below declared s.place n
Turns below declared marks s (On t p) = (t.place ≡ s.place) × IsPartly below declared t × LeadsTo declared marks s p Unseen
Turns below declared marks s (Round p) = LeadsTo declared marks s p Open

-- what holds on the way up: depths that are marked are right, the open classes are those on the way, and each lies over those before it
pub record Climbing (below : Table) (declared : List DeclaredClass) (marks : List Mark) (path : List Step) : Type 0 where
  pub marked : AreMarked below declared marks
  pub on_the_way : (p : ℕ) → mark_at marks p ≡ Open → (s : Step) × Contains path s × (s.place ≡ p)
  pub within : (s : Step) → Contains path s → s.place < length declared
  pub partly : (s : Step) → Contains path s → IsPartly below declared s
  pub over : AllPairs (λ (a b : Step). LiesOver declared (id_at declared b.place) (id_at declared a.place)) path

abbrev pub is_unseen : Mark → Bool
is_unseen Unseen = true
is_unseen Open = false
is_unseen (Settled n) = false

-- how many classes were not come to
abbrev pub unseen : List Mark → ℕ
unseen marks = count_by is_unseen marks

-- how much of the way is left: each class that was not come to, once up and once back
abbrev pub effort : List Mark → List Step → ℕ
effort marks path = unseen marks + unseen marks + length path

-- what a step does: the way goes on with less of it left, and what was come to stays so
pub record Steps (below : Table) (declared : List DeclaredClass) (old new : List Mark) (path later : List Step) : Type 0 where
  pub climbing : Climbing below declared new later
  pub falls : effort new later < effort old path
  pub stays : (p : ℕ) → mark_at new p ≡ Unseen → mark_at old p ≡ Unseen

-- where a class is named, it lies over itself
abbrev pub IsRefusal : List DeclaredClass → Unsettled → Type 0
IsRefusal declared (Cycle c) = LiesOver declared c c
IsRefusal declared Memory = Unit {0}

-- a class is come to, unless it was come to before; its mark is given
abbrev pub Begins : Mark → ℕ → List Mark → List Mark → List Step → List Step → Type 0
Begins Unseen p old new path later = (new ≡ set old p Open) × (later ≡ path ++ first_step p ∷ [])
Begins Open p old new path later = (new ≡ old) × (later ≡ path)
Begins (Settled n) p old new path later = (new ≡ old) × (later ≡ path)

-- a depth is marked at the place
abbrev pub HasDepth : List Mark → ℕ → Type 0
HasDepth marks p = (n : ℕ) × (mark_at marks p ≡ Settled n)
