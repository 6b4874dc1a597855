-- Rows in groups, one for each library, as the code keeps them.
use Rattle.std.specs.Prelude.{ℕ, ◌≡◌, ◌<◌, ◌++◌, ◌⊎◌, List, [], ◌∷◌, Contains, AllPairs}

-- the rows of all groups, in the order of the groups
abbrev pub all_of : {G X : Type 0} → (G → List X) → List G → List X
all_of rows [] = []
all_of rows (g ∷ gs) = rows g ++ all_of rows gs

-- the numbers of the libraries rise
abbrev pub Rise : {G : Type 0} → (G → ℕ) → List G → Type 0
Rise {G} lib gs = AllPairs (λ (g h : G). lib g < lib h) gs

-- the groups are of different libraries, in the order of these; each has a row at least, and rows of its library alone
pub record AreApart {G X : Type 0} (lib : G → ℕ) (rows : G → List X) (lib_of : X → ℕ) (gs : List G) : Type 0 where
  pub rise : Rise lib gs
  pub filled : (g : G) → Contains gs g → (x : X) × Contains (rows g) x
  pub own : (g : G) (x : X) → Contains gs g → Contains (rows g) x → lib_of x ≡ lib g

-- one more row at the end: in the last group, where that is of its library, else in a group of its own
pub record Appends {G X : Type 0} (lib : G → ℕ) (rows : G → List X) (lib_of : X → ℕ) (before : X → X → Type 0) (old : List G) (x : X) (new : List G) : Type 0 where
  pub all : all_of rows new ≡ all_of rows old ++ x ∷ []
  pub apart : AreApart lib rows lib_of old → AllPairs before (all_of rows old ++ x ∷ []) → AreApart lib rows lib_of new

-- the groups after one was put in its place, unless one of its library stood there
pub record PutsIn {G : Type 0} (lib : G → ℕ) (old : List G) (g : G) (new : List G) : Type 0 where
  pub kept : (h : G) → Contains old h → Contains new h
  pub there : (h : G) × Contains new h × (lib h ≡ lib g)
  pub no_other : (h : G) → Contains new h → Contains old h ⊎ (g ≡ h)
  pub rise : Rise lib new

-- the groups after others were put in their places, unless some of their libraries stood there
pub record PutsAll {G : Type 0} (lib : G → ℕ) (old others new : List G) : Type 0 where
  pub kept : (h : G) → Contains old h → Contains new h
  pub there : (g : G) → Contains others g → (h : G) × Contains new h × (lib h ≡ lib g)
  pub no_other : (h : G) → Contains new h → Contains old h ⊎ Contains others h
  pub rise : Rise lib new
