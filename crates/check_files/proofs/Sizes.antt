-- As many elements as files.
use Rattle.std.proofs.Common.{◌≡◌, ℕ, suc, ◌+◌, List, [], ◌∷◌, length, refl, ap}
use Rattle.libraries.specs.declared.aims.Aim.{Aim}
use Rattle.libraries.specs.declared.files.SourceFile.{SourceFile}
use Rattle.libraries.specs.declared.heads.Head.{Head}
use Rattle.libraries.specs.Elements.{elements_from}

-- each file has an element
pub elements_size : (files : List SourceFile) (heads : List Head) (all : List (List Aim)) (place : ℕ) (more : List SourceFile) → length (elements_from files heads all place more) ≡ length more
elements_size files heads all place [] = refl
elements_size files heads all place (file ∷ more) = ap suc (elements_size files heads all (place + 1) more)
