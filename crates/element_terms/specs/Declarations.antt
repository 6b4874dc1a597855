-- The names that declarations have.
use Rattle.std.specs.Prelude.{ℕ, Bool, true, false, ◌&&◌, ◌||◌, List, bytes_eq}
use Rattle.element_terms.specs.declared.declarations.Declared.{Declared}
use Rattle.element_terms.specs.declared.declarations.DeclaredKind.{DeclaredKind}
use Rattle.element_terms.specs.declared.declarations.DeclaredKind.TheVariants.{Function, Getter, Setter, Variable, FinalVariable, Class, Mixin, Typedef}
use Rattle.element_terms.specs.NameTexts.{is_setter_of}

-- a setter comes with a variable that isn't final
abbrev pub has_setter : DeclaredKind → Bool
has_setter Function = false
has_setter Getter = false
has_setter Setter = false
has_setter Variable = true
has_setter FinalVariable = false
has_setter Class = false
has_setter Mixin = false
has_setter Typedef = false

-- a declaration has its name, and that of the setter that comes with it
abbrev pub declares : Declared → List ℕ → Bool
declares d name = bytes_eq d.name name || (has_setter d.kind && is_setter_of d.name name)
