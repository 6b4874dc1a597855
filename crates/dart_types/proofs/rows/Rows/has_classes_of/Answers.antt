use Rattle.std.proofs.Common.{◌≡◌, List, Some, None, nat_eq, sym, subst}
use Rattle.std.specs.Prelude.{find}
use Rattle.dart_types.specs.FormedTable.{FormedTable}
use Rattle.dart_types.specs.Groups.{Rise}
use Rattle.dart_types.specs.Unions.{HasClassOf}
use Rattle.dart_types.specs.declared.class_libraries.LibraryClasses.{LibraryClasses}
use Rattle.dart_types.proofs.Found.{has_classes, has_no_classes}
use Rattle.dart_types.proofs.Steps.{yes, no}
use Rattle.dart_types.proofs.rows.Rows.has_classes_of.Goals as goal

pub find_classes-requires : goal.find_classes-requires
find_classes-requires c = subst (λ (ls : List LibraryClasses). Rise (λ (l : LibraryClasses). l.lib.0) ls) (sym c.deref.ensures.value) c.self.invariant.classes_apart.rise

pub returns-in-None : goal.returns-in-None
returns-in-None c =
    no (subst (λ (f : FormedTable). HasClassOf f.table c.args.lib → ⊥) c.self.view_is
    (has_no_classes c.self.inside.classes.items c.self.inside.vars.items c.self.invariant c.self.inside.formed c.args.lib
    (subst (λ (ls : List LibraryClasses). None ≡ find (λ (l : LibraryClasses). nat_eq l.lib.0 c.args.lib.0) ls) c.deref.ensures.value c.in-None.ensures)))

pub returns-in-Some : goal.returns-in-Some
returns-in-Some c =
    yes (subst (λ (f : FormedTable). HasClassOf f.table c.args.lib) c.self.view_is
    (has_classes c.self.inside.classes.items c.self.inside.vars.items c.self.invariant c.self.inside.formed c.args.lib c.in-Some.field-0.now
    (subst (λ (ls : List LibraryClasses). Some c.in-Some.field-0.now ≡ find (λ (l : LibraryClasses). nat_eq l.lib.0 c.args.lib.0) ls) c.deref.ensures.value c.in-Some.ensures)))
