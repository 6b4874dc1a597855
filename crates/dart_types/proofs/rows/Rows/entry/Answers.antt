use Rattle.std.proofs.Common.{◌≡◌, List, Some, None, nat_eq, true, sym, ◌∙◌, ap, subst}
use Rattle.std.specs.Prelude.{AllPairs, MatchOption, find}
use Rattle.dart_types.specs.Same.{same_class}
use Rattle.dart_types.specs.Tables.{class_of}
use Rattle.dart_types.specs.Entries.{IsEntry}
use Rattle.dart_types.specs.FormedTable.{FormedTable}
use Rattle.dart_types.specs.Groups.{Rise}
use Rattle.dart_types.specs.WellFormed.{class_before}
use Rattle.dart_types.specs.declared.entries.ClassEntry.{ClassEntry}
use Rattle.dart_types.specs.declared.class_libraries.LibraryClasses.{LibraryClasses}
use Rattle.dart_types.proofs.Found.{no_class, library_in_order, entry_in_library}
use Rattle.dart_types.proofs.rows.Rows.entry.Goals as goal

pub find_classes-requires : goal.find_classes-requires
find_classes-requires c = subst (λ (ls : List LibraryClasses). Rise (λ (l : LibraryClasses). l.lib.0) ls) (sym c.deref.ensures.value) c.self.invariant.classes_apart.rise

-- a class of a library that isn't there
pub returns-in-None : goal.returns-in-None
returns-in-None c =
    subst (λ (f : FormedTable). class_of f.table c.args.class ≡ None) c.self.view_is
    (no_class c.self.inside.classes.items c.self.inside.vars.items c.self.invariant c.self.inside.formed c.args.class
    (subst (λ (ls : List LibraryClasses). None ≡ find (λ (l : LibraryClasses). nat_eq l.lib.0 c.args.class.lib.0) ls) c.deref.ensures.value c.in-None.ensures))

pub find_entry-requires : goal.find_entry-requires
find_entry-requires c =
    subst (λ (es : List ClassEntry). AllPairs (λ (a b : ClassEntry). class_before a.row.id b.row.id ≡ true) es) (sym c.deref-in-Some.ensures.value)
    (library_in_order c.self.inside.classes.items c.self.inside.vars.items c.self.invariant c.self.inside.formed c.args.class c.in-Some.library.now
    (subst (λ (ls : List LibraryClasses). Some c.in-Some.library.now ≡ find (λ (l : LibraryClasses). nat_eq l.lib.0 c.args.class.lib.0) ls) c.deref.ensures.value c.in-Some.ensures))

-- a class of a library that is there
pub returns-in-Some : goal.returns-in-Some
returns-in-Some c =
    subst (λ (f : FormedTable). MatchOption c.find_entry.result (class_of f.table c.args.class ≡ None) (λ e. IsEntry f.table c.args.class e.now)) c.self.view_is
    (entry_in_library c.self.inside.classes.items c.self.inside.vars.items c.self.invariant c.self.inside.formed c.args.class c.in-Some.library.now
    (subst (λ (ls : List LibraryClasses). Some c.in-Some.library.now ≡ find (λ (l : LibraryClasses). nat_eq l.lib.0 c.args.class.lib.0) ls) c.deref.ensures.value c.in-Some.ensures)
    c.find_entry.result (c.find_entry.ensures ∙ ap (find (λ (e : ClassEntry). same_class e.row.id c.args.class)) c.deref-in-Some.ensures.value))
