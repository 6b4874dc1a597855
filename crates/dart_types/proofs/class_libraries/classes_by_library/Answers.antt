use Rattle.std.proofs.Common.{◌≡◌, ◌++◌, ◌∷◌, List, rules, true, sym, ap, ◌∙◌}
use Rattle.dart_types.specs.Libraries.{entries_in}
use Rattle.dart_types.specs.WellFormed.{class_before}
use Rattle.dart_types.specs.declared.entries.ClassEntry.{ClassEntry}
use Rattle.dart_types.specs.declared.class_libraries.LibraryClasses.{LibraryClasses}
use Rattle.dart_types.proofs.Groups.{appends_next}
use Rattle.dart_types.proofs.class_libraries.classes_by_library.Goals as goal

pub loop-entry-preserved : goal.loop-entry-preserved
loop-entry-preserved c =
    let libraries = c.loop-entry.libraries.items in
    let rest = c.next.new.self.rest.items in
    let turn : c.loop-entry.entry-iterator.rest.items ≡ c.in-Some.entry ∷ rest = search rules in
    appends_next (λ (l : LibraryClasses). l.lib.0) (λ (l : LibraryClasses). l.entries.items) (λ (e : ClassEntry). e.row.id.lib.0) (λ (a b : ClassEntry). class_before a.row.id b.row.id ≡ true)
    c.args.entries.items rest libraries c.push_class.new.libraries.items c.in-Some.entry
    (ap (λ (es : List ClassEntry). entries_in libraries ++ es) (sym turn) ∙ c.loop-entry.invariant.0) c.requires c.loop-entry.invariant.1 c.in_ok-push_class.ensures
