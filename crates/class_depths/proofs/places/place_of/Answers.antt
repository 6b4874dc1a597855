use Rattle.std.proofs.Common.{◌≡◌, ℕ, get_or, sym, ◌∙◌, arith, subst, true, false}
use Rattle.std.proofs.lemmas.List.{get_or_read}
use Rattle.dart_types.specs.Same.{same_class}
use Rattle.class_depths.proofs.Ids.{found, none_at_end, none_there}
use Rattle.class_depths.specs.Marked.{no_class}
use Rattle.class_depths.specs.declared.classes.DeclaredClass.{DeclaredClass}
use Rattle.class_depths.proofs.places.place_of.Goals as goal

abbrev lib : DeclaredClass → ℕ
lib d = d.id.lib.0

abbrev index : DeclaredClass → ℕ
index d = d.id.index

pub returns-then-at-declared : goal.returns-then-at-declared
returns-then-at-declared c =
    none_at_end lib index c.args.declared.now c.requires c.args.class.lib.0 c.args.class.index c.smaller-at.result c.smaller-at.ensures.parts (omega arith)

pub returns-then-eq : goal.returns-then-eq
returns-then-eq c =
    let read = get_or_read c.args.declared.now c.smaller-at.result c.index-declared-at.result (omega arith) c.index-declared-at.is no_class in
    let here : same_class (get_or c.args.declared.now c.smaller-at.result no_class).id c.args.class ≡ true = subst (λ (d : DeclaredClass). same_class d.id c.args.class ≡ true) read (sym c.eq.ensures ∙ c.if-eq.true) in
    (omega arith, found lib index c.args.declared.now c.requires c.args.class.lib.0 c.args.class.index c.smaller-at.result c.smaller-at.ensures.parts no_class (omega arith) here)

pub returns-else-eq : goal.returns-else-eq
returns-else-eq c =
    let read = get_or_read c.args.declared.now c.smaller-at.result c.index-declared-at.result (omega arith) c.index-declared-at.is no_class in
    let other : same_class (get_or c.args.declared.now c.smaller-at.result no_class).id c.args.class ≡ false = subst (λ (d : DeclaredClass). same_class d.id c.args.class ≡ false) read (sym c.eq.ensures ∙ c.if-eq.false) in
    none_there lib index c.args.declared.now c.requires c.args.class.lib.0 c.args.class.index c.smaller-at.result c.smaller-at.ensures.parts no_class (omega arith) other
