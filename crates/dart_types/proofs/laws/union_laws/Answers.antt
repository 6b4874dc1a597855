use Rattle.std.proofs.Common.{inl, inr}
use Rattle.std.specs.Prelude.{Contains}
use Rattle.dart_types.specs.Tables.{Table}
use Rattle.dart_types.specs.Unions.{Extends, IsUnion, IsView}
use Rattle.dart_types.proofs.laws.union_laws.Goals as goal

module _ (a b u : Table) (union : IsUnion a b u) where
  left : Extends a u
  left = record { classes = λ row i. (union.classes row).1 (inl i); vars = λ row i. (union.vars row).1 (inl i) }

  right : Extends b u
  right = record { classes = λ row i. (union.classes row).1 (inr i); vars = λ row i. (union.vars row).1 (inr i) }

  view : (whole : Table) → IsView a whole → IsView b whole → IsView u whole
  view whole v w = record {
    within = record {
      classes = λ row i. elim ((union.classes row).0 i) as (λ _. Contains whole.classes row) [ inl l ↦ v.within.classes row l | inr r ↦ w.within.classes row r ];
      vars = λ row i. elim ((union.vars row).0 i) as (λ _. Contains whole.vars row) [ inl l ↦ v.within.vars row l | inr r ↦ w.within.vars row r ];
    };
    classes = λ row i h. elim ((union.classes h.0).0 h.1) as (λ _. Contains u.classes row) [
      | inl l ↦ left.classes row (v.classes row i (h.0, l, h.2))
      | inr r ↦ right.classes row (w.classes row i (h.0, r, h.2))
    ];
    vars = λ row i h. elim ((union.vars h.0).0 h.1) as (λ _. Contains u.vars row) [
      | inl l ↦ left.vars row (v.vars row i (h.0, l, h.2))
      | inr r ↦ right.vars row (w.vars row i (h.0, r, h.2))
    ];
  }

pub returns : goal.returns
returns c =
    let a = c.args._a.now.table in
    let b = c.args._b.now.table in
    let u = c.args._union.now.table in
    record { left = left a b u c.requires; right = right a b u c.requires; views = view a b u c.requires }
