use Rattle.std.proofs.Common.{◌++◌, refl, inl, inr}
use Rattle.std.specs.Prelude.{Contains}
use Rattle.std.proofs.lemmas.List.Elements.{Contains-append_left, Contains-append_right, Contains-append_cases}
use Rattle.dart_types.specs.Tables.{Table}
use Rattle.dart_types.specs.Unions.{HasClassOf, HasVarOf, IsView}
use Rattle.dart_types.specs.declared.ids.LibId.{LibId}
use Rattle.dart_types.specs.declared.class_rows.ClassRow.{ClassRow}
use Rattle.dart_types.specs.declared.class_rows.VarRow.{VarRow}
use Rattle.dart_types.proofs.laws.views_law.Goals as goal

module _ (below a b : Table) (va : IsView below a) (vb : IsView below b) (classes : (lib : LibId) → HasClassOf a lib → HasClassOf b lib → HasClassOf below lib) (vars : (lib : LibId) → HasVarOf a lib → HasVarOf b lib → HasVarOf below lib) where
  -- a row of one that is of a library of the other stands in both
  class_in_both : (row : ClassRow) → Contains b.classes row → HasClassOf a row.id.lib → Contains a.classes row
  class_in_both row i h = va.within.classes row (vb.classes row i (classes row.id.lib h (row, i, refl)))

  var_in_both : (row : VarRow) → Contains b.vars row → HasVarOf a row.var.lib → Contains a.vars row
  var_in_both row i h = va.within.vars row (vb.vars row i (vars row.var.lib h (row, i, refl)))

pub returns : goal.returns
returns c =
    let below = c.args._below.now.table in
    let a = c.args._left.now.table in
    let b = c.args._right.now.table in
    let q = c.requires in
    record {
      whole = record { classes = a.classes ++ b.classes; vars = a.vars ++ b.vars };
      left = record {
        within = record { classes = λ row i. Contains-append_left a.classes b.classes row i; vars = λ row i. Contains-append_left a.vars b.vars row i };
        classes = λ row i h. elim (Contains-append_cases a.classes b.classes row i) as (λ _. Contains a.classes row) [ inl l ↦ l | inr r ↦ class_in_both below a b q.left q.right q.classes q.vars row r h ];
        vars = λ row i h. elim (Contains-append_cases a.vars b.vars row i) as (λ _. Contains a.vars row) [ inl l ↦ l | inr r ↦ var_in_both below a b q.left q.right q.classes q.vars row r h ];
      };
      right = record {
        within = record { classes = λ row i. Contains-append_right a.classes b.classes row i; vars = λ row i. Contains-append_right a.vars b.vars row i };
        classes = λ row i h. elim (Contains-append_cases a.classes b.classes row i) as (λ _. Contains b.classes row) [
          | inl l ↦ class_in_both below b a q.right q.left (λ lib m n. q.classes lib n m) (λ lib m n. q.vars lib n m) row l h
          | inr r ↦ r
        ];
        vars = λ row i h. elim (Contains-append_cases a.vars b.vars row i) as (λ _. Contains b.vars row) [
          | inl l ↦ var_in_both below b a q.right q.left (λ lib m n. q.classes lib n m) (λ lib m n. q.vars lib n m) row l h
          | inr r ↦ r
        ];
      };
    }
