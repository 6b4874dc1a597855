-- Core programs, as values.
use Rattle.std.specs.Prelude.{List, refl}
use Rattle.std.specs.Coded.{Coded, code_by, coded×, coded_list}
use Rattle.dart_types.specs.Ty.{Ty}
use Rattle.dart_types.specs.TyCode.{type_code}
use Rattle.dart_types.specs.FormedTable.{FormedTable, formed_table_code}
use Rattle.core_ir.specs.declared.points.FunctionId.{FunctionId}
use Rattle.core_ir.specs.declared.points.PointId.{PointId}
use Rattle.core_ir.specs.declared.points.Point.{Point}
use Rattle.core_ir.specs.contracts.points.FunctionId as function_id
use Rattle.core_ir.specs.contracts.points.PointId as point_id
use Rattle.core_ir.specs.contracts.points.Point as point

-- the declared type of each slot, and the point at which a call begins
pub record Function : Type 0 where
  pub slots : List Ty
  pub entry : PointId

-- the rows of the classes, the functions, the points of all of them, and the function with which a run begins
pub record Program : Type 0 where
  pub rows : FormedTable
  pub functions : List Function
  pub points : List Point
  pub main : FunctionId

-- how a function is stored
abbrev pub function_code : Coded Function
function_code =
    code_by (List Ty × PointId) (coded× (coded_list type_code) point_id.the_row.coded) (λ f. (f.slots, f.entry)) (λ p. record { slots = p.0; entry = p.1 }) (λ _. refl)

-- the parts of a program
abbrev pub ProgramParts : Type 0
ProgramParts = (FormedTable × List Function) × (List Point × FunctionId)

-- how a program is stored
abbrev pub program_code : Coded Program
program_code =
    code_by ProgramParts (coded× (coded× formed_table_code (coded_list function_code)) (coded× (coded_list point.the_row.coded) function_id.the_row.coded))
    (λ p. ((p.rows, p.functions), (p.points, p.main)))
    (λ parts. record { rows = parts.0.0; functions = parts.0.1; points = parts.1.0; main = parts.1.1 })
    (λ _. refl)
