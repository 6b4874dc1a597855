use Rattle.std.proofs.Common.{◌+◌, take, arith}
use Rattle.dart_text.specs.Units.{units_of}
use Rattle.dart_text.proofs.CursorLemmas.{length-encode_utf16, units_bounded, line_bounded, column_bounded, on_past}
use Rattle.dart_text.proofs.cursor.Cursor.past.Goals as goal

pub overflow_add-result-2 : goal.overflow_add-result-2
overflow_add-result-2 c = let units = units_bounded c.args.text.now c.utf8.text c.args.self c.requires.on in grind arith

pub past-requires-clause-line : goal.past-requires-clause-line
past-requires-clause-line c = omega (arith, units_bounded c.args.text.now c.utf8.text c.args.self c.requires.on, line_bounded c.args.text.now c.utf8.text c.args.self c.requires.on)

pub past-requires-clause-column : goal.past-requires-clause-column
past-requires-clause-column c = omega (arith, units_bounded c.args.text.now c.utf8.text c.args.self c.requires.on, column_bounded c.args.text.now c.utf8.text c.args.self c.requires.on)

pub returns : goal.returns
returns c =
    let units = length-encode_utf16 c.args.character c.len_utf16-units.result c.len_utf16-units.ensures.bmp c.len_utf16-units.ensures.surrogate_pair in
    record {
      on =
          on_past c.args.text.now c.utf8.text c.args.self c.requires.on
          (record { bytes = c.args.self.bytes + c.len_utf8-bytes.result; units = c.args.self.units + c.len_utf16-units.result; position = c.past.result })
          c.args.character c.requires.here.0 c.requires.here.1 (omega arith) (omega arith)
          (c.past.ensures (units_of (take c.args.self.bytes c.args.text.now)) c.requires.on.position);
      bytes = omega (arith, c.len_utf8-bytes.ensures.len);
      units = omega (arith, units);
    }
