-- Files as they are lent.
use Rattle.std.specs.Prelude.{ℕ, List, map}
use Rattle.load_files.specs.Tables.{Table}
use Rattle.load_files.specs.declared.contents.FileContents.{FileContents}
use Rattle.load_files.specs.declared.contents.FileContents.TheVariants.{Text, NotUtf8, TooLong}
use Rattle.check_files.specs.declared.lent.LentContents.{LentContents}
use Rattle.check_files.specs.declared.lent.LentContents.TheVariants as lent
use Rattle.check_files.specs.declared.lent.LentFile.{LentFile}

-- what a file contains
abbrev pub contents_view : LentContents → FileContents
contents_view (lent.Text text) = Text text.now
contents_view (lent.NotUtf8 bytes) = NotUtf8 bytes
contents_view (lent.TooLong bytes) = TooLong bytes

-- a path with what the file there contains
abbrev pub file_view : LentFile → (List ℕ × FileContents)
file_view file = (file.path.now, contents_view file.contents)

-- the files of a table
abbrev pub table_view : List LentFile → Table
table_view files = map file_view files
