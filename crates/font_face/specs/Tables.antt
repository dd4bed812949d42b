-- The tables of a font, by their tags.
use Rattle.std.specs.Prelude.{ℕ, List}
use Rattle.rb_common.specs.Tag.{tag_of}
use Rattle.font_tables.specs.Directory.{table_of}
use Rattle.font_tables.specs.declared.directory.Tables.{Tables}

-- the table with these letters in a directory
abbrev pub table_in : Tables → List ℕ → List ℕ
table_in tables letters = table_of tables.file.now tables.directory (tag_of letters)
