-- Kerning by the table `kern` of a font.
use Rattle.std.specs.Prelude.{◌≡◌, ℕ, true, false}
use Rattle.font_face.specs.declared.face.Face.{Face}
use Rattle.ot_gpos_tables.specs.KernTable.{is_apple, subtable_count}
use Rattle.ot_gpos_tables.specs.declared.kern_table.KernTable.{KernTable}
use Rattle.ot_kern.specs.Kerning.{kerned}
use Rattle.ot_layout.specs.declared.skipping_iterator.LookupOptions.{LookupOptions}
use Rattle.shaping_buffer.specs.State.{State}

-- glyphs are kerned whose mask has one of these bits; joiners between them are passed over, syllables and chance are not asked
abbrev pub kern_options : ℕ → LookupOptions
kern_options mask = record {
  mask = mask;
  auto_zwnj = true;
  auto_zwj = true;
  per_syllable = false;
  random = false;
}

-- by the font's table at its size
pub record IsKernedByTable (face : Face) (mask : ℕ) (old new : State) : Type 0 where
  pub table : KernTable
  pub bytes : table.table.now ≡ face.layout.kern.now
  pub form : table.is_apple ≡ is_apple face.layout.kern.now
  pub count : table.count ≡ subtable_count face.layout.kern.now
  pub is : new ≡ kerned table face.scale (kern_options mask) old
