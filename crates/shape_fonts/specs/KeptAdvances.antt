-- The advances that are kept of a font's glyphs are its own.
use Rattle.std.specs.Prelude.{ℕ, Option, None, List, get_or}
use Rattle.std.specs.Option.{ForSome}
use Rattle.font_face.specs.declared.face.Face.{Face}
use Rattle.font_functions.specs.OwnFunctions.{IsOwnAdvance}
use Rattle.shape_fonts.specs.declared.kept_advances.KeptAdvance.{KeptAdvance}

abbrev pub AreOwn : Face → List (Option KeptAdvance) → Type 0
AreOwn face kept = (place : ℕ) → ForSome (get_or kept place None) (λ k. IsOwnAdvance face k.glyph.0 k.advance)
