use Rattle.std.proofs.Common.{◌≡◌, ◌+◌, ◌∷◌, length, take}
use Rattle.aat_substitution.specs.Insertions.{first_glyphs}
use Rattle.aat_substitution.proofs.insertion.glyphs_behind.Given as goal

-- the glyphs so far stand behind the first one
abbrev pub invariant-loop-place : goal.invariant-loop-place
invariant-loop-place l = record {
  len : length l.glyphs ≡ 32;
  so_far : take (l.place + 1) l.glyphs ≡ l.glyph ∷ first_glyphs l.inserted.glyphs.now l.place;
}
