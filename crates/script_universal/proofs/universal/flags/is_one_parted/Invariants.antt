use Rattle.std.proofs.Common.{◌≡◌, drop}
use Rattle.script_universal.specs.Masks.{Test, is_one_parted}
use Rattle.script_universal.proofs.universal.flags.is_one_parted.Given as goal

-- none so far is parted
abbrev pub invariant-loop-glyph : goal.invariant-loop-glyph
invariant-loop-glyph g l =
    (test : Test) → ((x : _) (m : _) (r : _) → goal.F-post g l.is_parted x m r → r ≡ test x.now m)
    → is_one_parted test l.masks l.form (drop l.glyph-index l.glyphs) ≡ is_one_parted test l.masks l.form l.glyphs
