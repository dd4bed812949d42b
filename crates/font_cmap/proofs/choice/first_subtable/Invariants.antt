use Rattle.std.proofs.Common.{◌≡◌, drop}
use Rattle.font_cmap.specs.Choice.{first_subtable}
use Rattle.font_cmap.proofs.choice.first_subtable.Given as goal

-- none of the encodings so far has a subtable
abbrev pub invariant-loop-encoding : goal.invariant-loop-encoding
invariant-loop-encoding l = first_subtable l.cmap (drop l.encoding-index l.encodings) ≡ first_subtable l.cmap l.encodings
