use Rattle.std.proofs.Common.{◌≡◌, ◌-◌, ◌++◌, get_or, take, drop}
use Rattle.glyph_lists.specs.Clusters.{zero_glyph}
use Rattle.script_joining.specs.Joining.{formed_behind, selectors_formed}
use Rattle.script_joining.proofs.arabic.masks.form_selectors.Given as goal

-- what is left keeps its forms behind what has them
abbrev pub invariant-loop-i : goal.invariant-loop-i
invariant-loop-i l =
    take l.i l.infos ++ formed_behind (get_or l.infos (l.i - 1) zero_glyph) (drop l.i l.infos) ≡ selectors_formed l.fn.infos
