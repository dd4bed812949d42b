use Rattle.std.proofs.Common.{◌≡◌, take}
use Rattle.std.specs.Prelude.{None}
use Rattle.ot_characters.specs.Properties.{all_remembered}
use Rattle.ot_characters.proofs.PropertiesLemmas.{set_before}
use Rattle.ot_characters.proofs.text.set_all_properties.Given as goal

-- the characters before the place have their properties
abbrev pub invariant-loop-i : goal.invariant-loop-i
invariant-loop-i l = record {
  is : l.infos ≡ set_before None l.i l.fn.infos;
  remembered : l.scratch_flags ≡ all_remembered (take l.i l.fn.infos) l.fn.scratch_flags;
}
