use Rattle.std.proofs.Common.{refl}
use Rattle.ot_characters.proofs.MappedLemmas.{mapped_input, keeps_mapped}
use Rattle.ot_shape.specs.Glyphs.{in_place}
use Rattle.ot_shape.proofs.shaping.put_glyphs.Goals as goal

pub returns-clause-is : goal.returns-clause-is
returns-clause-is c =
    mapped_input in_place c.args.buffer.now c.put_all.new.infos c.info_slice_mut.result.now c.info_slice_mut.ensures.value
    c.put_all.ensures

pub returns-clause-keeps : goal.returns-clause-keeps
returns-clause-keeps c =
    keeps_mapped in_place c.args.buffer.now c.put_all.new.infos c.info_slice_mut.result.now c.info_slice_mut.ensures.value
    c.put_all.ensures (λ g. refl)
