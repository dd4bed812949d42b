use Rattle.ot_characters.specs.Rotation.{rotated}
use Rattle.ot_characters.proofs.MappedLemmas.{mapped_input, keeps_mapped}
use Rattle.ot_characters.proofs.RotationLemmas.{rotated-cluster}
use Rattle.ot_characters.proofs.rotation.rotate_characters.Goals as goal

pub returns-clause-is : goal.returns-clause-is
returns-clause-is g c =
    mapped_input (rotated (g.F.FontFunctions.has c.args.font.now) c.args.plan.now c.args.direction) c.args.buffer.now
    c.rotate_all.new.infos c.info_slice_mut.result.now c.info_slice_mut.ensures.value c.rotate_all.ensures

pub returns-clause-keeps : goal.returns-clause-keeps
returns-clause-keeps g c =
    let has = g.F.FontFunctions.has c.args.font.now in
    keeps_mapped (rotated has c.args.plan.now c.args.direction) c.args.buffer.now c.rotate_all.new.infos
    c.info_slice_mut.result.now c.info_slice_mut.ensures.value c.rotate_all.ensures
    (rotated-cluster has c.args.plan.now c.args.direction)
