use Rattle.ot_characters.proofs.PropertiesLemmas.{characters_input, keeps_characters}
use Rattle.ot_characters.proofs.text.set_all_in.Goals as goal

pub returns-clause-is : goal.returns-clause-is
returns-clause-is c =
    characters_input c.args.buffer.now c.set_all_properties.new.infos c.info_slice_mut.result.now c.info_slice_mut.ensures.value
    c.set_all_properties.ensures.is

pub returns-clause-keeps : goal.returns-clause-keeps
returns-clause-keeps c =
    keeps_characters c.args.buffer.now c.set_all_properties.new.infos c.info_slice_mut.result.now c.info_slice_mut.ensures.value
    c.set_all_properties.ensures.is
