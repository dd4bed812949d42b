use Rattle.std.proofs.Common.{◌<◌, length, arith}
use Rattle.std.proofs.lemmas.Grind.{common_steps}
use Rattle.ot_characters.proofs.PropertiesLemmas.{characters_more, remembered_more}
use Rattle.ot_characters.proofs.text.set_all_properties.Goals as goal

pub loop-i-preserved : goal.loop-i-preserved
loop-i-preserved c =
    let old = c.args.infos.now in
    let now = c.loop-i.infos in
    let in_old : c.loop-i.i < length old = grind (arith, common_steps) in
    let in_now : c.loop-i.i < length now = grind (arith, common_steps) in
    record {
      is = characters_more c.loop-i.i old now c.join_grapheme.new.infos c.set_unicode_props.new.info in_old in_now
          c.loop-i.invariant.is c.set_unicode_props.ensures.is c.join_grapheme.ensures;
      remembered = remembered_more c.loop-i.i old now c.args.scratch_flags.now c.loop-i.scratch_flags c.set_unicode_props.new.scratch_flags
          in_old c.loop-i.invariant.is c.loop-i.invariant.remembered c.set_unicode_props.ensures.remembered;
    }
