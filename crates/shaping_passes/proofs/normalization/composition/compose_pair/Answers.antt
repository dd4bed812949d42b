-- The character is put out, the out side is merged from the starter up to it, the cursor goes back before it and passes it
-- over, and the starter gets the new id. What each call leaves is known from the one before (`NormalizationPairLemmas`),
-- and with it what the next one requires. What the last one leaves is the pair.
use Rattle.shaping_buffer.proofs.KeepsLemmas.{keeps_then}
use Rattle.shaping_passes.proofs.NormalizationPairLemmas.{goes_back, three_is, left_back, out_left, pair_is}
use Rattle.shaping_passes.proofs.NormalizationKeepsLemmas.{keeps_renamed, keeps_dropped}
use Rattle.shaping_passes.proofs.normalization.composition.compose_pair.Goals as goal

pub move_to-requires : goal.move_to-requires
move_to-requires c =
    goes_back c.args.buffer.now c.requires.ready c.requires.some c.args.at c.requires.place c.keep_one.new.buffer
    c.merge_out_clusters.new.self c.out_len-end.result c.keep_one.ensures.is c.out_len-end.ensures.out_len
    c.merge_out_clusters.ensures.is

pub skip_glyph-requires : goal.skip_glyph-requires
skip_glyph-requires c =
    left_back c.args.buffer.now c.requires.ready c.requires.some c.args.at c.requires.place c.keep_one.new.buffer
    c.merge_out_clusters.new.self c.out_len-end.result c.keep_one.ensures.is c.out_len-end.ensures.out_len
    c.merge_out_clusters.ensures.is c.move_to.new.self c.move_to.result c.move_to.ensures.meets

pub set_id-requires : goal.set_id-requires
set_id-requires c =
    out_left c.args.buffer.now c.requires.ready c.requires.some c.args.at c.requires.place c.keep_one.new.buffer
    c.merge_out_clusters.new.self c.out_len-end.result c.keep_one.ensures.is c.out_len-end.ensures.out_len
    c.merge_out_clusters.ensures.is c.move_to.new.self c.move_to.result c.move_to.ensures.meets c.skip_glyph.new.self
    c.skip_glyph.ensures.is

pub returns : goal.returns
returns c =
    let s = c.args.buffer.now in
    let at = c.args.at in
    let one = c.keep_one.new.buffer in
    let two = c.merge_out_clusters.new.self in
    let back = c.move_to.new.self in
    let left = c.skip_glyph.new.self in
    let new = c.set_id.new.buffer in
    let is = three_is s c.requires.ready c.requires.some at c.requires.place one two c.out_len-end.result
    c.keep_one.ensures.is c.out_len-end.ensures.out_len c.merge_out_clusters.ensures.is back c.move_to.result
    c.move_to.ensures.meets in
    let pair = pair_is s c.requires.ready c.requires.some at c.requires.place one two c.out_len-end.result
    c.keep_one.ensures.is c.out_len-end.ensures.out_len c.merge_out_clusters.ensures.is back c.move_to.result
    c.move_to.ensures.meets left c.skip_glyph.ensures.is c.args.id new c.set_id.ensures in
    record {
      out = pair.out;
      input = pair.input;
      glyphs = pair.glyphs;
      merges = pair.merges;
      others = pair.others;
      keeps = keeps_then s one new c.keep_one.ensures.keeps
          (keeps_then one two new c.merge_out_clusters.ensures.keeps
          (keeps_then two back new c.move_to.ensures.keeps
          (keeps_then back left new
          (keeps_dropped s c.requires.ready c.requires.some at c.requires.place back left is
          c.skip_glyph.ensures.keeps_order c.skip_glyph.ensures.keeps)
          (keeps_renamed left new at c.args.id c.set_id.ensures))));
    }
