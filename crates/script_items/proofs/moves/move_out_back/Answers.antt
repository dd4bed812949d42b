use Rattle.script_items.proofs.MoveLemmas.{keeps_moved_out, with_out-moved}
use Rattle.script_items.proofs.moves.move_out_back.Goals as goal

pub returns-clause-is : goal.returns-clause-is
returns-clause-is c =
    with_out-moved c.args.start c.args.middle c.args.end c.args.buffer.now c.move_items.new.infos
    c.out_info_mut.result.now c.requires.order c.requires.ends c.requires.within c.out_info_mut.ensures.value
    c.move_items.ensures

pub returns-clause-keeps : goal.returns-clause-keeps
returns-clause-keeps c =
    keeps_moved_out c.args.start c.args.middle c.args.end c.args.buffer.now c.move_items.new.infos
    c.out_info_mut.result.now c.requires.order c.requires.ends c.requires.within c.out_info_mut.ensures.value
    c.move_items.ensures c.requires.one
