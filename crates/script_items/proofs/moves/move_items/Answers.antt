use Rattle.script_items.proofs.MoveLemmas.{put_mid-moved}
use Rattle.script_items.proofs.moves.move_items.Goals as goal

pub returns : goal.returns
returns c =
    put_mid-moved c.args.start c.args.middle c.args.end c.args.infos.now c.rotate_right.new.self
    c.requires.order c.requires.ends c.requires.within c.rotate_right.ensures.after
