use Rattle.script_syllables.proofs.CircleLemmas.{put_behind}
use Rattle.script_syllables.proofs.NumbersLemmas.{numbers_put_behind}
use Rattle.script_syllables.proofs.dotted_circle.put_circle.Goals as goal

pub returns-clause-puts : goal.returns-clause-puts
returns-clause-puts c =
    put_behind c.args.circle.now c.args.rephs c.circle_at-info.result c.cur.result.now c.in_ok-next_glyphs.field-0
    c.args.buffer.now c.next_glyphs.new.self c.output_info.new.self c.output_info.result c.requires.current.opened
    c.requires.current.glyph c.cur.ensures c.circle_at-info.ensures.is c.in_ok-next_glyphs.ensures.meets c.if-not-branch.false
    c.output_info.ensures.meets

pub returns-clause-keeps : goal.returns-clause-keeps
returns-clause-keeps c =
    numbers_put_behind c.args.rephs c.circle_at-info.result c.cur.result.now c.in_ok-next_glyphs.field-0
    c.args.buffer.now c.next_glyphs.new.self c.output_info.new.self c.output_info.result c.requires.current.opened
    c.requires.current.glyph c.cur.ensures c.circle_at-info.ensures.cluster c.in_ok-next_glyphs.ensures.meets
    c.if-not-branch.false c.output_info.ensures.meets
