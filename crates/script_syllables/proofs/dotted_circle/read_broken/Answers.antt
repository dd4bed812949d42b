use Rattle.std.proofs.Common.{ap, ◌∙◌, arith}
use Rattle.std.specs.List.{prefix_len}
use Rattle.script_syllables.specs.Circle.{is_reph}
use Rattle.script_syllables.proofs.CircleLemmas.{read_rephs, read_first, some_ahead}
use Rattle.script_syllables.proofs.dotted_circle.read_broken.Goals as goal

pub next_glyph-requires : goal.next_glyph-requires
next_glyph-requires c =
    some_ahead c.reph_count-rephs.result _ c.args.buffer.now c.put_circle.new.buffer c.in_ok-put_circle.ensures.opened
    c.requires.glyph (c.in_ok-put_circle.ensures.puts c.if-not-branch.false) (omega arith)

pub returns-then-rephs-gt0-clause-reads : goal.returns-then-rephs-gt0-clause-reads
returns-then-rephs-gt0-clause-reads c =
    read_rephs c.args.circle.now c.reph_count-rephs.result c.syllable-syllable.result c.cur.result.now c.args.buffer.now
    c.put_circle.new.buffer c.requires.opened c.requires.glyph c.cur.ensures c.syllable-syllable.ensures
    (c.reph_count-rephs.ensures.is
    ∙ ap (prefix_len (is_reph c.args.circle.now.kind.repha c.syllable-syllable.result)) c.info.ensures)
    (c.in_ok-put_circle.ensures.puts c.if-not-branch.false) (omega arith)

pub returns-clause-reads : goal.returns-clause-reads
returns-clause-reads c =
    read_first c.args.circle.now c.reph_count-rephs.result c.syllable-syllable.result c.cur.result.now
    c.in_ok-next_glyph.field-0 c.args.buffer.now c.put_circle.new.buffer c.next_glyph.new.self c.requires.opened
    c.in_ok-put_circle.ensures.opened c.requires.glyph c.cur.ensures c.syllable-syllable.ensures
    (c.reph_count-rephs.ensures.is
    ∙ ap (prefix_len (is_reph c.args.circle.now.kind.repha c.syllable-syllable.result)) c.info.ensures)
    (c.in_ok-put_circle.ensures.puts c.if-not-branch.false) (omega arith) c.in_ok-next_glyph.ensures.meets
    c.if-not-branch-2.false
