use Rattle.ot_gsub.proofs.BufferLemmas.{glyph_ahead-read}
use Rattle.ot_gsub.proofs.writing.glyph_ahead.Goals as goal

pub returns : goal.returns
returns c =
    glyph_ahead-read c.args.ahead c.args.buffer.now c.cur.result.now c.requires.opened c.requires.glyph c.cur.ensures
