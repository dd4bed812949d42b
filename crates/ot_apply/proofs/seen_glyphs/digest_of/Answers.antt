use Rattle.std.proofs.Common.{subst}
use Rattle.glyph_digests.specs.Digest.{HasGlyphs}
use Rattle.ot_apply.proofs.seen_glyphs.digest_of.Goals as goal

pub returns : goal.returns
returns c = subst (HasGlyphs c.of_glyphs.result) c.info.ensures c.of_glyphs.ensures
