use Rattle.std.proofs.Common.{refl}
use Rattle.glyph_digests.proofs.DigestLemmas.{shared}
use Rattle.glyph_digests.proofs.digest.share_row.Goals as goal

pub returns : goal.returns
returns c = λ row has too. rw (shared c.args.word c.args.other row has too) refl
