use Rattle.glyph_digests.proofs.DigestLemmas.{has_row-rotated}
use Rattle.glyph_digests.proofs.digest.rows_from.Goals as goal

pub returns : goal.returns
returns c = λ row least most.
    rw c.rotate_left.ensures (has_row-rotated c.args.first c.args.more row c.requires least most)
