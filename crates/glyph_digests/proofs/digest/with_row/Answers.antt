use Rattle.glyph_digests.proofs.DigestLemmas.{or_left, row_added}
use Rattle.glyph_digests.proofs.digest.with_row.Goals as goal

pub returns-clause-added : goal.returns-clause-added
returns-clause-added c = row_added c.args.word c.args.row

pub returns-clause-kept : goal.returns-clause-kept
returns-clause-kept c = λ row has. or_left c.args.word _ row has
