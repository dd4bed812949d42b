use Rattle.glyph_digests.proofs.DigestLemmas.{or_left, or_right}
use Rattle.glyph_digests.proofs.digest.with_all.Goals as goal

pub returns-clause-added : goal.returns-clause-added
returns-clause-added c = λ row has. or_right c.args.word c.args.other row has

pub returns-clause-kept : goal.returns-clause-kept
returns-clause-kept c = λ row has. or_left c.args.word c.args.other row has
