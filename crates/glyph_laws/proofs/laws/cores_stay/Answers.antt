use Rattle.glyph_laws.proofs.CoresLemmas.{cores-merge_or_mark, cores-scanned_part, cores-flagged_part, cores-deletion}
use Rattle.glyph_laws.proofs.laws.cores_stay.Goals as goal

pub returns : goal.returns
returns c = record {
  merge = cores-merge_or_mark;
  scan = cores-scanned_part;
  flags = cores-flagged_part;
  deletion = cores-deletion;
}
