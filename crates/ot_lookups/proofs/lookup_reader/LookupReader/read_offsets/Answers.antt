use Rattle.ot_lookups.proofs.NextLemmas.{nexts_appended}
use Rattle.ot_lookups.proofs.lookup_reader.LookupReader.read_offsets.Goals as goal

pub invariant_of-self : goal.invariant_of-self
invariant_of-self c = record {
  nexts = nexts_appended _ _ _ _ _ c.push.ensures.items c.coverage-coverage.new.self.nexts;
}
