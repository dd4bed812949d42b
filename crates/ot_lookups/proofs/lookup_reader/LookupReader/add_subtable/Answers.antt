use Rattle.ot_lookups.proofs.NextLemmas.{nexts_pushed}
use Rattle.ot_lookups.proofs.lookup_reader.LookupReader.add_subtable.Goals as goal

pub invariant_of-self : goal.invariant_of-self
invariant_of-self c = record {
  nexts = nexts_pushed _ c.args.self.now.coverages.items _ c.push.new.self.items c.args.subtable c.push.ensures.items
      c.requires c.args.self.now.nexts;
}
