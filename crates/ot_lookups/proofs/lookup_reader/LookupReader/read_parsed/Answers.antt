use Rattle.std.proofs.Common.{refl}
use Rattle.ot_lookups.proofs.NextLemmas.{next_of_asked}
use Rattle.ot_lookups.proofs.lookup_reader.LookupReader.read_parsed.Goals as goal

pub add_subtable-requires : goal.add_subtable-requires
add_subtable-requires c =
    next_of_asked c.lookahead_classes.new.self.coverages.items c.lookahead_classes.new.self.coverages.items
    c.len-first_coverage.result _ _ c.next_asked.result refl c.next_asked.ensures
