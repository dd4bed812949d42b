use Rattle.script_items.proofs.WrittenLemmas.{keeps_mapped}
use Rattle.script_joining.specs.ArabicMarks.{recorded}
use Rattle.script_joining.proofs.ArabicMarksLemmas.{recorded-cluster}
use Rattle.script_joining.proofs.arabic.stretching.record_in.Goals as goal

pub returns-clause-stays : goal.returns-clause-stays
returns-clause-stays c = record {
  closed = c.requires;
  keeps = keeps_mapped recorded c.args.buffer.now c.record_all.new.infos c.info_slice_mut.result.now c.info_slice_mut.ensures.value
      c.record_all.ensures recorded-cluster;
}
