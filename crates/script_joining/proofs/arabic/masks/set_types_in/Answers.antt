use Rattle.script_items.proofs.WrittenLemmas.{keeps_mapped}
use Rattle.script_joining.specs.Listed.{with_type}
use Rattle.script_joining.proofs.FormsLemmas.{with_type-cluster}
use Rattle.script_joining.proofs.arabic.masks.set_types_in.Goals as goal

pub returns-clause-stays : goal.returns-clause-stays
returns-clause-stays c = record {
  closed = c.requires;
  keeps = keeps_mapped with_type c.args.buffer.now c.set_types.new.infos c.info_slice_mut.result.now c.info_slice_mut.ensures.value
      c.set_types.ensures with_type-cluster;
}
