use Rattle.std.proofs.Common.{ap, ◌∙◌, length, ◌==◌}
use Rattle.ot_gsub.proofs.nested.apply_context.Goals as goal

pub returns : goal.returns
returns c = record {
  out = c.out_info.ensures;
  input = c.info.ensures;
  iterator = c.requires.made.iterator;
  context = c.requires.made.context;
  syllable = c.syllable_at.ensures;
  level = ap (λ k. k == c.idx.result) c.out_len.ensures.out_len
      ∙ ap (λ k. length c.args.buffer.now.out == k) c.idx.ensures;
}
