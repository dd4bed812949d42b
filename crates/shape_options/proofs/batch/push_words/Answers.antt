use Rattle.shape_options.proofs.BatchLemmas.{append-words_of}
use Rattle.shape_options.proofs.batch.push_words.Goals as goal

pub loop-i-preserved : goal.loop-i-preserved
loop-i-preserved c =
    append-words_of _ _ _ c.args.parts.now c.loop-i.i _ c.loop-i-test.true c.loop-i.invariant c.in_ok-push_word.ensures
