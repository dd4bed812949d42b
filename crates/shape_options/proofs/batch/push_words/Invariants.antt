use Rattle.std.proofs.Common.{◌≡◌, ◌++◌, map, drop}
use Rattle.shape_options.specs.Batch.{words_of}
use Rattle.shape_options.proofs.batch.push_words.Given as goal

-- the words so far come before those of the parts that are left
abbrev pub invariant-loop-i : goal.invariant-loop-i
invariant-loop-i l =
    map (λ w. w.now) l.words.items ++ words_of (map (λ p. p.now) (drop l.i l.parts))
    ≡ map (λ w. w.now) l.initial.words.items ++ words_of (map (λ p. p.now) l.parts)
