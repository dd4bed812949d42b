use Rattle.std.proofs.Common.{rules}
use Rattle.glyph_lists.proofs.ContextLemmas.{read_on, read_all, chars-none}
use Rattle.glyph_lists.proofs.context.keep_after.Goals as goal

pub loop-c-preserved : goal.loop-c-preserved
loop-c-preserved c =
    let s = c.in-Some.ensures.steps in
    (search rules, search rules, rw c.push.ensures.items (read_on c.loop-c.invariant.2 _ c.in-Some.c _ s.0.0 s.1))

pub returns : goal.returns
returns c = read_all c.loop-c.invariant.2 (λ more. chars-none _ (c.in-None.ensures.steps more).0.0)
