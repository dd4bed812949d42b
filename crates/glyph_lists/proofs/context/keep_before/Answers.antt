use Rattle.std.proofs.Common.{rules}
use Rattle.glyph_lists.proofs.ContextLemmas.{read_back, read_all, reverse-no_chars}
use Rattle.glyph_lists.proofs.context.keep_before.Goals as goal

pub loop-c-preserved : goal.loop-c-preserved
loop-c-preserved c =
    let s = c.in-Some.ensures.steps in (
      search rules,
      search rules,
      rw c.push.ensures.items
          (read_back c.loop-c.invariant.2 _ c.in-Some.c _ (search rules) s.0 s.1),
    )

pub returns : goal.returns
returns c = read_all c.loop-c.invariant.2 (λ more. reverse-no_chars _ (c.in-None.ensures.steps more).0)
