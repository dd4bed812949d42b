use Rattle.std.proofs.Common.{sym, ap, ◌∙◌}
use Rattle.ot_kern.specs.Kerning.{first_crossed, in_line, machine_of, walked}
use Rattle.ot_kern.proofs.KerningLemmas.{len_closed, pair_of_seen, walked_lone, walked_pair}
use Rattle.ot_kern.proofs.kerning.kern_at.Goals as goal

pub returns-in_default-clause-is : goal.returns-in_default-clause-is
returns-in_default-clause-is c = λ steps.
    let m = machine_of c.args.machine.now in
    let s = c.args.buffer.now in
    walked_lone m c.args.turn c.args.across.now s steps c.requires.there
    (pair_of_seen m c.args.turn c.in_line-left.result c.len-len.result c.info.result.now s c.pair_of.result c.requires.placed.closed
    c.len-len.ensures.len c.info.ensures c.in_line-left.ensures.is c.pair_of.ensures.is ∙ c.in_default.is)

pub returns-clause-is : goal.returns-clause-is
returns-clause-is c = λ steps.
    let m = machine_of c.args.machine.now in
    let s = c.args.buffer.now in
    let t = c.try_pair.new.buffer in
    let pair = c.in-Some.pair in
    walked_pair m c.args.turn c.args.across.now s t pair steps c.requires.there
    (pair_of_seen m c.args.turn c.in_line-left.result c.len-len.result c.info.result.now s c.pair_of.result c.requires.placed.closed
    c.len-len.ensures.len c.info.ensures c.in_line-left.ensures.is c.pair_of.ensures.is ∙ c.in-Some.is) c.try_pair.ensures.is
    ∙ ap (λ n. walked steps m (in_line m.direction n pair.right) (first_crossed pair c.args.across.now) t)
    (sym (c.len-len.ensures.len ∙ len_closed s c.requires.placed.closed))
    ∙ ap (λ n. walked steps m n (first_crossed pair c.args.across.now) t) (sym c.in_line.ensures.is)
    ∙ ap (λ o. walked steps m c.in_line.result o t) (sym c.first_crossed.ensures)
