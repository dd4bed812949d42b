use Rattle.std.proofs.Common.{sym, ◌∙◌, arith}
use Rattle.script_universal.proofs.OrderLemmas.{in_order-some}
use Rattle.script_universal.proofs.myanmar.order.move_items.Goals as goal

pub returns-clause-order : goal.returns-clause-order
returns-clause-order c =
    c.order_run.ensures.order
    ∙ sym (in_order-some c.args.range.now.start c.args.range.now.end c.args.buffer.now c.requires (omega arith)
    (omega (arith, c.len.ensures.len)))
