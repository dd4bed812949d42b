use Rattle.std.proofs.Common.{arith}
use Rattle.ot_contexts.specs.MatchPositions.{match_of}
use Rattle.ot_contexts.proofs.MatchPositionsLemmas.{followed-shrunk, followed_by_grow, on_by_grow}
use Rattle.ot_contexts.proofs.match_positions.Matched.follow.Goals as goal

pub returns-then-after-before-clause-follows : goal.returns-then-after-before-clause-follows
returns-then-after-before-clause-follows c =
    followed-shrunk (match_of c.args.self.now) c.args.number c.args.before c.args.after c.shrink.new.self.places.items
    c.shrink.new.self.end c.if-after-before.true c.shrink.ensures.end c.shrink.ensures.shrunk

pub returns-clause-follows : goal.returns-clause-follows
returns-clause-follows c =
    followed_by_grow (match_of c.args.self.now) c.args.number c.args.before c.args.after c.grow.new.self.places.items
    c.grow.new.self.end (omega (arith, c.if-after-before.false)) c.grow.ensures.end c.grow.ensures.grown c.grow.ensures.full
    (λ e. (c.grow.ensures.same e).1)

pub returns-clause-on : goal.returns-clause-on
returns-clause-on c =
    on_by_grow (match_of c.args.self.now) c.args.number c.args.before c.args.after c.grow.new.self.places.items
    c.grow.new.self.end (omega (arith, c.if-after-before.false)) c.grow.ensures.end c.grow.result c.grow.ensures.on
    (λ e. (c.grow.ensures.same e).0)
