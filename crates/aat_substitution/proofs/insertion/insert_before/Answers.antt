use Rattle.std.proofs.Common.{Bool, refl, subst, ◌∙◌, arith}
use Rattle.shaping_buffer.proofs.KeepsLemmas.{keeps_none, keeps_then}
use Rattle.aat_substitution.specs.Insertions.{Gives, put_one}
use Rattle.aat_substitution.proofs.InsertionLemmas.{puts_all, puts_more, puts_none, puts_refused}
use Rattle.aat_substitution.proofs.insertion.insert_before.Goals as goal

pub loop-place-init : goal.loop-place-init
loop-place-init c = record {
  stays = record { left = refl; keeps = keeps_none c.args.buffer.now };
  puts = puts_none c.args.inserted.now.glyphs.now c.args.buffer.now;
}

pub returns-then-not-branch-clause-gives : goal.returns-then-not-branch-clause-gives
returns-then-not-branch-clause-gives c =
    let glyphs = c.args.inserted.now.glyphs.now in
    let b = c.loop-place.buffer in
    let new = c.put_one.new.buffer in
    puts_refused glyphs c.args.buffer.now c.args.inserted.now.count c.loop-place.place b new (omega arith)
    c.loop-place.invariant.puts
    (subst (λ (d : Bool). Gives (put_one glyphs c.loop-place.place b) d new) c.if-not-branch.true
    c.in_ok-put_one.ensures.gives)

pub loop-place-preserved : goal.loop-place-preserved
loop-place-preserved c =
    let glyphs = c.args.inserted.now.glyphs.now in
    let b = c.loop-place.buffer in
    let new = c.put_one.new.buffer in
    record {
      stays = record {
        left = c.in_ok-put_one.ensures.stays.left ∙ c.loop-place.invariant.stays.left;
        keeps = keeps_then c.args.buffer.now b new c.loop-place.invariant.stays.keeps c.put_one.ensures.stays.keeps;
      };
      puts = puts_more glyphs c.args.buffer.now c.loop-place.place b new c.loop-place.invariant.puts
          (subst (λ (d : Bool). Gives (put_one glyphs c.loop-place.place b) d new) c.if-not-branch.false
          c.in_ok-put_one.ensures.gives);
    }

pub returns-clause-gives : goal.returns-clause-gives
returns-clause-gives c =
    puts_all c.args.inserted.now.glyphs.now c.args.buffer.now c.args.inserted.now.count c.loop-place.place c.loop-place.buffer
    (omega arith) c.loop-place.invariant.puts
