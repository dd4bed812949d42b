use Rattle.std.proofs.Common.{◌<◌, ◌≡◌, length, None, rules}
use Rattle.shaping_session.specs.Commands.{request_in_bytes}
use Rattle.shaping_session.proofs.TranscriptLemmas.{answers_none, answers_line, answers_unknown}
use Rattle.shaping_session.proofs.TranscriptLemmas.{answered_by, answer_fails, unknown_fails, write_failed}
use Rattle.shaping_session.proofs.run.answer_lines.Goals as goal

pub loop-rest-init : goal.loop-rest-init
loop-rest-init g c = answers_none _ _ _ _ c.new-session.ensures c.requires

pub returns-in_err-put_line : goal.returns-in_err-put_line
returns-in_err-put_line g c =
    let some : 0 < length c.loop-rest.rest.now = search rules in
    let none : request_in_bytes c.cut_line.result.0.now ≡ None = rw c.in_default-obeyed.is at c.in-Ok.ensures in
    write_failed _ _ _ _ _ c.from_residual.result c.from_residual.ensures.1 c.in_err-put_line.ensures.err.0
    (unknown_fails _ _ _ _ _ _ _ _ _ c.put_line.new.held.items (record {
      so_far = c.loop-rest.invariant;
      some = some;
      line_is = c.cut_line.ensures.line;
      next_is = c.cut_line.ensures.rest;
    }) none c.in_err-put_line.ensures.err.1)

pub returns-in_default-obeyed : goal.returns-in_default-obeyed
returns-in_default-obeyed g c =
    let some : 0 < length c.loop-rest.rest.now = search rules in
    let none : request_in_bytes c.cut_line.result.0.now ≡ None = rw c.in_default-obeyed.is at c.in-Ok.ensures in
    answers_unknown _ _ _ _ _ _ _ _ _ _ (record {
      so_far = c.loop-rest.invariant;
      some = some;
      line_is = c.cut_line.ensures.line;
      next_is = c.cut_line.ensures.rest;
    }) none c.in_ok-put_line.ensures.ok

pub returns-in_err-put_line-2 : goal.returns-in_err-put_line-2
returns-in_err-put_line-2 g c =
    let some : 0 < length c.loop-rest.rest.now = search rules in
    let line = answered_by _ _ _ _ _ c.as_str.ensures (rw c.in-Some.is at c.in-Ok.ensures) in
    let failed = c.in_err-put_line-2.ensures.err in
    write_failed _ _ _ _ _ c.from_residual-in_err-put_line-2.result c.from_residual-in_err-put_line-2.ensures.1 failed.0
    (answer_fails _ _ _ _ _ _ _ _ _ _ c.put_line-in-loop-rest.new.held.items _ (record {
      so_far = c.loop-rest.invariant;
      some = some;
      line_is = c.cut_line.ensures.line;
      next_is = c.cut_line.ensures.rest;
    }) line failed.1)

pub loop-rest-preserved-in_ok-put_line-2 : goal.loop-rest-preserved-in_ok-put_line-2
loop-rest-preserved-in_ok-put_line-2 g c =
    let some : 0 < length c.loop-rest.rest.now = search rules in
    let line = answered_by _ _ _ _ _ c.as_str.ensures (rw c.in-Some.is at c.in-Ok.ensures) in
    answers_line _ _ _ _ _ _ _ _ _ _ _ _ (record {
      so_far = c.loop-rest.invariant;
      some = some;
      line_is = c.cut_line.ensures.line;
      next_is = c.cut_line.ensures.rest;
    }) line c.in_ok-put_line-2.ensures.ok

pub loop-rest-preserved : goal.loop-rest-preserved
loop-rest-preserved g c =
    let some : 0 < length c.loop-rest.rest.now = search rules in
    let line = answered_by _ _ _ _ _ c.as_str.ensures (rw c.in-Some.is at c.in-Ok.ensures) in
    answers_line _ _ _ _ _ _ _ _ _ _ _ _ (record {
      so_far = c.loop-rest.invariant;
      some = some;
      line_is = c.cut_line.ensures.line;
      next_is = c.cut_line.ensures.rest;
    }) line c.in_ok-put_line-2.ensures.ok
