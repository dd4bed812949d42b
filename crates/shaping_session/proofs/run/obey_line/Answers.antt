use Rattle.std.proofs.Common.{◌≡◌, Some}
use Rattle.shaping_session.specs.Commands.{request_in_bytes, request_of}
use Rattle.shaping_session.proofs.TranscriptLemmas.{line_answered}
use Rattle.shaping_session.proofs.run.obey_line.Goals as goal

pub returns-in_ok-obey-in-Some : goal.returns-in_ok-obey-in-Some
returns-in_ok-obey-in-Some c =
    let asked : request_in_bytes c.args.line.now ≡ Some (request_of c.in-Some.command) =
    rw c.in-Some.is at c.in_ok-command.ensures in
    line_answered (request_of c.in-Some.command) _ _ _ _ asked c.in_ok-obey-in-Some.ensures
