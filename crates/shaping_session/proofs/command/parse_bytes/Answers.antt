use Rattle.std.proofs.Common.{◌≡◌, ◌∙◌, None, Some, IfOk, MatchOption, ap, sym, subst}
use Rattle.shaping_session.specs.Commands.{request_in, request_in_bytes, request_of}
use Rattle.shaping_session.proofs.CommandLemmas.{request_in_bytes-text, request_in_bytes-no_text}
use Rattle.shaping_session.proofs.command.parse_bytes.Goals as goal

pub returns-in-Ok : goal.returns-in-Ok
returns-in-Ok c =
    let text = c.in-Ok.ensures.cases in
    let same : request_in c.in-Ok.text.now ≡ request_in_bytes c.args.line.now =
    ap request_in text.0 ∙ sym (request_in_bytes-text c.args.line.now text.1) in
    subst (λ r. IfOk c.parse.result (λ found. MatchOption found (r ≡ None) (λ command. r ≡ Some (request_of command))))
    same c.parse.ensures

pub returns-in-Err : goal.returns-in-Err
returns-in-Err c = request_in_bytes-no_text c.args.line.now c.in-Err.ensures.cases.0
