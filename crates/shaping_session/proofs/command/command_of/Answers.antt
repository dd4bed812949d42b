use Rattle.std.proofs.Common.{rules, ap, ◌≡◌, None}
use Rattle.shaping_session.specs.Commands.{command_in, call_in, call_request}
use Rattle.shaping_session.proofs.CommandLemmas.{bytes_eq-other}
use Rattle.shaping_session.proofs.command.command_of.Goals.{in-push+in_ok-text-in-push}
use Rattle.shaping_session.proofs.command.command_of.Goals.{in-add+in_ok-character-in-add+in_ok-number-in-add, in-new}
use Rattle.shaping_session.proofs.command.command_of.Goals.{in-level+in_ok-number-in-level+in_ok-level_of-in-level}
use Rattle.shaping_session.proofs.command.command_of.Goals.{in-flags+in_ok-number-in-flags+in_ok-flags_of-in-flags}
use Rattle.shaping_session.proofs.command.command_of.Goals.{in-limit+in_ok-number_64-in-limit, in-state}
use Rattle.shaping_session.proofs.command.command_of.Goals.{in-serialize+in_ok-number-in-serialize+in_ok-serialize_flags_of-in-serialize}
use Rattle.shaping_session.proofs.command.command_of.Goals.{in-feature+in_ok-text-in-feature}
use Rattle.shaping_session.proofs.command.command_of.Goals.{in-tags+in_ok-script-in-tags+in_ok-language-in-tags}
use Rattle.shaping_session.proofs.command.command_of.Goals.{in-compose+in_ok-character-in-compose+in_ok-character-in-compose-2}
use Rattle.shaping_session.proofs.command.command_of.Goals.{in-decompose+in_ok-character-in-decompose}
use Rattle.shaping_session.proofs.command.command_of.Goals.{in_default+in_ok-call_of-in_default}
use Rattle.shaping_session.proofs.command.command_of.Goals as goal

pub returns-in_err-call_of-in_default : goal.returns-in_err-call_of-in_default
unfolding command_in
returns-in_err-call_of-in_default c =
    let name = c.args.name.now in
    let left = c.args.words.now in
    let no_call : call_in name left ≡ None = search rules in
    let other = bytes_eq-other name in
    let none : command_in name left ≡ None = rw (
      other _ c.in_default.not-push,
      other _ c.in_default.not-add,
      other _ c.in_default.not-new,
      other _ c.in_default.not-level,
      other _ c.in_default.not-flags,
      other _ c.in_default.not-limit,
      other _ c.in_default.not-state,
      other _ c.in_default.not-serialize,
      other _ c.in_default.not-feature,
      other _ c.in_default.not-tags,
      other _ c.in_default.not-compose,
      other _ c.in_default.not-decompose,
    ) (ap call_request no_call) in
    search (rules, none)

pub returns : goal.returns
unfolding command_in
returns c =
    elim c.match-name.branch [
      | in-push+in_ok-text-in-push w ↦ search rules
      | in-add+in_ok-character-in-add+in_ok-number-in-add w ↦ search rules
      | in-new w ↦ search rules
      | in-level+in_ok-number-in-level+in_ok-level_of-in-level w ↦ search rules
      | in-flags+in_ok-number-in-flags+in_ok-flags_of-in-flags w ↦ search rules
      | in-limit+in_ok-number_64-in-limit w ↦ search rules
      | in-state w ↦ search rules
      | in-serialize+in_ok-number-in-serialize+in_ok-serialize_flags_of-in-serialize w ↦ search rules
      | in-feature+in_ok-text-in-feature w ↦ search rules
      | in-tags+in_ok-script-in-tags+in_ok-language-in-tags w ↦ search rules
      | in-compose+in_ok-character-in-compose+in_ok-character-in-compose-2 w ↦ search rules
      | in-decompose+in_ok-character-in-decompose w ↦ search rules
      | in_default+in_ok-call_of-in_default w ↦ search rules
    ]
