-- The texts of answers.
use Rattle.std.specs.Prelude.{ℕ, ◌≡◌, ◌==◌, Bool, false, List, codes, string_bytes, if◌then◌else◌}
use Rattle.std.specs.List.{list_any}
use Rattle.shaping_session.specs.declared.reply.Reply.{Reply}
use Rattle.shaping_session.specs.declared.reply.Reply.TheVariants.{Word, Text}
use Rattle.shaping_runs.specs.declared.call.Answer.{Answer}
use Rattle.shaping_runs.specs.declared.call.Answer.TheVariants.{Done, Refused, Outside}

abbrev pub reply_text : Reply → List ℕ
reply_text (Word word) = word.now
reply_text (Text text) = string_bytes text

-- how the answer to a call reads
abbrev pub answer_text : Answer → List ℕ
answer_text Done = codes "done"
answer_text Refused = codes "refused"
answer_text Outside = codes "outside"

-- how the answer to a command that adds to the text reads
abbrev pub truth_text : Bool → List ℕ
truth_text done = if done then codes "true" else codes "false"

-- what ends a line
abbrev pub is_line_feed : ℕ → Bool
is_line_feed b = b == 10

-- no line feed is in it
abbrev pub IsOneLine : List ℕ → Type 0
IsOneLine text = list_any is_line_feed text ≡ false
