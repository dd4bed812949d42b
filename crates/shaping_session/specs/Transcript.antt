-- What a run reads and writes.
use Rattle.std.specs.Prelude.{ℕ, ◌≡◌, ◌++◌, ◌⊎◌, List, [], ◌∷◌, flat_map, codes, Option, Some, None, Result}
use Rattle.std.specs.Prelude.{if◌then◌else◌, Ok, Err}
use Rattle.std.specs.Io.KnownBytes.{Keeps, Appends, Consumes, IsAtEnd}
use Rattle.shaping_session.specs.Commands.{Request, request_in_bytes}
use Rattle.shaping_session.specs.Replies.{is_line_feed, IsOneLine}
use Rattle.shaping_session.specs.Session.{Follows, fresh}
use Rattle.shaping_session.specs.declared.run.RunFault.{RunFault}
use Rattle.shaping_session.specs.declared.run.RunFault.TheVariants.{Read, Write, Memory}
use Rattle.shaping_session.specs.declared.session.Session.{Session}

-- what is said of a fault
abbrev pub fault_text : RunFault → List ℕ
fault_text Read = codes "read failed"
fault_text Write = codes "write failed"
fault_text Memory = codes "out of memory"

-- the status that the program ends with: that of the run, and 3 after a fault
abbrev pub status_after : Result ℕ RunFault → ℕ
status_after (Ok status) = status
status_after (Err fault) = 3

-- a byte at the front of the first line
abbrev pub with_first : ℕ → List (List ℕ) → List (List ℕ)
with_first b [] = (b ∷ []) ∷ []
with_first b (line ∷ lines) = (b ∷ line) ∷ lines

-- the lines of an input: a line feed ends a line, and the last line may lack it
abbrev pub lines_of : List ℕ → List (List ℕ)
lines_of [] = []
lines_of (b ∷ bytes) = if is_line_feed b then [] ∷ lines_of bytes else with_first b (lines_of bytes)

-- each answer, and a line feed
abbrev pub transcript : List (List ℕ) → List ℕ
transcript answers = flat_map (λ answer. answer ++ 10 ∷ []) answers

-- What a line that is a command makes of a session, and its answer, which is one line.
pub record AnswersLine (before : Session) (line answer : List ℕ) (after : Session) : Type 0 where
  pub request : Request
  pub asked : request_in_bytes line ≡ Some request
  pub effect : Follows request before after answer
  pub one_line : IsOneLine answer

-- the same of lines, one after another
abbrev pub AnswersLines : Session → List (List ℕ) → List (List ℕ) → Session → Type 0
AnswersLines before [] [] after = before ≡ after
AnswersLines before (line ∷ lines) (answer ∷ answers) after =
    (between : Session) × AnswersLine before line answer between × AnswersLines between lines answers after
AnswersLines before [] (answer ∷ answers) after = ⊥
AnswersLines before (line ∷ lines) [] after = ⊥

-- Every line of an input is answered, in turn and in a new session.
pub record AnswersAll (input text : List ℕ) : Type 0 where
  pub answers : List (List ℕ)
  pub session : Session
  pub chain : AnswersLines fresh (lines_of input) answers session
  pub told : text ≡ transcript answers

-- The lines before the first that is no command are answered, and that line is answered as unknown.
pub record AnswersToUnknown (input text : List ℕ) : Type 0 where
  pub earlier : List (List ℕ)
  pub unknown : List ℕ
  pub later : List (List ℕ)
  pub lines : lines_of input ≡ earlier ++ unknown ∷ later
  pub no_command : request_in_bytes unknown ≡ None
  pub answers : List (List ℕ)
  pub session : Session
  pub chain : AnswersLines fresh earlier answers session
  pub told : text ≡ transcript (answers ++ codes "unknown command" ∷ [])

-- Some lines at the beginning of an input are answered.
pub record AnswersBeginning (input text : List ℕ) : Type 0 where
  pub earlier : List (List ℕ)
  pub later : List (List ℕ)
  pub lines : lines_of input ≡ earlier ++ later
  pub answers : List (List ℕ)
  pub session : Session
  pub chain : AnswersLines fresh earlier answers session
  pub told : text ≡ transcript answers

-- the text that answers an input: status 0 says that each line was a command, and status 2 that a line was none. Where
-- a command found no memory, those before it are answered; where the writer failed, the lines before some line, or
-- those up to one that is no command
abbrev pub Answered : List ℕ → Result ℕ RunFault → List ℕ → Type 0
Answered input (Ok status) text =
    ((status ≡ 0) × AnswersAll input text) ⊎ ((status ≡ 2) × AnswersToUnknown input text)
Answered input (Err Memory) text = AnswersBeginning input text
Answered input (Err Write) text = AnswersBeginning input text ⊎ AnswersToUnknown input text
Answered input (Err Read) text = ⊥

-- Of a text a beginning is written, and this is left of it.
pub record Leaves (before after : Option (List ℕ)) (text left : List ℕ) : Type 0 where
  pub sent : List ℕ
  pub parts : sent ++ left ≡ text
  pub written : Appends before after sent

-- a beginning of a text is written: the whole of it, nothing, or what stands before some byte
abbrev pub WritesBeginning : Option (List ℕ) → Option (List ℕ) → List ℕ → Type 0
WritesBeginning before after text = (left : List ℕ) × Leaves before after text left

-- a text is written; where the writer failed a beginning of it
abbrev pub WritesText : Option (List ℕ) → Option (List ℕ) → Result ℕ RunFault → List ℕ → Type 0
WritesText before after (Err Write) text = WritesBeginning before after text
WritesText before after outcome text = Appends before after text

-- what is written over an input: the text that answers it
abbrev pub Writes : List ℕ → Option (List ℕ) → Option (List ℕ) → Result ℕ RunFault → Type 0
Writes input before after outcome = (text : List ℕ) × Answered input outcome text × WritesText before after outcome text

-- the same while some of the text is held back from the writer: this is left of it; where the writer failed, nothing is
-- known of what is held
abbrev pub LeavesText : Option (List ℕ) → Option (List ℕ) → List ℕ → Result ℕ RunFault → List ℕ → Type 0
LeavesText before after held (Err Write) text = WritesBeginning before after text
LeavesText before after held outcome text = Leaves before after text held

abbrev pub WritesAndHolds : List ℕ → Option (List ℕ) → Option (List ℕ) → List ℕ → Result ℕ RunFault → Type 0
WritesAndHolds input before after held outcome =
    (text : List ℕ) × Answered input outcome text × LeavesText before after held outcome text

-- What is held is written before the run ends, and the outcome stays; where the writer then fails, a beginning of it is
-- written. After a failed write nothing more is written.
abbrev pub Finishes : Option (List ℕ) → Option (List ℕ) → List ℕ → Result ℕ RunFault → Result ℕ RunFault → Type 0
Finishes before after held (Err Write) result = (result ≡ Err Write) × Keeps before after
Finishes before after held outcome result =
    ((result ≡ outcome) × Appends before after held) ⊎ ((result ≡ Err Write) × WritesBeginning before after held)

-- new is old with what was read behind it
abbrev pub IsReadTo : Option (List ℕ) → Option (List ℕ) → List ℕ → List ℕ → Type 0
IsReadTo before after old new = (piece : List ℕ) × Consumes before after piece × (new ≡ old ++ piece)

-- all of the input is read, and what answers it is written
abbrev pub ReadsAndWrites : Option (List ℕ) → Option (List ℕ) → Option (List ℕ) → Option (List ℕ) → Result ℕ RunFault
    → Type 0
ReadsAndWrites unread rest before after outcome =
    (input : List ℕ) × Consumes unread rest input × IsAtEnd rest × Writes input before after outcome

-- what a run reads and writes: nothing is written where a read failed, or where there was no memory for the input
abbrev pub Answers : Option (List ℕ) → Option (List ℕ) → Option (List ℕ) → Option (List ℕ) → Result ℕ RunFault → Type 0
Answers unread rest before after (Err Read) = Keeps before after
Answers unread rest before after (Err Memory) =
    Keeps before after ⊎ ReadsAndWrites unread rest before after (Err Memory)
Answers unread rest before after outcome = ReadsAndWrites unread rest before after outcome

-- the status that a program ends with says what it read and wrote: it is that of an outcome, and `Answers` says of
-- that outcome what was read and written
abbrev pub EndsAs : Option (List ℕ) → Option (List ℕ) → Option (List ℕ) → Option (List ℕ) → ℕ → Type 0
EndsAs unread rest before after status =
    (outcome : Result ℕ RunFault) × (status ≡ status_after outcome) × Answers unread rest before after outcome
