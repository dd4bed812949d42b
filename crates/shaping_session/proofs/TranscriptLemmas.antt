-- What is written of a text; one line more, and one answer more; and how a run ends.
use Rattle.std.proofs.Common.{ℕ, ◌≡◌, ◌<◌, ◌++◌, ◌⊎◌, List, [], ◌∷◌, length, Option, None, Some, Result}
use Rattle.std.proofs.Common.{Ok, Err, codes, refl, sym, ap, subst, inl, inr, ◌∙◌, append_assoc, append-nil}
use Rattle.std.specs.Prelude.{OnOk, IfErr, IsErrAnd}
use Rattle.std.specs.Io.KnownBytes.{Appends, Consumes, IsAtEnd, Keeps}
use Rattle.std.specs.List.{after_first, before_first}
use Rattle.shaping_session.specs.Commands.{Request, request_in_bytes}
use Rattle.shaping_session.specs.Session.{Follows, fresh}
use Rattle.shaping_session.specs.Replies.{is_line_feed}
use Rattle.shaping_session.specs.Transcript.{transcript, lines_of, AnswersLine, AnswersLines, AnswersAll}
use Rattle.shaping_session.specs.Transcript.{AnswersToUnknown, AnswersBeginning, Answered, Answers, Leaves, Finishes}
use Rattle.shaping_session.specs.Transcript.{WritesBeginning, WritesText, WritesAndHolds, Writes}
use Rattle.shaping_session.specs.declared.run.RunFault.{RunFault}
use Rattle.shaping_session.specs.declared.run.RunFault.TheVariants.{Read, Write, Memory}
use Rattle.shaping_session.specs.declared.session.Session.{Session}
use Rattle.shaping_session.proofs.LineLemmas.{lines_of-first}
use Rattle.shaping_session.proofs.OneLineLemmas.{one_line-followed}

pub transcript-push : (answers : List (List ℕ)) (answer : List ℕ)
    → transcript (answers ++ answer ∷ []) ≡ transcript answers ++ (answer ++ 10 ∷ [])
transcript-push [] answer = append-nil (answer ++ 10 ∷ [])
transcript-push (a ∷ more) answer =
    ap (λ l. (a ++ 10 ∷ []) ++ l) (transcript-push more answer)
    ∙ sym (append_assoc (a ++ 10 ∷ []) (transcript more) (answer ++ 10 ∷ []))

-- ---- what is written of a text

appends_both : (a b c : Option (List ℕ)) (s t : List ℕ) → Appends a b s → Appends b c t → Appends a c (s ++ t)
appends_both None b c s t p q = tt
appends_both (Some x) None c s t p q = absurd p
appends_both (Some x) (Some y) None s t p q = absurd q
appends_both (Some x) (Some y) (Some z) s t p q = q ∙ ap (λ l. l ++ t) p ∙ append_assoc x s t

pub appends_nothing : (a : Option (List ℕ)) → Appends a a []
appends_nothing None = tt
appends_nothing (Some x) = sym (append-nil x)

-- what is kept grows by nothing
kept_grows : (a b : Option (List ℕ)) → Keeps a b → Appends a b []
kept_grows None b k = tt
kept_grows (Some x) None k = absurd k
kept_grows (Some x) (Some y) k = k ∙ sym (append-nil x)

-- nothing is written yet
pub leaves_all : (a : Option (List ℕ)) (text : List ℕ) → Leaves a a text text
leaves_all a text = record { sent = []; parts = refl; written = appends_nothing a }

-- what was left, and some more behind it
pub leaves_more : (a b c : Option (List ℕ)) (text left more last : List ℕ) → Leaves a b text left
    → Leaves b c (left ++ more) last → Leaves a c (text ++ more) last
leaves_more a b c text left more last p q = record {
  sent = p.sent ++ q.sent;
  parts = append_assoc p.sent q.sent last ∙ ap (λ l. p.sent ++ l) q.parts ∙ sym (append_assoc p.sent left more)
      ∙ ap (λ l. l ++ more) p.parts;
  written = appends_both a b c p.sent q.sent p.written q.written;
}

-- what was left is written too
leaves_nothing : (a b c : Option (List ℕ)) (text left : List ℕ) → Leaves a b text left → Appends b c left
    → Appends a c text
leaves_nothing a b c text left p q =
    subst (λ t. Appends a c t) p.parts (appends_both a b c p.sent left p.written q)

-- a beginning of what was left is a beginning of the text
begins_after : (a b c : Option (List ℕ)) (text left : List ℕ) → Leaves a b text left → WritesBeginning b c left
    → WritesBeginning a c text
begins_after a b c text left p q = (
  q.0,
  record {
    sent = p.sent ++ q.1.sent;
    parts = append_assoc p.sent q.1.sent q.0 ∙ ap (λ l. p.sent ++ l) q.1.parts ∙ p.parts;
    written = appends_both a b c p.sent q.1.sent p.written q.1.written;
  },
)

-- it stays one where the text goes on
pub begins_more : (a b : Option (List ℕ)) (text more : List ℕ) → WritesBeginning a b text
    → WritesBeginning a b (text ++ more)
begins_more a b text more p = (
  p.0 ++ more,
  record {
    sent = p.1.sent;
    parts = sym (append_assoc p.1.sent p.0 more) ∙ ap (λ l. l ++ more) p.1.parts;
    written = p.1.written;
  },
)

-- and where the writer keeps what it has
begins_kept : (a b c : Option (List ℕ)) (text : List ℕ) → WritesBeginning a b text → Keeps b c
    → WritesBeginning a c text
begins_kept a b c text p k = (
  p.0,
  record {
    sent = p.1.sent;
    parts = p.1.parts;
    written = subst (λ t. Appends a c t) (append-nil p.1.sent)
        (appends_both a b c p.1.sent [] p.1.written (kept_grows b c k));
  },
)

-- of what was left, some is written
pub leaves_twice : (a b c : Option (List ℕ)) (text left last : List ℕ) → Leaves a b text left → Leaves b c left last
    → Leaves a c text last
leaves_twice a b c text left last p q = record {
  sent = p.sent ++ q.sent;
  parts = append_assoc p.sent q.sent last ∙ ap (λ l. p.sent ++ l) q.parts ∙ p.parts;
  written = appends_both a b c p.sent q.sent p.written q.written;
}

-- what is held and some bytes are written, and nothing is left
pub all_written : {X : Type 0} (a b c : Option (List ℕ)) (held bytes last : List ℕ) (result : Result X RunFault)
    → Appends a b held → last ≡ [] → OnOk result (Appends b c bytes) → OnOk result (Leaves a c (held ++ bytes) last)
all_written a b c held bytes last (Ok x) p none q = record {
  sent = held ++ bytes;
  parts = ap (λ l. (held ++ bytes) ++ l) none ∙ append-nil (held ++ bytes);
  written = appends_both a b c held bytes p q;
}
all_written a b c held bytes last (Err fault) p none q = tt

-- what is held is written, and of the bytes behind it a beginning
pub bytes_cut : {X : Type 0} (a b c : Option (List ℕ)) (held bytes : List ℕ) (result : Result X RunFault)
    → Appends a b held → IfErr result (λ fault. (fault ≡ Write) × WritesBeginning b c bytes)
    → IfErr result (λ fault. (fault ≡ Write) × WritesBeginning a c (held ++ bytes))
bytes_cut a b c held bytes (Ok x) p q = tt
bytes_cut a b c held bytes (Err fault) p q =
    (q.0, begins_after a b c (held ++ bytes) bytes (record { sent = held; parts = refl; written = p }) q.1)

-- a fault that is handed on, where the text goes on
pub handed_on : {X : Type 0} (a b : Option (List ℕ)) (text more : List ℕ) (first : RunFault)
    (result : Result X RunFault)
    → IsErrAnd result (λ fault. fault ≡ first) → (first ≡ Write) × WritesBeginning a b text
    → IfErr result (λ fault. (fault ≡ Write) × WritesBeginning a b (text ++ more))
handed_on a b text more first (Ok x) same w = tt
handed_on a b text more first (Err fault) same w = (same ∙ w.0, begins_more a b text more w.1)

-- a line is some bytes and a line feed
append-line : (held bytes line : List ℕ) → bytes ≡ line → (held ++ bytes) ++ 10 ∷ [] ≡ held ++ (line ++ 10 ∷ [])
append-line held bytes line same =
    append_assoc held bytes (10 ∷ []) ∙ ap (λ l. held ++ (l ++ 10 ∷ [])) same

pub line_cut : {X : Type 0} (a b : Option (List ℕ)) (held bytes line : List ℕ) (first : RunFault)
    (result : Result X RunFault) → bytes ≡ line → IsErrAnd result (λ fault. fault ≡ first)
    → (first ≡ Write) × WritesBeginning a b (held ++ bytes)
    → IfErr result (λ fault. (fault ≡ Write) × WritesBeginning a b (held ++ (line ++ 10 ∷ [])))
line_cut a b held bytes line first result same is w =
    subst (λ t. IfErr result (λ fault. (fault ≡ Write) × WritesBeginning a b t)) (append-line held bytes line same)
    (handed_on a b (held ++ bytes) (10 ∷ []) first result is w)

pub line_left : {X : Type 0} (a b c : Option (List ℕ)) (held bytes line left last : List ℕ) (result : Result X RunFault)
    → bytes ≡ line → Leaves a b (held ++ bytes) left → OnOk result (Leaves b c (left ++ 10 ∷ []) last)
    → OnOk result (Leaves a c (held ++ (line ++ 10 ∷ [])) last)
line_left a b c held bytes line left last (Ok x) same p q =
    subst (λ t. Leaves a c t last) (append-line held bytes line same)
    (leaves_more a b c (held ++ bytes) left (10 ∷ []) last p q)
line_left a b c held bytes line left last (Err fault) same p q = tt

pub line_feed_cut : {X : Type 0} (a b c : Option (List ℕ)) (held bytes line left : List ℕ) (result : Result X RunFault)
    → bytes ≡ line → Leaves a b (held ++ bytes) left
    → IfErr result (λ fault. (fault ≡ Write) × WritesBeginning b c (left ++ 10 ∷ []))
    → IfErr result (λ fault. (fault ≡ Write) × WritesBeginning a c (held ++ (line ++ 10 ∷ [])))
line_feed_cut a b c held bytes line left (Ok x) same p q = tt
line_feed_cut a b c held bytes line left (Err fault) same p q = (
  q.0,
  (
    q.1.0,
    subst (λ t. Leaves a c t q.1.0) (append-line held bytes line same)
        (leaves_more a b c (held ++ bytes) left (10 ∷ []) q.1.0 p q.1.1),
  ),
)

-- ---- one line more

-- one line more, at the end of the chain
pub chain-push : (before between after : Session) (lines answers : List (List ℕ)) (line answer : List ℕ)
    → AnswersLines before lines answers between → AnswersLine between line answer after
    → AnswersLines before (lines ++ line ∷ []) (answers ++ answer ∷ []) after
chain-push before between after [] [] line answer e h =
    (after, subst (λ s. AnswersLine s line answer after) (sym e) h, refl)
chain-push before between after [] (a ∷ answers) line answer e h = absurd e
chain-push before between after (l ∷ lines) [] line answer e h = absurd e
chain-push before between after (l ∷ lines) (a ∷ answers) line answer e h =
    (e.0, e.1, chain-push e.0 between after lines answers line answer e.2 h)

-- What stands while lines are answered: those before the rest, of whose answers some are held back.
pub record AnswersBefore (input rest : List ℕ) (session : Session) (before after : Option (List ℕ)) (held : List ℕ)
    : Type 0 where
  pub earlier : List (List ℕ)
  pub lines : lines_of input ≡ earlier ++ lines_of rest
  pub answers : List (List ℕ)
  pub chain : AnswersLines fresh earlier answers session
  pub written : Leaves before after (transcript answers) held

-- the rest begins with a line
lines_of-line_ahead : (input rest line next : List ℕ) (earlier : List (List ℕ))
    → lines_of input ≡ earlier ++ lines_of rest
    → 0 < length rest
    → line ≡ before_first is_line_feed rest → next ≡ after_first is_line_feed rest
    → lines_of input ≡ earlier ++ line ∷ lines_of next
lines_of-line_ahead input rest line next earlier cut some l n =
    rw (l, n) (cut ∙ ap (λ ls. earlier ++ ls) (lines_of-first rest some))

-- What is known of the line ahead.
pub record LineAhead (input rest line next : List ℕ) (session : Session) (a b : Option (List ℕ)) (held : List ℕ)
    : Type 0 where
  pub so_far : AnswersBefore input rest session a b held
  pub some : 0 < length rest
  pub line_is : line ≡ before_first is_line_feed rest
  pub next_is : next ≡ after_first is_line_feed rest

told_more : (answers : List (List ℕ)) (answer held : List ℕ) (a b c : Option (List ℕ)) (last : List ℕ)
    → Leaves a b (transcript answers) held → Leaves b c (held ++ (answer ++ 10 ∷ [])) last
    → Leaves a c (transcript (answers ++ answer ∷ [])) last
told_more answers answer held a b c last p q =
    subst (λ t. Leaves a c t last) (sym (transcript-push answers answer))
    (leaves_more a b c (transcript answers) held (answer ++ 10 ∷ []) last p q)

-- one line more is answered
pub answers_line : (input rest line next : List ℕ) (session after : Session) (a b c : Option (List ℕ))
    (held last answer : List ℕ)
    → LineAhead input rest line next session a b held
    → AnswersLine session line answer after → Leaves b c (held ++ (answer ++ 10 ∷ [])) last
    → AnswersBefore input next after a c last
answers_line input rest line next session after a b c held last answer ahead h w = record {
  earlier = ahead.so_far.earlier ++ line ∷ [];
  lines = lines_of-line_ahead input rest line next ahead.so_far.earlier ahead.so_far.lines ahead.some ahead.line_is
      ahead.next_is
      ∙ sym (append_assoc ahead.so_far.earlier (line ∷ []) (lines_of next));
  answers = ahead.so_far.answers ++ answer ∷ [];
  chain = chain-push fresh session after ahead.so_far.earlier ahead.so_far.answers line answer ahead.so_far.chain h;
  written = told_more ahead.so_far.answers answer held a b c last ahead.so_far.written w;
}

-- the answer to a line is not written
pub answer_fails : (input rest line next : List ℕ) (session after : Session) (a b c : Option (List ℕ))
    (held last answer : List ℕ)
    → LineAhead input rest line next session a b held
    → AnswersLine session line answer after → WritesBeginning b c (held ++ (answer ++ 10 ∷ []))
    → WritesAndHolds input a c last (Err Write)
answer_fails input rest line next session after a b c held last answer ahead h w =
    let whole = answers_line input rest line next session after a b c held w.0 answer ahead h w.1 in (
      transcript whole.answers,
      inl (record {
        earlier = whole.earlier;
        later = lines_of next;
        lines = whole.lines;
        answers = whole.answers;
        session = after;
        chain = whole.chain;
        told = refl;
      }),
      (w.0, whole.written),
    )

-- a fault of the writer that is handed on
pub write_failed : (input : List ℕ) (a b : Option (List ℕ)) (held : List ℕ) (first : RunFault)
    (result : Result ℕ RunFault)
    → IsErrAnd result (λ fault. fault ≡ first) → first ≡ Write → WritesAndHolds input a b held (Err Write)
    → WritesAndHolds input a b held result
write_failed input a b held first (Ok status) same is w = absurd same
write_failed input a b held first (Err fault) same is w =
    subst (λ f. WritesAndHolds input a b held (Err f)) (sym (same ∙ is)) w

-- the line ahead is no command
to_unknown : (input rest line next : List ℕ) (session : Session) (a b : Option (List ℕ)) (held : List ℕ)
    → (ahead : LineAhead input rest line next session a b held) → request_in_bytes line ≡ None
    → AnswersToUnknown input (transcript (ahead.so_far.answers ++ codes "unknown command" ∷ []))
to_unknown input rest line next session a b held ahead none = record {
  earlier = ahead.so_far.earlier;
  unknown = line;
  later = lines_of next;
  lines = lines_of-line_ahead input rest line next ahead.so_far.earlier ahead.so_far.lines ahead.some ahead.line_is
      ahead.next_is;
  no_command = none;
  answers = ahead.so_far.answers;
  session = session;
  chain = ahead.so_far.chain;
  told = refl;
}

pub answers_unknown : (input rest line next : List ℕ) (session : Session) (a b c : Option (List ℕ)) (held last : List ℕ)
    → LineAhead input rest line next session a b held → request_in_bytes line ≡ None
    → Leaves b c (held ++ (codes "unknown command" ++ 10 ∷ [])) last → WritesAndHolds input a c last (Ok 2)
answers_unknown input rest line next session a b c held last ahead none w = (
  transcript (ahead.so_far.answers ++ codes "unknown command" ∷ []),
  inr (refl, to_unknown input rest line next session a b held ahead none),
  told_more ahead.so_far.answers (codes "unknown command") held a b c last ahead.so_far.written w,
)

-- and its answer is not written
pub unknown_fails : (input rest line next : List ℕ) (session : Session) (a b c : Option (List ℕ)) (held last : List ℕ)
    → LineAhead input rest line next session a b held → request_in_bytes line ≡ None
    → WritesBeginning b c (held ++ (codes "unknown command" ++ 10 ∷ [])) → WritesAndHolds input a c last (Err Write)
unknown_fails input rest line next session a b c held last ahead none w = (
  transcript (ahead.so_far.answers ++ codes "unknown command" ∷ []),
  inr (to_unknown input rest line next session a b held ahead none),
  (w.0, told_more ahead.so_far.answers (codes "unknown command") held a b c w.0 ahead.so_far.written w.1),
)

-- no line is answered yet
pub answers_none : (input : List ℕ) (session : Session) (a : Option (List ℕ)) (held : List ℕ) → session ≡ fresh
    → held ≡ [] → AnswersBefore input input session a a held
answers_none input session a held e none = record {
  earlier = [];
  lines = refl;
  answers = [];
  chain = sym e;
  written = subst (λ l. Leaves a a [] l) (sym none) (leaves_all a []);
}

-- the answer to a line, from the text of a reply
pub line_answered : (request : Request) (before after : Session) (line answer : List ℕ)
    → request_in_bytes line ≡ Some request → Follows request before after answer → AnswersLine before line answer after
line_answered request before after line answer asked follows = record {
  request = request;
  asked = asked;
  effect = follows;
  one_line = one_line-followed request before after answer follows;
}

pub answered_by : (before after : Session) (line answer text : List ℕ)
    → answer ≡ text → AnswersLine before line text after → AnswersLine before line answer after
answered_by before after line answer text e = subst (λ t. AnswersLine before line t after) (sym e)

-- ---- the end of a run

all_is_beginning : (input text : List ℕ) → AnswersAll input text → AnswersBeginning input text
all_is_beginning input text all = record {
  earlier = lines_of input;
  later = [];
  lines = sym (append-nil (lines_of input));
  answers = all.answers;
  session = all.session;
  chain = all.chain;
  told = all.told;
}

-- the writer may still fail
may_fail : (input text : List ℕ) (outcome : Result ℕ RunFault) → Answered input outcome text
    → Answered input (Err Write) text
may_fail input text (Ok status) h =
    elim h [ inl all ↦ inl (all_is_beginning input text all.1) | inr unknown ↦ inr unknown.1 ]
may_fail input text (Err Memory) h = inl h
may_fail input text (Err Write) h = h
may_fail input text (Err Read) h = absurd h

-- what is held is written, or the writer fails
ends_held : (input : List ℕ) (a b c : Option (List ℕ)) (held text : List ℕ) (outcome result : Result ℕ RunFault)
    → Answered input outcome text → Leaves a b text held
    → (Appends a c text → WritesText a c outcome text)
    → ((result ≡ outcome) × Appends b c held) ⊎ ((result ≡ Err Write) × WritesBeginning b c held)
    → Writes input a c result
ends_held input a b c held text outcome result told left whole end =
    elim end [
      | inl done ↦ subst (λ r. Writes input a c r) (sym done.0)
          (text, told, whole (leaves_nothing a b c text held left done.1))
      | inr cut ↦ subst (λ r. Writes input a c r) (sym cut.0)
          (text, may_fail input text outcome told, begins_after a b c text held left cut.1)
    ]

pub run_ends : (input : List ℕ) (a b c : Option (List ℕ)) (held : List ℕ) (outcome result : Result ℕ RunFault)
    → WritesAndHolds input a b held outcome → Finishes b c held outcome result → Writes input a c result
run_ends input a b c held (Ok status) result w end =
    ends_held input a b c held w.0 (Ok status) result w.1 w.2 (λ p. p) end
run_ends input a b c held (Err Memory) result w end =
    ends_held input a b c held w.0 (Err Memory) result w.1 w.2 (λ p. p) end
run_ends input a b c held (Err Write) result w end =
    subst (λ r. Writes input a c r) (sym end.0) (w.0, w.1, begins_kept a b c w.0 w.2 end.1)
run_ends input a b c held (Err Read) result w end = absurd w.1

answers_input : (unread rest a c : Option (List ℕ)) (input : List ℕ) (result : Result ℕ RunFault)
    → Consumes unread rest input → IsAtEnd rest → Writes input a c result → Answers unread rest a c result
answers_input unread rest a c input (Ok status) p e w = (input, p, e, w)
answers_input unread rest a c input (Err Memory) p e w = inr (input, p, e, w)
answers_input unread rest a c input (Err Write) p e w = (input, p, e, w)
answers_input unread rest a c input (Err Read) p e w = absurd w.1

-- all was read, and what was written answers it
pub run_answers : (unread rest a c : Option (List ℕ)) (input bytes : List ℕ) (result : Result ℕ RunFault)
    → bytes ≡ input → Consumes unread rest input → IsAtEnd rest → Writes bytes a c result
    → Answers unread rest a c result
run_answers unread rest a c input bytes result same p e w =
    answers_input unread rest a c input result p e (subst (λ l. Writes l a c result) same w)
