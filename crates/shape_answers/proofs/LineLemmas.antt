-- The lines of a text, one after another, and their answers.
use Rattle.std.proofs.Common.{ℕ, ◌≡◌, ◌+◌, List, [], ◌∷◌, ◌++◌, Bool, true, false}
use Rattle.std.proofs.Common.{Option, None, Some, IfSome, sym, ap, subst, ◌∙◌, append_assoc, append-nil}
use Rattle.std.specs.Prelude.{⊤}
use Rattle.std.specs.Io.KnownBytes.{Appends, Consumes, IsAtEnd}
use Rattle.line_formats.specs.Heads.{head}
use Rattle.shape_options.specs.declared.output.Output.{Output}
use Rattle.shape_lines.specs.declared.reading.Reading.{Reading}
use Rattle.shape_lines.specs.Reading.{seen}
use Rattle.shape_lines.specs.Lines.{lines_of, EachAnswered, transcript, TakesLine, AnswersAll}
use Rattle.shape_lines.specs.Lines.{AnswersParagraph, paragraph_of, IsAnswer, IsList, IsShown, Shows}

-- ---- the answers

pub appends_both : (a b c : Option (List ℕ)) (s t : List ℕ) → Appends a b s → Appends b c t → Appends a c (s ++ t)
appends_both None b c s t p q = tt
appends_both (Some x) None c s t p q = absurd p
appends_both (Some x) (Some y) None s t p q = absurd q
appends_both (Some x) (Some y) (Some z) s t p q = q ∙ ap (λ l. l ++ t) p ∙ append_assoc x s t

pub appends_nothing : (a : Option (List ℕ)) → Appends a a []
appends_nothing None = tt
appends_nothing (Some x) = sym (append-nil x)

pub transcript-push : (answers : List (List ℕ)) (answer : List ℕ)
    → transcript (answers ++ answer ∷ []) ≡ transcript answers ++ (answer ++ 10 ∷ [])
transcript-push [] answer = append-nil (answer ++ 10 ∷ [])
transcript-push (a ∷ more) answer =
    ap (λ l. (a ++ 10 ∷ []) ++ l) (transcript-push more answer)
    ∙ sym (append_assoc (a ++ 10 ∷ []) (transcript more) (answer ++ 10 ∷ []))

-- the lines so far are answered, before the line of this number
abbrev pub AnswersSoFar : Reading → (ℕ → List ℕ → List ℕ → Type 0) → ℕ → Option (List ℕ) → Option (List ℕ) → Option (List ℕ)
    → Option (List ℕ) → Type 0
AnswersSoFar reading is_answer n None rest before after = ⊤
AnswersSoFar reading is_answer n (Some text) None before after = ⊥
AnswersSoFar reading is_answer n (Some text) (Some rest) before after =
    (answers : List (List ℕ))
    × ((later : List (List ℕ)) → EachAnswered is_answer n (lines_of (seen reading rest)) later
    → EachAnswered is_answer 1 (lines_of (seen reading text)) (answers ++ later))
    × Appends before after (transcript answers)

pub so_far-none : (reading : Reading) (is_answer : ℕ → List ℕ → List ℕ → Type 0) (a w : Option (List ℕ))
    → AnswersSoFar reading is_answer 1 a a w w
so_far-none reading is_answer None w = tt
so_far-none reading is_answer (Some text) w = ([], λ later h. h, appends_nothing w)

-- one line more
so_far-line : (reading : Reading) (is_answer : ℕ → List ℕ → List ℕ → Type 0) (n : ℕ) (a b c w x y : Option (List ℕ)) (line : List ℕ)
    → AnswersSoFar reading is_answer n a b w x → TakesLine reading true b c line → Shows is_answer n line x y
    → AnswersSoFar reading is_answer (n + 1) a c w y
so_far-line reading is_answer n None b c w x y line p t shown = tt
so_far-line reading is_answer n (Some text) None c w x y line p t shown = absurd p
so_far-line reading is_answer n (Some text) (Some rest) None w x y line p t shown = absurd t
so_far-line reading is_answer n (Some text) (Some rest) (Some rest') w x y line p t shown = (
  p.0 ++ shown.0 ∷ [],
  λ later h.
      let taken : EachAnswered is_answer n (lines_of (seen reading rest)) (shown.0 ∷ later) =
      subst (λ lines. EachAnswered is_answer n lines (shown.0 ∷ later)) (sym t) (shown.1, h) in
      subst (EachAnswered is_answer 1 (lines_of (seen reading text))) (sym (append_assoc p.0 (shown.0 ∷ []) later))
      (p.1 (shown.0 ∷ later) taken),
  subst (λ s. Appends w y s) (sym (transcript-push p.0 shown.0))
      (appends_both w x y (transcript p.0) (shown.0 ++ 10 ∷ []) p.2 shown.2),
)

-- no line more
so_far-end : (reading : Reading) (is_answer : ℕ → List ℕ → List ℕ → Type 0) (n : ℕ) (a b c w x : Option (List ℕ)) (line : List ℕ)
    → AnswersSoFar reading is_answer n a b w x → TakesLine reading false b c line → AnswersAll reading is_answer a c w x
so_far-end reading is_answer n None b c w x line p t = tt
so_far-end reading is_answer n (Some text) None c w x line p t = absurd p
so_far-end reading is_answer n (Some text) (Some rest) None w x line p t = absurd t
so_far-end reading is_answer n (Some text) (Some rest) (Some rest') w x line p t = (
  t.1,
  record {
    answers = p.0;
    each = subst (EachAnswered is_answer 1 (lines_of (seen reading text))) (append-nil p.0)
        (p.1 [] (subst (λ r. EachAnswered is_answer n (lines_of r) []) (sym t.0) tt));
    told = p.2;
  },
)

-- what was found decides
pub so_far-found : (reading : Reading) (is_answer : ℕ → List ℕ → List ℕ → Type 0) (n : ℕ) (a b c w x y : Option (List ℕ))
    (line taken : List ℕ) (found : Bool) → AnswersSoFar reading is_answer n a b w x → TakesLine reading found b c line
    → found ≡ true → taken ≡ line → Shows is_answer n taken x y → AnswersSoFar reading is_answer (n + 1) a c w y
so_far-found reading is_answer n a b c w x y line taken found p t e same shown =
    so_far-line reading is_answer n a b c w x y line p (subst (λ v. TakesLine reading v b c line) e t)
    (subst (λ l. Shows is_answer n l x y) same shown)

pub so_far-not_found : (reading : Reading) (is_answer : ℕ → List ℕ → List ℕ → Type 0) (n : ℕ) (a b c w x : Option (List ℕ))
    (line : List ℕ) (found : Bool) → AnswersSoFar reading is_answer n a b w x → TakesLine reading found b c line
    → found ≡ false → AnswersAll reading is_answer a c w x
so_far-not_found reading is_answer n a b c w x line found p t e =
    so_far-end reading is_answer n a b c w x line p (subst (λ v. TakesLine reading v b c line) e t)

-- a text was read to its end, and this is seen of it
abbrev pub ReadsAll : Reading → Option (List ℕ) → Option (List ℕ) → List ℕ → Type 0
ReadsAll reading None rest bytes = ⊤
ReadsAll reading (Some text) None bytes = ⊥
ReadsAll reading (Some text) (Some rest) bytes = (rest ≡ []) × (bytes ≡ seen reading text)

pub reads_all : (reading : Reading) (a b : Option (List ℕ)) (old taken consumed bytes : List ℕ) → old ≡ []
    → IfSome a (λ text. taken ≡ old ++ text) → IsAtEnd b → Consumes a b consumed → bytes ≡ seen reading taken
    → ReadsAll reading a b bytes
reads_all reading None b old taken consumed bytes none e at_end r s = tt
reads_all reading (Some text) None old taken consumed bytes none e at_end r s = absurd r
reads_all reading (Some text) (Some rest) old taken consumed bytes none e at_end r s =
    (at_end, s ∙ ap (seen reading) (e ∙ ap (λ l. l ++ text) none))

-- a text of which nothing is seen is answered with nothing
pub no_paragraph : (reading : Reading) (is_answer : ℕ → List ℕ → List ℕ → Type 0) (a b w : Option (List ℕ)) (bytes : List ℕ)
    → ReadsAll reading a b bytes → bytes ≡ [] → AnswersParagraph reading is_answer a b w w
no_paragraph reading is_answer None b w bytes r empty = tt
no_paragraph reading is_answer (Some text) None w bytes r empty = absurd r
no_paragraph reading is_answer (Some text) (Some rest) w bytes r empty = (
  r.0,
  record {
    answers = [];
    each = subst (λ s. EachAnswered is_answer 1 (paragraph_of s) []) (sym empty ∙ r.1) tt;
    told = appends_nothing w;
  },
)

-- a text is one line
pub one_paragraph : (reading : Reading) (is_answer : ℕ → List ℕ → List ℕ → Type 0) (a b w x : Option (List ℕ))
    (bytes line : List ℕ) → ReadsAll reading a b bytes → (bytes ≡ [] → ⊥) → line ≡ bytes → Shows is_answer 1 line w x
    → AnswersParagraph reading is_answer a b w x
one_paragraph reading is_answer None b w x bytes line r some same shown = tt
one_paragraph reading is_answer (Some text) None w x bytes line r some same shown = absurd r
one_paragraph reading is_answer (Some text) (Some rest) w x bytes line r some same shown = (
  r.0,
  record {
    answers = shown.0 ∷ [];
    each = one (seen reading text) r.1;
    told = subst (Appends w x) (sym (append-nil (shown.0 ++ 10 ∷ []))) shown.2;
  },
)
  where
    one : (text : List ℕ) → bytes ≡ text → EachAnswered is_answer 1 (paragraph_of text) (shown.0 ∷ [])
    one [] q = absurd (some q)
    one (b ∷ more) q = (subst (λ line. is_answer 1 line shown.0) (same ∙ q) shown.1, tt)

-- what stands before an answer, and the answer
pub shows : (o : Output) (n : ℕ) (line characters answer before : List ℕ) (w x y : Option (List ℕ)) → IsList characters
    → IsAnswer o answer → before ≡ head o.shown n line characters → Appends w x before → Appends x y (answer ++ 10 ∷ [])
    → Shows (IsShown o) n line w y
shows o n line characters answer before w x y list printed e told more = (
  before ++ answer,
  record {
    characters = characters;
    answer = answer;
    is_list = list;
    is_answer = printed;
    is = ap (λ l. l ++ answer) e;
  },
  subst (Appends w y) (sym (append_assoc before answer (10 ∷ [])))
      (appends_both w x y before (answer ++ 10 ∷ []) told more),
)
