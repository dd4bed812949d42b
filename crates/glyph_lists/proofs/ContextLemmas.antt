-- A text that is read from its start or from its end, as far as there is room.
use Rattle.std.proofs.Common.{◌≡◌, ℕ, ◌+◌, ◌<◌, ◌≤◌, ◌⊎◌, inl, inr, List, [], ◌∷◌, ◌++◌, length, take, reverse, IsUtf8}
use Rattle.std.proofs.Common.{ap, sym, subst, ◌∙◌, arith, append_assoc, append-nil, length-append}
use Rattle.std.specs.Prelude.{encode_utf8}
use Rattle.std.specs.Str.{chars}
use Rattle.std.specs.Char.{IsScalar}
use Rattle.std.proofs.lemmas.List.{nil_from_length, reverse-append, take_all}
use Rattle.std.proofs.lemmas.Bool.{cases_lt}
use Rattle.std.proofs.Math.Seq.{take-append_seam}
use Rattle.std.proofs.lemmas.Str.{chars_past_char, chars-append, chars-nil, IsUtf8-take, IsUtf8-past_char}
use Rattle.std.proofs.lemmas.Str.{IsUtf8-encode, IsCharBoundary-at_seam}

-- Of all the characters these were read and these are left, with so many bytes of text, and so many more may be read.
pub record Reading (all done left : List ℕ) (bytes : List ℕ) (more : ℕ) : Type 0 where
  pub utf8 : IsUtf8 bytes
  pub read : all ≡ done ++ left
  pub room : length done + more ≡ 5

chars_one : (c : ℕ) → IsScalar c → chars (encode_utf8 c) ≡ c ∷ []
chars_one c scalar = chars_past_char (encode_utf8 c) [] c (IsUtf8-encode c scalar) (sym (append-nil (encode_utf8 c)))
    ∙ ap (λ l. c ∷ l) chars-nil

module _ (before front : List ℕ) (c : ℕ) (utf8 : IsUtf8 before) (scalar : IsScalar c)
    (is : before ≡ front ++ encode_utf8 c) where
  pub utf8_front : IsUtf8 front
  utf8_front =
      let cut = IsUtf8-take before (length front) utf8
      (IsCharBoundary-at_seam before front (encode_utf8 c) is (IsUtf8-encode c scalar)) in
      subst IsUtf8 (ap (take (length front)) is ∙ take-append_seam front (encode_utf8 c)) cut

  pub chars_back : chars before ≡ chars front ++ c ∷ []
  chars_back =
      ap chars is ∙ chars-append front (encode_utf8 c) utf8_front ∙ ap (λ l. chars front ++ l) (chars_one c scalar)

-- one more character, from the end
pub read_back : {all done bytes : List ℕ} {more : ℕ} (r : Reading all done (reverse (chars bytes)) bytes more)
    (front : List ℕ) (c next : ℕ) → IsScalar c → bytes ≡ front ++ encode_utf8 c → next + 1 ≡ more
    → Reading all (done ++ c ∷ []) (reverse (chars front)) front next
read_back {done = done} {bytes = bytes} r front c next scalar is one = record {
  utf8 = utf8_front bytes front c r.utf8 scalar is;
  read = r.read
      ∙ ap (λ l. done ++ reverse l) (chars_back bytes front c r.utf8 scalar is)
      ∙ ap (λ l. done ++ l) (reverse-append (chars front) (c ∷ []))
      ∙ sym (append_assoc done (c ∷ []) (reverse (chars front)));
  room = omega (arith, r.room, one, length-append done (c ∷ []));
}

-- one more character, from the start
pub read_on : {all done bytes : List ℕ} {more : ℕ} (r : Reading all done (chars bytes) bytes more) (rest : List ℕ)
    (c next : ℕ) → bytes ≡ encode_utf8 c ++ rest → next + 1 ≡ more → Reading all (done ++ c ∷ []) (chars rest) rest next
read_on {done = done} {bytes = bytes} r rest c next is one = record {
  utf8 = IsUtf8-past_char bytes rest c r.utf8 is;
  read = r.read ∙ ap (λ l. done ++ l) (chars_past_char bytes rest c r.utf8 is)
      ∙ sym (append_assoc done (c ∷ []) (chars rest));
  room = omega (arith, r.room, one, length-append done (c ∷ []));
}

-- nothing is left where no byte is
pub chars-none : (bytes : List ℕ) → length bytes ≡ 0 → chars bytes ≡ []
chars-none bytes none = ap chars (nil_from_length bytes none) ∙ chars-nil

pub reverse-no_chars : (bytes : List ℕ) → length bytes ≡ 0 → reverse (chars bytes) ≡ []
reverse-no_chars bytes none = ap reverse (chars-none bytes none)

-- at the end nothing more may be read, or nothing is left
pub read_all : {all done left bytes : List ℕ} {more : ℕ} (r : Reading all done left bytes more) → (0 < more → left ≡ [])
    → done ≡ take 5 all
read_all {all} {done} {left} {bytes} {more} r none = by (cases_lt 0 more)
  where
    by : (0 < more) ⊎ (more ≤ 0) → done ≡ take 5 all
    by (inl some) =
        let whole : all ≡ done = r.read ∙ ap (λ l. done ++ l) (none some) ∙ append-nil done in
        sym whole ∙ sym (take_all 5 all (omega (arith, r.room, ap length whole)))
    by (inr full) =
        let five : 5 ≡ length done = omega (arith, r.room) in
        sym (take-append_seam done left) ∙ ap (λ l. take (length done) l) (sym r.read) ∙ ap (λ n. take n all) (sym five)
