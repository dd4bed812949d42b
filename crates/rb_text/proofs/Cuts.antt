-- Each part of the grammar is what reading from the left finds.
use Rattle.std.proofs.Common.{◌≡◌, ℕ, ◌+◌, Option, None, Some, List, [], ◌∷◌, ◌++◌, Bool, true, false, cond, length}
use Rattle.std.proofs.Common.{drop, arith, refl, sym, ◌∙◌}
use Rattle.std.specs.Prelude.{ℤ}
use Rattle.std.specs.List.{take_while, prefix_len, AllPass}
use Rattle.std.specs.Char.{is_ascii_digit}
use Rattle.std.proofs.Math.Seq.{take-append_seam, drop-append_seam}
use Rattle.std.proofs.Math.Numerals.{one-add}
use Rattle.std.proofs.lemmas.List.{take-append-drop}
use Rattle.std.proofs.lemmas.List.Folds.{prefix_len-append}
use Rattle.std.proofs.lemmas.List.Sums.{prefix_len_is}
use Rattle.std.proofs.lemmas.Bool.Decides.{nat_tests}
use Rattle.rb_text.proofs.Digits.{AllPass-take_while}
use Rattle.rb_text.specs.TextParser.{first_if, after_if, skip_while, is_sign, number_in, after_number}
use Rattle.rb_text.specs.Feature.{Stops, Whole, Optional, Number}

prefix_len-none : (p : ℕ → Bool) (r : List ℕ) → Stops p r → prefix_len p r ≡ 0
prefix_len-none p [] s = refl
prefix_len-none p (b ∷ bs) s = rw s refl

pub prefix_len-whole : (p : ℕ → Bool) (a r : List ℕ) → AllPass p a → Stops p r → prefix_len p (a ++ r) ≡ length a
prefix_len-whole p a r all stops =
    let full : prefix_len p a ≡ length a = prefix_len_is p a (length a) 0 (omega arith) (λ k h. all k 0 h)
    (λ h. absurd (omega arith)) in
    let none : prefix_len p r ≡ 0 = prefix_len-none p r stops in
    prefix_len-append p a r ∙ grind (arith, nat_tests)

pub take_while-whole : (p : ℕ → Bool) (t a r : List ℕ) → Whole p t a r → take_while p t ≡ a
take_while-whole p t a r w =
    let n : prefix_len p (a ++ r) ≡ length a = prefix_len-whole p a r w.passes w.stops in
    rw w.cut (rw n (take-append_seam a r))

pub skip_while-whole : (p : ℕ → Bool) (t a r : List ℕ) → Whole p t a r → skip_while p t ≡ r
skip_while-whole p t a r w =
    let n : prefix_len p (a ++ r) ≡ length a = prefix_len-whole p a r w.passes w.stops in
    rw w.cut (rw n (drop-append_seam a r))

stops_by : (p : ℕ → Bool) (b : ℕ) (bs : List ℕ) (v : Bool) → p b ≡ v → Stops p (skip_while p bs)
    → Stops p (drop (cond v (1 + prefix_len p bs) 0) (b ∷ bs))
stops_by p b bs true e later = rw one-add later
stops_by p b bs false e later = e

stops_skip_while : (p : ℕ → Bool) (t : List ℕ) → Stops p (skip_while p t)
stops_skip_while p [] = tt
stops_skip_while p (b ∷ bs) = stops_by p b bs (p b) refl (stops_skip_while p bs)

pub whole : (p : ℕ → Bool) (t : List ℕ) → Whole p t (take_while p t) (skip_while p t)
whole p t =
    record {
      cut = sym (take-append-drop (prefix_len p t) t);
      passes = AllPass-take_while p t;
      stops = stops_skip_while p t;
    }

pub first_if-optional : (p : ℕ → Bool) (t : List ℕ) (o : Option ℕ) (r : List ℕ) → Optional p t o r → first_if p t ≡ o
first_if-optional p t None [] h = rw h.0 refl
first_if-optional p t None (b ∷ bs) h = rw (h.0, h.1) refl
first_if-optional p t (Some b) r h = rw (h.0, h.1) refl

pub after_if-optional : (p : ℕ → Bool) (t : List ℕ) (o : Option ℕ) (r : List ℕ) → Optional p t o r → after_if p t ≡ r
after_if-optional p t None [] h = rw h.0 refl
after_if-optional p t None (b ∷ bs) h = rw (h.0, h.1) refl
after_if-optional p t (Some b) r h = rw (h.0, h.1) refl

optional_by : (p : ℕ → Bool) (b : ℕ) (bs : List ℕ) (v : Bool) → p b ≡ v
    → Optional p (b ∷ bs) (cond v (Some b) None) (cond v bs (b ∷ bs))
optional_by p b bs true e = (refl, e)
optional_by p b bs false e = (refl, e)

pub optional : (p : ℕ → Bool) (t : List ℕ) → Optional p t (first_if p t) (after_if p t)
optional p [] = (refl, tt)
optional p (b ∷ bs) = optional_by p b bs (p b) refl

pub number_in-number : (t : List ℕ) (v : Option ℤ) (r : List ℕ) → Number t v r → number_in t ≡ v
number_in-number t v r n =
    rw (
      first_if-optional is_sign t n.sign n.behind_sign n.sign_is,
      after_if-optional is_sign t n.sign n.behind_sign n.sign_is,
      take_while-whole is_ascii_digit n.behind_sign n.digits r n.digits_are,
    ) (sym n.value_is)

pub after_number-number : (t : List ℕ) (v : Option ℤ) (r : List ℕ) → Number t v r → after_number t ≡ r
after_number-number t v r n =
    rw (after_if-optional is_sign t n.sign n.behind_sign n.sign_is)
    (skip_while-whole is_ascii_digit n.behind_sign n.digits r n.digits_are)

pub number : (t : List ℕ) → Number t (number_in t) (after_number t)
number t = record {
  sign = first_if is_sign t;
  behind_sign = after_if is_sign t;
  digits = take_while is_ascii_digit (after_if is_sign t);
  sign_is = optional is_sign t;
  digits_are = whole is_ascii_digit (after_if is_sign t);
  value_is = refl;
}
