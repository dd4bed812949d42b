-- The parts of a reading, one after another, are the text.
use Rattle.std.proofs.Common.{◌≡◌, ℕ, Option, None, Some, List, [], ◌∷◌, ◌++◌, Bool, refl, sym, ◌∙◌, ap, inl, inr}
use Rattle.std.specs.Prelude.{ℤ, option_to_list}
use Rattle.std.proofs.lemmas.List.{append_assoc, append-nil}
use Rattle.rb_text.specs.Feature.{Optional, Number, TagPart, Range, Word, Setting, ReadsAs}
use Rattle.rb_common.specs.Ascii.{open_bracket, close_bracket}
use Rattle.rb_text.specs.FeatureParts.{number_text, tag_text, range_text, word_text, setting_text, parts_text}
use Rattle.rb_text.specs.declared.feature.Feature.{Feature}

-- a cut, and a cut of what is left
next : (t a m b r : List ℕ) → t ≡ a ++ m → m ≡ b ++ r → t ≡ a ++ b ++ r
next t a m b r first second = first ∙ ap (λ l. a ++ l) second ∙ sym (append_assoc a b r)

optional : (p : ℕ → Bool) (t : List ℕ) (o : Option ℕ) (r : List ℕ) → Optional p t o r → t ≡ option_to_list o ++ r
optional p t None r h = h.0
optional p t (Some b) r h = h.0

number : (t : List ℕ) (v : Option ℤ) (r : List ℕ) (n : Number t v r) → t ≡ number_text t v r n ++ r
number t v r n = next _ _ _ _ _ (optional _ _ _ _ n.sign_is) n.digits_are.cut

tag : (t : List ℕ) (v : ℕ) (r : List ℕ) (p : TagPart t v r) → t ≡ tag_text t v r p ++ r
tag t v r p =
    next _ _ _ _ _ (next _ _ _ _ _ (next _ _ _ _ _ p.gap_is.cut (optional _ _ _ _ p.quote_is)) p.word_is.cut) p.again

next_byte : (t a : List ℕ) (b : ℕ) (r : List ℕ) → t ≡ a ++ (b ∷ r) → t ≡ a ++ (b ∷ []) ++ r
next_byte t a b r first = next t a (b ∷ r) (b ∷ []) r first refl

range : (t : List ℕ) (from to : ℕ) (r : List ℕ) (h : Range t from to r) → t ≡ range_text t from to r h ++ r
range t from to r (inl none) = none.cut
range t from to r (inr (inl one)) =
    let opening : List ℕ = open_bracket ∷ [] in
    let inside : List ℕ = number_text one.inner one.number (close_bracket ∷ r) one.number_is in
    let upto_number = next t opening one.inner inside (close_bracket ∷ r) one.opened (number _ _ _ one.number_is) in
    next_byte t (opening ++ inside) close_bracket r upto_number
range t from to r (inr (inr two)) =
    let opening : List ℕ = open_bracket ∷ [] in
    let first : List ℕ = number_text two.inner two.first (two.separator ∷ two.behind) two.first_is in
    let separator : List ℕ = two.separator ∷ [] in
    let second : List ℕ = number_text two.behind two.second (close_bracket ∷ r) two.second_is in
    let upto_first = next t opening two.inner first (two.separator ∷ two.behind) two.opened
    (number _ _ _ two.first_is) in
    let upto_separator = next_byte t (opening ++ first) two.separator two.behind upto_first in
    let upto_second = next t (opening ++ first ++ separator) two.behind second (close_bracket ∷ r) upto_separator
    (number _ _ _ two.second_is) in
    next_byte t (opening ++ first ++ separator ++ second) close_bracket r upto_second

word : (equals : Option ℕ) (prefix : ℕ) (n : Option ℤ) (t : List ℕ) (v : ℕ) (r : List ℕ)
    (w : Word equals prefix n t v r)
    → t ≡ word_text equals prefix n t v r w ++ r
word equals prefix (Some z) t v r w = w.1
word equals prefix None t v r w = next _ _ _ _ _ w.gap_is.cut w.letters_are.cut

setting : (prefix : ℕ) (t : List ℕ) (v : ℕ) (r : List ℕ) (s : Setting prefix t v r)
    → t ≡ setting_text prefix t v r s ++ r
setting prefix t v r s =
    next _ _ _ _ _ (next _ _ _ _ _ (optional _ _ _ _ s.equals_is) (number _ _ _ s.number_is))
    (word _ _ s.number _ _ _ s.word_is)

pub parts_join : (text : List ℕ) (f : Feature) (r : ReadsAs text f) → text ≡ parts_text text f r
parts_join text f r =
    next _ _ _ _ _ (next _ _ _ _ _ (next _ _ _ _ _ (next _ _ _ _ _ (next _ _ _ _ _
    (optional _ _ _ _ r.prefix_is) (tag _ _ _ r.tag_is)) r.gap_is.cut) (range _ _ _ _ r.range_is)) (setting _ _ _ _
    r.setting_is)) r.last_is.cut
    ∙ append-nil (parts_text text f r)
