-- A feature's text reads as what reading it from the left finds, and as nothing else.
use Rattle.std.proofs.Common.{◌≡◌, ℕ, ◌≤◌, Option, None, Some, List, [], ◌∷◌, ◌++◌, Bool, true, false, cond, length}
use Rattle.std.proofs.Common.{arith, refl, sym, ◌∙◌, ap, subst, inl, inr}
use Rattle.std.specs.Prelude.{ℤ, ◌==◌, ◌⊎◌, is_some, option_to_list, nat_lt}
use Rattle.std.specs.List.{take_while}
use Rattle.std.specs.Char.{is_ascii_whitespace, is_ascii_alphabetic}
use Rattle.std.proofs.lemmas.Bool.Decides.{nat_tests}
use Rattle.std.proofs.lemmas.Option.{cond_some, option_and_then_some}
use Rattle.rb_text.proofs.Cuts.{take_while-whole, skip_while-whole, whole, first_if-optional, after_if-optional}
use Rattle.rb_text.proofs.Cuts.{optional, number_in-number, after_number-number, number}
use Rattle.rb_common.specs.Ascii.{open_bracket, close_bracket, equals_sign}
use Rattle.rb_common.specs.Tag.{lossy_tag_of}
use Rattle.rb_text.specs.TextParser.{first_if, after_if, skip_while, is_sign, is_quote, is_word, short_tag, number_in}
use Rattle.rb_text.specs.TextParser.{after_number, toggle_of}
use Rattle.rb_text.specs.Feature.{Stops, Whole, Number, TagPart, NoRange, OneNumber, TwoNumbers, Range, is_byte}
use Rattle.rb_text.specs.Feature.{is_separator, word_or, end_after, Toggles, Word, Setting, prefix_of, ReadsAs}
use Rattle.rb_text.specs.FeatureReading.{begins_with, tag_in_quotes, tag_in, range_in_brackets, numbers_in, range_in}
use Rattle.rb_text.specs.FeatureReading.{value_of_toggle, value_behind_number, setting_in, is_nil, feature_in}
use Rattle.rb_text.specs.declared.feature.Feature.{Feature}

chosen : {A : Type 0} (b : Bool) (x y z : A) → cond b x y ≡ z → ((b ≡ true) × (x ≡ z)) ⊎ ((b ≡ false) × (y ≡ z))
chosen true x y z e = inl (refl, e)
chosen false x y z e = inr (refl, e)

some_inj : {A : Type 0} (x y : A) → Some x ≡ Some y → x ≡ y
some_inj x y e = cc

some_pair : {A B : Type 0} (x y : A × B) → Some x ≡ Some y → (x.0 ≡ y.0) × (x.1 ≡ y.1)
some_pair x y e = let k = some_inj x y e in (ap (λ p. p.0) k, ap (λ p. p.1) k)

-- the tag
begins_self : (q : ℕ) (r : List ℕ) → begins_with q (q ∷ r) ≡ true
begins_self q r = grind (arith, nat_tests)

after_if-self : (q : ℕ) (r : List ℕ) → after_if (is_byte q) (q ∷ r) ≡ r
after_if-self q r = grind (arith, nat_tests)

short_tag_of : (word : List ℕ) (tag : ℕ) → length word ≤ 4 → tag ≡ lossy_tag_of word → short_tag word ≡ Some tag
short_tag_of word tag h e = rw e (grind (arith, nat_tests))

tag_in_quotes-again : (q : Option ℕ) (tag : ℕ) (l r : List ℕ) → l ≡ option_to_list q ++ r
    → tag_in_quotes q (Some tag) l ≡ Some (tag, r)
tag_in_quotes-again None tag l r e = rw e refl
tag_in_quotes-again (Some q) tag l r e = rw e (rw (begins_self q r, after_if-self q r) refl)

pub tag_in-part : (t : List ℕ) (tag : ℕ) (r : List ℕ) → TagPart t tag r → tag_in t ≡ Some (tag, r)
unfolding tag_in
tag_in-part t tag r p =
    rw (skip_while-whole _ t p.gap p.behind_gap p.gap_is)
    (rw (first_if-optional _ _ _ _ p.quote_is, after_if-optional _ _ _ _ p.quote_is)
    (rw (take_while-whole _ _ _ _ p.word_is, skip_while-whole _ _ _ _ p.word_is)
    (rw (short_tag_of p.word tag p.short p.tag_is) (tag_in_quotes-again p.quote tag p.behind_word r p.again))))

none_some : {A : Type 0} {x : A} → None ≡ Some x → ⊥
none_some e = cc

small : (n : ℕ) → nat_lt 4 n ≡ false → n ≤ 4
small n e = grind (arith, nat_tests)

short_tag_from : (word : List ℕ) (tag : ℕ) → short_tag word ≡ Some tag → (length word ≤ 4) × (tag ≡ lossy_tag_of word)
short_tag_from word tag e =
    elim (chosen (nat_lt 4 (length word)) None (Some (lossy_tag_of word)) (Some tag) e) [
      | inl h ↦ absurd (none_some h.1)
      | inr h ↦ (small (length word) h.0, sym (some_inj _ _ h.1))
    ]

-- a byte and what follows it
false_true : false ≡ true → ⊥
false_true e = cc

same_byte : (a b : ℕ) → (a == b) ≡ true → a ≡ b
same_byte a b h = grind (arith, nat_tests)

cons-head : (q b : ℕ) (bs : List ℕ) (v : Bool) → (b == q) ≡ v → is_some (cond v (Some b) None) ≡ true
    → b ∷ bs ≡ q ∷ cond v bs (b ∷ bs)
cons-head q b bs true h e = ap (λ x. x ∷ bs) (same_byte b q h)
cons-head q b bs false h e = absurd (false_true e)

begins_from : (q : ℕ) (l : List ℕ) → begins_with q l ≡ true → l ≡ q ∷ after_if (is_byte q) l
begins_from q [] e = cc
begins_from q (b ∷ bs) e = cons-head q b bs (b == q) refl e

record Closed (quote short : Option ℕ) (l : List ℕ) (tag : ℕ) (r : List ℕ) : Type 0 where
  short_is : short ≡ Some tag
  again : l ≡ option_to_list quote ++ r

closed_from : (q s : Option ℕ) (l : List ℕ) (tag : ℕ) (r : List ℕ) → tag_in_quotes q s l ≡ Some (tag, r)
    → Closed q s l tag r
closed_from q None l tag r e = cc
closed_from None (Some s) l tag r e =
    let k = some_pair (s, l) (tag, r) e in record { short_is = ap (λ x. Some x) k.0; again = k.1 }
closed_from (Some q) (Some s) l tag r e =
    let h = cond_some (begins_with q l) (s, after_if (is_byte q) l) (tag, r) e in
    let f = begins_from q l h.0 in
    record { short_is = ap (λ x. Some x.0) h.1; again = f ∙ ap (λ x. q ∷ x.1) h.1 }

pub part_from : (t : List ℕ) (tag : ℕ) (r : List ℕ) → tag_in t ≡ Some (tag, r) → TagPart t tag r
unfolding tag_in
part_from t tag r e =
    let at_quote = skip_while is_ascii_whitespace t in
    let at_word = after_if is_quote at_quote in
    let k = closed_from (first_if is_quote at_quote) (short_tag (take_while is_word at_word))
    (skip_while is_word at_word) tag r e in
    let s = short_tag_from (take_while is_word at_word) tag k.short_is in
    record {
      gap = take_while is_ascii_whitespace t;
      behind_gap = at_quote;
      quote = first_if is_quote at_quote;
      behind_quote = at_word;
      word = take_while is_word at_word;
      behind_word = skip_while is_word at_word;
      gap_is = whole is_ascii_whitespace t;
      quote_is = optional is_quote at_quote;
      word_is = whole is_word at_word;
      short = s.0;
      again = k.again;
      tag_is = s.1;
    }

-- the range
not_begins : (q : ℕ) (l : List ℕ) → Stops (is_byte q) l → begins_with q l ≡ false
not_begins q [] h = refl
not_begins q (b ∷ bs) h = rw h refl

one_separates : (s : ℕ) (l : List ℕ) → is_separator s ≡ true → is_some (first_if is_separator (s ∷ l)) ≡ true
one_separates s l h = rw h refl

after_if-separator : (s : ℕ) (l : List ℕ) → is_separator s ≡ true → after_if is_separator (s ∷ l) ≡ l
after_if-separator s l h = rw h refl

pub range_in-none : (t : List ℕ) (from to : ℕ) (r : List ℕ) → NoRange t from to r → range_in t ≡ Some ((from, to), r)
unfolding range_in
range_in-none t from to r n =
    rw (n.cut, not_begins open_bracket r n.stops, n.from_is, n.to_is) refl

pub range_in-one : (t : List ℕ) (from to : ℕ) (r : List ℕ) → OneNumber t from to r → range_in t ≡ Some ((from, to), r)
unfolding range_in
range_in-one t from to r n =
    rw n.opened (rw (number_in-number _ _ _ n.number_is, after_number-number _ _ _ n.number_is, n.from_is, n.to_is)
    refl)

pub range_in-two : (t : List ℕ) (from to : ℕ) (r : List ℕ) → TwoNumbers t from to r → range_in t ≡ Some ((from, to), r)
unfolding range_in
range_in-two t from to r n =
    rw n.opened (rw (number_in-number _ _ _ n.first_is, after_number-number _ _ _ n.first_is)
    (rw (one_separates n.separator n.behind n.separates, after_if-separator n.separator n.behind n.separates)
    (rw (number_in-number _ _ _ n.second_is, after_number-number _ _ _ n.second_is, n.from_is, n.to_is) refl)))

pub range_in-range : (t : List ℕ) (from to : ℕ) (r : List ℕ) → Range t from to r → range_in t ≡ Some ((from, to), r)
range_in-range t from to r h =
    elim h [
      | inl n ↦ range_in-none t from to r n
      | inr m ↦ elim m [ inl n ↦ range_in-one t from to r n | inr n ↦ range_in-two t from to r n ]
    ]

-- the setting
value_of_toggle-toggled : (equals : Option ℕ) (prefix value : ℕ) (o : Option Bool) (r : List ℕ)
    → Toggles equals prefix value o
    → value_of_toggle (is_some equals) prefix o r ≡ Some (value, r)
value_of_toggle-toggled equals prefix value (Some b) r h = rw h refl
value_of_toggle-toggled equals prefix value None r h = rw (h.1, h.0) refl

value_behind_number-some : (equals : Option ℕ) (prefix : ℕ) (n : Option ℤ) (t : List ℕ) (value : ℕ) (r : List ℕ)
    → Word equals prefix n t value r → value_behind_number (is_some equals) prefix n t ≡ Some (value, r)
value_behind_number-some equals prefix (Some z) t value r h = rw (h.0, h.1) refl
value_behind_number-some equals prefix None t value r h =
    rw (skip_while-whole _ _ _ _ h.gap_is) (rw (
      take_while-whole _ _ _ _ h.letters_are,
      skip_while-whole _ _ _ _
          h.letters_are,
    ) (value_of_toggle-toggled equals prefix value _ r h.value_is))

pub setting_in-setting : (prefix : ℕ) (t : List ℕ) (value : ℕ) (r : List ℕ) → Setting prefix t value r
    → setting_in prefix t ≡ Some (value, r)
unfolding setting_in
setting_in-setting prefix t value r s =
    rw (first_if-optional _ _ _ _ s.equals_is, after_if-optional _ _ _ _ s.equals_is)
    (rw (number_in-number _ _ _ s.number_is, after_number-number _ _ _ s.number_is)
    (value_behind_number-some s.equals prefix s.number s.behind_digits value r s.word_is))

-- the whole
some_bytes : (t : List ℕ) → ¬ (t ≡ []) → is_nil t ≡ false
some_bytes [] h = absurd (h refl)
some_bytes (b ∷ bs) h = refl

pub feature_in-reads : (t : List ℕ) (f : Feature) → ReadsAs t f → feature_in t ≡ Some f
unfolding feature_in
feature_in-reads t f h =
    rw (some_bytes t h.some_byte)
    (rw (first_if-optional _ _ _ _ h.prefix_is, after_if-optional _ _ _ _ h.prefix_is)
    (rw (tag_in-part _ _ _ h.tag_is)
    (rw (skip_while-whole _ _ _ _ h.gap_is)
    (rw (range_in-range _ _ _ _ h.range_is)
    (rw (setting_in-setting _ _ _ _ h.setting_is)
    (rw (skip_while-whole _ _ _ _ h.last_is) refl))))))

-- what reading finds is a reading
record Bracketed (from to : ℕ) (l : List ℕ) (f t : ℕ) (r : List ℕ) : Type 0 where
  from_is : f ≡ from
  to_is : t ≡ to
  close : l ≡ close_bracket ∷ r

bracketed_from : (from to : ℕ) (l : List ℕ) (f t : ℕ) (r : List ℕ) → range_in_brackets from to l ≡ Some ((f, t), r)
    → Bracketed from to l f t r
bracketed_from from to l f t r e =
    let h = cond_some (begins_with close_bracket l) ((from, to), after_if (is_byte close_bracket) l) ((f, t), r) e in
    record {
      from_is = sym (ap (λ x. x.0.0) h.1);
      to_is = sym (ap (λ x. x.0.1) h.1);
      close = begins_from close_bracket l h.0 ∙ ap (λ x. close_bracket ∷ x.1) h.1;
    }

first_by : (p : ℕ → Bool) (b : ℕ) (bs : List ℕ) (v : Bool) → p b ≡ v → is_some (cond v (Some b) None) ≡ true
    → (c : ℕ) × (p c ≡ true) × (b ∷ bs ≡ c ∷ cond v bs (b ∷ bs))
first_by p b bs true h e = (b, h, refl)
first_by p b bs false h e = absurd (false_true e)

first_from : (p : ℕ → Bool) (l : List ℕ) → is_some (first_if p l) ≡ true
    → (b : ℕ) × (p b ≡ true) × (l ≡ b ∷ after_if p l)
first_from p [] e = absurd (false_true e)
first_from p (b ∷ bs) e = first_by p b bs (p b) refl e

numbers_from : (t inner : List ℕ) (from to : ℕ) (r : List ℕ) → t ≡ open_bracket ∷ inner
    → numbers_in inner ≡ Some ((from, to), r) → OneNumber t from to r ⊎ TwoNumbers t from to r
numbers_from t inner from to r h e =
    let behind = after_if is_separator (after_number inner) in
    elim (chosen (is_some (first_if is_separator (after_number inner)))
    (range_in_brackets (word_or 0 (number_in inner)) (word_or 0xFFFFFFFF (number_in behind))
    (after_number behind)) (range_in_brackets (word_or 0 (number_in inner)) (end_after (number_in inner))
    (after_number inner)) (Some ((from, to), r)) e) [
      | inl k ↦
          let s = first_from is_separator (after_number inner) k.0 in
          let b = bracketed_from (word_or 0 (number_in inner)) (word_or 0xFFFFFFFF (number_in behind))
          (after_number behind) from to r k.1 in
          inr record {
            inner = inner;
            first = number_in inner;
            separator = s.0;
            behind = behind;
            second = number_in behind;
            opened = h;
            first_is = (let P : List ℕ → Type 0 = λ x. Number inner (number_in inner) x in subst P s.2 (number inner));
            separates = s.1;
            second_is =
                (let P : List ℕ → Type 0 = λ x. Number behind (number_in behind) x in subst P b.close (number behind));
            from_is = b.from_is;
            to_is = b.to_is;
          }
      | inr k ↦
          let b = bracketed_from (word_or 0 (number_in inner)) (end_after (number_in inner)) (after_number inner)
          from to r k.1 in
          inl record {
            inner = inner;
            number = number_in inner;
            opened = h;
            number_is =
                (let P : List ℕ → Type 0 = λ x. Number inner (number_in inner) x in subst P b.close (number inner));
            from_is = b.from_is;
            to_is = b.to_is;
          }
    ]

stops_at : (q b : ℕ) (v : Bool) → (b == q) ≡ v → is_some (cond v (Some b) None) ≡ false → (b == q) ≡ false
stops_at q b true h e = absurd (false_true (sym e))
stops_at q b false h e = h

stops_from : (q : ℕ) (l : List ℕ) → begins_with q l ≡ false → Stops (is_byte q) l
stops_from q [] e = tt
stops_from q (b ∷ bs) e = stops_at q b (b == q) refl e

pub range_from : (t : List ℕ) (from to : ℕ) (r : List ℕ) → range_in t ≡ Some ((from, to), r) → Range t from to r
unfolding range_in
range_from t from to r e =
    elim (chosen (begins_with open_bracket t) (numbers_in (after_if (is_byte open_bracket) t))
    (Some ((0, 0xFFFFFFFF), t)) (Some ((from, to), r)) e) [
      | inl k ↦ inr (numbers_from t (after_if (is_byte open_bracket) t) from to r (begins_from open_bracket t k.0) k.1)
      | inr k ↦
          let z = some_inj ((0, 0xFFFFFFFF), t) ((from, to), r) k.1 in
          let same : t ≡ r = ap (λ x. x.1) z in
          inl record {
            cut = same;
            stops =
                (let P : List ℕ → Type 0 = λ x. Stops (is_byte open_bracket) x in subst P same
                (stops_from open_bracket t k.0));
            from_is = sym (ap (λ x. x.0.0) z);
            to_is = sym (ap (λ x. x.0.1) z);
          }
    ]

record Toggled (equals : Option ℕ) (prefix : ℕ) (o : Option Bool) (l : List ℕ) (value : ℕ) (r : List ℕ) : Type 0 where
  value_is : Toggles equals prefix value o
  same : l ≡ r

toggled_from : (equals : Option ℕ) (prefix : ℕ) (o : Option Bool) (l : List ℕ) (value : ℕ) (r : List ℕ)
    → value_of_toggle (is_some equals) prefix o l ≡ Some (value, r) → Toggled equals prefix o l value r
toggled_from equals prefix (Some b) l value r e = let k = some_pair _ _ e in record { value_is = sym k.0; same = k.1 }
toggled_from None prefix None l value r e = let k = some_pair _ _ e in record { value_is = (sym k.0, refl); same = k.1 }
toggled_from (Some q) prefix None l value r e = absurd (none_some e)

behind_from : (equals : Option ℕ) (prefix : ℕ) (n : Option ℤ) (t : List ℕ) (value : ℕ) (r : List ℕ)
    → value_behind_number (is_some equals) prefix n t ≡ Some (value, r) → Word equals prefix n t value r
behind_from equals prefix (Some z) t value r e = let k = some_pair _ _ e in (sym k.0, k.1)
behind_from equals prefix None t value r e =
    let at = skip_while is_ascii_whitespace t in
    let k = toggled_from equals prefix (toggle_of (take_while is_ascii_alphabetic at))
    (skip_while is_ascii_alphabetic at) value r e in
    record {
      gap = take_while is_ascii_whitespace t;
      behind_gap = at;
      letters = take_while is_ascii_alphabetic at;
      gap_is = whole is_ascii_whitespace t;
      letters_are =
          (let P : List ℕ → Type 0 = λ x. Whole is_ascii_alphabetic at (take_while is_ascii_alphabetic at) x in
          subst P k.same (whole is_ascii_alphabetic at));
      value_is = k.value_is;
    }

pub setting_from : (prefix : ℕ) (t : List ℕ) (value : ℕ) (r : List ℕ) → setting_in prefix t ≡ Some (value, r)
    → Setting prefix t value r
unfolding setting_in
setting_from prefix t value r e =
    let at = after_if (is_byte equals_sign) t in
    record {
      equals = first_if (is_byte equals_sign) t;
      behind_equals = at;
      number = number_in at;
      behind_digits = after_number at;
      equals_is = optional (is_byte equals_sign) t;
      number_is = number at;
      word_is = behind_from (first_if (is_byte equals_sign) t) prefix (number_in at) (after_number at) value r e;
    }

nil_from : (l : List ℕ) → is_nil l ≡ true → l ≡ []
nil_from [] e = refl
nil_from (b ∷ bs) e = absurd (false_true e)

ends_from : (p : ℕ → Bool) (l : List ℕ) → skip_while p l ≡ [] → Whole p l (take_while p l) []
ends_from p l e = let P : List ℕ → Type 0 = λ x. Whole p l (take_while p l) x in subst P e (whole p l)

abbrev made : ℕ → ℕ × ℕ → ℕ → Feature
made tag range value = record { tag = record { 0 = tag }; value = value; start = range.0; end = range.1 }

cons_nil : {b : ℕ} {bs : List ℕ} → (b ∷ bs) ≡ [] → ⊥
cons_nil h = cc

pub reads_from : (t : List ℕ) (f : Feature) → feature_in t ≡ Some f → ReadsAs t f
unfolding feature_in
reads_from [] f e = absurd (none_some e)
reads_from (c ∷ cs) f e =
    let text : List ℕ = c ∷ cs in
    let prefix : Option ℕ = first_if is_sign text in
    let at_tag : List ℕ = after_if is_sign text in
    option_and_then_some _ (tag_in at_tag) f e (λ tag tag_is e1.
    option_and_then_some _ (range_in (skip_while is_ascii_whitespace tag.1)) f e1 (λ range range_is e2.
    option_and_then_some _ (setting_in (prefix_of prefix) range.1) f e2 (λ value value_is e3.
    let k = cond_some (is_nil (skip_while is_ascii_whitespace value.1)) (made tag.0 range.0 value.0) f e3 in
    let P : Feature → Type 0 = λ x. ReadsAs text x in
    subst P k.1 record {
      some_byte = λ h. cons_nil h;
      prefix = prefix;
      behind_prefix = at_tag;
      behind_tag = tag.1;
      gap = take_while is_ascii_whitespace tag.1;
      behind_gap = skip_while is_ascii_whitespace tag.1;
      behind_range = range.1;
      behind_setting = value.1;
      last = take_while is_ascii_whitespace value.1;
      prefix_is = optional is_sign text;
      tag_is = part_from at_tag tag.0 tag.1 tag_is;
      gap_is = whole is_ascii_whitespace tag.1;
      range_is = range_from (skip_while is_ascii_whitespace tag.1) range.0.0 range.0.1 range.1 range_is;
      setting_is = setting_from (prefix_of prefix) range.1 value.0 value.1 value_is;
      last_is = ends_from is_ascii_whitespace value.1 (nil_from _ k.0);
    })))

-- a text reads as at most one feature
pub reads_as_one : (text : List ℕ) (f g : Feature) → ReadsAs text f → ReadsAs text g → f ≡ g
reads_as_one text f g as_f as_g = some_inj f g (sym (feature_in-reads text f as_f) ∙ feature_in-reads text g as_g)
