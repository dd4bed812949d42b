-- Characters that get their properties one after the other, and those that were met before.
use Rattle.std.proofs.Common.{◌≡◌, ℕ, zero, suc, ◌+◌, ◌-◌, ◌%◌, ◌<◌, ◌≤◌, Bool, true, false, List, [], ◌∷◌, ◌++◌, length, take, drop, set, get_or}
use Rattle.std.proofs.Common.{bit_or, cond, inl, inr, max, nat_lt, replicate, refl, sym, ap, subst, ◌∙◌, arith}
use Rattle.std.proofs.lemmas.Bool.{cases_eq, cond_both}
use Rattle.std.proofs.lemmas.List.{append-nil, drop_all, get_or-replicate, get_or-set_other, get_or-set_same, set-set, take_all}
use Rattle.std.proofs.lemmas.List.Sums.{fold_more}
use Rattle.std.proofs.lemmas.Nat.{or_comm}
use Rattle.std.proofs.lemmas.Nat.Bits.{bit_at_or, same_from_bits}
use Rattle.std.specs.Int.{bit_at}
use Rattle.std.specs.Prelude.{Option, Some, None}
use lib.Utf8.{scalar}
use Rattle.rb_glyph.specs.Fields.{field}
use Rattle.rb_glyph.specs.UnicodeProps.{ignorable_scratch}
use Rattle.rb_glyph.specs.declared.info.hb_glyph_info_t.{hb_glyph_info_t}
use Rattle.rb_glyph.specs.declared.scratch.TheConstants.{HB_BUFFER_SCRATCH_FLAG_HAS_NON_ASCII}
use Rattle.rb_glyph.proofs.FieldLemmas.{field_set}
use Rattle.glyph_lists.specs.Clusters.{clusters, zero_glyph}
use Rattle.shaping_buffer.specs.KeepsClusters.{KeepsClusters}
use Rattle.shaping_buffer.specs.Lending.{with_input}
use Rattle.shaping_buffer.specs.State.{State}
use Rattle.shaping_buffer.proofs.ClosedKeepsLemmas.{keeps_with_input}
use Rattle.script_items.specs.Properties.{properties_of, remembered, with_properties}
use Rattle.script_items.proofs.PropertiesLemmas.{properties_of-lt}
use Rattle.ot_characters.proofs.MappedLemmas.{with_input-written}
use Rattle.ot_characters.specs.Properties.{AreMet, all_remembered, before, characters_behind, goes_on, in_grapheme, is_there}

-- ---- the character before a place

module _ (test : hb_glyph_info_t → Bool) (l : List hb_glyph_info_t) where
  pub is_there_first : (i : ℕ) → i ≤ 0 → is_there test (before None i l) ≡ false
  is_there_first zero none = refl
  is_there_first (suc i) none = absurd (omega (arith, none))

  pub is_there_behind : (i : ℕ) → 0 < i → is_there test (before None i l) ≡ test (get_or l (i - 1) zero_glyph)
  is_there_behind zero some = absurd (omega (arith, some))
  is_there_behind (suc i) some = let place : i ≡ suc i - 1 = omega arith in ap (λ (k : ℕ). test (get_or l k zero_glyph)) place

pub ruleset places = (is_there_first, is_there_behind)

before-cons : (first : Option hb_glyph_info_t) (g : hb_glyph_info_t) (i : ℕ) (l : List hb_glyph_info_t)
    → before first (suc i) (g ∷ l) ≡ before (Some g) i l
before-cons first g zero l = refl
before-cons first g (suc i) l = refl

before-set : (first : Option hb_glyph_info_t) (i : ℕ) (l : List hb_glyph_info_t) (g : hb_glyph_info_t)
    → before first i (set l i g) ≡ before first i l
before-set first zero l g = refl
before-set first (suc i) l g = ap Some (get_or-set_other l (suc i) i g zero_glyph (λ same. omega (arith, same)))

-- ---- one after the other

-- those before a place have their properties
abbrev pub set_before : Option hb_glyph_info_t → ℕ → List hb_glyph_info_t → List hb_glyph_info_t
set_before behind i l = take i (characters_behind behind l) ++ drop i l

-- the character at the place is as it was
get_or-set_before : (behind : Option hb_glyph_info_t) (i : ℕ) (l : List hb_glyph_info_t)
    → get_or (set_before behind i l) i zero_glyph ≡ get_or l i zero_glyph
unfolding characters_behind
get_or-set_before behind zero l = refl
get_or-set_before behind (suc i) [] = refl
get_or-set_before behind (suc i) (g ∷ l) = get_or-set_before (Some (in_grapheme behind (with_properties g))) i l

-- and gets its own
set_before-more : (behind : Option hb_glyph_info_t) (i : ℕ) (l : List hb_glyph_info_t) → i < length l
    → set (set_before behind i l) i
    (in_grapheme (before behind i (set_before behind i l)) (with_properties (get_or (set_before behind i l) i zero_glyph)))
    ≡ set_before behind (suc i) l
unfolding characters_behind
set_before-more behind i [] in_range = absurd (omega (arith, in_range))
set_before-more behind zero (g ∷ l) in_range = refl
set_before-more behind (suc i) (g ∷ l) in_range =
    let h = in_grapheme behind (with_properties g) in
    let rest = set_before (Some h) i l in
    ap (λ (k : List hb_glyph_info_t). h ∷ k)
    (ap (λ (o : Option hb_glyph_info_t). set rest i (in_grapheme o (with_properties (get_or rest i zero_glyph)))) (before-cons behind h i rest)
    ∙ set_before-more (Some h) i l (omega (arith, in_range)))

-- a list in which it got its properties, and then was joined to its grapheme
pub characters_more : (i : ℕ) (old now new : List hb_glyph_info_t) (g : hb_glyph_info_t) → i < length old → i < length now
    → now ≡ set_before None i old → g ≡ with_properties (get_or now i zero_glyph)
    → new ≡ set (set now i g) i (in_grapheme (before None i (set now i g)) (get_or (set now i g) i zero_glyph))
    → new ≡ set_before None (i + 1) old
characters_more i old now new g in_old in_now before_is has is =
    let next : suc i ≡ i + 1 = omega arith in
    is
    ∙ set-set now i g (in_grapheme (before None i (set now i g)) (get_or (set now i g) i zero_glyph))
    ∙ ap (λ (o : Option hb_glyph_info_t). set now i (in_grapheme o (get_or (set now i g) i zero_glyph))) (before-set None i now g)
    ∙ ap (λ (h : hb_glyph_info_t). set now i (in_grapheme (before None i now) h)) (get_or-set_same now i g zero_glyph in_now ∙ has)
    ∙ ap (λ (l : List hb_glyph_info_t). set l i (in_grapheme (before None i l) (with_properties (get_or l i zero_glyph)))) before_is
    ∙ set_before-more None i old in_old
    ∙ ap (λ (k : ℕ). set_before None k old) next

length-characters : (behind : Option hb_glyph_info_t) (l : List hb_glyph_info_t) → length (characters_behind behind l) ≡ length l
unfolding characters_behind
length-characters behind [] = refl
length-characters behind (g ∷ l) = ap suc (length-characters (Some (in_grapheme behind (with_properties g))) l)

pub set_before-all : (i : ℕ) (l : List hb_glyph_info_t) → length l ≤ i → set_before None i l ≡ characters_behind None l
set_before-all i l all =
    ap (λ (k : List hb_glyph_info_t). k ++ drop i l) (take_all i (characters_behind None l) (omega (arith, all, length-characters None l)))
    ∙ ap (λ (k : List hb_glyph_info_t). characters_behind None l ++ k) (drop_all i l all)
    ∙ append-nil (characters_behind None l)

-- what is remembered of one more
pub remembered_more : (i : ℕ) (old now : List hb_glyph_info_t) (first flags new : ℕ) → i < length old
    → now ≡ set_before None i old → flags ≡ all_remembered (take i old) first
    → new ≡ remembered (get_or now i zero_glyph).glyph_id flags
    → new ≡ all_remembered (take (i + 1) old) first
remembered_more i old now first flags new in_old before_is so_far is =
    is
    ∙ ap (λ (g : hb_glyph_info_t). remembered g.glyph_id flags)
    (ap (λ (l : List hb_glyph_info_t). get_or l i zero_glyph) before_is ∙ get_or-set_before None i old)
    ∙ ap (remembered (get_or old i zero_glyph).glyph_id) so_far
    ∙ sym (fold_more (λ (f : ℕ) (g : hb_glyph_info_t). remembered g.glyph_id f) first old i zero_glyph in_old)

pub all_remembered-all : (i : ℕ) (l : List hb_glyph_info_t) (flags : ℕ) → length l ≤ i
    → all_remembered (take i l) flags ≡ all_remembered l flags
all_remembered-all i l flags all = ap (λ (k : List hb_glyph_info_t). all_remembered k flags) (take_all i l all)

pub ruleset walks = (set_before-all, all_remembered-all)

-- ---- clusters stay

in_grapheme-cluster : (behind : Option hb_glyph_info_t) (g : hb_glyph_info_t) → (in_grapheme behind g).cluster ≡ g.cluster
in_grapheme-cluster behind g =
    cond_both (goes_on behind g) _ _ (λ (h : hb_glyph_info_t). h.cluster ≡ g.cluster) (λ _. refl) (λ _. refl)

clusters-characters : (behind : Option hb_glyph_info_t) (l : List hb_glyph_info_t) → clusters (characters_behind behind l) ≡ clusters l
unfolding characters_behind
clusters-characters behind [] = refl
clusters-characters behind (g ∷ l) =
    ap (λ (c : ℕ). c ∷ clusters (characters_behind (Some (in_grapheme behind (with_properties g))) l))
    (in_grapheme-cluster behind (with_properties g))
    ∙ ap (λ (k : List ℕ). g.cluster ∷ k) (clusters-characters (Some (in_grapheme behind (with_properties g))) l)

-- ---- and characters that are written through a reference

module _ (s : State) (gs now : List hb_glyph_info_t) (was : now ≡ s.input) (is : gs ≡ characters_behind None now) where
  pub characters_input : with_input s gs ≡ record s { input = characters_behind None s.input }
  characters_input =
      with_input-written s gs (characters_behind None s.input) (is ∙ ap (characters_behind None) was) (length-characters None s.input)

  pub keeps_characters : KeepsClusters s (with_input s gs)
  keeps_characters = keeps_with_input s gs now was (ap clusters is ∙ clusters-characters None now)

-- ---- what is remembered of a text

max_swap : (a b c : ℕ) → max (max a b) c ≡ max (max a c) b
max_swap a b c = omega arith

max_twice : (a b : ℕ) → max (max a b) b ≡ max a b
max_twice a b = omega arith

bit_at_or_or : (a b c i : ℕ) → bit_at (bit_or (bit_or a b) c) i ≡ max (max (bit_at a i) (bit_at b i)) (bit_at c i)
bit_at_or_or a b c i = bit_at_or (bit_or a b) c i ∙ ap (λ (x : ℕ). max x (bit_at c i)) (bit_at_or a b i)

bit_or_swap : (a b c : ℕ) → bit_or (bit_or a b) c ≡ bit_or (bit_or a c) b
bit_or_swap a b c =
    same_from_bits (bit_or (bit_or a b) c) (bit_or (bit_or a c) b)
    (λ i. bit_at_or_or a b c i ∙ max_swap (bit_at a i) (bit_at b i) (bit_at c i) ∙ sym (bit_at_or_or a c b i))

bit_or_twice : (a b : ℕ) → bit_or (bit_or a b) b ≡ bit_or a b
bit_or_twice a b =
    same_from_bits (bit_or (bit_or a b) b) (bit_or a b)
    (λ i. bit_at_or_or a b b i ∙ max_twice (bit_at a i) (bit_at b i) ∙ sym (bit_at_or a b i))

-- the flags that a character adds
abbrev added : ℕ → ℕ
added c =
    cond (scalar c) (cond (nat_lt c 0x80) 0 (bit_or HB_BUFFER_SCRATCH_FLAG_HAS_NON_ASCII (ignorable_scratch c))) 0

cond-added : (a b : Bool) (flags more : ℕ)
    → cond a (cond b flags (bit_or flags more)) flags ≡ bit_or flags (cond a (cond b 0 more) 0)
cond-added true true flags more = or_comm 0 flags
cond-added true false flags more = refl
cond-added false b flags more = or_comm 0 flags

remembered-added : (c flags : ℕ) → remembered c flags ≡ bit_or flags (added c)
unfolding remembered
remembered-added c flags =
    cond-added (scalar c) (nat_lt c 0x80) flags (bit_or HB_BUFFER_SCRATCH_FLAG_HAS_NON_ASCII (ignorable_scratch c))

remembered-twice : (c flags : ℕ) → remembered c (remembered c flags) ≡ remembered c flags
remembered-twice c flags =
    remembered-added c (remembered c flags) ∙ ap (λ (f : ℕ). bit_or f (added c)) (remembered-added c flags)
    ∙ bit_or_twice flags (added c) ∙ sym (remembered-added c flags)

remembered-kept : (c d flags : ℕ) → remembered d flags ≡ flags → remembered d (remembered c flags) ≡ remembered c flags
remembered-kept c d flags kept =
    remembered-added d (remembered c flags) ∙ ap (λ (f : ℕ). bit_or f (added d)) (remembered-added c flags)
    ∙ bit_or_swap flags (added c) (added d)
    ∙ ap (λ (f : ℕ). bit_or f (added c)) (sym (remembered-added d flags) ∙ kept)
    ∙ sym (remembered-added c flags)

-- ---- characters that were met

-- no number is found where none was met: 0 is looked for where 1 stands
met_nowhere : (c place : ℕ) → place < 64 → c % 64 ≡ place
    → (get_or {A = ℕ × ℕ} (set (replicate 64 (0, 0)) 0 (1, 0)) place (0, 0)).0 ≡ c → ⊥
met_nowhere c zero below at is = let one : 1 ≡ c = is in omega (arith, at, one)
met_nowhere c (suc place) below at is =
    let zeros : List (ℕ × ℕ) = replicate 64 (0, 0) in
    let there : get_or (set zeros 0 (1, 0)) (suc place) (0, 0) ≡ (0, 0) =
    get_or-set_other zeros 0 (suc place) (1, 0) (0, 0) (λ same. omega (arith, same))
    ∙ get_or-replicate 64 (suc place) (0, 0) (0, 0) below in
    let zero_is : 0 ≡ c = sym (ap (λ (row : ℕ × ℕ). row.0) there) ∙ is in
    omega (arith, at, zero_is)

pub met_none : (flags : ℕ) → AreMet (set (replicate 64 (0, 0)) 0 (1, 0)) flags
met_none flags c is = let at : c % 64 < 64 = omega arith in absurd (met_nowhere c (c % 64) at refl is)

-- the word of one that has its properties
pub word_of : (g h : hb_glyph_info_t) (word : ℕ) → h ≡ with_properties g → word ≡ field h.var2 0 16 → word ≡ properties_of g.glyph_id
word_of g h word has is =
    is ∙ ap (λ (k : hb_glyph_info_t). field k.var2 0 16) has
    ∙ field_set g.var2 0 16 (properties_of g.glyph_id) (properties_of-lt g.glyph_id)

-- another one is met
pub met_more : (known : List (ℕ × ℕ)) (c word flags new : ℕ) → length known ≡ 64 → AreMet known flags → word ≡ properties_of c
    → new ≡ remembered c flags → AreMet (set known (c % 64) (c, word)) new
met_more known c word flags new long met has read d is =
    let in_range : c % 64 < length known = omega (arith, long) in
    let at = λ (n : ℕ). get_or (set known (c % 64) (c, word)) n (0, 0) in
    subst (λ (f : ℕ). ((at (d % 64)).1 ≡ properties_of d) × (remembered d f ≡ f)) (sym read)
    (elim (cases_eq (d % 64) (c % 64)) [
      | inl same ↦
          let row : at (d % 64) ≡ (c, word) = ap at same ∙ get_or-set_same known (c % 64) (c, word) (0, 0) in_range in
          let one : c ≡ d = sym (ap (λ (r : ℕ × ℕ). r.0) row) ∙ is in (
            ap (λ (r : ℕ × ℕ). r.1) row ∙ has ∙ ap properties_of one,
            ap (λ (n : ℕ). remembered n (remembered c flags)) (sym one) ∙ remembered-twice c flags,
          )
      | inr other ↦
          let row : at (d % 64) ≡ get_or known (d % 64) (0, 0) =
          get_or-set_other known (c % 64) (d % 64) (c, word) (0, 0) other in
          let old = met d (sym (ap (λ (r : ℕ × ℕ). r.0) row) ∙ is) in
          (ap (λ (r : ℕ × ℕ). r.1) row ∙ old.0, remembered-kept c d flags old.1)
    ])
