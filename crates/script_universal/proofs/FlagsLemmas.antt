-- Why a walk over syllables flags those that a break parts.
use Rattle.std.proofs.Common.{◌≡◌, ℕ, suc, ◌+◌, ◌-◌, ◌<◌, ◌≤◌, Bool, true, false, ◌&&◌, ◌||◌, List, length, Option, Some, nat_le, drop}
use Rattle.std.proofs.Common.{cond, get_or, sym, ap, ◌∙◌, arith, lt-ltb, le-ltb}
use Rattle.std.proofs.lemmas.Bool.{cond-true, cond-false}
use Rattle.std.proofs.lemmas.List.{at_drop_all, at_drop_more}
use Rattle.glyph_lists.specs.Groups.{group_end, share_syllable}
use Rattle.rb_glyph.specs.declared.info.hb_glyph_info_t.{hb_glyph_info_t}
use Rattle.shaping_buffer.specs.State.{State, len}
use Rattle.shaping_buffer.specs.ClusterStep.{unsafe_to_break}
use Rattle.script_syllables.specs.Item.{items_between}
use Rattle.script_universal.specs.Masks.{Test, are_parted, flag_joined, flag_pair, flagged_from, form_before, form_behind}
use Rattle.script_universal.specs.Masks.{in_form, is_one_parted, joined_at}
use Rattle.script_universal.specs.declared.universal.flags.Joined.{Joined}
use Rattle.script_universal.specs.declared.universal.plan.FormMasks.{FormMasks}

-- ---- the glyphs of a syllable

module _ (test : Test) (masks : FormMasks) (form : ℕ) (l : List hb_glyph_info_t) (k : ℕ) (d : hb_glyph_info_t) (in_l : k < length l)
    (r : Bool) (mask : ℕ) (is_mask : mask ≡ in_form masks form (get_or l k d).mask) (is : r ≡ test (get_or l k d) mask)
    (parted : Bool) (rest : is_one_parted test masks form (drop k l) ≡ parted) where
  test-answer : test (get_or l k d) (in_form masks form (get_or l k d).mask) ≡ r
  test-answer = sym (is ∙ ap (test (get_or l k d)) is_mask)

  pub is_one_parted-on : r ≡ false → is_one_parted test masks form (drop (k + 1) l) ≡ parted
  is_one_parted-on fails =
      sym (at_drop_more (is_one_parted test masks form) l k d in_l ∙ cond-false _ _ _ (test-answer ∙ fails)) ∙ rest

  pub found_parted : r ≡ true → true ≡ parted
  found_parted holds = sym (at_drop_more (is_one_parted test masks form) l k d in_l ∙ cond-true _ _ _ (test-answer ∙ holds)) ∙ rest

pub false-parted : (test : Test) (masks : FormMasks) (form : ℕ) (l : List hb_glyph_info_t) (k : ℕ) (parted : Bool) → length l ≤ k
    → is_one_parted test masks form (drop k l) ≡ parted → false ≡ parted
false-parted test masks form l k parted all rest = sym (at_drop_all (is_one_parted test masks form) l k all) ∙ rest

-- ---- two syllables

module _ (test : Test) (masks : FormMasks) (l : List hb_glyph_info_t) (last own : Joined) (before : ℕ) (a : List hb_glyph_info_t)
    (r : Bool) (is_before : before ≡ form_before masks last) (is_a : a ≡ items_between last.start last.end l)
    (is : r ≡ is_one_parted test masks before a) where
  is_one_parted-first : is_one_parted test masks (form_before masks last) (items_between last.start last.end l) ≡ r
  is_one_parted-first =
      sym (is ∙ ap (λ (m : ℕ). is_one_parted test masks m a) is_before
      ∙ ap (is_one_parted test masks (form_before masks last)) is_a)

  abbrev second : Bool
  second = is_one_parted test masks (form_behind masks l own) (items_between own.start own.end l)

  pub first_parted : r ≡ true → true ≡ are_parted test masks l last own
  first_parted holds = sym (ap (λ (b : Bool). b || second) (is_one_parted-first ∙ holds))

  pub second_parted : r ≡ false → (behind : ℕ) (b : List hb_glyph_info_t) (s : Bool) → behind ≡ form_behind masks l own
      → b ≡ items_between own.start own.end l → s ≡ is_one_parted test masks behind b → s ≡ are_parted test masks l last own
  second_parted fails behind b s is_behind is_b is_s =
      is_s ∙ ap (λ (m : ℕ). is_one_parted test masks m b) is_behind
      ∙ ap (is_one_parted test masks (form_behind masks l own)) is_b
      ∙ sym (ap (λ (x : Bool). x || second) (is_one_parted-first ∙ fails))

module _ (test : Test) (masks : FormMasks) (last own : Joined) (s : State) (within : Bool) (count : ℕ) (is_len : count ≡ len s)
    (is : within ≡ (nat_le last.start own.end && nat_le own.end count)) where
  and-within : (nat_le last.start own.end && nat_le own.end (len s)) ≡ within
  and-within = sym (is ∙ ap (λ (n : ℕ). nat_le last.start own.end && nat_le own.end n) is_len)

  pub pair_outside : within ≡ false → s ≡ flag_pair test masks last own s
  pair_outside fails =
      sym (cond-false _ _ _ (ap (λ (b : Bool). b && are_parted test masks s.input last own) (and-within ∙ fails)))

  module _ (yes : within ≡ true) (l : List hb_glyph_info_t) (is_l : l ≡ s.input) (parted : Bool)
      (is_parted : parted ≡ are_parted test masks l last own) where
    and-parted : ((nat_le last.start own.end && nat_le own.end (len s)) && are_parted test masks s.input last own) ≡ parted
    and-parted =
        ap (λ (b : Bool). b && are_parted test masks s.input last own) (and-within ∙ yes)
        ∙ sym (is_parted ∙ ap (λ (x : List hb_glyph_info_t). are_parted test masks x last own) is_l)

    pub pair_kept : parted ≡ false → s ≡ flag_pair test masks last own s
    pair_kept fails = sym (cond-false _ _ _ (and-parted ∙ fails))

    pub unsafe_to_break-pair : parted ≡ true → unsafe_to_break (Some last.start) (Some own.end) s ≡ flag_pair test masks last own s
    unsafe_to_break-pair both = sym (cond-true _ _ _ (and-parted ∙ both))

-- ---- all of them

pub len-closed : (s : State) → s.have_output ≡ false → len s ≡ length s.input
len-closed s closed = ap (λ (b : Bool). cond b (s.idx + length s.input) (length s.input)) closed

module _ (test : Test) (masks : FormMasks) (count turn start : ℕ) (last : Option Joined) (s flagged : State)
    (in_turns : turn < count) (rest : flagged_from test masks (count - turn) start last s ≡ flagged) where
  sub-turns : count - turn ≡ suc (count - (turn + 1))
  sub-turns = omega arith

  pub flagged_from-on : (end : ℕ) (own : Option Joined) (l : List hb_glyph_info_t) (new : State) → start < length s.input
      → end ≡ group_end share_syllable start s.input → l ≡ s.input → own ≡ joined_at l start end last
      → new ≡ flag_joined test masks last own s
      → flagged_from test masks (count - (turn + 1)) end own new ≡ flagged
  flagged_from-on end own l new in_s is_end is_l is_own is_new =
      let own_is : own ≡ joined_at s.input start (group_end share_syllable start s.input) last =
      is_own ∙ ap (λ (x : List hb_glyph_info_t). joined_at x start end last) is_l
      ∙ ap (λ (e : ℕ). joined_at s.input start e last) is_end in
      ap (flagged_from test masks (count - (turn + 1)) end own) is_new
      ∙ ap (λ (e : ℕ). flagged_from test masks (count - (turn + 1)) e own (flag_joined test masks last own s)) is_end
      ∙ ap (λ (o : Option Joined). flagged_from test masks (count - (turn + 1)) (group_end share_syllable start s.input) o
      (flag_joined test masks last o s)) own_is
      ∙ sym (ap (λ (n : ℕ). flagged_from test masks n start last s) sub-turns
      ∙ cond-true _ _ _ (lt-ltb start (length s.input) in_s))
      ∙ rest

  pub flagged_to : length s.input ≤ start → s ≡ flagged
  flagged_to all =
      sym (ap (λ (n : ℕ). flagged_from test masks n start last s) sub-turns
      ∙ cond-false _ _ _ (le-ltb start (length s.input) all))
      ∙ rest

pub flagged_all : (test : Test) (masks : FormMasks) (count turn start : ℕ) (last : Option Joined) (s flagged : State)
    → flagged_from test masks (count - turn) start last s ≡ flagged → count ≤ turn → s ≡ flagged
flagged_all test masks count turn start last s flagged rest all =
    let none : count - turn ≡ 0 = omega (arith, all) in
    sym (ap (λ (n : ℕ). flagged_from test masks n start last s) none) ∙ rest
