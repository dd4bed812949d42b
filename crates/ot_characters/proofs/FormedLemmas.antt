-- Graphemes, one after the other.
use Rattle.std.proofs.Common.{◌≡◌, ℕ, zero, suc, ◌<◌, ◌≤◌, Bool, length, eqb, bit_and, refl, sym, ap, ◌∙◌}
use Rattle.std.proofs.lemmas.Bool.{cond-true, cond-false, le-ltb, lt-ltb, eq-eqb, ne_eqb}
use Rattle.rb_glyph.specs.declared.scratch.TheConstants.{HB_BUFFER_SCRATCH_FLAG_HAS_NON_ASCII}
use Rattle.glyph_lists.specs.Groups.{group_end}
use Rattle.shaping_buffer.specs.State.{State}
use Rattle.script_items.specs.Graphemes.{is_same_grapheme}
use Rattle.ot_characters.specs.FormedClusters.{grapheme_formed, graphemes_formed, with_clusters}

pub graphemes_formed-done : (merges : Bool) (turns start : ℕ) (s : State) → length s.input ≤ start
    → graphemes_formed merges turns start s ≡ s
graphemes_formed-done merges zero start s past = refl
graphemes_formed-done merges (suc turns) start s past = cond-false _ _ _ (le-ltb start (length s.input) past)

pub graphemes_formed-none : (merges : Bool) (turns start : ℕ) (s : State) → turns ≡ 0 → graphemes_formed merges turns start s ≡ s
graphemes_formed-none merges turns start s none = ap (λ (n : ℕ). graphemes_formed merges n start s) none

pub graphemes_formed-turn : (merges : Bool) (turns others start end : ℕ) (s t : State) → start < length s.input
    → turns ≡ suc others → end ≡ group_end is_same_grapheme start s.input → t ≡ grapheme_formed merges start end s
    → graphemes_formed merges others end t ≡ graphemes_formed merges turns start s
graphemes_formed-turn merges turns others start end s t some more ends is =
    ap (graphemes_formed merges others end) is
    ∙ ap (λ (k : ℕ). graphemes_formed merges others k (grapheme_formed merges start k s)) ends
    ∙ sym (cond-true _ _ _ (lt-ltb start (length s.input) some))
    ∙ sym (ap (λ (k : ℕ). graphemes_formed merges k start s) more)

pub ruleset turns = (graphemes_formed-done, graphemes_formed-none)

module _ (s : State) where
  abbrev ascii_bit : ℕ
  ascii_bit = bit_and s.scratch_flags HB_BUFFER_SCRATCH_FLAG_HAS_NON_ASCII

  pub with_clusters-ascii : ascii_bit ≡ 0 → with_clusters s ≡ s
  unfolding with_clusters
  with_clusters-ascii plain = cond-true _ _ _ (eq-eqb ascii_bit 0 plain)

  pub with_clusters-past : (ascii_bit ≡ 0 → ⊥) → with_clusters s ≡ graphemes_formed (eqb s.cluster_level 0) (length s.input) 0 s
  unfolding with_clusters
  with_clusters-past past = cond-false _ _ _ (ne_eqb ascii_bit 0 past)

pub ruleset texts = (with_clusters-ascii, with_clusters-past)
