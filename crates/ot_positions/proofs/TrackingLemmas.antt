-- Graphemes that are moved apart one after the other.
use Rattle.std.proofs.Common.{◌≡◌, ◌≢◌, ◌<◌, ◌≤◌, ℕ, zero, suc, true, false, List, [], ◌∷◌, length, take, get_or, refl, ap, arith}
use Rattle.std.proofs.lemmas.List.{take_all}
use Rattle.std.specs.Prelude.{Option, not, bit_and, ◌==◌, ◌&&◌}
use Rattle.std.specs.Option.{option_map}
use Rattle.glyph_lists.specs.Clusters.{zero_glyph}
use Rattle.rb_glyph.specs.declared.info.hb_glyph_info_t.{hb_glyph_info_t}
use Rattle.rb_glyph.specs.declared.position.GlyphPosition.{GlyphPosition}
use Rattle.script_items.specs.Graphemes.{is_continuation}
use Rattle.shaping_buffer.specs.State.{State}
use Rattle.ot_positions.specs.ChangedAt.{position_changed}
use Rattle.ot_positions.specs.Tracking.{begun, is_tracked, moved_apart, tracked}
use Rattle.ot_positions.specs.Widths.{each_changed, where_glyph}
use Rattle.ot_positions.specs.declared.tracking.Space.{Space}
use Rattle.ot_positions.proofs.WidthsLemmas.{keeps_positions, some_at, some_left, some_none}

-- ---- which glyphs

get_or-begun : (l : List hb_glyph_info_t) → 0 < length l
    → get_or (begun l) 0 zero_glyph ≡ record (get_or l 0 zero_glyph) { var2 = 0 }
get_or-begun [] some = absurd (omega (arith, some))
get_or-begun (g ∷ l) some = refl

-- the first of a text has a bit of the mask, and any other begins a grapheme, too
pub is_tracked-first : (mask : ℕ) (l : List hb_glyph_info_t) (place : ℕ) → place < length l → place ≡ 0
    → is_tracked mask (get_or (begun l) place zero_glyph) ≡ not (bit_and (get_or l place zero_glyph).mask mask == 0)
unfolding is_tracked
is_tracked-first mask l zero in_range is = ap (is_tracked mask) (get_or-begun l in_range)
is_tracked-first mask l (suc place) in_range is = absurd (omega (arith, is))

pub is_tracked-other : (mask : ℕ) (l : List hb_glyph_info_t) (place : ℕ) → place ≢ 0
    → is_tracked mask (get_or (begun l) place zero_glyph)
    ≡ (not (is_continuation (get_or l place zero_glyph)) && not (bit_and (get_or l place zero_glyph).mask mask == 0))
unfolding is_tracked
is_tracked-other mask l zero other = absurd (other refl)
is_tracked-other mask [] (suc place) other = refl
is_tracked-other mask (g ∷ l) (suc place) other = refl

pub ruleset places = (is_tracked-first, is_tracked-other)

-- ---- one after the other

length-begun : (l : List hb_glyph_info_t) → length (begun l) ≡ length l
length-begun [] = refl
length-begun (g ∷ l) = refl

-- the glyphs before a place were moved
abbrev pub tracked_before : ℕ → Space → ℕ → State → State
tracked_before mask space n s = record s {
  positions = option_map (each_changed (where_glyph (is_tracked mask) (moved_apart space)) (take n (begun s.input))) s.positions;
}

module _ (mask : ℕ) (space : Space) (n : ℕ) (s : State) where
  pub tracked_at : n < length s.input → is_tracked mask (get_or (begun s.input) n zero_glyph) ≡ true
      → position_changed (moved_apart space) n (tracked_before mask space n s) ≡ tracked_before mask space (suc n) s
  tracked_at in_range passes =
      ap (λ (o : Option (List GlyphPosition)). record s { positions = o })
      (some_at (is_tracked mask) (moved_apart space) n (begun s.input) s.positions (omega (arith, in_range, length-begun s.input)) passes)

  pub tracked_left : n < length s.input → is_tracked mask (get_or (begun s.input) n zero_glyph) ≡ false
      → tracked_before mask space n s ≡ tracked_before mask space (suc n) s
  tracked_left in_range fails =
      ap (λ (o : Option (List GlyphPosition)). record s { positions = o })
      (some_left (is_tracked mask) (moved_apart space) n (begun s.input) s.positions (omega (arith, in_range, length-begun s.input)) fails)

  pub tracked_all : length s.input ≤ n → tracked_before mask space n s ≡ tracked mask space s
  tracked_all all =
      ap (λ (gs : List hb_glyph_info_t). record s {
        positions = option_map (each_changed (where_glyph (is_tracked mask) (moved_apart space)) gs) s.positions;
      }) (take_all n (begun s.input) (omega (arith, all, length-begun s.input)))

pub tracked_none : (mask : ℕ) (space : Space) (s : State) → s ≡ tracked_before mask space 0 s
tracked_none mask space s =
    ap (λ (o : Option (List GlyphPosition)). record s { positions = o })
    (some_none (where_glyph (is_tracked mask) (moved_apart space)) s.positions)

pub ruleset walks = (tracked_at, tracked_left, tracked_all, tracked_none, keeps_positions)
