-- Positions that become others glyph by glyph, and those that are written through a reference.
use Rattle.std.proofs.Common.{◌≡◌, ◌<◌, ◌≤◌, ℕ, zero, suc, ◌+◌, Bool, true, false, List, [], ◌∷◌, ◌++◌, length, take, set, get_or, refl, sym, ap, subst, ◌∙◌, arith}
use Rattle.std.specs.Prelude.{Option, Some, None, if◌then◌else◌}
use Rattle.std.specs.List.{refill}
use Rattle.std.specs.Option.{option_map}
use Rattle.std.proofs.lemmas.List.{append-nil, drop_all, take_all}
use Rattle.glyph_lists.specs.Clusters.{zero_glyph}
use Rattle.rb_glyph.specs.declared.info.hb_glyph_info_t.{hb_glyph_info_t}
use Rattle.rb_glyph.specs.declared.position.GlyphPosition.{GlyphPosition}
use Rattle.shaping_buffer.specs.KeepsClusters.{KeepsClusters}
use Rattle.shaping_buffer.specs.Lending.{with_positions}
use Rattle.shaping_buffer.specs.State.{State}
use Rattle.shaping_buffer.proofs.ClosedKeepsLemmas.{keeps_sides}
use Rattle.ot_positions.specs.ChangedAt.{changed_at, position_changed}
use Rattle.ot_positions.specs.Widths.{Change, changed, each_changed, where_glyph}

-- ---- what is written through a reference

refilled_whole : (xs ws : List GlyphPosition) → length ws ≡ length xs → refill (length xs) xs ws ≡ ws
refilled_whole xs ws same =
    ap (λ (z : List GlyphPosition). take (length xs) (ws ++ z)) (drop_all (length ws) xs (omega arith))
    ∙ ap (take (length xs)) (append-nil ws) ∙ take_all (length xs) ws (omega arith)

length-changed_at : (f : GlyphPosition → GlyphPosition) (place : ℕ) (ps : List GlyphPosition)
    → length (changed_at f place ps) ≡ length ps
unfolding changed_at
length-changed_at f place [] = refl
length-changed_at f zero (p ∷ ps) = refl
length-changed_at f (suc place) (p ∷ ps) = ap suc (length-changed_at f place ps)

pub set-changed_at : (f : GlyphPosition → GlyphPosition) (place : ℕ) (ps : List GlyphPosition) (d y : GlyphPosition)
    → place < length ps → y ≡ f (get_or ps place d) → set ps place y ≡ changed_at f place ps
unfolding changed_at
set-changed_at f place [] d y in_range is = absurd (omega (arith, in_range))
set-changed_at f zero (p ∷ ps) d y in_range is = ap (λ x. x ∷ ps) is
set-changed_at f (suc place) (p ∷ ps) d y in_range is =
    ap (λ xs. p ∷ xs) (set-changed_at f place ps d y (omega (arith, in_range)) is)

pub changed_at_none : (f : GlyphPosition → GlyphPosition) (place : ℕ) (ps : List GlyphPosition)
    → length ps ≤ place → changed_at f place ps ≡ ps
unfolding changed_at
changed_at_none f place [] beyond = refl
changed_at_none f zero (p ∷ ps) beyond = absurd (omega (arith, beyond))
changed_at_none f (suc place) (p ∷ ps) beyond = ap (λ xs. p ∷ xs) (changed_at_none f place ps (omega (arith, beyond)))

-- one position is written over
pub with_positions_changed : (f : GlyphPosition → GlyphPosition) (place : ℕ) (s : State) (ps ws : List GlyphPosition)
    → Some ps ≡ s.positions → ws ≡ changed_at f place ps → with_positions s ws ≡ position_changed f place s
with_positions_changed f place s ps ws are is =
    ap (λ (o : Option (List GlyphPosition)). record s { positions = o })
    (subst (λ (o : Option (List GlyphPosition)). option_map (λ l. refill (length l) l ws) o ≡ option_map (changed_at f place) o) are
    (ap Some (refilled_whole ps ws (ap length is ∙ length-changed_at f place ps) ∙ is)))

pub ruleset written = (with_positions_changed)

-- ---- glyph by glyph

-- the positions before a place have become what they are to become
abbrev pub changed_before : Change → ℕ → State → State
changed_before f n s = record s { positions = option_map (each_changed f (take n s.input)) s.positions }

module _ (test : hb_glyph_info_t → Bool) (f : GlyphPosition → GlyphPosition) where
  each_at : (n : ℕ) (gs : List hb_glyph_info_t) (ps : List GlyphPosition) → n < length gs
      → test (get_or gs n zero_glyph) ≡ true
      → changed_at f n (each_changed (where_glyph test f) (take n gs) ps) ≡ each_changed (where_glyph test f) (take (suc n) gs) ps
  unfolding changed_at each_changed
  each_at n [] ps in_range passes = absurd (omega (arith, in_range))
  each_at zero (g ∷ gs) [] in_range passes = refl
  each_at zero (g ∷ gs) (p ∷ ps) in_range passes =
      ap (λ (b : Bool). (if b then f p else p) ∷ ps) (sym passes)
  each_at (suc n) (g ∷ gs) [] in_range passes = refl
  each_at (suc n) (g ∷ gs) (p ∷ ps) in_range passes = ap (λ xs. where_glyph test f g p ∷ xs) (each_at n gs ps (omega (arith, in_range)) passes)

  each_left : (n : ℕ) (gs : List hb_glyph_info_t) (ps : List GlyphPosition) → n < length gs
      → test (get_or gs n zero_glyph) ≡ false
      → each_changed (where_glyph test f) (take n gs) ps ≡ each_changed (where_glyph test f) (take (suc n) gs) ps
  unfolding each_changed
  each_left n [] ps in_range fails = absurd (omega (arith, in_range))
  each_left zero (g ∷ gs) [] in_range fails = refl
  each_left zero (g ∷ gs) (p ∷ ps) in_range fails = ap (λ (b : Bool). (if b then f p else p) ∷ ps) (sym fails)
  each_left (suc n) (g ∷ gs) [] in_range fails = refl
  each_left (suc n) (g ∷ gs) (p ∷ ps) in_range fails = ap (λ xs. where_glyph test f g p ∷ xs) (each_left n gs ps (omega (arith, in_range)) fails)

  pub some_at : (n : ℕ) (gs : List hb_glyph_info_t) (o : Option (List GlyphPosition)) → n < length gs
      → test (get_or gs n zero_glyph) ≡ true
      → option_map (changed_at f n) (option_map (each_changed (where_glyph test f) (take n gs)) o)
      ≡ option_map (each_changed (where_glyph test f) (take (suc n) gs)) o
  some_at n gs None in_range passes = refl
  some_at n gs (Some ps) in_range passes = ap Some (each_at n gs ps in_range passes)

  pub before_at : (n : ℕ) (s : State) → n < length s.input → test (get_or s.input n zero_glyph) ≡ true
      → position_changed f n (changed_before (where_glyph test f) n s) ≡ changed_before (where_glyph test f) (suc n) s
  before_at n s in_range passes =
      ap (λ (o : Option (List GlyphPosition)). record s { positions = o }) (some_at n s.input s.positions in_range passes)

  pub some_left : (n : ℕ) (gs : List hb_glyph_info_t) (o : Option (List GlyphPosition)) → n < length gs
      → test (get_or gs n zero_glyph) ≡ false
      → option_map (each_changed (where_glyph test f) (take n gs)) o
      ≡ option_map (each_changed (where_glyph test f) (take (suc n) gs)) o
  some_left n gs None in_range fails = refl
  some_left n gs (Some ps) in_range fails = ap Some (each_left n gs ps in_range fails)

  pub before_left : (n : ℕ) (s : State) → n < length s.input → test (get_or s.input n zero_glyph) ≡ false
      → changed_before (where_glyph test f) n s ≡ changed_before (where_glyph test f) (suc n) s
  before_left n s in_range fails =
      ap (λ (o : Option (List GlyphPosition)). record s { positions = o }) (some_left n s.input s.positions in_range fails)

pub some_none : (f : Change) (o : Option (List GlyphPosition)) → o ≡ option_map (each_changed f []) o
unfolding each_changed
some_none f None = refl
some_none f (Some ps) = refl

pub before_none : (f : Change) (s : State) → s ≡ changed_before f 0 s
before_none f s = ap (λ (o : Option (List GlyphPosition)). record s { positions = o }) (some_none f s.positions)

pub changed_before-all : (f : Change) (n : ℕ) (s : State) → length s.input ≤ n → changed_before f n s ≡ changed f s
changed_before-all f n s all =
    ap (λ (gs : List hb_glyph_info_t). record s { positions = option_map (each_changed f gs) s.positions }) (take_all n s.input all)

-- positions alone change
pub keeps_positions : (s : State) (o : Option (List GlyphPosition)) → KeepsClusters s (record s { positions = o })
keeps_positions s o = keeps_sides s (record s { positions = o }) refl refl refl

pub ruleset walks = (before_at, before_left, before_none, changed_before-all, keeps_positions)
