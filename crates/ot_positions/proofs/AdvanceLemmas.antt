-- Glyphs of a horizontal line get their advances one after the other.
use Rattle.std.proofs.Common.{◌≡◌, ◌<◌, ◌≤◌, ◌+◌, ℕ, ℤ, Bool, true, false, zero, suc, List, [], ◌∷◌, length, get_or, replicate, refl, sym, ap, subst, ◌∙◌, arith}
use Rattle.std.specs.Prelude.{Option, Some, None, IfSome, ⊤, ◌&&◌, if◌then◌else◌}
use Rattle.std.proofs.lemmas.Bool.{false≢true}
use Rattle.std.specs.Option.{option_map}
use Rattle.rb_glyph.specs.declared.info.hb_glyph_info_t.{hb_glyph_info_t}
use Rattle.rb_glyph.specs.declared.position.GlyphPosition.{GlyphPosition}
use Rattle.shaping_buffer.specs.Positions.{zero_position}
use Rattle.shaping_buffer.specs.State.{State, len}
use Rattle.ot_positions.specs.ChangedAt.{changed_at, position_changed}
use Rattle.ot_positions.specs.FontPositions.{AreAdvanced, IsAdvanced, IsPlaced, glyph_of, is_lone_space}

-- the first n glyphs have theirs
abbrev pub AreAdvancedTo : (ℕ → ℤ → Type 0) → Bool → ℕ → List hb_glyph_info_t → List GlyphPosition → Type 0
AreAdvancedTo may lacks zero gs ps = length ps ≡ length gs
AreAdvancedTo may lacks (suc n) [] [] = ⊤
AreAdvancedTo may lacks (suc n) [] (p ∷ ps) = ⊥
AreAdvancedTo may lacks (suc n) (g ∷ gs) [] = ⊥
AreAdvancedTo may lacks (suc n) (g ∷ gs) (p ∷ ps) = IsPlaced may lacks g p × AreAdvancedTo may lacks n gs ps

-- the font's own advance, and that of a space
pub placed_by : (may : ℕ → ℤ → Type 0) (lacks : Bool) (g : hb_glyph_info_t) (p : GlyphPosition) → IsAdvanced may (glyph_of g) p
    → IsPlaced may lacks g p
placed_by may lacks g p is = record { advance = λ _. is.advance; others = is.others }

pub placed_space : (may : ℕ → ℤ → Type 0) (lacks : Bool) (g : hb_glyph_info_t) (p : GlyphPosition) (x : ℤ)
    → (lacks && is_lone_space g) ≡ true → IsAdvanced may (glyph_of g) p → IsPlaced may lacks g (record p { x_advance = x })
placed_space may lacks g p x lone is = record {
  advance = λ other. absurd (false≢true (sym other ∙ lone));
  others = ap (λ (q : GlyphPosition). record q { x_advance = x }) is.others;
}

module _ (may : ℕ → ℤ → Type 0) (lacks : Bool) where
  length-replicated : (n : ℕ) → length (replicate n zero_position) ≡ n
  length-replicated zero = refl
  length-replicated (suc n) = ap suc (length-replicated n)

  pub advanced_none : (gs : List hb_glyph_info_t) (o : Option (List GlyphPosition))
      → o ≡ Some (replicate (length gs) zero_position) → IfSome o (AreAdvancedTo may lacks 0 gs)
  advanced_none gs o is =
      subst (λ (x : Option (List GlyphPosition)). IfSome x (AreAdvancedTo may lacks 0 gs)) (sym is) (length-replicated (length gs))

  more : (n : ℕ) (gs : List hb_glyph_info_t) (d : hb_glyph_info_t) (ps : List GlyphPosition) (p : GlyphPosition) → n < length gs
      → AreAdvancedTo may lacks n gs ps → IsPlaced may lacks (get_or gs n d) p
      → AreAdvancedTo may lacks (suc n) gs (changed_at (λ _. p) n ps)
  unfolding changed_at
  more n [] d ps p in_range before is = absurd (omega (arith, in_range))
  more zero (g ∷ gs) d [] p in_range before is = absurd (omega (arith, before))
  more zero (g ∷ gs) d (q ∷ ps) p in_range before is = (is, omega (arith, before))
  more (suc n) (g ∷ gs) d [] p in_range before is = absurd before
  more (suc n) (g ∷ gs) d (q ∷ ps) p in_range before is = (before.0, more n gs d ps p (omega (arith, in_range)) before.1 is)

  some_more : (n : ℕ) (gs : List hb_glyph_info_t) (d : hb_glyph_info_t) (o : Option (List GlyphPosition)) (p : GlyphPosition)
      → n < length gs → IfSome o (AreAdvancedTo may lacks n gs) → IsPlaced may lacks (get_or gs n d) p
      → IfSome (option_map (changed_at (λ _. p) n) o) (AreAdvancedTo may lacks (suc n) gs)
  some_more n gs d None p in_range before is = before
  some_more n gs d (Some ps) p in_range before is = more n gs d ps p in_range before is

  -- one more glyph of a buffer has its advance
  pub advanced_more : (n : ℕ) (d : hb_glyph_info_t) (old mid new : State) (p : GlyphPosition) → n < length old.input
      → mid ≡ record old { positions = mid.positions } → new ≡ position_changed (λ _. p) n mid
      → IfSome mid.positions (AreAdvancedTo may lacks n old.input) → IsPlaced may lacks (get_or mid.input n d) p
      → IfSome new.positions (AreAdvancedTo may lacks (n + 1) old.input)
  advanced_more n d old mid new p in_range rest is before advance =
      let next : suc n ≡ n + 1 = omega arith in
      subst (λ (k : ℕ). IfSome new.positions (AreAdvancedTo may lacks k old.input)) next
      (subst (λ (o : Option (List GlyphPosition)). IfSome o (AreAdvancedTo may lacks (suc n) old.input)) (sym (ap (λ (s : State). s.positions) is))
      (some_more n old.input d mid.positions p in_range before
      (subst (λ (gs : List hb_glyph_info_t). IsPlaced may lacks (get_or gs n d) p) (ap (λ (s : State). s.input) rest) advance)))

  all : (n : ℕ) (gs : List hb_glyph_info_t) (ps : List GlyphPosition) → length gs ≤ n → AreAdvancedTo may lacks n gs ps
      → AreAdvanced may lacks gs ps
  unfolding AreAdvanced
  all zero [] [] enough are = tt
  all zero [] (p ∷ ps) enough are = absurd (omega (arith, are))
  all zero (g ∷ gs) ps enough are = absurd (omega (arith, enough))
  all (suc n) [] [] enough are = tt
  all (suc n) [] (p ∷ ps) enough are = are
  all (suc n) (g ∷ gs) [] enough are = are
  all (suc n) (g ∷ gs) (p ∷ ps) enough are = (are.0, all n gs ps (omega (arith, enough)) are.1)

  pub advanced_all : (n : ℕ) (gs : List hb_glyph_info_t) (o : Option (List GlyphPosition)) → length gs ≤ n
      → IfSome o (AreAdvancedTo may lacks n gs) → IfSome o (AreAdvanced may lacks gs)
  advanced_all n gs None enough are = are
  advanced_all n gs (Some ps) enough are = all n gs ps enough are

-- with no output open the list is the input
pub len_closed : (s : State) → s.have_output ≡ false → len s ≡ length s.input
len_closed s closed = ap (λ (b : Bool). if b then s.idx + length s.input else length s.input) closed

-- positions alone have changed, and change again
pub rest_after : (old mid new : State) (o : Option (List GlyphPosition)) → mid ≡ record old { positions = mid.positions }
    → new ≡ record mid { positions = o } → new ≡ record old { positions = new.positions }
rest_after old mid new o before is =
    is ∙ ap (λ (s : State). record s { positions = o }) before
    ∙ ap (λ (p : Option (List GlyphPosition)). record old { positions = p }) (sym (ap (λ (s : State). s.positions) is))

pub ruleset walks = (advanced_none, advanced_all)
