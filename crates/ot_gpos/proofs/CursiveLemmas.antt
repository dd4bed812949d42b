-- Glyphs that are joined: as many positions as before.
use Rattle.std.proofs.Common.{◌≡◌, ℕ, ℤ, List, Some, length, refl, ◌∙◌, ◌&&◌, ltb}
use Rattle.std.proofs.lemmas.Bool.{cond_both}
use Rattle.font_tables.specs.declared.scale.Scale.{Scale}
use Rattle.rb_common.specs.Direction.{is_horizontal}
use Rattle.rb_common.specs.declared.direction.Direction.{Direction}
use Rattle.rb_glyph.specs.declared.position.GlyphPosition.{GlyphPosition}
use Rattle.shaping_buffer.specs.State.{State}
use Rattle.shaping_buffer.specs.Lending.{with_positions}
use Rattle.ot_attachments.specs.Chains.{chain_of, chain_reversed, position_at}
use Rattle.ot_gpos.specs.Cursive.{hung, hung_on, joined, met_along, parted_from}
use Rattle.ot_attachments.specs.Placing.{changed_at, on_positions}
use Rattle.ot_gpos.specs.declared.cursive.Join.{Join}
use Rattle.ot_attachments.proofs.ChainLemmas.{length-chain_reversed}
use Rattle.ot_attachments.proofs.PositionsLemmas.{length_changed_at, with_positions_on}

length-met_along : (join : Join) (d : Direction) (scale : Scale) (ps : List GlyphPosition)
    → length (met_along join d scale ps) ≡ length ps
unfolding met_along
length-met_along join d scale ps = length_changed_at _ join.place _ ∙ length_changed_at _ join.before ps

length-hung_on : (d : Direction) (child parent : ℕ) (x y : ℤ) (ps : List GlyphPosition)
    → length (hung_on d child parent x y ps) ≡ length ps
unfolding hung_on
length-hung_on d child parent x y ps =
    let turned = chain_reversed child (is_horizontal d) parent ps in
    let hanging = changed_at (hung d child parent x y) child turned in
    let same : length turned ≡ length ps = length-chain_reversed child (is_horizontal d) parent ps in
    cond_both (ltb child (length turned)) (changed_at (parted_from d (chain_of (position_at hanging child))) parent hanging) turned
    (λ (l : List GlyphPosition). length l ≡ length ps)
    (λ _. length_changed_at _ parent hanging ∙ length_changed_at _ child turned ∙ same) (λ _. same)

length-joined : (join : Join) (d : Direction) (scale : Scale) (ps : List GlyphPosition)
    → length (joined join d scale ps) ≡ length ps
unfolding joined
length-joined join d scale ps =
    cond_both (ltb join.before (length ps) && ltb join.place (length ps)) _ ps
    (λ (l : List GlyphPosition). length l ≡ length ps)
    (λ _. length-hung_on d _ _ _ _ (met_along join d scale ps) ∙ length-met_along join d scale ps) (λ _. refl)

pub with_positions_joined : (join : Join) (d : Direction) (scale : Scale) (s : State) (ps ws : List GlyphPosition)
    → Some ps ≡ s.positions → ws ≡ joined join d scale ps → with_positions s ws ≡ on_positions (joined join d scale) s
with_positions_joined join d scale s ps ws are is =
    with_positions_on (joined join d scale) s ps ws are is (length-joined join d scale ps)
