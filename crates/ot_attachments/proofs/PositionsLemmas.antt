-- Positions that are written through a reference.
use Rattle.std.proofs.Common.{◌≡◌, ℕ, ◌++◌, List, length, map, take, refl, subst, ap, ◌∙◌, arith}
use Rattle.std.specs.Prelude.{Some, Option, nat_lt}
use Rattle.std.specs.List.{refill}
use Rattle.std.specs.Option.{option_map}
use Rattle.std.proofs.lemmas.Bool.{cond_both}
use Rattle.std.proofs.lemmas.List.{append-nil, drop_all, length-map, length-set, take_all}
use Rattle.rb_glyph.specs.declared.position.GlyphPosition.{GlyphPosition}
use Rattle.shaping_buffer.specs.State.{State}
use Rattle.shaping_buffer.specs.Lending.{with_positions}
use Rattle.ot_attachments.specs.Placing.{changed_at, detached, on_positions}

refilled_whole : (xs ws : List GlyphPosition) → length ws ≡ length xs → refill (length xs) xs ws ≡ ws
refilled_whole xs ws same =
    ap (λ (z : List GlyphPosition). take (length xs) (ws ++ z)) (drop_all (length ws) xs (omega arith))
    ∙ ap (take (length xs)) (append-nil ws) ∙ take_all (length xs) ws (omega arith)

-- all positions are written over
pub with_positions_on : (f : List GlyphPosition → List GlyphPosition) (s : State) (ps ws : List GlyphPosition)
    → Some ps ≡ s.positions → ws ≡ f ps → length (f ps) ≡ length ps → with_positions s ws ≡ on_positions f s
with_positions_on f s ps ws are is same =
    ap (λ (o : Option (List GlyphPosition)). record s { positions = o })
    (subst (λ (o : Option (List GlyphPosition)). option_map (λ l. refill (length l) l ws) o ≡ option_map f o) are
    (ap Some (refilled_whole ps ws (ap length is ∙ same) ∙ is)))

pub length_changed_at : (f : GlyphPosition → GlyphPosition) (place : ℕ) (ps : List GlyphPosition)
    → length (changed_at f place ps) ≡ length ps
unfolding changed_at
length_changed_at f place ps =
    cond_both (nat_lt place (length ps)) _ _ (λ (l : List GlyphPosition). length l ≡ length ps)
    (λ _. length-set ps place _) (λ _. refl)

pub with_positions_changed : (f : GlyphPosition → GlyphPosition) (place : ℕ) (s : State) (ps ws : List GlyphPosition)
    → Some ps ≡ s.positions → ws ≡ changed_at f place ps → with_positions s ws ≡ on_positions (changed_at f place) s
with_positions_changed f place s ps ws are is =
    with_positions_on (changed_at f place) s ps ws are is (length_changed_at f place ps)

pub with_positions_detached : (s : State) (ps ws : List GlyphPosition) → Some ps ≡ s.positions → ws ≡ map detached ps
    → with_positions s ws ≡ on_positions (map detached) s
with_positions_detached s ps ws are is = with_positions_on (map detached) s ps ws are is (length-map ps detached)
