-- Chains that are turned: as many positions as before.
use Rattle.std.proofs.Common.{◌≡◌, ℕ, zero, suc, Bool, List, Option, Some, None, length, refl, ◌∙◌, eqb, pos}
use Rattle.std.specs.Option.{option_map_or}
use Rattle.std.proofs.lemmas.Bool.{cond_both}
use Rattle.rb_glyph.specs.declared.position.GlyphPosition.{GlyphPosition}
use Rattle.ot_attachments.specs.Chains.{chain_of, chain_reversed, link_at, links_turned, place_behind, turned_by, with_chain}
use Rattle.ot_attachments.specs.Placing.{changed_at}
use Rattle.ot_attachments.specs.declared.chains.Link.{Link}
use Rattle.ot_attachments.proofs.PositionsLemmas.{length_changed_at}

option_length : {X : Type 0} (o : Option X) (f : X → List GlyphPosition) (d : List GlyphPosition) (n : ℕ)
    → ((x : X) → length (f x) ≡ n) → length d ≡ n → length (option_map_or f o d) ≡ n
option_length None f d n each none = none
option_length (Some x) f d n each none = each x

length-links_turned : (steps : ℕ) (h : Bool) (parent : ℕ) (link : Link) (ps : List GlyphPosition)
    → length (links_turned steps h parent link ps) ≡ length ps
length-links_turned zero h parent link ps = refl
length-links_turned (suc steps) h parent link ps =
    option_length (place_behind link.place (chain_of link.position) (length ps)) _ ps (length ps)
    (λ place. cond_both (eqb place parent) ps _ (λ (l : List GlyphPosition). length l ≡ length ps) (λ _. refl)
    (λ _.
    let turned = changed_at (turned_by h link.position) place ps in
    let same : length turned ≡ length ps = length_changed_at (turned_by h link.position) place ps in
    option_length (link_at ps place) (λ next. links_turned steps h parent next turned) turned (length ps)
    (λ next. length-links_turned steps h parent next turned ∙ same) same)) refl

pub length-chain_reversed : (child : ℕ) (h : Bool) (parent : ℕ) (ps : List GlyphPosition)
    → length (chain_reversed child h parent ps) ≡ length ps
unfolding chain_reversed
length-chain_reversed child h parent ps =
    option_length (link_at ps child) _ ps (length ps)
    (λ link. length-links_turned (length ps) h parent link _ ∙ length_changed_at (with_chain (pos 0)) child ps) refl
