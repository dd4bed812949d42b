-- Other forms of characters, in a line and of one character, and what stays beside them.
use Rattle.std.proofs.Common.{◌≡◌, ℕ, Bool, true, false, ◌||◌, List, [], ◌∷◌, Option, Some, None, cond, map, refl, sym, ap, ◌∙◌}
use Rattle.std.proofs.lemmas.Bool.{cond-true, cond-false, false_from_ne_true, or_parts, or_left, or_right, or_from}
use Rattle.std.proofs.lemmas.List.{map-id}
use Rattle.std.proofs.lemmas.Simd.{map-map}
use Rattle.std.specs.List.{list_any}
use lib.Utf8.{scalar}
use Rattle.rb_common.specs.Direction.{is_forward, is_horizontal}
use Rattle.rb_common.specs.declared.direction.Direction.{Direction}
use Rattle.rb_glyph.specs.Characters.{vertical_forms}
use Rattle.rb_glyph.specs.Rows.{value_of}
use Rattle.rb_glyph.specs.declared.info.hb_glyph_info_t.{hb_glyph_info_t}
use Rattle.glyph_lists.specs.Marks.{with_glyph_flags}
use Rattle.ot_map.specs.declared.shape_plan.OtShapePlan.{OtShapePlan}
use Rattle.unicode_tables.specs.Mirrors.{mirror_images}
use Rattle.ot_characters.specs.Rotation.{form_in, may_be_mirrored, mirror_image, vertical_form, if_there, in_form}
use Rattle.ot_characters.specs.Rotation.{mirrored, upright, turned, raised, rotated}

-- ---- the forms of a character

cond-twice : (b : Bool) (o : Option ℕ) → cond b o o ≡ o
cond-twice true o = refl
cond-twice false o = refl

pub mirror_image-never : (rows : List (ℕ × ℕ)) (g : hb_glyph_info_t) → may_be_mirrored g ≡ false
    → mirror_image rows g ≡ None
unfolding mirror_image
mirror_image-never rows g never = cond-false (may_be_mirrored g) (form_in rows g.glyph_id) None never

pub mirror_image-there : (rows : List (ℕ × ℕ)) (g : hb_glyph_info_t) (c : ℕ) → may_be_mirrored g ≡ true
    → scalar g.glyph_id ≡ true → c ≡ g.glyph_id → mirror_image rows g ≡ value_of c rows
unfolding mirror_image
mirror_image-there rows g c may is same =
    cond-true (may_be_mirrored g) (form_in rows g.glyph_id) None may
    ∙ cond-true (scalar g.glyph_id) (value_of g.glyph_id rows) None is
    ∙ ap (λ (k : ℕ). value_of k rows) (sym same)

pub mirror_image-none : (rows : List (ℕ × ℕ)) (g : hb_glyph_info_t) → (scalar g.glyph_id ≡ true → ⊥)
    → mirror_image rows g ≡ None
unfolding mirror_image
mirror_image-none rows g never =
    ap (λ (o : Option ℕ). cond (may_be_mirrored g) o None)
    (cond-false (scalar g.glyph_id) (value_of g.glyph_id rows) None (false_from_ne_true (scalar g.glyph_id) never))
    ∙ cond-twice (may_be_mirrored g) None

pub ruleset images = (mirror_image-never, mirror_image-there, mirror_image-none)

pub vertical_form-there : (g : hb_glyph_info_t) (c : ℕ) → scalar g.glyph_id ≡ true → c ≡ g.glyph_id
    → vertical_form g ≡ value_of c vertical_forms
unfolding vertical_form
vertical_form-there g c is same =
    cond-true (scalar g.glyph_id) (value_of g.glyph_id vertical_forms) None is
    ∙ ap (λ (k : ℕ). value_of k vertical_forms) (sym same)

pub vertical_form-none : (g : hb_glyph_info_t) → (scalar g.glyph_id ≡ true → ⊥) → vertical_form g ≡ None
unfolding vertical_form
vertical_form-none g never =
    cond-false (scalar g.glyph_id) (value_of g.glyph_id vertical_forms) None (false_from_ne_true (scalar g.glyph_id) never)

-- ---- a character in them

module _ (has : ℕ → Bool) (rows : List (ℕ × ℕ)) (rtlm : ℕ) (g : hb_glyph_info_t) where
  pub mirrored-there : (o : Option ℕ) (c : ℕ) → o ≡ mirror_image rows g → Some c ≡ if_there has o
      → mirrored has rows rtlm g ≡ record g { glyph_id = c }
  unfolding mirrored
  mirrored-there o c image there =
      ap (λ (p : Option ℕ). in_form p g (with_glyph_flags rtlm g)) (ap (if_there has) (sym image) ∙ sym there)

  pub mirrored-none : (o : Option ℕ) → o ≡ mirror_image rows g → None ≡ if_there has o
      → mirrored has rows rtlm g ≡ with_glyph_flags rtlm g
  unfolding mirrored
  mirrored-none o image none =
      ap (λ (p : Option ℕ). in_form p g (with_glyph_flags rtlm g)) (ap (if_there has) (sym image) ∙ sym none)

  mirrored-never : may_be_mirrored g ≡ false → mirrored has rows rtlm g ≡ with_glyph_flags rtlm g
  mirrored-never never = mirrored-none None (sym (mirror_image-never rows g never)) refl

module _ (has : ℕ → Bool) (g : hb_glyph_info_t) where
  pub upright-there : (o : Option ℕ) (c : ℕ) → o ≡ vertical_form g → Some c ≡ if_there has o
      → upright has g ≡ record g { glyph_id = c }
  unfolding upright
  upright-there o c form there =
      ap (λ (p : Option ℕ). in_form p g g) (ap (if_there has) (sym form) ∙ sym there)

  pub upright-none : (o : Option ℕ) → o ≡ vertical_form g → None ≡ if_there has o → upright has g ≡ g
  unfolding upright
  upright-none o form none = ap (λ (p : Option ℕ). in_form p g g) (ap (if_there has) (sym form) ∙ sym none)

-- ---- the characters of a line

map-mirrored_features : (has : ℕ → Bool) (rows : List (ℕ × ℕ)) (rtlm : ℕ) (l : List hb_glyph_info_t)
    → list_any may_be_mirrored l ≡ false → map (mirrored has rows rtlm) l ≡ map (with_glyph_flags rtlm) l
map-mirrored_features has rows rtlm [] none = refl
map-mirrored_features has rows rtlm (g ∷ l) none =
    let parts = or_parts (may_be_mirrored g) (list_any may_be_mirrored l) none in
    ap (λ (h : hb_glyph_info_t). h ∷ map (mirrored has rows rtlm) l) (mirrored-never has rows rtlm g parts.0)
    ∙ ap (λ (k : List hb_glyph_info_t). with_glyph_flags rtlm g ∷ k) (map-mirrored_features has rows rtlm l parts.1)

module _ (has : ℕ → Bool) (plan : OtShapePlan) (direction : Direction) (l : List hb_glyph_info_t) where
  pub turned-forward : is_forward direction ≡ true → map (turned has plan direction) l ≡ l
  unfolding turned
  turned-forward forward =
      ap (λ (b : Bool). map (λ (g : hb_glyph_info_t). cond b g (mirrored has mirror_images plan.rtlm_mask g)) l) forward
      ∙ map-id l

  pub turned-backward : is_forward direction ≡ false
      → map (turned has plan direction) l ≡ map (mirrored has mirror_images plan.rtlm_mask) l
  unfolding turned
  turned-backward backward =
      ap (λ (b : Bool). map (λ (g : hb_glyph_info_t). cond b g (mirrored has mirror_images plan.rtlm_mask g)) l) backward

  pub turned-features : is_forward direction ≡ false → list_any may_be_mirrored l ≡ false
      → map (turned has plan direction) l ≡ map (with_glyph_flags plan.rtlm_mask) l
  turned-features backward none = turned-backward backward ∙ map-mirrored_features has mirror_images plan.rtlm_mask l none

  raised-flat : (is_horizontal direction || plan.has_vert) ≡ true → map (raised has plan direction) l ≡ l
  unfolding raised
  raised-flat flat =
      ap (λ (b : Bool). map (λ (g : hb_glyph_info_t). cond b g (upright has g)) l) flat ∙ map-id l

  pub raised-horizontal : is_horizontal direction ≡ true → map (raised has plan direction) l ≡ l
  raised-horizontal horizontal = raised-flat (or_left (is_horizontal direction) plan.has_vert horizontal)

  pub raised-by_font : plan.has_vert ≡ true → map (raised has plan direction) l ≡ l
  raised-by_font font = raised-flat (or_right (is_horizontal direction) plan.has_vert font)

  pub raised-vertical : is_horizontal direction ≡ false → plan.has_vert ≡ false
      → map (raised has plan direction) l ≡ map (upright has) l
  unfolding raised
  raised-vertical vertical none =
      ap (λ (b : Bool). map (λ (g : hb_glyph_info_t). cond b g (upright has g)) l)
      (or_from (is_horizontal direction) plan.has_vert vertical none)

  pub raised-turned : map (raised has plan direction) (map (turned has plan direction) l) ≡ map (rotated has plan direction) l
  unfolding rotated
  raised-turned = map-map (raised has plan direction) (turned has plan direction) l

pub ruleset turns = (
  turned-forward,
  turned-backward,
  turned-features,
  raised-horizontal,
  raised-by_font,
  raised-vertical,
)

-- ---- the cluster of a character stays

in_form-cluster : (o : Option ℕ) (g h : hb_glyph_info_t) → h.cluster ≡ g.cluster → (in_form o g h).cluster ≡ g.cluster
in_form-cluster None g h same = same
in_form-cluster (Some c) g h same = refl

either-cluster : (b : Bool) (g h k : hb_glyph_info_t) → h.cluster ≡ g.cluster → k.cluster ≡ g.cluster
    → (cond b h k).cluster ≡ g.cluster
either-cluster true g h k first second = first
either-cluster false g h k first second = second

with_glyph_flags-cluster : (bits : ℕ) (g : hb_glyph_info_t) → (with_glyph_flags bits g).cluster ≡ g.cluster
unfolding with_glyph_flags
with_glyph_flags-cluster bits g = refl

mirrored-cluster : (has : ℕ → Bool) (rows : List (ℕ × ℕ)) (rtlm : ℕ) (g : hb_glyph_info_t)
    → (mirrored has rows rtlm g).cluster ≡ g.cluster
unfolding mirrored
mirrored-cluster has rows rtlm g =
    in_form-cluster (if_there has (mirror_image rows g)) g (with_glyph_flags rtlm g) (with_glyph_flags-cluster rtlm g)

upright-cluster : (has : ℕ → Bool) (g : hb_glyph_info_t) → (upright has g).cluster ≡ g.cluster
unfolding upright
upright-cluster has g = in_form-cluster (if_there has (vertical_form g)) g g refl

module _ (has : ℕ → Bool) (plan : OtShapePlan) (direction : Direction) (g : hb_glyph_info_t) where
  turned-cluster : (turned has plan direction g).cluster ≡ g.cluster
  unfolding turned
  turned-cluster =
      either-cluster (is_forward direction) g g (mirrored has mirror_images plan.rtlm_mask g) refl
      (mirrored-cluster has mirror_images plan.rtlm_mask g)

  raised-cluster : (raised has plan direction g).cluster ≡ g.cluster
  unfolding raised
  raised-cluster =
      either-cluster (is_horizontal direction || plan.has_vert) g g (upright has g) refl (upright-cluster has g)

pub rotated-cluster : (has : ℕ → Bool) (plan : OtShapePlan) (direction : Direction) (g : hb_glyph_info_t)
    → (rotated has plan direction g).cluster ≡ g.cluster
unfolding rotated
rotated-cluster has plan direction g =
    raised-cluster has plan direction (turned has plan direction g) ∙ turned-cluster has plan direction g
