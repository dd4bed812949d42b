-- Glyph flags at each step: what is unsafe to break stays unsafe to concatenate.
use Rattle.std.proofs.Common.{ℕ, ◌-◌, Bool, List, ◌++◌, length, map, take, drop, cond, refl, subst, eqb}
use Rattle.std.specs.Prelude.{⊤}
use Rattle.std.proofs.lemmas.Bool.{cond_both}
use Rattle.std.proofs.lemmas.List.{take_at, drop_at}
use Rattle.std.proofs.lemmas.List.Elements.{All-append, All-take, All-drop, All-map, All-weaker}
use Rattle.rb_glyph.specs.declared.info.hb_glyph_info_t.{hb_glyph_info_t}
use Rattle.glyph_lists.specs.Parts.{part}
use Rattle.glyph_lists.specs.Marks.{with_glyph_flags}
use Rattle.glyph_lists.specs.Scans.{scan_least, part_scan, two_part_scan}
use Rattle.glyph_lists.specs.GlyphFlags.{BreakImpliesConcat, FlagsAgree}
use Rattle.shaping_buffer.specs.Step.{with_id}
use Rattle.glyph_laws.proofs.GlyphFlagsLemmas.{deletion_keeps_flags, merge_or_mark_keeps_flags, mark_others_keeps_flags}
use Rattle.glyph_laws.proofs.GlyphFlagsLemmas.{mark_part_keeps_flags, marked_keep_flags, new_part_keeps_flags}
use Rattle.glyph_laws.proofs.ReplacementLemmas.{replaced_keeps_flags}
use Rattle.shaping_buffer.proofs.Steps.{StepsKeep}

abbrev Agrees : hb_glyph_info_t → Type 0
Agrees g = BreakImpliesConcat g.mask

-- of both sides, each by itself
left_agrees : (out input : List hb_glyph_info_t) → FlagsAgree (out ++ input) → FlagsAgree out
left_agrees out input h =
    subst FlagsAgree (take_at out input (length out) refl) (All-take Agrees (length out) (out ++ input) h)

right_agrees : (out input : List hb_glyph_info_t) → FlagsAgree (out ++ input) → FlagsAgree input
right_agrees out input h =
    subst FlagsAgree (drop_at out input (length out) refl) (All-drop Agrees (length out) (out ++ input) h)

part_agrees : (l : List hb_glyph_info_t) (p q : ℕ) → FlagsAgree l → FlagsAgree (part l p q)
part_agrees l p q h = All-take Agrees (q - p) (drop p l) (All-drop Agrees p l h)

-- under other ids
renamed_agree : (id : ℕ) (l : List hb_glyph_info_t) → FlagsAgree l → FlagsAgree (map (with_id id) l)
renamed_agree id l h = All-map Agrees (with_id id) l (All-weaker Agrees (λ g. Agrees (with_id id g)) (λ g old. old) l h)

-- ---- marks

module _ (bits : ℕ) (safe : BreakImpliesConcat bits) where
  part_scan_agrees : (any_order : Bool) (m : ℕ) (r : List hb_glyph_info_t) → FlagsAgree r
      → FlagsAgree (part_scan any_order bits m r)
  part_scan_agrees any_order m r h = cond_both any_order _ _ FlagsAgree (λ _. mark_others_keeps_flags bits safe m r h)
      (λ _. mark_part_keeps_flags bits safe m r h)

  two_part_scan_agrees : (any_order : Bool) (k : ℕ) (r : List hb_glyph_info_t) → FlagsAgree r
      → FlagsAgree (two_part_scan any_order bits k r)
  unfolding two_part_scan
  two_part_scan_agrees any_order k r h =
      let m = scan_least any_order (take k r) (drop k r) in
      All-append Agrees (part_scan any_order bits m (take k r)) (part_scan any_order bits m (drop k r))
      (part_scan_agrees any_order m (take k r) (All-take Agrees k r h))
      (part_scan_agrees any_order m (drop k r) (All-drop Agrees k r h))

-- ---- the steps

pub flags_steps : StepsKeep FlagsAgree (λ _. ⊤)
flags_steps = record {
  keeping = record {
    lowest = tt;
    renamed = λ id out input h.
        All-append Agrees (out ++ map (with_id id) (take 1 input)) (drop 1 input)
        (All-append Agrees out (map (with_id id) (take 1 input)) (left_agrees out input h)
        (renamed_agree id (take 1 input) (All-take Agrees 1 input (right_agrees out input h))))
        (All-drop Agrees 1 input (right_agrees out input h));
    copied = λ id out input h.
        let model = cond (eqb (length input) 0) (drop (length out - 1) out) (take 1 input) in
        All-append Agrees (out ++ map (with_id id) model) input
        (All-append Agrees out (map (with_id id) model) (left_agrees out input h)
        (renamed_agree id model (cond_both (eqb (length input) 0) _ _ FlagsAgree
        (λ _. All-drop Agrees (length out - 1) out (left_agrees out input h))
        (λ _. All-take Agrees 1 input (right_agrees out input h)))))
        (right_agrees out input h);
    doubled = λ out input h.
        All-append Agrees (out ++ take 1 input) input
        (All-append Agrees out (take 1 input) (left_agrees out input h)
        (All-take Agrees 1 input (right_agrees out input h)))
        (right_agrees out input h);
    after_merge = λ any_order l p q floor _ in_l h. merge_or_mark_keeps_flags any_order l p q floor h;
    after_scan = λ any_order bits k safe l p q up h.
        new_part_keeps_flags l (two_part_scan any_order bits k (part l p q)) p q h
        (two_part_scan_agrees bits safe any_order k (part l p q) (part_agrees l p q h));
    after_mark = λ bits safe l p q up h.
        new_part_keeps_flags l (map (with_glyph_flags bits) (part l p q)) p q h
        (marked_keep_flags bits safe (part l p q) (part_agrees l p q h));
  };
  cleared = right_agrees;
  dropped = λ out input h. All-append Agrees out (drop 1 input) (left_agrees out input h)
      (All-drop Agrees 1 input (right_agrees out input h));
  after_replacement = replaced_keeps_flags;
  after_deletion = deletion_keeps_flags;
}
