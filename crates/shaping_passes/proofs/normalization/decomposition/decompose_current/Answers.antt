-- The character stays whole, or is taken into parts, or no parts of it are found: a case of its decomposition each. What is
-- put out, by `next_glyph` or by a replacement of one glyph, is copies of the character with these numbers.
use Rattle.std.proofs.Common.{◌≡◌, [], length, take, sym, ap, ◌∙◌, arith, subst}
use Rattle.std.proofs.lemmas.List.{take_all}
use Rattle.std.specs.Prelude.{is_some, unwrap_or, ◌&&◌, true, false}
use Rattle.glyph_lists.specs.Replacement.{copies}
use Rattle.shaping_buffer.specs.ClusterStep.{head_of}
use Rattle.shaping_buffer.specs.Step.{Outcome, Meets, put_out, skip_glyph, replace_glyphs}
use Rattle.shaping_passes.specs.NormalizationDecomposition.{decomposition_with, parts_with, most_steps}
use Rattle.shaping_passes.proofs.NormalizationCharacterLemmas.{stays_whole, keeps_whole, gives_way}
use Rattle.shaping_passes.proofs.NormalizationDecompositionLemmas.{next_glyph-put_out}
use Rattle.shaping_passes.proofs.NormalizationDecompositionLemmas.{replace_glyphs-one, left, head_is}
use Rattle.shaping_passes.proofs.normalization.decomposition.decompose_current.Goals as goal

pub returns-then-stays : goal.returns-then-stays
returns-then-stays g c =
    let s = c.args.buffer.now in
    let font = g.F.FontCharacters.font c.args.font.now in
    let id = (head_of s).glyph_id in
    let head = head_is s c.cur.result.now c.requires.opened c.requires.some c.cur.ensures in
    let stays : (font.fewest && font.has id) ≡ true =
    ap (λ g. font.fewest && font.has g.glyph_id) (sym head) ∙ sym c.stays.ensures ∙ c.if-stays.true in
    let P : Outcome → Type 0 = λ o. Meets o s c.next_glyph.result c.next_glyph.new.self in
    subst P
    (next_glyph-put_out s c.requires.opened (left s c.requires.opened c.requires.some)
    ∙ ap (λ ids. put_out (copies (head_of s) ids) s (skip_glyph s)) (sym (stays_whole font id stays)))
    c.next_glyph.ensures.meets

pub returns-then-add_font_parts : goal.returns-then-add_font_parts
returns-then-add_font_parts g c =
    let s = c.args.buffer.now in
    let font = g.F.FontCharacters.font c.args.font.now in
    let id = (head_of s).glyph_id in
    let head = head_is s c.cur.result.now c.requires.opened c.requires.some c.cur.ensures in
    let goes : (font.fewest && font.has id) ≡ false =
    ap (λ g. font.fewest && font.has g.glyph_id) (sym head) ∙ sym c.stays.ensures ∙ c.if-stays.false in
    let found : is_some (parts_with font most_steps id) ≡ true =
    ap (λ g. is_some (parts_with font most_steps g.glyph_id)) (sym head) ∙ sym c.add_font_parts.ensures.found
    ∙ c.if-add_font_parts.true in
    let same = c.deref.ensures.0 in
    let ids : take c.len.result c.deref.result.now ≡ decomposition_with font id =
    take_all c.len.result c.deref.result.now (omega (arith, ap length same, c.len.ensures.value)) ∙ same
    ∙ c.add_font_parts.ensures.parts ∙ ap (λ g. unwrap_or (parts_with font most_steps g.glyph_id) []) head
    ∙ sym (gives_way font id goes found) in
    let P : Outcome → Type 0 = λ o. Meets o s c.replace_glyphs.result c.replace_glyphs.new.self in
    subst P
    (ap (λ l. replace_glyphs 1 l s) ids
    ∙ replace_glyphs-one (decomposition_with font id) s c.requires.opened (left s c.requires.opened c.requires.some))
    c.replace_glyphs.ensures.meets

pub returns-else-add_font_parts : goal.returns-else-add_font_parts
returns-else-add_font_parts g c =
    let s = c.args.buffer.now in
    let font = g.F.FontCharacters.font c.args.font.now in
    let id = (head_of s).glyph_id in
    let head = head_is s c.cur.result.now c.requires.opened c.requires.some c.cur.ensures in
    let goes : (font.fewest && font.has id) ≡ false =
    ap (λ g. font.fewest && font.has g.glyph_id) (sym head) ∙ sym c.stays.ensures ∙ c.if-stays.false in
    let none : is_some (parts_with font most_steps id) ≡ false =
    ap (λ g. is_some (parts_with font most_steps g.glyph_id)) (sym head) ∙ sym c.add_font_parts.ensures.found
    ∙ c.if-add_font_parts.false in
    let P : Outcome → Type 0 = λ o. Meets o s c.next_glyph-else-add_font_parts.result
    c.next_glyph-else-add_font_parts.new.self in
    subst P
    (next_glyph-put_out s c.requires.opened (left s c.requires.opened c.requires.some)
    ∙ ap (λ ids. put_out (copies (head_of s) ids) s (skip_glyph s)) (sym (keeps_whole font id goes none)))
    c.next_glyph-else-add_font_parts.ensures.meets
