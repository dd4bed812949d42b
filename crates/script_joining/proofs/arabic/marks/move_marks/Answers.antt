use Rattle.std.proofs.Common.{◌≡◌, ℕ, ◌+◌, ◌-◌, List, ap, ◌∙◌}
use Rattle.rb_glyph.specs.declared.info.hb_glyph_info_t.{hb_glyph_info_t}
use Rattle.script_joining.specs.ArabicMarks.{is_below, is_modifier_of, modifiers_end, modifiers_start, passing_end, put_if_any}
use Rattle.script_joining.proofs.arabic.marks.move_marks.Goals as goal

pub returns-clause-is : goal.returns-clause-is
returns-clause-is c =
    let s = c.args.buffer.now in
    let start = c.args.start in
    let end = c.args.end in
    let class = c.args.class in
    let first : c.modifiers_start-first.result ≡ modifiers_start class s.input start end =
    c.modifiers_start-first.ensures.is
    ∙ ap (λ (xs : List hb_glyph_info_t). passing_end (is_below class) xs start end) c.info.ensures in
    let last : c.modifiers_end-last.result ≡ modifiers_end class s.input start end =
    c.modifiers_end-last.ensures.is
    ∙ ap (λ (xs : List hb_glyph_info_t). passing_end (is_modifier_of class) xs c.modifiers_start-first.result end) c.info-2.ensures
    ∙ ap (λ (n : ℕ). passing_end (is_modifier_of class) s.input n end) first in
    c.put_if_any.ensures.is
    ∙ ap (λ (n : ℕ). put_if_any start n c.modifiers_end-last.result c.args.new_class s) first
    ∙ ap (λ (n : ℕ). put_if_any start (modifiers_start class s.input start end) n c.args.new_class s) last

pub returns-clause-behind : goal.returns-clause-behind
returns-clause-behind c =
    let s = c.args.buffer.now in
    let start = c.args.start in
    let end = c.args.end in
    let class = c.args.class in
    let first : c.modifiers_start-first.result ≡ modifiers_start class s.input start end =
    c.modifiers_start-first.ensures.is
    ∙ ap (λ (xs : List hb_glyph_info_t). passing_end (is_below class) xs start end) c.info.ensures in
    let last : c.modifiers_end-last.result ≡ modifiers_end class s.input start end =
    c.modifiers_end-last.ensures.is
    ∙ ap (λ (xs : List hb_glyph_info_t). passing_end (is_modifier_of class) xs c.modifiers_start-first.result end) c.info-2.ensures
    ∙ ap (λ (n : ℕ). passing_end (is_modifier_of class) s.input n end) first in
    ap (λ (n : ℕ). start + (c.modifiers_end-last.result - n)) first
    ∙ ap (λ (n : ℕ). start + (n - modifiers_start class s.input start end)) last
