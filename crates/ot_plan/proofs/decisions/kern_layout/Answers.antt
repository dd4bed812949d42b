use Rattle.std.proofs.Common.{◌≡◌, refl, ap, ◌∙◌}
use Rattle.ot_gpos_tables.specs.KernTable.{is_crossing, is_machine}
use Rattle.ot_plan.specs.Decisions.{has_bits, has_kerning, some_in}
use Rattle.ot_plan.proofs.KernLemmas.{has_subtable-read}
use Rattle.ot_plan.proofs.decisions.kern_layout.Goals as goal

pub returns : goal.returns
returns c =
    let kern = c.new-table.result in
    let bytes = c.args.face.now.layout.kern.now in
    let read = c.new-table.ensures in
    let there : c.has_kerning.result ≡ has_kerning bytes = c.has_kerning.ensures ∙ ap has_bits read.whole in
    let crosses : c.has_cross_kerning.result ≡ some_in is_crossing bytes =
    c.has_cross_kerning.ensures ∙ has_subtable-read is_crossing kern bytes read.table read.form read.whole in
    let machine : c.has_machine_kerning.result ≡ some_in is_machine bytes =
    c.has_machine_kerning.ensures ∙ has_subtable-read is_machine kern bytes read.table read.form read.whole in
    rw (there, crosses, machine) refl
