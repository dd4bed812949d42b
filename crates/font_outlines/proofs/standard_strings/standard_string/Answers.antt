use Rattle.std.proofs.Common.{◌≡◌, lit<, sym, Some, ◌/◌}
use Rattle.std.proofs.lemmas.Iterator.Consumers.{nth_from_yields_List}
use Rattle.std.proofs.lemmas.Iterator.Splits.{YieldsList-from_str_split}
use Rattle.std.specs.Prelude.{slice_get}
use Rattle.font_outlines.specs.StandardStrings.{standard_rows, standard_string}
use Rattle.font_outlines.proofs.standard_strings.standard_string.Goals as goal

pub returns : goal.returns
unfolding standard_string
returns c =
    let here = nth_from_yields_List _ _ _ c.nth.ensures.ran
    (YieldsList-from_str_split 32 c.in_ok-row.row.now (lit< tt) c.split.ensures.text c.split.ensures.has_more c.split.ensures.pattern) in
    let is : slice_get standard_rows (c.args.number / 32) ≡ Some c.in_ok-row.row.now = sym c.in_ok-row.ensures in
    rw is (rw c.from.ensures at here)
