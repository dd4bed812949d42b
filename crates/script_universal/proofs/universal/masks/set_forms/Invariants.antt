use Rattle.std.proofs.Common.{◌≡◌, ◌≤◌}
use Rattle.glyph_lists.specs.Clusters.{clusters}
use Rattle.script_universal.proofs.universal.masks.set_forms.Given as goal

abbrev pub invariant-loop-turn : goal.invariant-loop-turn
invariant-loop-turn l = record {
  same : clusters l.infos ≡ clusters l.fn.infos;
  order : l.before ≤ l.start;
}
