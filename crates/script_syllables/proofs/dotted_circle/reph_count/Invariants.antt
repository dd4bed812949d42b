use Rattle.std.proofs.Common.{◌≡◌, ◌+◌, drop}
use Rattle.std.specs.List.{prefix_len}
use Rattle.script_syllables.specs.Circle.{is_reph}
use Rattle.script_syllables.proofs.dotted_circle.reph_count.Given as goal

-- all items so far are rephs
abbrev pub invariant-loop-count : goal.invariant-loop-count
invariant-loop-count l =
    prefix_len (is_reph l.repha l.syllable) l.infos
    ≡ l.count + prefix_len (is_reph l.repha l.syllable) (drop l.count l.infos)
