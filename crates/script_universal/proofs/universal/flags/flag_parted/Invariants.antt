use Rattle.std.proofs.Common.{◌≡◌, ◌-◌, false, length}
use Rattle.shaping_buffer.specs.KeepsClusters.{KeepsClusters}
use Rattle.script_universal.specs.Masks.{Test, flagged, flagged_from}
use Rattle.script_universal.proofs.universal.flags.flag_parted.Given as goal

-- the syllables that are left make of the text what all of them make of it
abbrev pub invariant-loop-turn : goal.invariant-loop-turn
invariant-loop-turn g l = record {
  closed : l.buffer.have_output ≡ false;
  keeps : KeepsClusters l.fn.buffer l.buffer;
  is : (test : Test) → ((x : _) (m : _) (r : _) → goal.F-post g l.is_parted x m r → r ≡ test x.now m)
      → flagged_from test l.masks (length l.fn.buffer.input - l._turn) l.start l.last l.buffer
      ≡ flagged test l.masks l.fn.buffer;
}
