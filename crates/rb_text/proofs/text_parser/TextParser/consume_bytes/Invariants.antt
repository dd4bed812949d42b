use Rattle.std.proofs.Common.{length, ◌-◌, ◌≡◌, ◌≤◌, ℕ, Bool, drop, ◌+◌}
use Rattle.std.specs.List.{prefix_len}
use Rattle.rb_text.specs.TextParser.{Computes}
use Rattle.rb_text.proofs.text_parser.TextParser.consume_bytes.Given as goal

abbrev pub invariant-loop-n : goal.invariant-loop-n
invariant-loop-n g l = record {
  within : l.n ≤ length l.rest;
  passed : (test : ℕ → Bool) → Computes (goal.F-post g l.f) test
      → prefix_len test l.rest ≡ l.n + prefix_len test (drop l.n l.rest);
}

abbrev pub decreases-loop-n : goal.decreases-loop-n
decreases-loop-n g l = length l.rest - l.n
