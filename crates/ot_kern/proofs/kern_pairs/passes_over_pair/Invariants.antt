use Rattle.std.proofs.Common.{◌≡◌, ◌-◌, min}
use Rattle.ot_kern.specs.Kerning.{machine_of, would_kern}
use Rattle.ot_kern.proofs.kern_pairs.passes_over_pair.Given as goal
use Rattle.ot_attachments.specs.Places.{behind, some_place}

-- the places that are left pass the test as all do
abbrev pub invariant-loop-place : goal.invariant-loop-place
invariant-loop-place l =
    let from = behind (min l.pair.left l.pair.right) in
    some_place (λ k. would_kern (machine_of l.machine) l.glyphs k l.pair.right) l.place (l.to - l.place)
    ≡ some_place (λ k. would_kern (machine_of l.machine) l.glyphs k l.pair.right) from (l.to - from)
