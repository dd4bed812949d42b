use Rattle.std.proofs.Common.{◌≡◌}
use Rattle.ot_map.specs.Features.{searched}
use Rattle.ot_map.proofs.MapLemmas.{mapped}
use Rattle.ot_map.proofs.builder.search_lists.Given as goal

-- those that were gone over were searched for
abbrev pub invariant-loop-request : goal.invariant-loop-request
invariant-loop-request l = l.requests ≡ mapped (searched l.gsub l.gpos) l.request-index l.fn.requests
