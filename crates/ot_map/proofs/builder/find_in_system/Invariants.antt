use Rattle.std.proofs.Common.{◌≡◌, map}
use Rattle.ot_map.specs.FeaturesFound.{noted}
use Rattle.ot_map.specs.Requests.{AreInOrder}
use Rattle.ot_map.proofs.builder.find_in_system.Given as goal

-- the requests have the first features of the places so far
abbrev pub invariant-loop-place : goal.invariant-loop-place
invariant-loop-place l = AreInOrder l.fn.requests → l.requests ≡ map (noted l.table l.is_gsub l.place) l.fn.requests
