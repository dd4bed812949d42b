use Rattle.shaping_runs.proofs.InPlaceLaws.{never_stops}
use Rattle.shaping_runs.proofs.laws.lists_in_place_never_stop.Goals as goal

pub returns : goal.returns
returns c = never_stops
