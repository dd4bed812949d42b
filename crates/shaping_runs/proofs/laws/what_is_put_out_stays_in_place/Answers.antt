use Rattle.shaping_runs.proofs.InPlaceSteps.{stays_in_place}
use Rattle.shaping_runs.proofs.laws.what_is_put_out_stays_in_place.Goals as goal

pub returns : goal.returns
returns c = stays_in_place
