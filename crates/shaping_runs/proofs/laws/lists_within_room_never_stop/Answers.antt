use Rattle.shaping_runs.proofs.RoomLaws.{never_stops, ensured_never_stops}
use Rattle.shaping_runs.proofs.Settings.{room_after}
use Rattle.shaping_runs.proofs.laws.lists_within_room_never_stop.Goals as goal

pub returns-clause-ensured : goal.returns-clause-ensured
returns-clause-ensured c = ensured_never_stops

pub returns-clause-room : goal.returns-clause-room
returns-clause-room c = never_stops

pub returns-clause-kept : goal.returns-clause-kept
returns-clause-kept c = room_after
