-- Why a shaped text has its clusters in order.
--
-- Each step of shaping is calls of the buffer, or writes beside the clusters, and keeps them. Two steps turn them: a
-- text that runs against its script, and a line that runs backward; so in the end they rise or fall with the line.

pub mod TurnLemmas
pub mod KeptPlanLemmas
