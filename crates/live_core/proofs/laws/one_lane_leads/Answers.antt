use Rattle.live_core.proofs.Leading.{stays_led, second_lead}
use Rattle.live_core.proofs.laws.one_lane_leads.Goals as goal

pub returns-clause-stays : goal.returns-clause-stays
returns-clause-stays c = stays_led

pub returns-clause-second : goal.returns-clause-second
returns-clause-second c = second_lead
