use Rattle.std.proofs.Common.{refl}
use Rattle.live_core.proofs.worked.worked_steps.Goals as goal

pub returns-clause-steps : goal.returns-clause-steps
returns-clause-steps c = record {
  claim_idle = refl;
  claim_led = refl;
  claim_own = refl;
  claim_none = refl;
  claim_known = refl;
  loaded = refl;
  loaded_none = refl;
  loaded_by_other = refl;
  loaded_idle = refl;
  loaded_known = refl;
  failed = refl;
  failed_by_other = refl;
  failed_idle = refl;
  failed_known = refl;
  trust_none = refl;
  absent_none = refl;
  trust_none_tight = refl;
  trust_none_just = refl;
  trust_live = refl;
  trust_live_tight = refl;
  same_live = refl;
  same_command = refl;
  differs_live = refl;
  trust_waiting = refl;
  same_waiting = refl;
  differs_waiting = refl;
  trust_waiting_tight = refl;
  differs_waiting_tight = refl;
  absent_some = refl;
  same_none = refl;
  differs_none = refl;
  same_other_place = refl;
  same_other_body = refl;
  same_other_command = refl;
  differs_other_place = refl;
  ref_idle = refl;
  ref_led = refl;
  unref_counted = refl;
  unref_last = refl;
  unref_waiting = refl;
  unref_other_place = refl;
  unref_other_birth = refl;
  unref_none = refl;
  unref_idle = refl;
  unref_led = refl;
  past_the_keys = refl;
}

pub returns-clause-lanes : goal.returns-clause-lanes
returns-clause-lanes c = record {
  history = refl;
  state = refl;
  other = refl;
  homes = refl;
}
