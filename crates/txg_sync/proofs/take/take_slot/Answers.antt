-- The meter changes nothing that a crash may leave, and the closing what the ring says.
use Rattle.std.proofs.Common.{◌≤◌, subst, sym}
use Rattle.txg_sync.proofs.Taking.{may_take, not_taken, takes_of, while_taken}
use Rattle.txg_sync.proofs.take.take_slot.Goals as goal

pub returns-clause-taken : goal.returns-clause-taken
returns-clause-taken g c = takes_of c.args.slot _ c.in-Ok-answer.was_open _ _ _ _ c.sectors-sectors.ensures.told c.requires.slot
    (subst (λ n. 32 ≤ n) (sym c.sectors-sectors.ensures.count) c.requires.ring)
    c.meter.ensures.contents c.in-Ok-answer.ensures.gate c.retire.ensures.contents c.in-Ok-close_slot.ensures.closed

pub returns-clause-any_moment : goal.returns-clause-any_moment
returns-clause-any_moment g c image told pending =
    while_taken c.args.slot _ image (c.crash_laws.ensures.here.leaves_images image pending.0) c.in-Ok-answer.was_open
    told pending c.crash_laws.ensures.here c.meter.ensures.contents c.meter.ensures.crash c.meter.ensures.time c.in-Ok-answer.ensures.gate
    c.retire.ensures.crash c.retire.ensures.time c.close_slot.ensures.any_moment

pub returns-in_default-close_slot-clause-any_moment : goal.returns-in_default-close_slot-clause-any_moment
returns-in_default-close_slot-clause-any_moment g c image told pending =
    while_taken c.args.slot _ image (c.crash_laws.ensures.here.leaves_images image pending.0) c.in-Ok-answer.was_open
    told pending c.crash_laws.ensures.here c.meter.ensures.contents c.meter.ensures.crash c.meter.ensures.time c.in-Ok-answer.ensures.gate
    c.retire.ensures.crash c.retire.ensures.time c.close_slot.ensures.any_moment

pub returns-in_default-clause-untaken : goal.returns-in_default-clause-untaken
returns-in_default-clause-untaken g c fault = not_taken c.args.slot _ _ _ c.sectors-sectors.ensures.told c.meter.ensures.contents

pub returns-in_default-close_slot-clause-untaken : goal.returns-in_default-close_slot-clause-untaken
returns-in_default-close_slot-clause-untaken g c fault =
    may_take c.args.slot _ c.in-Ok-answer.was_open _ _ _ _ c.sectors-sectors.ensures.told c.meter.ensures.contents
    c.in-Ok-answer.ensures.gate c.retire.ensures.contents c.in_default-close_slot.ensures.touched
