-- Each stage leaves no seal that counts, or the new one.
use Rattle.std.proofs.Common.{◌≤◌, subst, sym, rules}
use Rattle.txg_sync.proofs.Sealing.{begins_of, first_gate_left, unbegun_at_each, unbegun_before, unbegun_behind, while_taking, while_filling, while_opening}
use Rattle.txg_sync.proofs.begin.seal_new_pool.Goals as goal

pub returns-in_err-take_slot-clause-any_moment : goal.returns-in_err-take_slot-clause-any_moment
returns-in_err-take_slot-clause-any_moment g c image told pending =
    unbegun_at_each c.args.tag _ image _ told c.sectors.ensures.told c.requires.none
    (while_taking c.args.tag _ image _ told c.sectors.ensures.told c.requires.none (c.take_slot.ensures.any_moment image told pending))

pub returns-in_err-take_slot-clause-before_the_gate : goal.returns-in_err-take_slot-clause-before_the_gate
returns-in_err-take_slot-clause-before_the_gate g c image told pending fault =
    while_taking c.args.tag _ image _ told c.sectors.ensures.told c.requires.none (c.take_slot.ensures.any_moment image told pending)

pub returns-in_err-take_slot-clause-unbegun : goal.returns-in_err-take_slot-clause-unbegun
returns-in_err-take_slot-clause-unbegun g c fault =
    unbegun_before c.args.tag _ _ _ c.sectors.ensures.told c.requires.none (c.take_slot.ensures.untaken (search rules))

pub returns-in_default-clause-unbegun : goal.returns-in_default-clause-unbegun
returns-in_default-clause-unbegun g c fault =
    unbegun_behind c.args.tag _ _ _ _ _ c.sectors.ensures.told c.requires.none c.new_seal-seal.ensures c.in_ok-take_slot.ensures.taken
    c.in_default.ensures.touched

pub returns-in_default-clause-any_moment : goal.returns-in_default-clause-any_moment
returns-in_default-clause-any_moment g c image told pending =
    unbegun_at_each c.args.tag _ image _ told c.sectors.ensures.told c.requires.none
    (while_filling c.args.tag _ image _ told c.sectors.ensures.told c.requires.none
    (subst (λ n. 2048 ≤ n) (sym c.sectors.ensures.count) c.requires.enough)
    (subst (λ n. n ≤ 1000000) (sym c.sectors.ensures.count) c.requires.few) _ c.seal_fits.ensures c.new_seal-seal.ensures
    (c.take_slot.ensures.any_moment image told pending) c.in_ok-take_slot.ensures.taken c.in_ok-take_slot.ensures.durable
    c.fill_slot.ensures.any_moment)

pub returns-in_default-clause-before_the_gate : goal.returns-in_default-clause-before_the_gate
returns-in_default-clause-before_the_gate g c image told pending fault =
    while_filling c.args.tag _ image _ told c.sectors.ensures.told c.requires.none
    (subst (λ n. 2048 ≤ n) (sym c.sectors.ensures.count) c.requires.enough)
    (subst (λ n. n ≤ 1000000) (sym c.sectors.ensures.count) c.requires.few) _ c.seal_fits.ensures c.new_seal-seal.ensures
    (c.take_slot.ensures.any_moment image told pending) c.in_ok-take_slot.ensures.taken c.in_ok-take_slot.ensures.durable
    c.fill_slot.ensures.any_moment

pub returns-in_default-open_slot-clause-any_moment : goal.returns-in_default-open_slot-clause-any_moment
returns-in_default-open_slot-clause-any_moment g c image told pending =
    while_opening c.args.tag _ image _ told c.sectors.ensures.told c.requires.none
    (subst (λ n. 2048 ≤ n) (sym c.sectors.ensures.count) c.requires.enough)
    (subst (λ n. n ≤ 1000000) (sym c.sectors.ensures.count) c.requires.few) _ c.seal_fits.ensures c.new_seal-seal.ensures
    (c.take_slot.ensures.any_moment image told pending) c.in_ok-take_slot.ensures.taken c.in_ok-take_slot.ensures.durable
    c.fill_slot.ensures.any_moment c.in-Ok.ensures.filled c.in-Ok.ensures.durable c.open_slot.ensures.any_moment

pub returns-in_default-open_slot-clause-at_the_gate : goal.returns-in_default-open_slot-clause-at_the_gate
returns-in_default-open_slot-clause-at_the_gate g c fault =
    first_gate_left c.args.tag _ _ _ _ _ _ (subst (λ n. 2048 ≤ n) (sym c.sectors.ensures.count) c.requires.enough)
    (subst (λ n. n ≤ 1000000) (sym c.sectors.ensures.count) c.requires.few) c.sectors.ensures.told c.requires.none
    c.seal_fits.ensures c.new_seal-seal.ensures c.in_ok-take_slot.ensures.taken c.in-Ok.ensures.filled
    c.in_default-open_slot.ensures.touched

pub returns-clause-sealed : goal.returns-clause-sealed
returns-clause-sealed g c =
    begins_of c.args.tag _ _ _ _ _ _ (subst (λ n. 2048 ≤ n) (sym c.sectors.ensures.count) c.requires.enough)
    (subst (λ n. n ≤ 1000000) (sym c.sectors.ensures.count) c.requires.few) c.sectors.ensures.told c.requires.none
    c.seal_fits.ensures c.new_seal-seal.ensures c.in_ok-take_slot.ensures.taken c.in-Ok.ensures.filled c.in-Ok-open_slot.ensures.opened

pub returns-clause-any_moment : goal.returns-clause-any_moment
returns-clause-any_moment g c image told pending =
    while_opening c.args.tag _ image _ told c.sectors.ensures.told c.requires.none
    (subst (λ n. 2048 ≤ n) (sym c.sectors.ensures.count) c.requires.enough)
    (subst (λ n. n ≤ 1000000) (sym c.sectors.ensures.count) c.requires.few) _ c.seal_fits.ensures c.new_seal-seal.ensures
    (c.take_slot.ensures.any_moment image told pending) c.in_ok-take_slot.ensures.taken c.in_ok-take_slot.ensures.durable
    c.fill_slot.ensures.any_moment c.in-Ok.ensures.filled c.in-Ok.ensures.durable c.open_slot.ensures.any_moment
