use Rattle.std.proofs.Common.{◌≡◌, ◌∙◌, length, take, replicate, arith}
use Rattle.std.proofs.lemmas.Grind.{common_steps}
use Rattle.pool_import.proofs.JudgingKeys.{no_tallies, tallies_absent, tallied, tally_there, tally_small}
use Rattle.pool_import.proofs.judge_counts.tallies_of.Goals as goal

pub spots-init : goal.spots-init
spots-init c =
    let filled : c.resize.new.self.items ≡ replicate (length c.args.homes.now) 0 = grind (arith, common_steps) in
    filled ∙ no_tallies c.args.homes.now c.args.spots.now

pub spots-preserved-in_default : goal.spots-preserved-in_default
spots-preserved-in_default c = c.spots.invariant
    ∙ tallies_absent c.args.homes.now c.args.spots.now c.spots.spot-index _ c.spots-test.true c.in_default.ensures.none

pub index_mut-requires : goal.index_mut-requires
index_mut-requires c =
    let inside = tally_there c.args.homes.now
    (take c.spots.spot-index c.args.spots.now) c.spots.tallies.items c.in-Some.at _ c.spots.invariant c.in-Some.ensures.some in
    omega (arith, inside, c.spots.tallies.ok.0)

pub overflow_add-index_mut : goal.overflow_add-index_mut
overflow_add-index_mut c =
    let small = tally_small c.args.homes.now c.args.spots.now c.spots.spot-index c.spots.tallies.items c.in-Some.at c.index_mut.result.now _
    c.spots.invariant c.in-Some.ensures.some c.index_mut.ensures.value c.spots.auto.spot-index-end in
    omega (arith, small)

pub spots-preserved : goal.spots-preserved
spots-preserved c = tallied c.args.homes.now c.args.spots.now c.spots.spot-index _ c.spots.tallies.items c.in-Some.at c.index_mut.result.now
    c.requires c.spots-test.true c.if-not-spot.false c.spots.invariant c.in-Some.ensures.some c.index_mut.ensures.value
