use Rattle.live_core.proofs.Growing.{homes_now, few_now, small_now, states_now}
use Rattle.live_core.proofs.table.KeyTable.apply.Goals as goal

pub invariant_of-self-clause-states_are : goal.invariant_of-self-clause-states_are
invariant_of-self-clause-states_are c = states_now _ _ c.args.step c.moved-next.result c.moved-next.ensures _ c.keep.ensures.items _ _ _
    c.args.self.now.wide c.args.self.now.states_are c.key_in.ensures c.put.ensures

pub invariant_of-self-clause-homes_are : goal.invariant_of-self-clause-homes_are
invariant_of-self-clause-homes_are c = homes_now _ _ c.args.step c.moved-next.result c.moved-next.ensures _ c.keep.ensures.items

pub invariant_of-self-clause-few : goal.invariant_of-self-clause-few
invariant_of-self-clause-few c = few_now _ _ c.args.step c.moved-next.result c.moved-next.ensures _ c.keep.ensures.items _
    c.args.self.now.homes_are c.args.self.now.few

pub invariant_of-self-clause-small : goal.invariant_of-self-clause-small
invariant_of-self-clause-small c = small_now _ _ c.args.step c.moved-next.result c.moved-next.ensures _ c.keep.ensures.items
    c.requires.load c.args.self.now.small
