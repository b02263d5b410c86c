use Rattle.std.proofs.Common.{sym, subst}
use Rattle.live_core.specs.Views.{CoreView}
use Rattle.live_core_tests.specs.Groups.{IsOfGroup}
use Rattle.live_core_tests.proofs.Seating.{first_ready, second_ready}
use Rattle.live_core_tests.proofs.behind_lock.share.Goals as goal

pub take_turns-requires-clause-first : goal.take_turns-requires-clause-first
take_turns-requires-clause-first g c = first_ready c.in_ok-opened.opened.0 c.in_ok-opened.opened.1.items c.pop.new.self.items
    c.pop-2.new.self.items c.in-Some-pop.first c.in-Some.second c.in_ok-opened.ensures.seats c.in_ok-opened.ensures.count
    c.in-Some.ensures.items c.in-Some-pop.ensures.items c.in_ok-opened.ensures.lock.1
    (subst (λ (core : CoreView). IsOfGroup core.base) (sym c.in_ok-opened.ensures.lock.0) c.requires.of_group)

pub take_turns-requires-clause-second : goal.take_turns-requires-clause-second
take_turns-requires-clause-second g c = second_ready c.in_ok-opened.opened.0 c.in_ok-opened.opened.1.items c.pop.new.self.items
    c.pop-2.new.self.items c.in-Some-pop.first c.in-Some.second c.in_ok-opened.ensures.seats c.in_ok-opened.ensures.count
    c.in-Some.ensures.items c.in-Some-pop.ensures.items c.in_ok-opened.ensures.lock.1
    (subst (λ (core : CoreView). IsOfGroup core.base) (sym c.in_ok-opened.ensures.lock.0) c.requires.of_group)
