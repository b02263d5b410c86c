use Rattle.lane_run.proofs.live.LiveGroup.put_at.Goals as goal

pub returns-in-AtHome : goal.returns-in-AtHome
returns-in-AtHome c = rw c.in-AtHome.is (c.at_home.ensures c.args.number c.args.place c.args.block.items)
