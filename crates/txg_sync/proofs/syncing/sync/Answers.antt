-- Where the plan fails nothing was begun; else what is written is told of the pool that stood before.
use Rattle.std.proofs.Common.{◌≡◌, ℕ, List, length, sym, subst}
use Rattle.std.specs.Prelude.{OnOk}
use Rattle.disk_model.specs.Crashes.{LeavesOnly}
use Rattle.table_state.specs.Closing.{closed_of, records_after, pages_of}
use Rattle.table_state.specs.Over.{StandsOver}
use Rattle.table_state.specs.Pools.{Held}
use Rattle.txg_sync.specs.Syncing.{SyncLeaves, BeforeGate}
use Rattle.txg_sync.proofs.Syncs.{nothing_begun}
use Rattle.txg_sync.proofs.syncing.sync.Goals as goal

pub returns-in_default-clause-any_moment : goal.returns-in_default-clause-any_moment
returns-in_default-clause-any_moment g c image s told pending over =
    let here = nothing_begun image c.args.pool.now (closed_of c.args.closed.now) s c.crash_laws.ensures.here pending over in
    (here.0, here.1, tt, here.2)

pub returns-clause-any_moment : goal.returns-clause-any_moment
returns-clause-any_moment g c image s told pending over =
    subst (λ (h : Held). (pages : List ℕ) × (length pages ≡ pages_of (records_after h (closed_of c.args.closed.now)))
    × OnOk c.write_plan.result (pages ≡ c.plan_group.new.pool.pages)
    × LeavesOnly (g.D.Disk.state c.args.disk.now) (g.D.Disk.state c.write_plan.new.disk)
    (SyncLeaves image h (closed_of c.args.closed.now) s pages)) c.of-before.ensures
    (c.write_plan.ensures.any_moment image s told pending (subst (λ (h : Held). StandsOver image h s) (sym c.of-before.ensures) over))

pub returns-clause-before_the_gate : goal.returns-clause-before_the_gate
returns-clause-before_the_gate g c image s told pending over fault =
    subst (λ (h : Held). LeavesOnly (g.D.Disk.state c.args.disk.now) (g.D.Disk.state c.write_plan.new.disk) (BeforeGate image h s))
    c.of-before.ensures
    (c.write_plan.ensures.before_the_gate image s told pending (subst (λ (h : Held). StandsOver image h s) (sym c.of-before.ensures) over)
    fault)
