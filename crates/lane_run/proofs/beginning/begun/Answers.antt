use Rattle.std.proofs.Common.{◌≡◌, ◌∙◌, Bool, List, length, map, sym, ap, subst}
use Rattle.std.proofs.lemmas.List.{length-map}
use Rattle.std.proofs.lemmas.Bool.{eqb-true}
use Rattle.grant_book.specs.Sectors.{AreFirstFree}
use Rattle.pool_model.specs.Mirrors.{task_of}
use Rattle.lane_run.specs.Going.{HasRun}
use Rattle.table_state.specs.Pools.{Held}
use Rattle.table_state.specs.Closing.{IsInRange}
use Rattle.lane_run.specs.Live.{Live, group_here}
use Rattle.lane_run.proofs.InRange.{in_range}
use Rattle.lane_run.proofs.Lanes.{opened_ranged, run_over, run_none}
use Rattle.lane_run.proofs.Opened.{live_opened}
use Rattle.lane_run.proofs.beginning.begun.Goals as goal

pub returns-then-is_empty-clause-run : goal.returns-then-is_empty-clause-run
returns-then-is_empty-clause-run g c =
    let used_is : c.pool.inside.book.used ≡ c.args.pool.now.used = ap (λ (h : Held). h.used) c.pool.view_is in
    let found : AreFirstFree c.pool.inside.book.used (length c.args.commands.now) c.in-Some.places.items = rw c.in-Some.is at c.in-Ok.ensures in
    let none : length c.args.commands.now ≡ 0 = eqb-true (length c.args.commands.now) 0 (sym c.is_empty.ensures ∙ c.if-is_empty.true) in (
      c.in-Some.places.items,
      subst (λ (used : List Bool). AreFirstFree used (length (map task_of c.args.commands.now)) c.in-Some.places.items) used_is
          (subst (λ n. AreFirstFree c.pool.inside.book.used n c.in-Some.places.items) (sym (length-map c.args.commands.now task_of)) found),
      run_over (g.D.Disk.state c.args.disk.now).seen (g.K.KeyOf.keying c.args.keyer.now).key_of c.args.pool.now c.args.moment
          (map task_of c.args.commands.now) c.in-Some.places.items 0 c.in-Ok-opened.live
          (subst (HasRun (g.D.Disk.state c.args.disk.now).seen (g.K.KeyOf.keying c.args.keyer.now).key_of c.args.pool.now c.args.moment
          (map task_of c.args.commands.now) c.in-Some.places.items 0 0) (sym c.in-Ok-opened.ensures)
          (run_none (g.D.Disk.state c.args.disk.now).seen
          (g.K.KeyOf.keying c.args.keyer.now).key_of c.args.pool.now c.args.moment c.args.commands.now c.in-Some.places.items
          c.pool.inside.keys (ap (λ (h : Held). h.keys) c.pool.view_is ∙ c.requires.sound.keys_are) none)),
    )

pub returns-then-is_empty-clause-in_range : goal.returns-then-is_empty-clause-in_range
returns-then-is_empty-clause-in_range g c =
    subst (λ (live : Live). IsInRange c.args.pool.now (group_here c.args.pool.now live)) (sym c.in-Ok-opened.ensures)
    (in_range c.args.pool.now c.in-Some.places.items c.pool.inside.keys 0 (live_opened c.pool.inside.keys) c.requires.sound
    (opened_ranged c.args.pool.now c.in-Some.places.items c.pool.inside.keys))
