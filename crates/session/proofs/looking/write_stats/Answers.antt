-- The numbers of the pool in memory are the pool's.
use Rattle.std.proofs.Common.{ap}
use Rattle.table_state.specs.Pools.{Held}
use Rattle.pool_model.specs.Text.{stat_text}
use Rattle.session.specs.StageWriting.{WritesSo}
use Rattle.session.proofs.Looked.{told_of_pool}
use Rattle.session.proofs.looking.write_stats.Goals as goal

pub returns-clause-told : goal.returns-clause-told
returns-clause-told g c image p table is =
    told_of_pool
    (λ group quota stats. WritesSo c.write_text.result (stat_text group quota stats) (g.W.Sink.written c.args.out.now)
    (g.W.Sink.written c.write_text.new.out))
    image c.args.pool.now p table
    c.pool.inside.sealed c.pool.inside.limit c.stats-stats.result is (ap (λ (h : Held). h.group) c.pool.view_is)
    (ap (λ (h : Held). h.quota) c.pool.view_is)
    (c.stats-stats.ensures image p table is) c.write_text.ensures.text
