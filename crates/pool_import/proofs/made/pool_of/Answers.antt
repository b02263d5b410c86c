-- A table of parts that hold together is theirs, sorted and within its ranges.
use Rattle.std.proofs.Common.{ap}
use Rattle.pool_model.specs.Replaying.{LoggedTable}
use Rattle.table_state.proofs.TableBack.{is_table_in, table_in_within}
use Rattle.pool_import.proofs.Making.{made_of, all_judged}
use Rattle.pool_import.proofs.made.pool_of.Goals as goal

pub table_of-requires-clause-together : goal.table_of-requires-clause-together
table_of-requires-clause-together g c κs outlives = c.hold_together.ensures.0 c.if-not-hold_together.false

pub judge-requires-clause-sorted : goal.judge-requires-clause-sorted
judge-requires-clause-sorted g c = is_table_in c.args.seal.now c.args.flat (c.hold_together.ensures.0 c.if-not-hold_together.false)

pub judge-requires-clause-within : goal.judge-requires-clause-within
judge-requires-clause-within g c = table_in_within c.args.seal.now c.args.flat (c.hold_together.ensures.0 c.if-not-hold_together.false)

pub judge-requires-clause-table : goal.judge-requires-clause-table
judge-requires-clause-table g c = ap (λ (t : LoggedTable). t.table) c.in_ok-table.ensures

pub assembled-requires-clause-slots : goal.assembled-requires-clause-slots
assembled-requires-clause-slots g c = (c.hold_together.ensures.0 c.if-not-hold_together.false).slots_rising

pub assembled-requires-clause-sectors : goal.assembled-requires-clause-sectors
assembled-requires-clause-sectors g c =
    all_judged c.args.seal.now c.args.flat c.in-Some.used _ c.in-Some.is c.in_ok-used.ensures.whole

pub returns-clause-made : goal.returns-clause-made
returns-clause-made g c =
    made_of c.args.tag c.args.seal.now c.args.flat c.in_ok-assembled.field-0 c.in-Some.used _ c.in-Some.is
    (c.hold_together.ensures.0 c.if-not-hold_together.false) c.in_ok-used.ensures.whole c.in_ok-used.ensures.few c.in_ok-assembled.ensures
