use Rattle.pool_import.proofs.JudgingWhole.{Grounds}
use Rattle.pool_import.proofs.JudgingAnswers.{whole_result, broken_result}
use Rattle.pool_import.proofs.judge.judge.Goals as goal

pub returns-clause-whole : goal.returns-clause-whole
returns-clause-whole c =
    let grounds : Grounds c.args.seal.now c.args.flat.now = record
    { together = c.requires.together; slots = c.requires.slots; lengths = c.requires.lengths; sorted = c.requires.sorted; within = c.requires.within; modes = c.seal_fits.ensures.modes_len } in
    whole_result c.args.seal.now c.args.flat.now grounds c.args.table.now.table c.requires.table c.judged.result c.judged.ensures.judged

pub returns-clause-broken : goal.returns-clause-broken
returns-clause-broken c =
    let grounds : Grounds c.args.seal.now c.args.flat.now = record
    { together = c.requires.together; slots = c.requires.slots; lengths = c.requires.lengths; sorted = c.requires.sorted; within = c.requires.within; modes = c.seal_fits.ensures.modes_len } in
    broken_result c.args.seal.now c.args.flat.now grounds c.args.table.now.table c.requires.table c.judged.result c.judged.ensures.judged
