use Rattle.std.proofs.Common.{length, ◌-◌, drop, arith, rules}
use Rattle.cmd_file.proofs.Folds.{line_before, last_line}
use Rattle.cmd_file.proofs.cuts.split_line.Goals as goal

pub returns-in-Some-clause-lines : goal.returns-in-Some-clause-lines
returns-in-Some-clause-lines c = line_before c.args.text.now c.cut.result.0.now c.in-Some.more.now (search rules)

pub returns-in-None-clause-lines : goal.returns-in-None-clause-lines
returns-in-None-clause-lines c =
    last_line c.args.text.now (length c.args.text.now - length c.args.text.now) (drop (length c.args.text.now) c.args.text.now)
    (search rules) (omega arith) (search rules)
