use Rattle.std.proofs.Common.{rules}
use Rattle.std.specs.Str.Parse.{digits_value}
use Rattle.pool_model.specs.File.{number_in, block_in, command_line, write_deed, tested}
use Rattle.cmd_file.specs.Progress.{step_of, spelt_of}
use Rattle.cmd_file.specs.Words.{lawful}
use Rattle.cmd_file.proofs.Folds.{passed_on, other_lane, bad_block, bad_slot, good_write}
use Rattle.cmd_file.proofs.lines.write_in.Goals as goal

pub returns-in_default : goal.returns-in_default
returns-in_default c =
    other_lane (number_in c.args.lane.now) (number_in c.args.slot.now) (block_in c.args.block.now) c.in_default.field-0 (search rules)

pub returns-in-Err : goal.returns-in-Err
returns-in-Err c =
    passed_on step_of spelt_of c.in-Err.fault (lawful (block_in c.args.block.now))
    (tested (command_line (number_in c.args.lane.now) (number_in c.args.slot.now) (write_deed (block_in c.args.block.now))))
    (λ kind. bad_block (number_in c.args.lane.now) (number_in c.args.slot.now) (block_in c.args.block.now) c.in-Ok.lane
    (digits_value 10 c.args.slot.now) kind (search rules) (search rules))
    (search rules)

pub returns-in-Ok-number_to : goal.returns-in-Ok-number_to
returns-in-Ok-number_to c =
    good_write (number_in c.args.lane.now) (number_in c.args.slot.now) (block_in c.args.block.now) c.in-Ok.lane c.in-Ok-number_to.slot
    (spelt_of c.in-Ok-payload_in.payload) (search rules) (search rules) (search rules)

pub returns-in-Err-number_to : goal.returns-in-Err-number_to
returns-in-Err-number_to c =
    bad_slot (number_in c.args.lane.now) (number_in c.args.slot.now) (block_in c.args.block.now) c.in-Ok.lane
    (digits_value 10 c.args.slot.now) (spelt_of c.in-Ok-payload_in.payload) c.in-Err-number_to.kind (search rules) (search rules)
    (search rules) (search rules)
