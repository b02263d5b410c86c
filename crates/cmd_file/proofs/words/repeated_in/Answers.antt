use Rattle.std.proofs.Common.{◌∷◌, [], rules}
use Rattle.hex.specs.Hex.{decode_of}
use Rattle.pool_model.specs.File.{number_in}
use Rattle.cmd_file.proofs.Folds.{no_times}
use Rattle.cmd_file.proofs.words.repeated_in.Goals as goal

pub returns-in-Err : goal.returns-in-Err
returns-in-Err c =
    no_times (decode_of (c.args.high ∷ c.args.low ∷ [])) c.in-Ok.bytes (number_in c.args.times.now) (search rules) (search rules)
    c.in-Err.kind (search rules)
