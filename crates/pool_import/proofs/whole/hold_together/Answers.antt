-- The tests are those of the definition.
use Rattle.std.proofs.lemmas.Bool.Decides.{Decides-at}
use Rattle.pool_import.proofs.Together.{hold_together-Decides}
use Rattle.pool_import.proofs.whole.hold_together.Goals as goal

pub returns : goal.returns
returns c = Decides-at _ _ c.keep_rules.ensures (hold_together-Decides c.args.seal.now c.args.flat.now)
