use Rattle.std.proofs.Common.{subst, sym}
use Rattle.pool_model.specs.Table.{AreRising}
use Rattle.plain_table.proofs.Laid.{rising_laid}
use Rattle.plain_table.proofs.laying.laid_over.Goals as goal

pub returns-clause-rising : goal.returns-clause-rising
returns-clause-rising c =
    subst AreRising (sym c.in_ok-laid.ensures) (rising_laid c.args.changes.now c.args.stored.now c.requires)
