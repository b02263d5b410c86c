use Rattle.std.proofs.Common.{◌∙◌, sym}
use Rattle.pool_import.proofs.Together.{are_sorted-Decides}
use Rattle.pool_import.proofs.whole.keep_rules.Goals as goal

pub are_classes-requires : goal.are_classes-requires
are_classes-requires c =
    ((are_sorted-Decides c.args.flat.now).0 (sym c.are_sorted.ensures ∙ c.if-not-are_sorted.false)).1
