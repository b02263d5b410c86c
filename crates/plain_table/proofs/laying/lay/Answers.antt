use Rattle.std.proofs.Common.{◌∙◌, ap, sym, subst}
use Rattle.std.specs.Prelude.{List, ◌++◌}
use Rattle.ddt_entry.specs.declared.entry.Entry.{Entry}
use Rattle.pool_model.specs.Table.{AreRising}
use Rattle.plain_table.specs.Merging.{without, entry_in}
use Rattle.plain_table.proofs.Laid.{laid_more, rising_from, rising_without}
use Rattle.plain_table.proofs.laying.lay.Goals as goal

pub returns-clause-laid : goal.returns-clause-laid
returns-clause-laid c = laid_more c.args.change.now c.args.stored.now c.args.list.now.items c.requires.rising c.key_of-key.ensures
    (c.push_set.ensures.pushed ∙ ap (λ (xs : List Entry). xs ++ entry_in c.args.change.now) c.push_below-rest.ensures.pushed)
    (c.without.ensures.without ∙ ap (without c.key_of-key.result) c.push_below-rest.ensures.left)

pub returns-clause-rising : goal.returns-clause-rising
returns-clause-rising c =
    subst AreRising (sym (c.without.ensures.without ∙ ap (without c.key_of-key.result) c.push_below-rest.ensures.left))
    (rising_without _ _ (rising_from c.key_of-key.result c.args.stored.now c.requires.rising))
