use Rattle.std.proofs.Common.{◌∙◌, List, [], fold, ap}
use Rattle.std.specs.Map.{values_of}
use Rattle.ddt_entry.specs.declared.key.Key.{Key}
use Rattle.ddt_entry.specs.declared.entry.Change.{Change}
use Rattle.pool_model.specs.Table.{set_change}
use Rattle.pool_model.proofs.Sorted.{fold_back}
use Rattle.pool_model.proofs.TablePuts.{changes_put}
use Rattle.plain_table.proofs.Entries.{rising_values}
use Rattle.plain_table.proofs.change_map.ChangeMap.copied.Goals as goal

pub changes-init : goal.changes-init
changes-init c =
    ap (λ (copy : List Change). fold (λ (cs : List Change) change. set_change change cs) copy (values_of c.into_iter-key-iterator.result))
    c.new-copy.ensures
    ∙ ap (λ (es : List (Key × Change)). fold (λ (cs : List Change) change. set_change change cs) [] (values_of es))
    c.into_iter-key-iterator.ensures.into_iter_gives.0
    ∙ fold_back changes_put (values_of c.self.inside.changes.entries)
    (rising_values c.self.inside.changes.entries c.self.invariant c.len-len.ensures.ordered)
    ∙ c.self.view_is
