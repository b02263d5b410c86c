use Rattle.std.proofs.Common.{◌∙◌, List, [], fold, ap}
use Rattle.ddt_entry.specs.declared.key.Key.{Key}
use Rattle.ddt_entry.specs.declared.entry.Home.{Home}
use Rattle.ddt_entry.specs.declared.entry.Entry.{Entry}
use Rattle.pool_model.specs.Table.{set_entry}
use Rattle.pool_model.proofs.Sorted.{fold_back}
use Rattle.pool_model.proofs.TablePuts.{entries_put}
use Rattle.plain_table.specs.HomeLists.{entries_of}
use Rattle.plain_table.proofs.home_map.HomeMap.copied.Goals as goal

pub homes-init : goal.homes-init
homes-init c =
    ap (λ (copy : List Entry). fold (λ (es : List Entry) entry. set_entry entry es) copy (entries_of c.into_iter-key-iterator.result))
    c.new-copy.ensures
    ∙ ap (λ (pairs : List (Key × Home)). fold (λ (es : List Entry) entry. set_entry entry es) [] (entries_of pairs))
    c.into_iter-key-iterator.ensures.into_iter_gives.0
    ∙ fold_back entries_put (entries_of c.self.inside.homes.entries) c.self.invariant
    ∙ c.self.view_is
