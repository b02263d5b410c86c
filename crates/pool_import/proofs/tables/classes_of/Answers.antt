-- A class that rises comes back when its entries are put into nothing, one by one.
use Rattle.std.proofs.Common.{◌∙◌, List, fold, ap}
use Rattle.ddt_entry.specs.declared.entry.Entry.{Entry}
use Rattle.pool_model.specs.Table.{set_entry}
use Rattle.pool_model.proofs.Sorted.{fold_back}
use Rattle.pool_model.proofs.TablePuts.{entries_put}
use Rattle.pool_import.proofs.tables.classes_of.Goals as goal

abbrev all_set : List Entry → List Entry → List Entry
all_set stored entries = fold (λ (es : List Entry) entry. set_entry entry es) stored entries

pub returns : goal.returns
returns g c =
    c.in_ok-put_all-2.ensures
    ∙ ap (λ (stored : List Entry). all_set stored c.args.duplicate.now)
    (c.in_ok-put_all.ensures ∙ ap (λ (stored : List Entry). all_set stored c.args.unique.now) c.new-classes.ensures
    ∙ fold_back entries_put c.args.unique.now c.requires.rising)
