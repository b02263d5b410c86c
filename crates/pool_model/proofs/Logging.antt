-- What is found once a group's changes are logged: a change's home, or else what was found before.
use Rattle.std.proofs.Common.{◌≡◌, Bool, true, false, cond, List, Option, Some, None, refl, ap, ◌∙◌}
use Rattle.ddt_entry.specs.Keys.{key_eq}
use Rattle.ddt_entry.specs.Changes.{key_in}
use Rattle.ddt_entry.specs.declared.key.Key.{Key}
use Rattle.ddt_entry.specs.declared.entry.Home.{Home}
use Rattle.ddt_entry.specs.declared.entry.Change.{Change}
use Rattle.pool_model.specs.Table.{TableState, home_in, entry_at, change_at, found_over, found, set_change, log_change, logged, AreChangesRising}
use Rattle.pool_model.specs.Homes.{found_with}
use Rattle.pool_model.proofs.Finding.{change_at-set, change_at-drop, folded, laid-home_in}

-- one change
pub found-log_change : (key : Key) (table : TableState) (change : Change)
    → found (log_change table change) key ≡ cond (key_eq (key_in change) key) (home_in change) (found table key)
found-log_change key table change =
    ap (λ o. found_over (found_over (entry_at key table.zap) o) (change_at key (set_change change table.active)))
    (change_at-drop key (key_in change) table.flush)
    ∙ ap (found_over (found_over (entry_at key table.zap) (cond (key_eq (key_in change) key) None (change_at key table.flush))))
    (change_at-set key change table.active)
    ∙ by_test (entry_at key table.zap) (change_at key table.flush) (change_at key table.active) (key_eq (key_in change) key)
  where
    by_test : (zap : Option Home) (flush active : Option Change) (b : Bool)
        → found_over (found_over zap (cond b None flush)) (cond b (Some change) active) ≡ cond b (home_in change)
        (found_over (found_over zap flush) active)
    by_test zap flush active true = refl
    by_test zap flush active false = refl

-- all of them
pub found-logged : (changes : List Change) (table : TableState) (key : Key) → AreChangesRising changes
    → found (logged changes table) key ≡ found_with changes table key
found-logged changes table key rising =
    folded key log_change (λ (t : TableState). found t key) home_in (found-log_change key) changes table rising
    ∙ laid-home_in (found table key) (change_at key changes)
