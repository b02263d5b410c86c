-- A sync leaves a table within the ranges of the group.
use Rattle.std.proofs.Common.{ℕ, ◌≤◌, List, arith}
use Rattle.std.specs.List.{AllByRecursion}
use Rattle.ddt_entry.specs.declared.entry.Entry.{Entry}
use Rattle.ddt_entry.specs.declared.entry.Change.{Change}
use Rattle.ddt_entry.specs.declared.entry.Change.TheVariants as changes
use Rattle.ddt_entry.specs.Spelling.{IsKeyLength}
use Rattle.pool_model.specs.Table.{TableState, sync_table}
use Rattle.pool_model.specs.Logs.{Logs}
use Rattle.pool_model.specs.Replaying.{LoggedTable, sync_logged}
use Rattle.table_state.specs.Flat.{IsWithin, IsChangeWithin}
use Rattle.table_state.specs.Sound.{HasKeyLengths}
use Rattle.table_state.specs.Tables.{IsTableWithin, AreLogsWithin, HasLength, HaveKeyLengths}
use Rattle.pool_model.proofs.Syncing.{sync_each}
use Rattle.pool_model.proofs.Replays.{logs_each}
use Rattle.pool_model.proofs.Lists.{all_from}

within_later : (sectors group group' : ℕ) (entry : Entry) → group ≤ group' → IsWithin sectors group entry → IsWithin sectors group' entry
within_later sectors group group' entry later within = record {
  place = within.place;
  on_disk = within.on_disk;
  born = within.born;
  birth = omega (arith, within.birth);
  since = within.since;
  count = within.count;
}

change_within_later : (sectors group group' : ℕ) → group ≤ group' → (change : Change) → IsChangeWithin sectors group change
    → IsChangeWithin sectors group' change
change_within_later sectors group group' later (changes.Entry entry) within = within_later sectors group group' entry later within
change_within_later sectors group group' later (changes.Gone key) within = tt

-- what is in range stays so in a later group
pub table_within_later : (sectors group group' : ℕ) (table : TableState) → group ≤ group' → IsTableWithin sectors group table
    → IsTableWithin sectors group' table
table_within_later sectors group group' table later within = record {
  zap = all_from (IsWithin sectors group) (IsWithin sectors group')
      (λ entry. within_later sectors group group' entry later) table.zap within.zap;
  flush = all_from (IsChangeWithin sectors group) (IsChangeWithin sectors group')
      (change_within_later sectors group group' later) table.flush within.flush;
  active = all_from (IsChangeWithin sectors group) (IsChangeWithin sectors group')
      (change_within_later sectors group group' later) table.active within.active;
}

pub logs_within_later : (sectors group group' : ℕ) (logs : Logs) → group ≤ group' → AreLogsWithin sectors group logs
    → AreLogsWithin sectors group' logs
logs_within_later sectors group group' logs later within = record {
  active = all_from (IsChangeWithin sectors group) (IsChangeWithin sectors group')
      (change_within_later sectors group group' later) logs.active within.active;
  flushing = all_from (IsChangeWithin sectors group) (IsChangeWithin sectors group')
      (change_within_later sectors group group' later) logs.flushing within.flushing;
}

-- a sync with changes in range leaves a table in range
pub sync_within : (sectors group group' : ℕ) (log : List Change) (table : TableState) → group ≤ group' → IsTableWithin sectors group table
    → AllByRecursion (IsChangeWithin sectors group') log → IsTableWithin sectors group' (sync_table log table)
sync_within sectors group group' log table later within all =
    let first = table_within_later sectors group group' table later within in
    let each = sync_each (IsWithin sectors group') (IsChangeWithin sectors group') (λ entry here. here) log table
    (record { zap = first.zap; flush = first.flush; active = first.active }) all in
    record { zap = each.zap; flush = each.flush; active = each.active }

-- and logs in range
pub logs_sync_within : (sectors group group' : ℕ) (log : List Change) (kept : LoggedTable) → group ≤ group'
    → AreLogsWithin sectors group kept.logs → AllByRecursion (IsChangeWithin sectors group') log
    → AreLogsWithin sectors group' (sync_logged log kept).logs
logs_sync_within sectors group group' log kept later within all =
    let first = logs_within_later sectors group group' kept.logs later within in
    let each = logs_each (IsChangeWithin sectors group') log kept.table kept.logs
    (record { active = first.active; flushing = first.flushing }) all in
    record { active = each.active; flushing = each.flushing }

-- and logs with keys of lengths in their range
pub logs_sync_lengths : (log : List Change) (kept : LoggedTable) → HaveKeyLengths kept.logs → AllByRecursion HasLength log
    → HaveKeyLengths (sync_logged log kept).logs
logs_sync_lengths log kept lengths all =
    let each = logs_each HasLength log kept.table kept.logs (record { active = lengths.active; flushing = lengths.flushing }) all in
    record { active = each.active; flushing = each.flushing }

-- and with keys of lengths in their range, one of such keys
pub sync_lengths : (log : List Change) (table : TableState) → HasKeyLengths table → AllByRecursion HasLength log
    → HasKeyLengths (sync_table log table)
sync_lengths log table lengths all =
    let each = sync_each (λ entry. IsKeyLength entry.key.len) HasLength (λ entry here. here) log table
    (record { zap = lengths.zap; flush = lengths.flush; active = lengths.active }) all in
    record { zap = each.zap; flush = each.flush; active = each.active }
