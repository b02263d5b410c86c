-- Worked examples of the table's sync: what it logs, when the logs swap, and what it flushes.
use Rattle.std.specs.Prelude.{◌≡◌, ℕ, ◌+◌, List, [], ◌∷◌, fold, map, replicate, Some, None}
use Rattle.std.specs.List.{range_with_len}
use Rattle.ddt_entry.specs.declared.key.Key.{Key}
use Rattle.ddt_entry.specs.declared.entry.Entry.{Entry}
use Rattle.ddt_entry.specs.declared.entry.Change.{Change}
use Rattle.ddt_entry.specs.declared.entry.Change.TheVariants as changes
use Rattle.pool_model.specs.Table.{TableState, empty_table, found, flush_limit, sync_table}

-- the n-th key, its entry with so many pointers, and the change to it
abbrev pub key : ℕ → Key
key n = record { digest = n ∷ []; len = 1 }

abbrev pub entry : (n count : ℕ) → Entry
entry n count = record { key = key n; home = record { place = 32 + n; birth = 2; since = 1000; count = count } }

abbrev pub to : (n count : ℕ) → Change
to n count = changes.Entry (entry n count)

abbrev pub gone : ℕ → Change
gone n = changes.Gone (key n)

-- the table after groups with these changes, and after so many groups without
abbrev pub synced : List (List Change) → TableState → TableState
synced groups table = fold (λ before changes. sync_table changes before) table groups

abbrev pub idle_synced : (count : ℕ) → TableState → TableState
idle_synced count table = synced (replicate count []) table

-- a change goes to the active log
abbrev pub OneChange : Type 0
OneChange = sync_table (to 1 1 ∷ []) empty_table ≡ record empty_table { active = to 1 1 ∷ []; age = 1 }

-- the logs swap at the eighth group
abbrev pub swapped_entry : TableState
swapped_entry = record empty_table { flush = to 1 1 ∷ [] }

abbrev pub swapped_waiting : TableState
swapped_waiting = record empty_table { flush = to 1 0 ∷ [] }

pub record SwapByAge : Type 0 where
  pub before : synced ((to 1 1 ∷ []) ∷ replicate 6 []) empty_table ≡ record empty_table { active = to 1 1 ∷ []; age = 7 }
  pub entry_swapped : synced ((to 1 1 ∷ []) ∷ replicate 7 []) empty_table ≡ swapped_entry
  pub waiting_swapped : synced ((to 1 1 ∷ []) ∷ (to 1 0 ∷ []) ∷ replicate 6 []) empty_table ≡ swapped_waiting

-- a flush sets an entry in the stored table, and drops one without pointers, unless the group took it up again
pub record Flushed : Type 0 where
  pub set : sync_table [] swapped_entry ≡ record empty_table { zap = entry 1 1 ∷ []; age = 1 }
  pub dropped : sync_table [] swapped_waiting ≡ record empty_table { age = 1 }
  pub dropped_from_zap : sync_table [] (record swapped_waiting { zap = entry 1 2 ∷ [] }) ≡ record empty_table { age = 1 }
  pub kept : sync_table (to 1 1 ∷ []) (record swapped_waiting { zap = entry 1 2 ∷ [] })
      ≡ record empty_table { zap = entry 1 2 ∷ []; active = to 1 1 ∷ []; age = 1 }
  pub taken_up : sync_table (to 1 1 ∷ []) swapped_waiting ≡ record empty_table { active = to 1 1 ∷ []; age = 1 }

-- a key that has gone hides what stands below it, and a flush drops it there
pub record GoneKey : Type 0 where
  pub hidden : found (record empty_table { zap = entry 1 3 ∷ []; flush = to 1 2 ∷ []; active = gone 1 ∷ [] }) (key 1) ≡ None
  pub flushing_first : found (record empty_table { zap = entry 1 3 ∷ []; flush = to 1 2 ∷ [] }) (key 1) ≡ Some (entry 1 2).home
  pub stored : found (record empty_table { zap = entry 1 3 ∷ []; flush = to 2 2 ∷ [] }) (key 1) ≡ Some (entry 1 3).home
  pub logged : sync_table (gone 1 ∷ []) (record empty_table { zap = entry 1 3 ∷ [] })
      ≡ record empty_table { zap = entry 1 3 ∷ []; active = gone 1 ∷ []; age = 1 }
  pub dropped : idle_synced 9 (record empty_table { zap = entry 1 3 ∷ entry 2 2 ∷ []; active = gone 1 ∷ [] })
      ≡ record empty_table { zap = entry 2 2 ∷ []; age = 1 }

abbrev pub entries_from : (first count : ℕ) → List Entry
entries_from first count = map (λ n. entry n 1) (range_with_len first count)

abbrev pub changes_from : (first count : ℕ) → List Change
changes_from first count = map (λ n. to n 1) (range_with_len first count)

-- a long log is flushed in parts, each up to a checkpoint: of 80 changes 74 at first
pub record FlushedInParts : Type 0 where
  pub first : sync_table [] (record empty_table { flush = changes_from 0 80; age = 3 })
      ≡ record empty_table { zap = entries_from 0 74; flush = changes_from 74 6; age = 4; checkpoint = Some (key 73) }
  pub last : sync_table [] (record empty_table {
    zap = entries_from 0 74;
    flush = changes_from 74 6;
    age = 4;
    checkpoint = Some (key 73);
  })
      ≡ record empty_table { zap = entries_from 0 80; age = 5 }

-- how much is flushed goes by the log before the group's changes
abbrev pub LimitBefore : Type 0
LimitBefore = sync_table (to 0 2 ∷ []) (record empty_table { flush = changes_from 0 80 })
    ≡ record empty_table { zap = entries_from 1 74; flush = changes_from 75 5; active = to 0 2 ∷ []; age = 1; checkpoint = Some (key 74) }

-- a log whose swap is due waits until the other one is flushed
pub record SwapWaits : Type 0 where
  pub waits : sync_table [] (record empty_table { flush = changes_from 0 140; active = to 200 1 ∷ []; age = 8 })
      ≡ record empty_table {
        zap = entries_from 0 81;
        flush = changes_from 81 59;
        active = to 200 1 ∷ [];
        age = 9;
        checkpoint = Some (key 80);
      }
  pub swaps : idle_synced 2 (record empty_table { flush = changes_from 0 140; active = to 200 1 ∷ []; age = 8 })
      ≡ record empty_table { zap = entries_from 0 140; flush = to 200 1 ∷ [] }

-- the logs swap at 1,000 keys
pub record SwapByKeys : Type 0 where
  pub below : (sync_table (to 998 1 ∷ []) (record empty_table { active = changes_from 0 998 })).active ≡ changes_from 0 999
  pub reached : sync_table (to 999 1 ∷ []) (record empty_table { active = changes_from 0 999 })
      ≡ record empty_table { flush = changes_from 0 1000 }

-- of a thousand changes the first group flushes 189, and the eight behind it 165 to 9
pub record LongFlush : Type 0 where
  pub limits : map (λ count. flush_limit (record empty_table { flush = changes_from 0 count }))
      (1000 ∷ 811 ∷ 646 ∷ 502 ∷ 376 ∷ 265 ∷ 168 ∷ 83 ∷ 9 ∷ [])
      ≡ 189 ∷ 165 ∷ 144 ∷ 126 ∷ 111 ∷ 97 ∷ 85 ∷ 74 ∷ 65 ∷ []
  pub first : sync_table [] (record empty_table { flush = changes_from 0 1000 })
      ≡ record empty_table { zap = entries_from 0 189; flush = changes_from 189 811; age = 1; checkpoint = Some (key 188) }
