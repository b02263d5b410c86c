-- Which of the homes that a table finds a prune takes, in which order.
use Rattle.std.specs.Prelude.{ℕ, ◌+◌, ◌*◌, ◌/◌, Bool, ◌==◌, nat_le, List, [], ◌∷◌, length, filter, take, fold, if◌then◌else◌}
use Rattle.std.specs.Ordering.{is_lt, nat_cmp, ordering_then}
use Rattle.std.specs.declared.cmp.Ordering.{Ordering}
use Rattle.ddt_entry.specs.Keys.{key_cmp}
use Rattle.ddt_entry.specs.declared.entry.Entry.{Entry}
use Rattle.pool_model.specs.declared.commands.PruneRule.{PruneRule}
use Rattle.pool_model.specs.declared.commands.PruneRule.TheVariants.{Age, Share}
use Rattle.pool_model.specs.Prune.{day}
use Rattle.pool_model.specs.Table.{TableState}
use Rattle.log_pair.specs.Paired.{Paired}

-- a table of these homes and these logs, whose active log is so old
abbrev pub table_of_parts : (zap : List Entry) → Paired → (age : ℕ) → TableState
table_of_parts zap logs age =
    record { zap = zap; flush = logs.flush; active = logs.active; age = age; checkpoint = logs.checkpoint }

-- the oldest first, and then by key
abbrev pub age_cmp : Entry → Entry → Ordering
age_cmp a b = ordering_then (nat_cmp a.home.since b.home.since) (key_cmp a.key b.key)

abbrev pub insert_by_age : Entry → List Entry → List Entry
insert_by_age e [] = e ∷ []
insert_by_age e (x ∷ xs) = if is_lt (age_cmp e x) then e ∷ x ∷ xs else x ∷ insert_by_age e xs

abbrev pub by_age : List Entry → List Entry
by_age entries = fold (λ sorted e. insert_by_age e sorted) [] entries

abbrev pub is_old : (days moment : ℕ) → Entry → Bool
is_old days moment e = nat_le (e.home.since + day * days) moment

-- how many a share of so many is, rounded down
abbrev pub share_of : (percent count : ℕ) → ℕ
share_of percent count = percent * count / 100

-- what a rule takes of homes, the oldest first, and then by key
abbrev pub taken_by : PruneRule → (moment : ℕ) → List Entry → List Entry
taken_by (Age days) moment unique = filter (is_old days moment) (by_age unique)
taken_by (Share percent) moment unique = take (share_of percent (length unique)) (by_age unique)

-- the homes of one pointer
abbrev pub unique_homes : List Entry → List Entry
unique_homes found = filter (λ entry. entry.home.count == 1) found

-- of the homes that a table finds, those that a prune takes
abbrev pub candidates : (found : List Entry) → PruneRule → (moment : ℕ) → List Entry
candidates found rule moment = taken_by rule moment (unique_homes found)
