-- The dedup table with its two logs, as sorted lists: what it finds, and what one group's sync makes of it.
use Rattle.std.specs.Prelude.{◌≡◌, ℕ, ◌+◌, ◌-◌, ◌/◌, ◌^◌, min, Bool, true, not, ◌&&◌, ◌||◌, ◌==◌, nat_lt, nat_le, List, [], ◌∷◌, length, filter, fold, take, drop, Option, Some, None, if◌then◌else◌}
use Rattle.std.specs.List.{AllByRecursion, find, last_or}
use Rattle.std.specs.Option.{option_map}
use Rattle.std.specs.Ordering.{is_eq, is_lt}
use Rattle.ddt_entry.specs.Keys.{key_cmp, key_eq}
use Rattle.ddt_entry.specs.Changes.{key_in}
use Rattle.ddt_entry.specs.declared.key.Key.{Key}
use Rattle.ddt_entry.specs.declared.entry.Home.{Home}
use Rattle.ddt_entry.specs.declared.entry.Entry.{Entry}
use Rattle.ddt_entry.specs.declared.entry.Change.{Change}
use Rattle.ddt_entry.specs.declared.entry.Change.TheVariants as changes
use Rattle.pool_model.specs.Pool.{Pool, Pointer, Pairwise, IsApart, run_length, since_of, tracked_at}

-- the stored table (homes with counts above 0), the two logs, each sorted by key, how long the active log has grown, and how far
-- the flushing log has been flushed
pub record TableState : Type 0 where
  pub zap : List Entry
  pub flush : List Change
  pub active : List Change
  pub age : ℕ
  pub checkpoint : Option Key

abbrev pub empty_table : TableState
empty_table = record { zap = []; flush = []; active = []; age = 0; checkpoint = None }

-- keys rise from entry to entry
abbrev pub AreRising : List Entry → Type 0
AreRising entries = Pairwise (λ (a b : Entry). is_lt (key_cmp a.key b.key) ≡ true) entries

-- and from change to change
abbrev pub AreChangesRising : List Change → Type 0
AreChangesRising log = Pairwise (λ (a b : Change). is_lt (key_cmp (key_in a) (key_in b)) ≡ true) log

-- whether the flushing log has been flushed past a key
abbrev pub is_past : (checkpoint : Option Key) → Key → Bool
is_past None key = true
is_past (Some checkpoint) key = is_lt (key_cmp checkpoint key)

-- the home that a change gives its key
abbrev pub home_in : Change → Option Home
home_in (changes.Entry entry) = Some entry.home
home_in (changes.Gone key) = None

abbrev pub entry_at : Key → List Entry → Option Home
entry_at key entries = option_map (λ entry. entry.home) (find (λ entry. key_eq entry.key key) entries)

abbrev pub change_at : Key → List Change → Option Change
change_at key log = find (λ change. key_eq (key_in change) key) log

-- each list is sorted by key, the homes of the stored table are counted, no key is in both logs, and the flushing log is behind its
-- checkpoint
pub record IsTable (table : TableState) : Type 0 where
  pub zap_rising : AreRising table.zap
  pub zap_counted : AllByRecursion (λ entry. nat_lt 0 entry.home.count ≡ true) table.zap
  pub flush_rising : AreChangesRising table.flush
  pub active_rising : AreChangesRising table.active
  pub logs_apart : AllByRecursion (λ change. change_at (key_in change) table.active ≡ None) table.flush
  pub past : AllByRecursion (λ change. is_past table.checkpoint (key_in change) ≡ true) table.flush

-- a change's home, or else what stands below it
abbrev pub found_over : Option Home → Option Change → Option Home
found_over below None = below
found_over below (Some change) = home_in change

-- the home of a key: by the active log, then by the flushing log, then by the stored table
abbrev pub found : TableState → Key → Option Home
found table key = found_over (found_over (entry_at key table.zap) (change_at key table.flush)) (change_at key table.active)

-- sorted entries, with this one in its key's place
abbrev pub set_entry : Entry → List Entry → List Entry
set_entry entry [] = entry ∷ []
set_entry entry (e ∷ es) =
    if is_lt (key_cmp entry.key e.key) then entry ∷ e ∷ es
    else (if is_eq (key_cmp entry.key e.key) then entry ∷ es else e ∷ set_entry entry es)

abbrev pub drop_entry : Key → List Entry → List Entry
drop_entry key entries = filter (λ entry. not (key_eq entry.key key)) entries

-- sorted changes, with this one in its key's place
abbrev pub set_change : Change → List Change → List Change
set_change change [] = change ∷ []
set_change change (c ∷ cs) =
    if is_lt (key_cmp (key_in change) (key_in c)) then change ∷ c ∷ cs
    else (if is_eq (key_cmp (key_in change) (key_in c)) then change ∷ cs else c ∷ set_change change cs)

abbrev pub drop_change : Key → List Change → List Change
drop_change key log = filter (λ change. not (key_eq (key_in change) key)) log

-- first step of a sync: each change goes to the active log, and its key leaves the flushing log
abbrev pub log_change : TableState → Change → TableState
log_change table change = record table { active = set_change change table.active; flush = drop_change (key_in change) table.flush }

abbrev pub logged : List Change → TableState → TableState
logged changes table = fold log_change table changes

-- what a flushed change makes of the stored table: a home that is counted is set, any other goes
abbrev pub flush_entry : List Entry → Change → List Entry
flush_entry zap (changes.Entry entry) = if nat_lt 0 entry.home.count then set_entry entry zap else drop_entry entry.key zap
flush_entry zap (changes.Gone key) = drop_entry key zap

-- how far a flushing log has been flushed: to the last key that left, or nowhere where nothing is left of it
abbrev pub checkpoint_after : (left rest : List Change) → Option Key
checkpoint_after left [] = None
checkpoint_after left (change ∷ rest) = option_map key_in (last_or None left)

-- second step: the first so many changes of the flushing log come to the stored table
abbrev pub flushed : (limit : ℕ) → TableState → TableState
flushed limit table = record table {
  zap = fold flush_entry table.zap (take limit table.flush);
  flush = drop limit table.flush;
  checkpoint = checkpoint_after (take limit table.flush) (drop limit table.flush);
}

-- how many groups an active log may grow, and how many keys it may have, before it is flushed
abbrev pub swap_age : ℕ
swap_age = 8

abbrev pub swap_keys : ℕ
swap_keys = 1000

abbrev pub is_due : TableState → Bool
is_due table =
    (length table.flush == 0) && nat_lt 0 (length table.active) && (nat_le swap_keys (length table.active) || nat_le swap_age table.age)

abbrev pub aged : TableState → TableState
aged table = record table { age = min (table.age + 1) (2 ^ 64 - 1) }

-- third step: the active log is a group older, and becomes the flushing one when it is due
abbrev pub swapped : TableState → TableState
swapped table =
    if is_due (aged table) then record table { flush = table.active; active = []; age = 0; checkpoint = None } else aged table

-- how many changes a sync flushes
abbrev pub flush_limit : TableState → ℕ
flush_limit table = 64 + length table.flush / 8

-- the table after a group with these changes
abbrev pub sync_table : List Change → TableState → TableState
sync_table changes table = swapped (flushed (flush_limit table) (logged changes table))

-- all homes that the table finds, sorted by key
abbrev pub set_found : List Entry → Change → List Entry
set_found entries (changes.Entry entry) = set_entry entry entries
set_found entries (changes.Gone key) = drop_entry key entries

abbrev pub entries_found : TableState → List Entry
entries_found table = fold set_found (fold set_found table.zap table.flush) table.active

-- those that are counted
abbrev pub counted_homes : TableState → List Entry
counted_homes table = filter (λ entry. nat_lt 0 entry.home.count) (entries_found table)

-- those whose place is kept though no pointer is counted
abbrev pub waiting_in : TableState → List Entry
waiting_in table = filter (λ entry. entry.home.count == 0) (entries_found table)

-- a home as far as it is counted
abbrev pub counted : Option Home → Option Home
counted None = None
counted (Some home) = if nat_lt 0 home.count then Some home else None

-- the home that tracked pointers share
abbrev pub home_of_pointers : List Pointer → Option Home
home_of_pointers [] = None
home_of_pointers (p ∷ ps) = Some (record { place = p.place; birth = p.birth; since = since_of p.mark; count = length (p ∷ ps) })

abbrev pub IsApartFrom : Entry → Pointer → Type 0
IsApartFrom entry p = IsApart entry.home.place (run_length entry.key) p.place (run_length p.key)

-- the table is sorted, each entry counts exactly the live pointers, and a waiting home's place is no one else's
pub record Matches (pool : Pool) (table : TableState) : Type 0 where
  pub sorted : IsTable table
  pub homes : (key : Key) → counted (found table key) ≡ home_of_pointers (tracked_at pool key)
  pub waiting : AllByRecursion (λ entry. AllByRecursion (IsApartFrom entry) pool.pointers) (waiting_in table)
  pub apart : Pairwise (λ a b. IsApart a.home.place (run_length a.key) b.home.place (run_length b.key)) (waiting_in table)
