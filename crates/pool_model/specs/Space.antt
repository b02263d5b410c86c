-- How much room a group needs, and how much there is.
use Rattle.std.specs.Prelude.{ℕ, ◌+◌, ◌*◌, ◌/◌, Bool, true, false, not, ◌&&◌, ◌||◌, ◌==◌, nat_le, nat_lt, List, length, map, count_by, Option, Some, None, if◌then◌else◌}
use Rattle.std.specs.List.{list_any, range_with_len}
use Rattle.pool_model.specs.declared.notes.Outcome.{Outcome}
use Rattle.pool_model.specs.declared.notes.Outcome.TheVariants.{NoSpace}
use Rattle.pool_model.specs.Pool.{Pool, run_length}
use Rattle.pool_model.specs.Table.{TableState, waiting_in}
use Rattle.pool_model.specs.Logs.{Logs}
use Rattle.pool_model.specs.Plain.{Task, Act, write, read, free}

abbrev pub is_write : Act → Bool
is_write (write content) = true
is_write read = false
is_write free = false

abbrev pub is_free_act : Act → Bool
is_free_act (write content) = false
is_free_act read = false
is_free_act free = true

-- how many commands may change a slot or the table: writes and frees, whatever they answer, and never reads
abbrev pub writes_in : List Task → ℕ
writes_in tasks = count_by (λ task. is_write task.act) tasks

abbrev pub changes_in : List Task → ℕ
changes_in tasks = writes_in tasks + count_by (λ task. is_free_act task.act) tasks

-- the most that the metadata may grow when so many changes are flushed
abbrev pub flush_room : (limit : ℕ) → ℕ
flush_room limit = 3 * limit + 200

-- the sectors that a group needs: with so many pages now, such a flush limit, so many changes, and so many of them writes
abbrev pub need : (pages limit changes writes : ℕ) → ℕ
need pages limit changes writes =
    let metadata : ℕ = pages + 6 * changes + flush_room limit in
    if writes == 0 then metadata else writes + 2 * metadata + flush_room limit + 6

-- whether a sector lies in the run of this length from a place on
abbrev pub lies_in : (sector place length : ℕ) → Bool
lies_in sector place length = nat_le place sector && nat_lt sector (place + length)

-- whether something names a sector: the ring, a page of the image, a pointer, or a home that waits
abbrev pub is_used : (pages : List ℕ) → Pool → TableState → (sector : ℕ) → Bool
is_used pages pool table sector =
    nat_lt sector 32
    || list_any (λ page. page == sector) pages
    || list_any (λ p. lies_in sector p.place (run_length p.key)) pool.pointers
    || list_any (λ entry. lies_in sector entry.home.place (run_length entry.key)) (waiting_in table)

-- for each sector of a pool whether something names it
abbrev pub used_sectors : (sectors : ℕ) → (pages : List ℕ) → Pool → TableState → List Bool
used_sectors sectors pages pool table = map (is_used pages pool table) (range_with_len 0 sectors)

-- how many sectors nothing names
abbrev pub free_count : (sectors : ℕ) → (pages : List ℕ) → Pool → TableState → ℕ
free_count sectors pages pool table = count_by not (used_sectors sectors pages pool table)

-- the outcome of a group that needs so many sectors where so many are free; nothing where they are enough
abbrev pub space_lacking : (left needed : ℕ) → Option Outcome
space_lacking left needed = if nat_lt left needed then Some (NoSpace needed left) else None

-- how many pages a chain of so many records takes
abbrev pub chain_pages : (records : ℕ) → ℕ
chain_pages records = (records + 55) / 56

-- how many pages the image of a pool takes: for its slots, for both classes of the stored table, and for all changes of both logs
abbrev pub image_pages : Pool → TableState → Logs → ℕ
image_pages pool table logs =
    chain_pages (length pool.pointers)
    + chain_pages (count_by (λ entry. entry.home.count == 1) table.zap)
    + chain_pages (count_by (λ entry. nat_lt 1 entry.home.count) table.zap)
    + chain_pages (length logs.active)
    + chain_pages (length logs.flushing)
