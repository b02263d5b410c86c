-- A group of writes of lane 0 as far as it has come, beside the pool as the newest sealed group left it: what one write makes of it.
use Rattle.std.specs.Prelude.{◌≡◌, ◌⊎◌, ℕ, ◌+◌, ◌-◌, ◌^◌, ◌<◌, ◌≤◌, min, ⊤, Bool, true, ◌&&◌, ◌||◌, ◌==◌, List, [], ◌∷◌, ◌++◌, take, fold, length, Option, Some, None, unwrap_or, slice_get, if◌then◌else◌}
use Rattle.std.specs.List.{AllByRecursion, count_by, find, filter_map, list_any}
use Rattle.ddt_entry.specs.Spelling.{KeyFits}
use Rattle.ddt_entry.specs.declared.key.Key.{Key}
use Rattle.ddt_entry.specs.declared.entry.Home.{Home}
use Rattle.ddt_entry.specs.declared.entry.Entry.{Entry}
use Rattle.ddt_entry.specs.declared.entry.Change.{Change}
use Rattle.disk_model.specs.Images.{Image, sector_at}
use Rattle.quota_rule.specs.Allows.{allows}
use Rattle.pool_model.specs.declared.commands.Mode.{Mode}
use Rattle.pool_model.specs.declared.commands.Mode.TheVariants.{On}
use Rattle.pool_model.specs.declared.answers.WriteAnswer.{WriteAnswer}
use Rattle.pool_model.specs.declared.answers.WriteAnswer.TheVariants as written
use Rattle.pool_model.specs.declared.closed.SlotChange.{SlotChange}
use Rattle.pool_model.specs.Pool.{Mark, plain, tracked, loose, since_of, is_tracked, with_key}
use Rattle.pool_model.specs.Plain.{Act, write, read, free, Task, Reply, to_write}
use Rattle.pool_model.specs.Mirrors.{Stored}
use Rattle.pool_model.specs.Table.{TableState, found, entry_at, set_entry}
use Rattle.pool_model.specs.Command.{Opening, Known, Spot, nowhere, at_home, at_fresh, Row, row, mode_row, is_fault, uses_table, pointer_at}
use Rattle.pool_model.specs.Group.{settled, change_from}
use Rattle.slot_table.specs.Slots.{is_slot_at}
use Rattle.table_state.specs.Pools.{Held, block_sector}
use Rattle.table_state.specs.Closing.{PlainClosed}
use Rattle.table_state.specs.Slots.{change_to}

-- what a group has come to: the changes of the slots, the blocks that it stored, the homes that it made or changed, the keys that it
-- named, how many keys are counted, and the replies
pub record Live : Type 0 where
  pub slots : List SlotChange
  pub contents : List Stored
  pub homes : List Entry
  pub named : List Key
  pub keys : ℕ
  pub replies : List Reply

-- ---- What it finds

abbrev pub or_below : (below above : Option Home) → Option Home
or_below below None = below
or_below below (Some home) = Some home

-- the home of a key: the group's, or else the table's
abbrev pub home_here : TableState → List Entry → Key → Option Home
home_here table homes key = or_below (found table key) (entry_at key homes)

abbrev pub sector_or : List ℕ → Option Stored → List ℕ
sector_or sector None = sector
sector_or sector (Some stored) = block_sector stored.bytes

-- the sector at a place: a block of the group with zeros behind it, or what the image has
abbrev pub sector_here : Image → List Stored → (place : ℕ) → List ℕ
sector_here image contents place = sector_or (sector_at image place) (find (λ stored. stored.place == place) contents)

-- a home with its block
abbrev pub known_by : Image → List Stored → Key → Option Home → Option Known
known_by image contents key None = None
known_by image contents key (Some home) = Some (record { home = home; block = take key.len (sector_here image contents home.place) })

abbrev pub is_change_at : (slot : ℕ) → SlotChange → Bool
is_change_at slot change = (change.lane == 0) && (change.slot == slot)

-- whether a slot of lane 0 holds a pointer
abbrev pub is_taken : Held → Live → (slot : ℕ) → Bool
is_taken held live slot = list_any (is_slot_at 0 slot) held.slots || list_any (is_change_at slot) live.slots

-- how lane 0 uses the table
abbrev pub first_mode : List Mode → Mode
first_mode modes = unwrap_or (slice_get modes 0) On

-- the group's opening, as far as the image tells it
abbrev pub opening_over : (List ℕ → Key) → Image → Held → (moment : ℕ) → Opening
opening_over key_of image held moment =
    record { key_of = key_of; table = held.table; blocks = λ place. sector_at image place; number = held.group + 1; moment = moment }

-- what a write into an empty slot answers, and where its pointer goes
abbrev pub mode_here : (List ℕ → Key) → Image → Held → Live → (moment : ℕ) (content : List ℕ) (failed : Bool) → Row
mode_here key_of image held live moment content failed =
    mode_row (first_mode held.modes) (opening_over key_of image held moment)
    (known_by image live.contents (key_of content) (home_here held.table live.homes (key_of content))) content failed
    (allows live.keys held.quota)

-- what a write into a slot of lane 0 answers, and where its pointer goes
abbrev pub row_here : (List ℕ → Key) → Image → Held → Live → (moment slot : ℕ) (content : List ℕ) (failed : Bool) → Row
row_here key_of image held live moment slot content failed =
    if is_taken held live slot then row written.Taken nowhere else mode_here key_of image held live moment content failed

-- ---- What a write makes of it

abbrev pub write_of : (slot : ℕ) (content : List ℕ) → Task
write_of slot content = record { lane = 0; slot = slot; act = write content }

-- the change that brings a write's pointer to its slot
abbrev pub brought : (slot : ℕ) (content : List ℕ) → Key → (place birth : ℕ) → Mark → SlotChange
brought slot content key place birth mark = change_to (pointer_at (write_of slot content) key content place birth mark)

-- a home with one pointer more, counted since this mark
abbrev pub shared : Key → Home → Mark → Entry
shared key home mark =
    record { key = key; home = record { place = home.place; birth = home.birth; since = since_of mark; count = home.count + 1 } }

-- the homes with that of a new block, where the table counts it
abbrev pub with_first : Key → (place birth : ℕ) → Mark → List Entry → List Entry
with_first key place birth plain homes = homes
with_first key place birth (tracked since) homes =
    set_entry (record { key = key; home = record { place = place; birth = birth; since = since; count = 1 } }) homes
with_first key place birth loose homes = homes

-- one pointer more at the spot's home can be counted
abbrev pub IsShareable : Spot → Type 0
IsShareable nowhere = ⊤
IsShareable (at_home home mark) = home.count < 2 ^ 63
IsShareable (at_fresh mark) = ⊤

-- with the write's pointer at its spot, where the group has this number and this place is its next fresh one
abbrev pub put_at : (number place slot : ℕ) → Key → (content : List ℕ) → Live → Spot → Live
put_at number place slot key content live nowhere = live
put_at number place slot key content live (at_home home mark) =
    record live {
      slots = live.slots ++ brought slot content key home.place home.birth mark ∷ [];
      homes = set_entry (shared key home mark) live.homes;
      keys = live.keys + (if home.count == 0 then 1 else 0);
    }
put_at number place slot key content live (at_fresh mark) =
    record live {
      slots = live.slots ++ brought slot content key place number mark ∷ [];
      contents = live.contents ++ record { place = place; bytes = content } ∷ [];
      homes = with_first key place number mark live.homes;
      keys = live.keys + (if is_tracked mark then 1 else 0);
    }

-- with the key named, where the lane uses the table, and the answer
abbrev pub noted : Bool → Key → Reply → Live → Live
noted uses key reply live =
    record live { named = if uses then live.named ++ key ∷ [] else live.named; replies = live.replies ++ reply ∷ [] }

-- a write so answered
abbrev pub after_row : Held → (place slot : ℕ) → Key → (content : List ℕ) → Live → Row → Live
after_row held place slot key content live chosen =
    noted (uses_table (first_mode held.modes)) key (to_write chosen.answer)
    (put_at (held.group + 1) place slot key content live chosen.spot)

-- over told contents the row is the one that the definitions choose
abbrev pub IsChosen : Option Image → (List ℕ → Key) → Held → Live → (moment slot : ℕ) (content : List ℕ) → Row → Type 0
IsChosen None key_of held live moment slot content chosen = ⊤
IsChosen (Some image) key_of held live moment slot content chosen =
    chosen ≡ row_here key_of image held live moment slot content (is_fault (to_write chosen.answer))

-- the home at which a spot puts a pointer is this one
abbrev pub IsHomeOf : Option Home → Spot → Type 0
IsHomeOf now nowhere = ⊤
IsHomeOf now (at_home home mark) = now ≡ Some home
IsHomeOf now (at_fresh mark) = ⊤

-- the table counts a pointer at a home since this moment or since the home's, and one at a fresh place since none that is later
abbrev pub IsSince : (moment : ℕ) → Spot → Type 0
IsSince moment nowhere = ⊤
IsSince moment (at_home home mark) = (since_of mark ≡ moment) ⊎ (since_of mark ≡ home.since)
IsSince moment (at_fresh mark) = since_of mark ≤ moment

-- a count of faulty reads that went up where the answer is a fault, unless it stands at its end
abbrev pub CountsFault : (before now : ℕ) → WriteAnswer → Type 0
CountsFault before now answer = min (before + count_by is_fault (to_write answer ∷ [])) (2 ^ 64 - 1) ≤ now

-- a write was answered, with this place as the next fresh one, while the count of faulty reads went from one to the other
pub record IsWritten (told : Option Image) (key_of : List ℕ → Key) (held : Held) (moment place slot : ℕ) (content : List ℕ) (before now : ℕ)
    (live next : Live) : Type 0 where
  pub chosen : Row
  pub is_chosen : IsChosen told key_of held live moment slot content chosen
  pub home_is : IsHomeOf (home_here held.table live.homes (key_of content)) chosen.spot
  pub since : IsSince moment chosen.spot
  pub empty : is_taken held live slot ≡ true → chosen.spot ≡ nowhere
  pub fits : KeyFits (key_of content)
  pub counts : CountsFault before now chosen.answer
  pub next_is : next ≡ after_row held place slot (key_of content) content live chosen

-- the same of a command; nothing else than a write is done so
abbrev pub WritesAct : (told : Option Image) (key_of : List ℕ → Key) (held : Held) (moment place slot : ℕ) → Act
    → (before now : ℕ) (live next : Live) → Type 0
WritesAct told key_of held moment place slot (write content) before now live next =
    IsWritten told key_of held moment place slot content before now live next
WritesAct told key_of held moment place slot read before now live next = ⊥
WritesAct told key_of held moment place slot free before now live next = ⊥

-- what a write needs of the group so far: homes on the disk with room for one pointer more, few keys, and blocks that fit a sector
pub record IsReady (held : Held) (sectors : ℕ) (live : Live) : Type 0 where
  pub homes : (key : Key) (home : Home) → home_here held.table live.homes key ≡ Some home → (home.place < sectors) × (home.count < 2 ^ 63)
  pub keys : live.keys < 2 ^ 63
  pub blocks : AllByRecursion (λ stored. length stored.bytes ≤ 4096) live.contents

-- ---- What it leaves

-- the change of a key
abbrev pub change_here : Held → Live → Key → Option Change
change_here held live key =
    change_from key (found held.table key) (settled (held.group + 1) (found held.table key) (home_here held.table live.homes key))

-- the changes of the table, sorted by key
abbrev pub changes_here : Held → Live → List Change
changes_here held live = filter_map (change_here held live) (fold (λ keys key. with_key key keys) [] live.named)

-- what the group leaves to its sync
abbrev pub group_here : Held → Live → PlainClosed
group_here held live =
    record { log = changes_here held live; slots = live.slots; contents = live.contents; modes = held.modes; quota = held.quota }
