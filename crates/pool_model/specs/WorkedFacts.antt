-- Worked examples beside the runs: files that are refused, digests, room, the premise on digests, and pools that hold together.
use Rattle.std.specs.Prelude.{◌≡◌, ℕ, ◌^◌, true, false, List, [], ◌∷◌, ◌++◌, length, replicate, codes, Ok, Err, Some, None, ◌==◌, if◌then◌else◌}
use Rattle.std.specs.List.{AllByRecursion}
use Rattle.hex.specs.Hex.{encode_lower}
use Rattle.sha2.specs.Sha256.{sha256}
use Rattle.ddt_entry.specs.Keys.{sha256_key, weak_key}
use Rattle.ddt_entry.specs.declared.key.Key.{Key}
use Rattle.ddt_entry.specs.declared.entry.Entry.{Entry}
use Rattle.ddt_entry.specs.declared.entry.Change.TheVariants as changes
use Rattle.pool_model.specs.declared.answers.WriteAnswer.TheVariants as written
use Rattle.pool_model.specs.declared.commands.Mode.TheVariants.{Off, On, Verify}
use Rattle.pool_model.specs.declared.notes.BadKind.{BadKind}
use Rattle.pool_model.specs.declared.notes.BadKind.TheVariants.{Form, Range, Many, Open}
use Rattle.pool_model.specs.declared.commands.PruneRule.TheVariants.{Age, Share}
use Rattle.pool_model.specs.Pool.{Pool, Pointer, Mark, plain, tracked, loose, empty_pool, IsContent, IsSound, IsWellFormed}
use Rattle.pool_model.specs.Stats.{stats_of}
use Rattle.pool_model.specs.Table.{empty_table, IsTable, Matches}
use Rattle.pool_model.specs.Plain.{Part, Told, write, read, free, stat, «import», to_write}
use Rattle.pool_model.specs.Space.{need, writes_in, changes_in}
use Rattle.pool_model.specs.Group.{Standing}
use Rattle.pool_model.specs.Clash.{NoClash}
use Rattle.pool_model.specs.File.{Progress, file_limit, file_of, each, does, reads, frees, stands, item_line, step_line, block_fits, read_line, is_too_many}
use Rattle.pool_model.specs.Worked.{rules_by, steps_by, new_pool, lanes_item, mode_item, quota_item, prune_item, a, b, c, task, new, hit, lane_note, group_note, settings_note}
use Rattle.pool_model.specs.WorkedTurns.{spoilt}

-- a bad file, the number of its first bad line, and what is wrong with it
pub record Row : Type 0 where
  pub file : List ℕ
  pub line : ℕ
  pub kind : BadKind

abbrev pub row : (file : List ℕ) (line : ℕ) (kind : BadKind) → Row
row file line kind = record { file = file; line = line; kind = kind }

-- each word of a write misspelled, out of its range or missing, and the same of a group's moment; lines that may not stand where they are;
-- two bad lines; numbers of any length; a block as one byte so many times; and groups that aren't ended, where the last line may have a
-- line feed or not, be empty, or be a comment
abbrev pub bad_rows : List Row
bad_rows =
    row (codes "hello\n") 1 Form
    ∷ row (codes "group 1\n0 write 1 6\nend\n") 2 Form
    ∷ row (codes "group 1\n0 write 1 6g\nend\n") 2 Form
    ∷ row (codes "group 1\n0 write : 61\nend\n") 2 Form
    ∷ row (codes "group 1\n0 write / 61\nend\n") 2 Form
    ∷ row (codes "group 1\n0 write 1 \nend\n") 2 Form
    ∷ row (codes "group 1\n0 write 01 61\nend\n") 2 Form
    ∷ row (codes "group 1\n0  write 1 61\nend\n") 2 Form
    ∷ row (codes "group 1\n0 write 65536 61\nend\n") 2 Range
    ∷ row (codes "group 1\n0 write 65536 6\nend\n") 2 Form
    ∷ row (codes "group 1\n0 write 99999999999999999999999999999999999999999999999 61\nend\n") 2 Range
    ∷ row (codes "group 1\n0 write 1 61*0\nend\n") 2 Range
    ∷ row (codes "group 1\n0 write 1 61*4097\nend\n") 2 Range
    ∷ row (codes "group 1\n0 write 1 61*99999999999999999999999999999999999999999\nend\n") 2 Range
    ∷ row (codes "group 1\n0 write 1 61*00\nend\n") 2 Form
    ∷ row (codes "group 1\n0 write 1 6162*2\nend\n") 2 Form
    ∷ row (codes "group 1099511627776\nend\n") 1 Range
    ∷ row (codes "group 01\nend\n") 1 Form
    ∷ row (codes "groups 1\nend\n") 1 Form
    ∷ row (codes "group\nend\n") 1 Form
    ∷ row (codes "group 1 1\nend\n") 1 Form
    ∷ row (codes "stat\r\n") 1 Form
    ∷ row (codes "stat\n\n# a line\nstat \n") 4 Form
    ∷ row (codes "stat\nend\n") 2 Form
    ∷ row (codes "stat\n0 write 1 61\n") 2 Form
    ∷ row (codes "group 1\nend\nend\n") 3 Form
    ∷ row (codes "group 1\ngroup 2\nend\n") 2 Form
    ∷ row (codes "group 1\n0 write 1 61\nstat\n") 3 Form
    ∷ row (codes "group 1\n0 write 65536 61\nhello\n") 2 Range
    ∷ row (codes "hello\ngroup 1099511627776\n") 1 Form
    ∷ row (codes "group 1") 2 Open
    ∷ row (codes "group 1\n") 2 Open
    ∷ row (codes "group 1\n\n") 3 Open
    ∷ row (codes "group 1\n0 write 1 61\n# a line") 4 Open
    ∷ []

abbrev pub RefusedFiles : Type 0
RefusedFiles = AllByRecursion (λ r. file_of r.file ≡ Err (record { line = r.line; kind = r.kind })) bad_rows

-- what the lines say that aren't run yet
pub record OtherLines : Type 0 where
  pub reading : step_line (codes "15" ∷ codes "read" ∷ codes "65535" ∷ []) ≡ Some (does 15 65535 reads)
  pub freeing : step_line (codes "1" ∷ codes "free" ∷ codes "0" ∷ []) ≡ Some (does 1 0 frees)
  pub quota_is : item_line (codes "quota" ∷ codes "256" ∷ []) ≡ Some (stands (quota_item (Some 256)))
  pub no_quota : item_line (codes "quota" ∷ codes "none" ∷ []) ≡ Some (stands (quota_item None))
  pub off : item_line (codes "mode" ∷ codes "3" ∷ codes "off" ∷ []) ≡ Some (stands (mode_item 3 Off))
  pub on : item_line (codes "mode" ∷ codes "3" ∷ codes "on" ∷ []) ≡ Some (stands (mode_item 3 On))
  pub verify : item_line (codes "mode" ∷ codes "3" ∷ codes "verify" ∷ []) ≡ Some (stands (mode_item 3 Verify))
  pub by_age : item_line (codes "prune" ∷ codes "9" ∷ codes "age" ∷ codes "1" ∷ []) ≡ Some (stands (prune_item 9 (Age 1)))
  pub by_share : item_line (codes "prune" ∷ codes "9" ∷ codes "share" ∷ codes "1" ∷ []) ≡ Some (stands (prune_item 9 (Share 1)))

-- the largest moment and slot, a slot 0, hex digits of each kind in either case, and a byte repeated
abbrev pub EdgeFile : Type 0
EdgeFile = file_of (codes "group 1099511627775\n0 write 65535 00fF\n0 write 0 A9\n0 write 7 0a*3\nend\nstat")
    ≡ Ok (lanes_item 1099511627775
    (task 0 65535 (write (0 ∷ 255 ∷ [])) ∷ task 0 0 (write (169 ∷ [])) ∷ task 0 7 (write (10 ∷ 10 ∷ 10 ∷ [])) ∷ []) ∷ stat ∷ [])

-- files of no item, of one, and of several, an empty group among them, with lines that are skipped
pub record ReadFiles : Type 0 where
  pub empty : file_of [] ≡ Ok []
  pub skipped : file_of (codes "\n#\n# stat\n\n") ≡ Ok []
  pub asks : file_of (codes "stat\n") ≡ Ok (stat ∷ [])
  pub imports : file_of (codes "import") ≡ Ok («import» ∷ [])
  pub no_write : file_of (codes "group 5\nend\n") ≡ Ok (lanes_item 5 [] ∷ [])
  pub several : file_of (codes "stat\ngroup 9\n0 write 2 61\n\n0 write 1 62\nend\n#\nimport\ngroup 8\n0 write 3 63\nend\n")
      ≡ Ok (stat ∷ lanes_item 9 (task 0 2 (write a) ∷ task 0 1 (write b) ∷ []) ∷ «import» ∷ lanes_item 8 (task 0 3 (write c) ∷ []) ∷ [])

-- so many items, a group at moment 0 of which `end` was not read yet with so many writes, and so many reads
abbrev pub with_group_of : (items tasks read_before : ℕ) → Progress
with_group_of items tasks read_before = record {
  lines = 0;
  parts = replicate items stat;
  group = Some (record { moment = 0; tasks = replicate tasks (task 0 1 (write a)) });
  reads = read_before;
}

abbrev pub without_group : (items : ℕ) → Progress
without_group items = record { lines = 0; parts = replicate items stat; group = None; reads = 0 }

-- the longest file, how many lanes and buckets there are, the longest block and one longer, the most writes, items and reads and one more
pub record Limits : Type 0 where
  pub longest_file : file_limit ≡ 2 ^ 26
  pub sixteen : length empty_pool.modes ≡ 16
  pub powers : length (stats_of empty_pool).buckets ≡ 21
  pub block : block_fits (each (replicate 4096 97)) ≡ true
  pub longer : block_fits (each (replicate 4097 97)) ≡ false
  pub writes : read_line (with_group_of 0 65535 0) (codes "0 write 1 61") ≡ Ok (with_group_of 0 65536 0)
  pub one_more : read_line (with_group_of 0 65536 0) (codes "0 write 1 61") ≡ Err Many
  pub items : read_line (without_group 9999) (codes "stat") ≡ Ok (without_group 10000)
  pub one_item_more : read_line (without_group 10000) (codes "stat") ≡ Err Many
  pub one_group_more : read_line (without_group 10000) (codes "group 1") ≡ Err Many
  pub last_end : read_line (with_group_of 9999 65536 0) (codes "end") ≡ Ok (record (without_group 0) {
    parts = replicate 9999 stat ++ lanes_item 0 (replicate 65536 (task 0 1 (write a))) ∷ [];
  })
  pub last_read : is_too_many (with_group_of 0 0 262143) (does 0 1 reads) ≡ false
  pub one_read_more : is_too_many (with_group_of 0 0 262144) (does 0 1 reads) ≡ true
  pub read_of_full : is_too_many (with_group_of 0 65536 0) (does 0 1 reads) ≡ true
  pub free_behind : is_too_many (with_group_of 0 0 262144) (does 0 1 frees) ≡ false

-- published digests
pub record Digests : Type 0 where
  pub of_a : encode_lower (sha256 a) ≡ codes "ca978112ca1bbdcafac231b39a23dc4da786eff8147c4e72b9807785afee48bb"
  pub of_b : encode_lower (sha256 b) ≡ codes "3e23e8160039594a33894f6564e1b1348bbd7a0088d42c4acb73eeaed59c009d"
  pub of_c : encode_lower (sha256 c) ≡ codes "2e7d2c03a9507ae265ecf5b5356885a53393a2029d241394997265a1a25aefc6"

-- what groups need: with 4 pages and with none, of 54 writes and 10 or more frees, and of one free alone; reads need nothing
pub record Needs : Type 0 where
  pub writes : writes_in (replicate 54 (task 0 0 (write a)) ++ replicate 10 (task 0 100 free) ++ replicate 9 (task 0 0 read)) ≡ 54
  pub changes : changes_in (replicate 54 (task 0 0 (write a)) ++ replicate 10 (task 0 100 free) ++ replicate 9 (task 0 0 read)) ≡ 64
  pub full : need 4 64 64 54 ≡ 2012
  pub one_more : need 4 64 65 54 ≡ 2024
  pub one_free : need 4 64 1 0 ≡ 402
  pub without_pages : need 0 64 65 54 ≡ 2016
  pub many_writes : need 4 64 1000 1000 ≡ 14190

-- two blocks of one weak key, written in lane 0
abbrev pub two_blocks : List Part
two_blocks = lanes_item 1000 (task 0 1 (write (97 ∷ a)) ∷ task 0 2 (write (97 ∷ b)) ∷ []) ∷ []

abbrev pub two_blocks_notes : (number : ℕ) → List Told
two_blocks_notes number = group_note number (lane_note 0 (new ∷ hit ∷ []) (32 ∷ []) ∷ []) ∷ []

-- the premise over these items and their notes
abbrev pub IsClashFree : (List ℕ → Key) → Standing → List Part → List Told → Type 0
IsClashFree key_of s parts notes = NoClash key_of s (steps_by (rules_by key_of) parts s notes)

-- one write in a lane that trusts keys
abbrev pub TrustsOneWrite : Standing → Type 0
TrustsOneWrite s =
    IsClashFree sha256_key s (lanes_item 1000 (task 1 1 (write a) ∷ []) ∷ []) (group_note 2 (lane_note 1 (new ∷ []) (32 ∷ []) ∷ []) ∷ [])

-- a home of the key that waits at place 40, where its block lies, while another block lies at the place of its birth's number
abbrev pub whole_block : Standing
whole_block = record spoilt { pool = empty_pool; blocks = λ place. if place == 40 then a else b }

abbrev pub off_notes : (number : ℕ) → List Told
off_notes number = group_note number (lane_note 0 (to_write written.Off ∷ to_write written.Off ∷ []) (32 ∷ 33 ∷ []) ∷ []) ∷ []

-- the premise fails where a lane that trusts keys writes two blocks of one key, or finds other bytes under its key, that wait or that a
-- pointer has; a lane that verifies, or that is off, asks for nothing
pub record Premise : Type 0 where
  pub clash : IsClashFree weak_key new_pool two_blocks (two_blocks_notes 2) → ⊥
  pub verified : IsClashFree weak_key new_pool (mode_item 0 Verify ∷ two_blocks) (settings_note 2 ∷ two_blocks_notes 3)
  pub switched_off : IsClashFree weak_key new_pool (mode_item 0 Off ∷ two_blocks) (settings_note 2 ∷ off_notes 3)
  pub one_block : IsClashFree sha256_key new_pool
      (lanes_item 1000 (task 0 1 (write a) ∷ task 0 2 (write a) ∷ []) ∷ []) (two_blocks_notes 2)
  pub spoilt_block : TrustsOneWrite (record spoilt { pool = empty_pool }) → ⊥
  pub spoilt_pointer : TrustsOneWrite (record spoilt { table = empty_table }) → ⊥
  pub waiting_block : TrustsOneWrite whole_block

-- a key and pointers of it
abbrev pub one_key : Key
one_key = weak_key a

abbrev pub pointer : (slot place : ℕ) → Mark → Pointer
pointer slot place mark = record { lane = 0; slot = slot; key = one_key; content = a; place = place; birth = 2; mark = mark }

abbrev pub pool_of : List Pointer → Pool
pool_of pointers = record empty_pool { pointers = pointers; group = 2 }

abbrev pub IsWhole : List Pointer → Type 0
IsWhole pointers = IsWellFormed 2048 (pool_of pointers)

-- pointers rise by slot, those of one entry share its place, no others do, each place lies between the ring and the disk's end, no birth
-- is later than the last group, and there are sixteen modes
pub record HoldTogether : Type 0 where
  pub shared : IsWhole (pointer 1 32 (tracked 9) ∷ pointer 2 32 (tracked 9) ∷ pointer 3 33 plain ∷ pointer 4 2047 loose ∷ [])
  pub one_slot : IsWhole (pointer 1 32 plain ∷ pointer 1 33 plain ∷ []) → ⊥
  pub one_place : IsWhole (pointer 1 32 (tracked 9) ∷ pointer 2 32 loose ∷ []) → ⊥
  pub two_places : IsWhole (pointer 1 32 (tracked 9) ∷ pointer 2 33 (tracked 9) ∷ []) → ⊥
  pub two_moments : IsWhole (pointer 1 32 (tracked 9) ∷ pointer 2 32 (tracked 10) ∷ []) → ⊥
  pub in_ring : IsWhole (pointer 1 31 plain ∷ []) → ⊥
  pub past_end : IsWhole (pointer 1 2048 plain ∷ []) → ⊥
  pub later_born : IsWhole (record (pointer 1 32 plain) { birth = 3 } ∷ []) → ⊥
  pub out_of_order : IsWhole (pointer 2 32 plain ∷ pointer 1 33 plain ∷ []) → ⊥
  pub few_modes : IsWellFormed 2048 (record (pool_of []) { modes = replicate 15 On }) → ⊥

-- a content has 1 to 4,096 bytes, and a pointer's key is its content's
pub record Contents : Type 0 where
  pub longest : IsContent (replicate 4096 97)
  pub nothing : IsContent [] → ⊥
  pub too_long : IsContent (replicate 4097 97) → ⊥
  pub own_bytes : IsSound weak_key (pointer 1 32 plain)
  pub other_bytes : IsSound weak_key (record (pointer 1 32 plain) { content = b }) → ⊥

abbrev pub entry : (place count : ℕ) → Entry
entry place count = record { key = one_key; home = record { place = place; birth = 2; since = 9; count = count } }

abbrev pub MatchesEntry : List Pointer → Entry → Type 0
MatchesEntry pointers entry = Matches (pool_of pointers) (record empty_table { active = changes.Entry entry ∷ [] })

-- entries of keys that rise, or don't
abbrev pub above : (first : ℕ) → Entry
above first = record { key = weak_key (first ∷ []); home = record { place = 32; birth = 2; since = 9; count = 1 } }

-- an entry counts its pointers, no more and no fewer, and one without pointers has its place for itself
pub record Counted : Type 0 where
  pub both : MatchesEntry (pointer 1 32 (tracked 9) ∷ pointer 2 32 (tracked 9) ∷ pointer 3 33 plain ∷ []) (entry 32 2)
  pub one_lost : MatchesEntry (pointer 1 32 (tracked 9) ∷ pointer 2 32 (tracked 9) ∷ []) (entry 32 1) → ⊥
  pub elsewhere : MatchesEntry (pointer 1 33 (tracked 9) ∷ []) (entry 32 1) → ⊥
  pub left_over : MatchesEntry [] (entry 32 1) → ⊥
  pub waiting : MatchesEntry (pointer 1 33 loose ∷ []) (entry 32 0)
  pub place_taken : MatchesEntry (pointer 1 32 loose ∷ []) (entry 32 0) → ⊥
  pub uncounted_stored : Matches (pool_of []) (record empty_table { zap = entry 32 0 ∷ [] }) → ⊥

-- each list of a table rises by key, no key is in both logs, its stored homes are counted, and what is left to flush is behind the
-- checkpoint
pub record Sorted : Type 0 where
  pub three_lists : IsTable
      (record empty_table {
        zap = above 3 ∷ above 4 ∷ [];
        flush = changes.Gone (above 5).key ∷ [];
        active = changes.Entry (above 3) ∷ changes.Entry (above 6) ∷ [];
      })
  pub stored_falls : IsTable (record empty_table { zap = above 4 ∷ above 3 ∷ [] }) → ⊥
  pub stored_twice : IsTable (record empty_table { zap = above 3 ∷ above 3 ∷ [] }) → ⊥
  pub active_falls : IsTable (record empty_table { active = changes.Entry (above 4) ∷ changes.Entry (above 3) ∷ [] }) → ⊥
  pub flushing_falls : IsTable (record empty_table { flush = changes.Entry (above 4) ∷ changes.Entry (above 3) ∷ [] }) → ⊥
  pub in_both : IsTable (record empty_table { flush = changes.Entry (above 3) ∷ []; active = changes.Gone (above 3).key ∷ [] }) → ⊥
  pub uncounted : IsTable (record empty_table { zap = entry 32 0 ∷ [] }) → ⊥
  pub flushed_already : IsTable (record empty_table { flush = changes.Entry (above 3) ∷ []; checkpoint = Some (above 3).key }) → ⊥
