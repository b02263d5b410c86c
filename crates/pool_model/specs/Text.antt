-- The report: lines of words, item by item.
use Rattle.std.specs.Prelude.{ℕ, ◌==◌, not, List, [], ◌∷◌, ◌++◌, filter, codes, Option, Some, None}
use Rattle.std.specs.List.{flat_map, join_with_byte, zip}
use Rattle.std.specs.Fmt.{decimal}
use Rattle.hex.specs.Hex.{encode_lower}
use Rattle.pool_model.specs.declared.answers.WriteAnswer.{WriteAnswer}
use Rattle.pool_model.specs.declared.answers.WriteAnswer.TheVariants as written
use Rattle.pool_model.specs.declared.answers.FreeAnswer.{FreeAnswer}
use Rattle.pool_model.specs.declared.answers.FreeAnswer.TheVariants as freed
use Rattle.pool_model.specs.declared.notes.Outcome.{Outcome}
use Rattle.pool_model.specs.declared.notes.Outcome.TheVariants.{Sealed, NoSpace, Cut}
use Rattle.pool_model.specs.declared.stats.Bucket.{Bucket}
use Rattle.pool_model.specs.declared.stats.Stats.{Stats}
use Rattle.pool_model.specs.Pool.{Pool}
use Rattle.pool_model.specs.Stats.{stats_of}
use Rattle.pool_model.specs.Plain.{Act, write, read, free, Task, GroupItem, lanes, prune, quota, set_mode, Part, create, of_group, stat, «import», Sight, bytes, nothing, unread, unsound, Reply, to_write, to_free, to_read, LaneTold, Told}
use Rattle.pool_model.specs.Group.{tasks_of}
use Rattle.pool_model.specs.Run.{RunStep}

-- words with a space between two, and the end of the line
abbrev pub line : List (List ℕ) → List ℕ
line words = join_with_byte 32 words ++ 10 ∷ []

abbrev pub verb_word : Act → List ℕ
verb_word (write content) = codes "write"
verb_word read = codes "read"
verb_word free = codes "free"

abbrev pub write_words : WriteAnswer → List (List ℕ)
write_words written.New = codes "new" ∷ []
write_words written.Hit = codes "hit" ∷ []
write_words written.Quota = codes "quota" ∷ []
write_words written.Clash = codes "clash" ∷ []
write_words written.Off = codes "off" ∷ []
write_words written.Taken = codes "taken" ∷ []
write_words written.Fault = codes "fault" ∷ []
write_words (written.Damaged sector) = codes "damaged" ∷ decimal sector ∷ []

abbrev pub free_words : FreeAnswer → List (List ℕ)
free_words freed.Counted = codes "counted" ∷ []
free_words freed.Loose = codes "loose" ∷ []
free_words freed.Freed = codes "freed" ∷ []
free_words freed.Empty = codes "empty" ∷ []
free_words freed.Fault = codes "fault" ∷ []
free_words (freed.Damaged sector) = codes "damaged" ∷ decimal sector ∷ []

abbrev pub read_words : Sight → List (List ℕ)
read_words (bytes content) = codes "bytes" ∷ encode_lower content ∷ []
read_words nothing = codes "empty" ∷ []
read_words unread = codes "fault" ∷ []
read_words (unsound sector) = codes "damaged" ∷ decimal sector ∷ []

abbrev pub reply_words : Reply → List (List ℕ)
reply_words (to_write answer) = write_words answer
reply_words (to_free answer) = free_words answer
reply_words (to_read sight) = read_words sight

-- a command by its first three words, and its answer
abbrev pub command_line : Task × Reply → List ℕ
command_line pair = line (decimal pair.0.lane ∷ verb_word pair.0.act ∷ decimal pair.0.slot ∷ reply_words pair.1)

-- a lane's commands, in its order
abbrev pub lane_text : List Task → LaneTold → List ℕ
lane_text tasks told = flat_map command_line (zip (tasks_of told.lane tasks) told.replies)

-- what a group of this kind is called
abbrev pub kind_word : GroupItem → List ℕ
kind_word (lanes moment tasks) = codes "group"
kind_word (prune moment rule) = codes "prune"
kind_word (quota limit) = codes "quota"
kind_word (set_mode lane mode) = codes "mode"

-- what ends a sealed group's first line, and the lines behind it
abbrev pub sealed_words : GroupItem → Told → List (List ℕ)
sealed_words (prune moment rule) told = decimal told.taken ∷ []
sealed_words (lanes moment tasks) told = []
sealed_words (quota limit) told = []
sealed_words (set_mode lane mode) told = []

abbrev pub answers_text : GroupItem → Told → List ℕ
answers_text (lanes moment tasks) told = flat_map (lane_text tasks) told.lanes
answers_text (prune moment rule) told = []
answers_text (quota limit) told = []
answers_text (set_mode lane mode) told = []

abbrev pub group_text : GroupItem → Told → Outcome → List ℕ
group_text item told Sealed =
    line (kind_word item ∷ decimal told.number ∷ codes "sealed" ∷ sealed_words item told) ++ answers_text item told
group_text item told (NoSpace need free') =
    line (kind_word item ∷ decimal told.number ∷ codes "nospace" ∷ decimal need ∷ decimal free' ∷ [])
group_text item told Cut = []

-- a number under its name
abbrev pub number_line : List ℕ → ℕ → List ℕ
number_line name value = line (name ∷ decimal value ∷ [])

abbrev pub quota_word : Option ℕ → List ℕ
quota_word None = codes "none"
quota_word (Some limit) = decimal limit

abbrev pub bucket_line : Bucket → List ℕ
bucket_line bucket =
    line (codes "bucket" ∷ decimal bucket.low ∷ codes "keys" ∷ decimal bucket.keys ∷ codes "allocated" ∷ decimal bucket.allocated
    ∷ codes "referenced" ∷ decimal bucket.referenced ∷ [])

-- the buckets that have a key
abbrev pub buckets_text : List Bucket → List ℕ
buckets_text buckets = flat_map bucket_line (filter (λ bucket. not (bucket.keys == 0)) buckets)

abbrev pub sums_text : Stats → List ℕ
sums_text stats =
    number_line (codes "keys") stats.keys ++ number_line (codes "unique") stats.unique ++ number_line (codes "duplicate") stats.duplicate
    ++ number_line (codes "refs") stats.refs ++ number_line (codes "loose") stats.loose ++ number_line (codes "plain") stats.plain
    ++ number_line (codes "allocated") stats.allocated ++ number_line (codes "referenced") stats.referenced

abbrev pub stat_text : (group : ℕ) → (limit : Option ℕ) → Stats → List ℕ
stat_text group limit stats =
    number_line (codes "stat") group ++ line (codes "quota" ∷ quota_word limit ∷ []) ++ sums_text stats ++ buckets_text stats.buckets

-- the text of an item, with its note where it is a group, after which this pool stands
abbrev pub noted_text : GroupItem → Option Told → List ℕ
noted_text item None = []
noted_text item (Some told) = group_text item told told.outcome

abbrev pub item_text : Part → Option Told → Pool → List ℕ
item_text (of_group item) told pool = noted_text item told
item_text stat noted pool = stat_text pool.group pool.quota (stats_of pool)
item_text «import» noted pool = number_line (codes "import") pool.group
item_text create noted pool = number_line (codes "create") 1

abbrev pub step_text : RunStep → List ℕ
step_text step = item_text step.part step.note step.after.pool

abbrev pub report : List RunStep → List ℕ
report steps = flat_map step_text steps
