-- Worked examples of whole runs, each with its items, its notes and its report.
use Rattle.std.specs.Prelude.{[], ◌∷◌, codes, Some}
use Rattle.ddt_entry.specs.Keys.{weak_key}
use Rattle.pool_model.specs.declared.commands.Mode.TheVariants.{Verify}
use Rattle.pool_model.specs.declared.commands.PruneRule.TheVariants.{Age, Share}
use Rattle.pool_model.specs.declared.answers.WriteAnswer.TheVariants as written
use Rattle.pool_model.specs.declared.answers.FreeAnswer.TheVariants as freed
use Rattle.pool_model.specs.Plain.{write, read, free, stat, to_write, to_free, to_read, nothing}
use Rattle.pool_model.specs.Worked.{IsWorked, IsWorkedAnew, IsWorkedFile, new_pool, lanes_item, prune_item, quota_item, mode_item, a, b, c, task, new, hit, counted, seen, lane_note, group_note, prune_note, settings_note}

-- one write makes an entry
abbrev pub OneWrite : Type 0
OneWrite = IsWorkedFile (codes "group 1000\n0 write 1 61\nend\nstat\n")
    (lanes_item 1000 (task 0 1 (write a) ∷ []) ∷ stat ∷ [])
    (group_note 2 (lane_note 0 (new ∷ []) (32 ∷ []) ∷ []) ∷ [])
    (codes "group 2 sealed\n0 write 1 new\nstat 2\nquota none\nkeys 1\nunique 1\nduplicate 0\nrefs 1\nloose 0\nplain 0\nallocated 1\nreferenced 1\nbucket 1 keys 1 allocated 1 referenced 1\n")

-- a second write of a block shares its place
abbrev pub SharedWrite : Type 0
SharedWrite = IsWorkedFile (codes "group 1000\n0 write 1 61\n0 write 2 61\nend\nstat\n")
    (lanes_item 1000 (task 0 1 (write a) ∷ task 0 2 (write a) ∷ []) ∷ stat ∷ [])
    (group_note 2 (lane_note 0 (new ∷ hit ∷ []) (32 ∷ []) ∷ []) ∷ [])
    (codes "group 2 sealed\n0 write 1 new\n0 write 2 hit\nstat 2\nquota none\nkeys 1\nunique 0\nduplicate 1\nrefs 2\nloose 0\nplain 0\nallocated 1\nreferenced 2\nbucket 2 keys 1 allocated 1 referenced 2\n")

-- a slot that holds a pointer takes no other
abbrev pub TakenSlot : Type 0
TakenSlot = IsWorkedFile (codes "group 1000\n0 write 1 61\n0 write 1 62\nend\nstat\n")
    (lanes_item 1000 (task 0 1 (write a) ∷ task 0 1 (write b) ∷ []) ∷ stat ∷ [])
    (group_note 2 (lane_note 0 (new ∷ to_write written.Taken ∷ []) (32 ∷ []) ∷ []) ∷ [])
    (codes "group 2 sealed\n0 write 1 new\n0 write 1 taken\nstat 2\nquota none\nkeys 1\nunique 1\nduplicate 0\nrefs 1\nloose 0\nplain 0\nallocated 1\nreferenced 1\nbucket 1 keys 1 allocated 1 referenced 1\n")

-- a full table makes no entry, and still counts
abbrev pub FullQuota : Type 0
FullQuota = IsWorkedAnew
    (quota_item (Some 256) ∷ lanes_item 1000 (task 0 1 (write a) ∷ task 0 2 (write b) ∷ task 0 3 (write a) ∷ task 0 2 read ∷ []) ∷ stat
    ∷ [])
    (settings_note 2 ∷ group_note 3 (lane_note 0 (new ∷ to_write written.Quota ∷ hit ∷ seen b ∷ []) (32 ∷ 33 ∷ []) ∷ []) ∷ [])
    (codes "quota 2 sealed\ngroup 3 sealed\n0 write 1 new\n0 write 2 quota\n0 write 3 hit\n0 read 2 bytes 62\nstat 3\nquota 256\nkeys 1\nunique 0\nduplicate 1\nrefs 2\nloose 0\nplain 1\nallocated 1\nreferenced 2\nbucket 2 keys 1 allocated 1 referenced 2\n")

-- a key that lost its last pointer leaves room in the quota
abbrev pub RoomAgain : Type 0
RoomAgain = IsWorkedAnew
    (quota_item (Some 256) ∷ lanes_item 1000 (task 0 1 (write a) ∷ []) ∷ lanes_item 1001 (task 0 1 free ∷ task 0 2 (write b) ∷ []) ∷ stat
    ∷ [])
    (settings_note 2 ∷ group_note 3 (lane_note 0 (new ∷ []) (32 ∷ []) ∷ [])
    ∷ group_note 4 (lane_note 0 (counted ∷ new ∷ []) (33 ∷ []) ∷ []) ∷ [])
    (codes "quota 2 sealed\ngroup 3 sealed\n0 write 1 new\ngroup 4 sealed\n0 free 1 counted\n0 write 2 new\nstat 4\nquota 256\nkeys 1\nunique 1\nduplicate 0\nrefs 1\nloose 0\nplain 0\nallocated 1\nreferenced 1\nbucket 1 keys 1 allocated 1 referenced 1\n")

-- a day has 86,400 seconds
abbrev pub PrunedByAge : Type 0
PrunedByAge = IsWorkedAnew
    (lanes_item 1000 (task 0 1 (write a) ∷ []) ∷ prune_item 87399 (Age 1) ∷ prune_item 87400 (Age 1) ∷ stat ∷ [])
    (group_note 2 (lane_note 0 (new ∷ []) (32 ∷ []) ∷ []) ∷ prune_note 3 0 ∷ prune_note 4 1 ∷ [])
    (codes "group 2 sealed\n0 write 1 new\nprune 3 sealed 0\nprune 4 sealed 1\nstat 4\nquota none\nkeys 0\nunique 0\nduplicate 0\nrefs 0\nloose 1\nplain 0\nallocated 0\nreferenced 0\n")

-- a pruned pointer is loose, also after its key has an entry again
abbrev pub LoosePointer : Type 0
LoosePointer = IsWorkedAnew
    (lanes_item 1000 (task 0 1 (write a) ∷ []) ∷ prune_item 2000 (Share 100)
    ∷ lanes_item 3000 (task 0 2 (write a) ∷ task 0 1 free ∷ task 0 2 read ∷ []) ∷ stat ∷ [])
    (group_note 2 (lane_note 0 (new ∷ []) (32 ∷ []) ∷ []) ∷ prune_note 3 1
    ∷ group_note 4 (lane_note 0 (new ∷ to_free freed.Loose ∷ seen a ∷ []) (33 ∷ []) ∷ []) ∷ [])
    (codes "group 2 sealed\n0 write 1 new\nprune 3 sealed 1\ngroup 4 sealed\n0 write 2 new\n0 free 1 loose\n0 read 2 bytes 61\nstat 4\nquota none\nkeys 1\nunique 1\nduplicate 0\nrefs 1\nloose 0\nplain 0\nallocated 1\nreferenced 1\nbucket 1 keys 1 allocated 1 referenced 1\n")

-- of homes of one moment a prune takes the lowest key, here that of 63
abbrev pub PrunedByShare : Type 0
PrunedByShare = IsWorkedAnew
    (lanes_item 1000 (task 0 1 (write a) ∷ task 0 2 (write b) ∷ task 0 3 (write c) ∷ []) ∷ prune_item 2000 (Share 50) ∷ stat
    ∷ lanes_item 3000 (task 0 1 free ∷ task 0 2 free ∷ task 0 3 free ∷ []) ∷ [])
    (group_note 2 (lane_note 0 (new ∷ new ∷ new ∷ []) (32 ∷ 33 ∷ 34 ∷ []) ∷ []) ∷ prune_note 3 1
    ∷ group_note 4 (lane_note 0 (counted ∷ counted ∷ to_free freed.Loose ∷ []) [] ∷ []) ∷ [])
    (codes "group 2 sealed\n0 write 1 new\n0 write 2 new\n0 write 3 new\nprune 3 sealed 1\nstat 3\nquota none\nkeys 2\nunique 2\nduplicate 0\nrefs 2\nloose 1\nplain 0\nallocated 2\nreferenced 2\nbucket 1 keys 2 allocated 2 referenced 2\ngroup 4 sealed\n0 free 1 counted\n0 free 2 counted\n0 free 3 loose\n")

-- a lane that verifies tells two blocks of one key apart, also where the first waits without a pointer
abbrev pub VerifiedBytes : Type 0
VerifiedBytes = IsWorked weak_key new_pool
    (mode_item 0 Verify ∷ lanes_item 1000 (task 0 1 (write (97 ∷ a)) ∷ task 0 2 (write (97 ∷ b)) ∷ task 0 1 read ∷ task 0 2 read ∷ [])
    ∷ lanes_item 1001 (task 0 1 free ∷ task 0 3 (write (97 ∷ b)) ∷ task 0 3 read ∷ []) ∷ stat ∷ [])
    (settings_note 2 ∷ group_note 3 (lane_note 0 (new ∷ to_write written.Clash ∷ seen (97 ∷ a) ∷ seen (97 ∷ b) ∷ []) (32 ∷ 33 ∷ []) ∷ [])
    ∷ group_note 4 (lane_note 0 (counted ∷ new ∷ seen (97 ∷ b) ∷ []) (34 ∷ []) ∷ []) ∷ [])
    (codes "mode 2 sealed\ngroup 3 sealed\n0 write 1 new\n0 write 2 clash\n0 read 1 bytes 6161\n0 read 2 bytes 6162\ngroup 4 sealed\n0 free 1 counted\n0 write 3 new\n0 read 3 bytes 6162\nstat 4\nquota none\nkeys 1\nunique 1\nduplicate 0\nrefs 1\nloose 0\nplain 1\nallocated 2\nreferenced 2\nbucket 1 keys 1 allocated 2 referenced 2\n")

-- an entry that comes and goes in one group leaves nothing
abbrev pub EmptySlot : Type 0
EmptySlot = IsWorkedAnew
    (lanes_item 1000 (task 0 1 (write a) ∷ task 0 1 (write b) ∷ task 0 1 free ∷ task 0 1 free ∷ task 0 1 read ∷ []) ∷ stat ∷ [])
    (group_note 2 (lane_note 0 (new ∷ to_write written.Taken ∷ counted ∷ to_free freed.Empty ∷ to_read nothing ∷ []) (32 ∷ []) ∷ []) ∷ [])
    (codes "group 2 sealed\n0 write 1 new\n0 write 1 taken\n0 free 1 counted\n0 free 1 empty\n0 read 1 empty\nstat 2\nquota none\nkeys 0\nunique 0\nduplicate 0\nrefs 0\nloose 0\nplain 0\nallocated 0\nreferenced 0\n")

-- lanes are told one after another, however the file mixes them
abbrev pub MixedLanes : Type 0
MixedLanes = IsWorkedAnew
    (lanes_item 1000 (task 1 1 (write a) ∷ task 0 2 (write a) ∷ task 1 1 free ∷ task 0 2 read ∷ []) ∷ [])
    (group_note 2 (lane_note 0 (new ∷ seen a ∷ []) (32 ∷ []) ∷ lane_note 1 (hit ∷ counted ∷ []) [] ∷ []) ∷ [])
    (codes "group 2 sealed\n0 write 2 new\n0 read 2 bytes 61\n1 write 1 hit\n1 free 1 counted\n")
