-- A session from its opening to its end.
use Rattle.std.proofs.Common.{◌≡◌, ◌≤◌, ◌<◌, ◌+◌, ◌-◌, ◌^◌, ℕ, true, false, min, List, [], ◌∷◌, Option, Some, None, refl, sym, subst, ◌∙◌, inl, inr, ⊎_elim, arith}
use Rattle.std.proofs.lemmas.Bool.Decides.{nat_tests}
use Rattle.std.proofs.KnownBytes.{Keeps-refl}
use Rattle.io_model.specs.Outside.{Rose}
use Rattle.disk_model.specs.Images.{Image}
use Rattle.disk_model.specs.Crashes.{DiskState, LeavesOnly}
use Rattle.disk_model.specs.DiskLaws.{IsDisk}
use Rattle.disk_model.proofs.Moments.{started, weakened, and_then}
use Rattle.pool_model.specs.declared.notes.Session.{Session}
use Rattle.pool_model.specs.Plain.{Part}
use Rattle.pool_model.specs.Group.{Standing, Rules}
use Rattle.pool_model.specs.Run.{HasFlatRoom, RunStep, last_standing}
use Rattle.pool_model.specs.Crash.{AnyStands, StandsAt, begun}
use Rattle.pool_model.proofs.Steps.{ends_at}
use Rattle.pool_model.proofs.Stands.{any_left, at_last}
use Rattle.table_state.specs.Flat.{HasNoPool, IsDamaged}
use Rattle.table_state.specs.Holding.{Holds}
use Rattle.table_state.specs.Pools.{Held}
use Rattle.session.specs.Crashing.{MayHold}
use Rattle.session.specs.Devices.{Devices, between}
use Rattle.session.specs.Entries.{last_start}
use Rattle.session.specs.Origins.{Origin, origin, at_end, of_words, of_file, of_size, of_pool, of_image, of_disk, of_memory, of_output, may_begin, may_not_begin, is_before_devices}
use Rattle.session.specs.Running.{HasBegunItems, HasNotBegun, HasCauseFor, RoseBeyond, imported_by, told_in}
use Rattle.session.specs.StageGoing.{GoesOn, StopsIn, is_of_devices}
use Rattle.session.specs.StageItems.{may_end_item}
use Rattle.session.specs.StageOpening.{IsNotOpened, IsOpened, may_end_opening}
use Rattle.session.specs.Stopping.{WasCut, WentSo}
use Rattle.session.specs.declared.status.Status.{Status}
use Rattle.session.specs.declared.status.Status.TheVariants.{Done, Usage, BadFile, SourceFault, SinkFault, ReadFault, WriteFault, NoPool, Damaged, OutOfMemory, PoolExists, BadSize, LastGroup}
use Rattle.session.specs.declared.words.Word.{Word}
use Rattle.session.specs.declared.words.Word.TheVariants.{Run}
use Rattle.session.proofs.Causes.{when_told}
use Rattle.session.proofs.Made.{still_so}
use Rattle.session.proofs.Over.{over_holds, over_leaves}

-- the devices from an earlier state of the disk on
abbrev pub since : DiskState → Devices → Devices
since start devices = between start devices.after devices.written devices.now devices.sink_before devices.sink_now

module _ (word : Word) (tag : ℕ) (image : Image) where
  -- nothing was done: a crash leaves what stood
  pub untouched : (disk : DiskState) (written : Option (List ℕ)) (sink : ℕ) (session : Session) (status : Status)
      → disk.seen ≡ Some image → IsDisk disk → session.groups.items ≡ [] → session.sealed ≡ 0 → imported_by status ≡ 0
      → may_not_begin (origin status) ≡ true → HasNotBegun (between disk disk written written sink sink) word tag image session status
  untouched disk written sink session status told is groups sealed none early = record {
    groups = groups;
    sealed = sealed ∙ sym none;
    unwritten = Keeps-refl written;
    early = early;
    stays = still_so tag image disk disk status word (record { told = told; no_more = λ c left. left });
    crash = λ quiet. record {
      stands = [];
      may_stand = inl refl;
      crash = record {
        any_moment = started (MayHold tag image []) (λ c left. inl (inl (quiet.1 c (is.only_now c left))));
        at_return = λ c leaves. inl (sealed, inl (inl (quiet.1 c leaves)));
      };
    };
  }

  -- no pool was opened
  pub not_opened : (start end : DiskState) (written : Option (List ℕ)) (sink : ℕ) (session : Session) (status : Status)
      → session.groups.items ≡ [] → session.sealed ≡ imported_by status → may_not_begin (origin status) ≡ true
      → IsNotOpened start end word tag image session.sealed status
      → HasNotBegun (between start end written written sink sink) word tag image session status
  not_opened start end written sink session status groups sealed early is =
      record { groups = groups; sealed = sealed; unwritten = Keeps-refl written; early = early; stays = is.stays; crash = is.crash }

  -- what a crash leaves of the opening and of the items
  crash_whole : {start mid end : DiskState} (s : Standing) (stands : List Standing) → LeavesOnly start mid (MayHold tag image (s ∷ []))
      → LeavesOnly mid end (λ c. AnyStands (Holds tag c) (s ∷ stands)) → LeavesOnly start end (MayHold tag image (s ∷ stands))
  crash_whole s stands opening items =
      and_then
      (weakened (MayHold tag image (s ∷ stands)) opening
      (λ c may. ⊎_elim (λ same. inl same) (λ any. inr (any_left (Holds tag c) (s ∷ []) stands any)) may))
      (weakened (MayHold tag image (s ∷ stands)) items (λ c any. inr any))

-- how far the items went does not hang on what stood before them
module _ (start : DiskState) (devices : Devices) (rules : Rules) (s : Standing) (parts : List Part) (steps : List RunStep) where
  cut_since : WasCut devices rules s parts steps → WasCut (since start devices) rules s parts steps
  cut_since far = record { done = far.done; last = far.last; stopped = far.stopped; cut = far.cut; text = far.text }

  far_since : (status : Status) → WentSo status devices rules s parts steps → WentSo status (since start devices) rules s parts steps
  far_since Done far = record { parts_are = far.parts_are; run = far.run; text = far.text; disk = far.disk }
  far_since SinkFault far =
      record { done = far.done; last = far.last; stopped = far.stopped; ended = far.ended; text = far.text }
  far_since ReadFault far = cut_since far
  far_since WriteFault far = cut_since far
  far_since OutOfMemory far = cut_since far
  far_since Usage far = far
  far_since (BadFile line kind) far = far
  far_since SourceFault far = far
  far_since NoPool far = far
  far_since (Damaged sector) far = far
  far_since (PoolExists group) far = far
  far_since (BadSize sectors) far = far
  far_since (LastGroup group) far = far

module _ (start : DiskState) (devices : Devices) (word : Word) (rules : Rules) (image : Image) (parts : List Part) (session : Session)
    (first : Held) where
  module _ (opened : IsOpened start devices.before word rules.keying.tag image first) where
    -- all items were done
    pub all_done : (last : Held) → last.tag ≡ rules.keying.tag
        → GoesOn devices rules first parts parts (told_in session) last session.sealed
        → HasBegunItems (since start devices) word rules image parts session Done
    all_done last tag_is goes =
        let s = opened.s in
        let tag = rules.keying.tag in
        record {
          s = s;
          begins = opened.begins;
          may = refl;
          went = λ clash.
              let so_far = goes s opened.over clash in
              let steps = so_far.0 in
              let going = so_far.3 in
              let at : Standing = last_standing s steps in
              let ends = ends_at HasFlatRoom rules s steps going.run in
              record {
                steps = steps;
                notes = so_far.2;
                sealed = going.sealed_is;
                far = record {
                  parts_are = so_far.1;
                  run = going.run;
                  text = going.text;
                  disk = record {
                    image = going.over.image;
                    told = going.over.told;
                    quiet = going.over.quiet;
                    holds = over_holds devices.after last at tag going.over tag_is;
                  };
                };
                crash = λ quiet. record {
                  any_moment = crash_whole word tag image s (begun steps) (opened.crash quiet) going.crash;
                  at_return = λ c leaves.
                      inr (subst (StandsAt (Holds tag c) false session.sealed) (sym ends.1)
                      (at_last (Holds tag c) false session.sealed ends.0 at (sym going.sealed_is)
                      (over_leaves devices.after last at tag going.over tag_is c leaves)));
                };
              };
        }

    -- the session ended in an item
    pub stopped_in : (status : Status) → ((image : Image) → devices.before.seen ≡ Some image → may_begin (origin status) ≡ true)
        → StopsIn devices rules first parts (told_in session) session.sealed status
        → HasBegunItems (since start devices) word rules image parts session status
    stopped_in status begun_so stops =
        let s = opened.s in
        let tag = rules.keying.tag in
        record {
          s = s;
          begins = opened.begins;
          may = begun_so opened.over.image opened.over.told;
          went = λ clash.
              let stop = stops s opened.over clash in
              let steps = stop.0 in
              record {
                steps = steps;
                notes = stop.1;
                sealed = stop.2.sealed_is;
                far = far_since start devices rules s parts steps status stop.2.far;
                crash = λ quiet. record {
                  any_moment = crash_whole word tag image s (begun steps) (opened.crash quiet) stop.2.crash;
                  at_return = λ c leaves. inr (stop.2.at_return c leaves);
                };
              };
        }

-- ---- Which statuses come from where

pub opening_is_of_devices : (o : Origin) → may_end_opening o ≡ true → (is_of_devices o ≡ true) × (may_not_begin o ≡ true)
opening_is_of_devices at_end is = absurd (cc is)
opening_is_of_devices of_words is = absurd (cc is)
opening_is_of_devices of_file is = absurd (cc is)
opening_is_of_devices of_size is = (refl, refl)
opening_is_of_devices of_pool is = (refl, refl)
opening_is_of_devices of_image is = (refl, refl)
opening_is_of_devices of_disk is = (refl, refl)
opening_is_of_devices of_memory is = (refl, refl)
opening_is_of_devices of_output is = absurd (cc is)

pub items_are_of_devices : (o : Origin) → may_end_item o ≡ true → is_of_devices o ≡ true
items_are_of_devices at_end is = refl
items_are_of_devices of_words is = absurd (cc is)
items_are_of_devices of_file is = absurd (cc is)
items_are_of_devices of_size is = refl
items_are_of_devices of_pool is = refl
items_are_of_devices of_image is = refl
items_are_of_devices of_disk is = refl
items_are_of_devices of_memory is = refl
items_are_of_devices of_output is = refl

-- no item ends for the disk's size
pub never_of_size : (o : Origin) → may_end_item o ≡ true → o ≡ of_size → ⊥
never_of_size at_end is same = cc same
never_of_size of_words is same = cc same
never_of_size of_file is same = cc same
never_of_size of_size is same = cc is
never_of_size of_pool is same = cc same
never_of_size of_image is same = cc same
never_of_size of_disk is same = cc same
never_of_size of_memory is same = cc same
never_of_size of_output is same = cc same

-- a session that called no device ended by its words, by its file, or for the disk's size
pub size_before_devices : (o : Origin) → is_of_devices o ≡ true → is_before_devices o ≡ true → o ≡ of_size
size_before_devices at_end is before = absurd (cc before)
size_before_devices of_words is before = absurd (cc is)
size_before_devices of_file is before = absurd (cc is)
size_before_devices of_size is before = refl
size_before_devices of_pool is before = absurd (cc before)
size_before_devices of_image is before = absurd (cc before)
size_before_devices of_disk is before = absurd (cc before)
size_before_devices of_memory is before = absurd (cc before)
size_before_devices of_output is before = absurd (cc before)

-- the status of a disk's size
pub by_size : (P : Type 0) (status : Status) → origin status ≡ of_size → ((n : ℕ) → status ≡ BadSize n → P) → P
by_size P (BadSize n) is from = from n refl
by_size P Done is from = absurd (cc is)
by_size P Usage is from = absurd (cc is)
by_size P (BadFile line kind) is from = absurd (cc is)
by_size P SourceFault is from = absurd (cc is)
by_size P SinkFault is from = absurd (cc is)
by_size P ReadFault is from = absurd (cc is)
by_size P WriteFault is from = absurd (cc is)
by_size P NoPool is from = absurd (cc is)
by_size P (Damaged sector) is from = absurd (cc is)
by_size P OutOfMemory is from = absurd (cc is)
by_size P (PoolExists group) is from = absurd (cc is)
by_size P (LastGroup group) is from = absurd (cc is)

-- the cause of a status with which no pool was opened is one over any output
module _ (start end : DiskState) (written now : Option (List ℕ)) (sink faults : ℕ) (word : Word) (tag : ℕ) where
  pub opening_cause : faults ≡ 0 → (status : Status) → may_end_opening (origin status) ≡ true
      → HasCauseFor status word tag (between start end None None 0 0) 0
      → HasCauseFor status word tag (between start end written now sink sink) faults
  opening_cause none Done is cause = tt
  opening_cause none Usage is cause = tt
  opening_cause none (BadFile line kind) is cause = tt
  opening_cause none SourceFault is cause = tt
  opening_cause none SinkFault is cause = absurd (cc is)
  opening_cause none ReadFault is cause = subst (λ (n : ℕ). RoseBeyond n start.read_faults end.read_faults) (sym none) cause
  opening_cause none WriteFault is cause = cause
  opening_cause none NoPool is cause = cause
  opening_cause none (Damaged sector) is cause = cause
  opening_cause none OutOfMemory is cause = tt
  opening_cause none (PoolExists group) is cause = cause
  opening_cause none (BadSize n) is cause = cause
  opening_cause none (LastGroup group) is cause = cause

later_beyond : (faults before mid now most : ℕ) → before ≤ mid → min (mid + faults + 1) most ≤ now → min (before + faults + 1) most ≤ now
later_beyond faults before mid now most later rose = grind (arith, nat_tests)

later_rose : (before mid now most : ℕ) → before ≤ mid → min (mid + 1) most ≤ now → min (before + 1) most ≤ now
later_rose before mid now most later rose = grind (arith, nat_tests)

-- the cause of a status with which an item ended the session
module _ (start : DiskState) (devices : Devices) (word : Word) (tag faults : ℕ) where
  pub items_cause : (status : Status) → may_end_item (origin status) ≡ true
      → ((image : Image) → start.seen ≡ Some image → may_begin (origin status) ≡ true)
      → start.read_faults ≤ devices.before.read_faults → start.write_faults ≤ devices.before.write_faults
      → (status ≡ ReadFault → RoseBeyond faults devices.before.read_faults devices.after.read_faults)
      → (status ≡ WriteFault → Rose devices.before.write_faults devices.after.write_faults)
      → (status ≡ SinkFault → Rose devices.sink_before devices.sink_now)
      → HasCauseFor status word tag (since start devices) faults
  items_cause Done is ended reads writes read write sank = tt
  items_cause Usage is ended reads writes read write sank = tt
  items_cause (BadFile line kind) is ended reads writes read write sank = tt
  items_cause SourceFault is ended reads writes read write sank = tt
  items_cause OutOfMemory is ended reads writes read write sank = tt
  items_cause SinkFault is ended reads writes read write sank = sank refl
  items_cause ReadFault is ended reads writes read write sank =
      later_beyond faults start.read_faults devices.before.read_faults devices.after.read_faults (2 ^ 64 - 1) reads (read refl)
  items_cause WriteFault is ended reads writes read write sank =
      later_rose start.write_faults devices.before.write_faults devices.after.write_faults (2 ^ 64 - 1) writes (write refl)
  items_cause NoPool is ended reads writes read write sank =
      when_told (λ image. (word ≡ Run) × HasNoPool image) start.seen (λ image told. absurd (cc (ended image told)))
  items_cause (Damaged sector) is ended reads writes read write sank =
      when_told (λ image. (word ≡ Run) × IsDamaged tag image) start.seen (λ image told. absurd (cc (ended image told)))
  items_cause (LastGroup group) is ended reads writes read write sank =
      when_told (λ image. (word ≡ Run) × (last_start < group) × ((s : Standing) × Holds tag image s × (s.pool.group ≡ group))) start.seen
      (λ image told. absurd (cc (ended image told)))
  items_cause (PoolExists group) is ended reads writes read write sank = absurd (cc is)
  items_cause (BadSize n) is ended reads writes read write sank = absurd (cc is)
