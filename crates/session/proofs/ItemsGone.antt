-- The loop over a session's items: where it begins, goes on, and ends.
use Rattle.std.proofs.Common.{◌≡◌, ◌≤◌, ◌<◌, ◌+◌, ◌-◌, ◌^◌, ℕ, true, min, sum_by, List, [], ◌∷◌, ◌++◌, map, take, drop, get_or, length, Option, Some, None, refl, sym, ap, ◌∙◌, arith, subst, zero, suc, Result, Ok, Err, inl}
use Rattle.std.proofs.lemmas.List.{take_more, map-append}
use Rattle.std.proofs.lemmas.Bool.Decides.{nat_tests}
use Rattle.std.proofs.KnownBytes.{Appends-nil}
use Rattle.disk_model.specs.Images.{Image}
use Rattle.disk_model.specs.Crashes.{DiskState}
use Rattle.disk_model.specs.DiskLaws.{IsDisk}
use Rattle.disk_model.proofs.Moments.{started}
use Rattle.pool_model.specs.declared.commands.Item.{Item}
use Rattle.pool_model.specs.declared.notes.Session.{Session}
use Rattle.pool_model.specs.Plain.{Part, Told, told_of}
use Rattle.pool_model.specs.Mirrors.{part_of}
use Rattle.pool_model.specs.Group.{Standing, Rules}
use Rattle.pool_model.specs.Run.{RunStep, last_standing, parts_of, notes_of}
use Rattle.pool_model.specs.Crash.{AnyStands}
use Rattle.pool_model.proofs.Steps.{parts_of-append, notes_of-append}
use Rattle.table_state.specs.Holding.{Holds}
use Rattle.table_state.specs.Pools.{Held}
use Rattle.session.specs.Devices.{Devices, between}
use Rattle.session.specs.Entries.{HasNoClashFrom, last_start}
use Rattle.session.specs.Origins.{origin, may_begin}
use Rattle.session.specs.StageEntries.{IsOnDisk, IsOver}
use Rattle.session.specs.StageItems.{HasNoClashIn, ItemWent, may_end_item}
use Rattle.session.specs.StageGoing.{GoesOn, IsGoing, StopsIn}
use Rattle.session.specs.Running.{told_in, faults_in}
use Rattle.session.specs.declared.status.Status.{Status}
use Rattle.session.proofs.Over.{over_leaves}
use Rattle.session.proofs.Goings.{no_clash_now, with_item, of_item, more_going, stop_now}

-- the first so many items were done
pub record HasGone (devices : Devices) (rules : Rules) (first held : Held) (items : List Item) (i : ℕ) (session : Session) : Type 0 where
  pub sectors : devices.after.sectors ≡ devices.before.sectors
  pub on_disk : IsOnDisk devices.after rules.keying.tag held
  pub early : (image : Image) → devices.after.seen ≡ Some image → held.group ≤ last_start + i
  pub sealed : session.sealed ≡ held.group
  pub room : length items ≤ session.groups.spare + i
  pub going : GoesOn devices rules first (map part_of items) (map part_of (take i items)) (told_in session) held session.sealed
  pub reads : min (devices.before.read_faults + faults_in session) (2 ^ 64 - 1) ≤ devices.after.read_faults
  pub writes : devices.before.write_faults ≤ devices.after.write_faults
  pub sink : devices.sink_before ≤ devices.sink_now

-- some items, one, and the rest
split_at : (items : List Item) (i : ℕ) (d : Item) → i < length items
    → map part_of items ≡ map part_of (take i items) ++ part_of (get_or items i d) ∷ map part_of (drop (suc i) items)
split_at [] i d h = absurd (omega arith)
split_at (x ∷ xs) zero d h = refl
split_at (x ∷ xs) (suc i) d h = ap (λ ps. part_of x ∷ ps) (split_at xs i d (omega arith))

pub split_of : (items : List Item) (i : ℕ) (item : Item) → i < length items → item ≡ get_or items i item
    → map part_of items ≡ map part_of (take i items) ++ part_of item ∷ map part_of (drop (suc i) items)
split_of items i item within is =
    split_at items i item within ∙ ap (λ x. map part_of (take i items) ++ part_of x ∷ map part_of (drop (suc i) items)) (sym is)

module _ (rules : Rules) (first : Held) (parts : List Part) where
  -- before the first item
  pub goes_start : (start : DiskState) (written : Option (List ℕ)) (sink sealed : ℕ) → IsDisk start
      → first.tag ≡ rules.keying.tag → sealed ≡ first.group
      → GoesOn (between start start written written sink sink) rules first parts [] [] first sealed
  goes_start start written sink sealed is tag_is sealed_is = λ s over clash. (
    [],
    refl,
    refl,
    record {
      run = tt;
      over = over;
      sealed_is = sealed_is ∙ over.stands.is_held.group_is;
      text = Appends-nil written;
      others = λ content none. none;
      crash = started (λ c. AnyStands (Holds rules.keying.tag c) (s ∷ []))
          (λ c left. inl (over_leaves start first s rules.keying.tag over tag_is c (is.only_now c left)));
    },
  )

  -- nothing is noted yet, and so no faults
  none_told : (session : Session) → session.groups.items ≡ [] → told_in session ≡ []
  none_told session new = ap (map told_of) new

  no_more : (reads most : ℕ) → min (reads + 0) most ≤ reads
  no_more reads most = grind (arith, nat_tests)

  none_read : (session : Session) (reads : ℕ) → session.groups.items ≡ [] → min (reads + faults_in session) (2 ^ 64 - 1) ≤ reads
  none_read session reads new =
      subst (λ (notes : List Told). min (reads + sum_by (λ told. sum_by (λ lane. lane.faults) told.lanes) notes) (2 ^ 64 - 1) ≤ reads)
      (sym (none_told session new)) (no_more reads (2 ^ 64 - 1))

  module _ (devices : Devices) (new : DiskState) (now : Option (List ℕ)) (sink : ℕ) where
    module _ {held : Held} {notes : List Told} {sealed : ℕ} (done rest : List Part) (part : Part) (split : parts ≡ done ++ part ∷ rest)
        (goes : GoesOn devices rules first parts done notes held sealed) where
      module _ (told : List Told) (held' : Held) (sealed' : ℕ) where
        -- what the item came to, wherever it began
        abbrev pub Went : Result Unit Status → Type 0
        Went result = (s : Standing) → IsOver devices.after held s → HasNoClashIn rules.keying.key_of s part
            → (more : List Told) × (told ≡ notes ++ more) × ItemWent (of_item devices new now sink) rules s part more held' sealed' result

        parts_more : (steps : List RunStep) (step : RunStep) → done ≡ parts_of steps → step.part ≡ part
            → done ++ part ∷ [] ≡ parts_of (steps ++ step ∷ [])
        parts_more steps step were is =
            ap (λ (d : List Part). d ++ part ∷ []) were ∙ ap (λ (p : Part). parts_of steps ++ p ∷ []) (sym is)
            ∙ sym (parts_of-append steps (step ∷ []))

        notes_more : (steps : List RunStep) (step : RunStep) (more : List Told) → notes ≡ notes_of steps → told ≡ notes ++ more
            → more ≡ notes_of (step ∷ []) → told ≡ notes_of (steps ++ step ∷ [])
        notes_more steps step more were is one =
            is ∙ ap (λ (n : List Told). n ++ more) were ∙ ap (λ (n : List Told). notes_of steps ++ n) one
            ∙ sym (notes_of-append steps (step ∷ []))

        -- where the item began no two of its contents clash
        clash_now : (s : Standing) (steps : List RunStep) → done ≡ parts_of steps → IsGoing devices rules s parts steps held sealed
            → HasNoClashFrom rules s parts → HasNoClashIn rules.keying.key_of (last_standing s steps) part
        clash_now s steps were going clash =
            no_clash_now rules s steps parts rest part (subst (λ (d : List Part). parts ≡ d ++ part ∷ rest) were split) going.run
            going.others clash

        split_now : (steps : List RunStep) (step : RunStep) → done ≡ parts_of steps → step.part ≡ part
            → parts ≡ parts_of steps ++ step.part ∷ rest
        split_now steps step were is =
            subst (λ (p : Part). parts ≡ parts_of steps ++ p ∷ rest) (sym is)
            (subst (λ (d : List Part). parts ≡ d ++ part ∷ rest) were split)

        -- one item more
        pub goes_more : Went (Ok tt) → GoesOn (with_item devices new now sink) rules first parts (done ++ part ∷ []) told held' sealed'
        goes_more went = λ s over clash.
            let so_far = goes s over clash in
            let going = so_far.3 in
            let at : Standing = last_standing s so_far.0 in
            let item = went at going.over (clash_now s so_far.0 so_far.1 going clash) in
            let step = item.2.0 in (
              so_far.0 ++ step ∷ [],
              parts_more so_far.0 step so_far.1 item.2.1,
              notes_more so_far.0 step item.0 so_far.2 item.1 item.2.2,
              more_going devices new now sink rules s parts so_far.0 rest step (split_now so_far.0 step so_far.1 item.2.1) going item.2.3,
            )

        -- the session ended in the item
        pub goes_stop : (status : Status) → ((image : Image) → devices.after.seen ≡ Some image → may_begin (origin status) ≡ true)
            → may_end_item (origin status) ≡ true → Went (Err status)
            → StopsIn (with_item devices new now sink) rules first parts told sealed' status
        goes_stop status begun ended went = λ s over clash.
            let so_far = goes s over clash in
            let going = so_far.3 in
            let at : Standing = last_standing s so_far.0 in
            let item = went at going.over (clash_now s so_far.0 so_far.1 going clash) in
            let step = item.2.0 in (
              so_far.0 ++ step ∷ [],
              notes_more so_far.0 step item.0 so_far.2 item.1 item.2.2,
              stop_now devices new now sink rules s parts so_far.0 rest step (split_now so_far.0 step so_far.1 item.2.1) status
                  (begun going.over.image going.over.told) ended going item.2.3,
            )

-- no item was done yet
pub gone_start : (rules : Rules) (first : Held) (items : List Item) (session : Session) (start : DiskState)
    → (written : Option (List ℕ)) (sink : ℕ)
    → IsDisk start → IsOnDisk start rules.keying.tag first → ((image : Image) → start.seen ≡ Some image → first.group ≤ last_start)
    → session.sealed ≡ first.group → length items ≤ session.groups.spare → session.groups.items ≡ []
    → HasGone (between start start written written sink sink) rules first first items 0 session
gone_start rules first items session start written sink is on_disk early sealed room new =
    let parts : List Part = map part_of items in
    record {
      sectors = refl;
      on_disk = on_disk;
      early = λ image told. early_start first.group last_start (early image told);
      sealed = sealed;
      room = room_start (length items) session.groups.spare room;
      going =
          subst
          (λ (notes : List Told). GoesOn (between start start written written sink sink) rules first parts [] notes first session.sealed)
          (sym (none_told rules first parts session new))
          (goes_start rules first parts start written sink session.sealed is on_disk.tag_is sealed);
      reads = none_read rules first parts session start.read_faults new;
      writes = omega arith;
      sink = omega arith;
    }
  where
    early_start : (group last : ℕ) → group ≤ last → group ≤ last + 0
    early_start group last early = omega (arith, early)

    room_start : (count spare : ℕ) → count ≤ spare → count ≤ spare + 0
    room_start count spare room = omega (arith, room)

-- a number that two runs keep
pub same_sectors : (start mid new : ℕ) → mid ≡ start → new ≡ mid → new ≡ start
same_sectors start mid new before now = now ∙ before

-- faults that were counted before, and more
min_more : (a f later m n most : ℕ) → min (a + f) most ≤ m → min (m + (later - f)) most ≤ n → f ≤ later → min (a + later) most ≤ n
min_more a f later m n most before now more = grind (arith, nat_tests)

pub reads_more : (start mid new : ℕ) (f later : ℕ) → min (start + f) (2 ^ 64 - 1) ≤ mid → min (mid + (later - f)) (2 ^ 64 - 1) ≤ new
    → f ≤ later → min (start + later) (2 ^ 64 - 1) ≤ new
reads_more start mid new f later before now more = min_more start f later mid new (2 ^ 64 - 1) before now more

-- contents that are told now were told before
pub told_before : (mid new : Option Image) (image : Image) → (mid ≡ None → new ≡ None) → new ≡ Some image
    → (before : Image) × (mid ≡ Some before)
told_before None new image untold told = (let none = untold refl in absurd (cc (none, told)))
told_before (Some before) new image untold told = (before, refl)

-- the group's number after one item more
pub early_more : (mid new : Option Image) (first held held' i : ℕ) → (mid ≡ None → new ≡ None)
    → ((image : Image) → mid ≡ Some image → held ≤ first + i) → ((image : Image) → mid ≡ Some image → held' ≤ held + 1)
    → (image : Image) → new ≡ Some image → held' ≤ first + (i + 1)
early_more mid new first held held' i untold early next image told =
    let was = told_before mid new image untold told in
    omega (arith, early was.0 was.1, next was.0 was.1)

-- the first so many items, and the next one
pub done_more : (items : List Item) (i : ℕ) (item : Item) → i < length items → item ≡ get_or items i item
    → map part_of (take i items) ++ part_of item ∷ [] ≡ map part_of (take (i + 1) items)
done_more items i item within is =
    sym (ap (map part_of) (take_more items i item within)
    ∙ map-append part_of (take i items) (get_or items i item ∷ [])
    ∙ ap (λ x. map part_of (take i items) ++ part_of x ∷ []) (sym is))
