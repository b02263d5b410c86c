-- What a group's writes leave: a pool that is well formed, changes that the table matches it after, and blocks at their places.
use Rattle.std.proofs.Common.{◌≡◌, ◌≢◌, ℕ, ◌+◌, ◌<◌, ◌≤◌, ◌==◌, ◌&&◌, Bool, true, false, not, cond, List, [], ◌∷◌, length, map, take}
use Rattle.std.proofs.Common.{replicate, Some, None, Option, refl, sym, ap, subst, ◌∙◌, arith, inl, ⊎_elim}
use Rattle.std.specs.Prelude.{slice_index_or, if◌then◌else◌, nat_le, fold}
use Rattle.std.specs.List.{AllByRecursion, find, filter_map, count_by}
use Rattle.std.specs.Option.{option_map}
use Rattle.std.proofs.lemmas.Bool.{and_parts, leb-true, ne_eqb, eqb-true}
use Rattle.std.proofs.lemmas.Bool.Decides.{nat_tests}
use Rattle.ddt_entry.specs.declared.key.Key.{Key}
use Rattle.ddt_entry.specs.declared.entry.Home.{Home}
use Rattle.ddt_entry.specs.declared.entry.Entry.{Entry}
use Rattle.ddt_entry.specs.declared.entry.Change.{Change}
use Rattle.ddt_entry.specs.Spelling.{IsKeyLength}
use Rattle.disk_model.specs.Images.{Image, sector_at}
use Rattle.grant_book.specs.Sectors.{AreFirstFree}
use Rattle.pool_model.specs.Pool.{Pool, Pointer, with_key, Pairwise, IsApart, IsWellFormed, run_length}
use Rattle.pool_model.specs.Table.{TableState, Matches, found, sync_table, waiting_in, flush_limit, IsApartFrom, IsTable, AreChangesRising}
use Rattle.pool_model.specs.Plain.{Act, write, read, free, Task, Reply}
use Rattle.pool_model.specs.Mirrors.{WritesBlock, Stored}
use Rattle.pool_model.specs.Clash.{contents_in}
use Rattle.pool_model.specs.Command.{Opening, Turn, Course, known_home}
use Rattle.pool_model.specs.Group.{Standing, opening_of, IsFree, AreFresh, change_of, changes_of, change_from, settled, block_or, blocks_after, after_lanes}
use Rattle.pool_model.specs.Space.{need}
use Rattle.uber_ring.specs.declared.seal.Seal.{Seal}
use Rattle.table_state.specs.SealForms.{is_formed, has_size, has_flags, has_modes, has_checkpoint, fewest_sectors, most_sectors}
use Rattle.table_state.specs.Pools.{Held, slots_after, pool_after, with_blocks, block_sector}
use Rattle.slot_table.specs.declared.slot.SlotRecord.{SlotRecord}
use Rattle.table_state.proofs.UsedLaws.{one_sector}
use Rattle.table_state.specs.Closing.{CanSync, IsNamed, block_places, pool_with, table_after}
use Rattle.table_state.proofs.RoomLaws.{need_enough}
use Rattle.table_state.specs.Slots.{slot_of, refilled, refilled_pool}
use Rattle.table_state.proofs.BlocksOf.{beside_blocks, blocks_placed}
use Rattle.table_state.proofs.Refilled.{well_formed_refilled, matches_refilled, pool_refilled}
use Rattle.table_state.proofs.SoundOf.{pointer_lengths}
use Rattle.table_state.proofs.UnusedOf.{found_fresh}
use Rattle.pool_model.specs.Homes.{GivesOwnChanges, found_with}
use Rattle.pool_model.proofs.Lookups.{found_has}
use Rattle.pool_model.proofs.Named.{named_rising, change_at-named}
use Rattle.pool_model.proofs.Matching.{matches_synced}
use Rattle.pool_model.proofs.Synced.{found-synced, there_stays}
use Rattle.pool_model.proofs.Waiting.{waiting_has, waiting_found, waiting_synced}
use Rattle.pool_model.specs.Waiting.{IsIn, WaitingStays}
use Rattle.pool_model.proofs.Kept.{waiting_stays}
use Rattle.pool_model.specs.ByKey.{IsUnnamedByKey, AreFreshByKey, ChangesByKey, MatchesByKey, home_after, IsWrite}
use Rattle.pool_model.proofs.Counts.{course_counts}
use Rattle.pool_model.proofs.Aside.{before_opened}
use Rattle.pool_model.proofs.Going.{IsGoing, going_all, going_matches}
use Rattle.pool_model.proofs.Writing.{kept_formed, written_all, written_waits}
use Rattle.table_state.specs.Over.{StandsOver}
use Rattle.lane_run.specs.Groups.{IsFirstWrite}
use Rattle.pool_model.proofs.Syncing.{sync_keeps}
use Rattle.pool_model.proofs.Lists.{all_in, all_from}
use Rattle.lane_run.specs.Going.{IsCourse, IsPlaced, Stands, Trusted, turns_from, first_course}
use Rattle.lane_run.specs.Live.{Live, sector_or, sector_here, first_mode, changes_here, group_here}
use Rattle.lane_run.proofs.InRange.{own_from}
use Rattle.lane_run.proofs.Openings.{table_sorted, home_within, waiting_run, waiting_used, waiting_is_used, homes_match, formed}
use Rattle.lane_run.proofs.Openings.{matches_by_key}
use Rattle.pool_model.specs.Logs.{logs_after}

writes_alone : (tasks : List Task) (replies : List Reply) → AllByRecursion IsFirstWrite tasks
    → AllByRecursion (λ turn. IsWrite turn.task.act) (turns_from tasks replies)
writes_alone [] replies all = tt
writes_alone (t ∷ tasks) [] all = tt
writes_alone (t ∷ tasks) (r ∷ replies) all = (by_act t.act all.0.block, writes_alone tasks replies all.1)
  where
    by_act : (act : Act) → WritesBlock act → IsWrite act
    by_act (write content) block = tt
    by_act read block = absurd block
    by_act free block = absurd block

turns_length : (tasks : List Task) (replies : List Reply) → length (turns_from tasks replies) ≤ length tasks
turns_length [] replies = omega arith
turns_length (t ∷ tasks) [] = omega arith
turns_length (t ∷ tasks) (r ∷ replies) = omega (arith, turns_length tasks replies)

pub refilled_still : (image : Image) (ps : List Pointer) → AllByRecursion (λ p. p.content ≡ take p.key.len (sector_at image p.place)) ps
    → map (refilled image) ps ≡ ps
refilled_still image [] all = refl
refilled_still image (p ∷ ps) all = λ i. record p { content = sym all.0 i } ∷ refilled_still image ps all.1 i

pub slots_named : (P : ℕ → Type 0) (ps : List Pointer) → AllByRecursion (λ p. P p.place) ps
    → AllByRecursion (λ slot. P slot.pointer.place) (map slot_of ps)
slots_named P [] all = tt
slots_named P (p ∷ ps) all = (all.0, slots_named P ps all.1)

places_differ : (contents : List Stored) → Pairwise (λ (a b : ℕ × ℕ). IsApart a.0 a.1 b.0 b.1) (map (λ x. (x, 1)) (block_places contents))
    → Pairwise (λ (a b : Stored). a.place ≢ b.place) contents
places_differ [] pairs = tt
places_differ (c ∷ cs) pairs = (each cs pairs.0, places_differ cs pairs.1)
  where
    each : (ds : List Stored) → AllByRecursion (λ (run : ℕ × ℕ). IsApart c.place 1 run.0 run.1) (map (λ x. (x, 1)) (block_places ds))
        → AllByRecursion (λ d. c.place ≢ d.place) ds
    each [] all = tt
    each (d ∷ ds) all =
        ((λ same. ⊎_elim (λ before. omega (arith, before, same)) (λ behind. omega (arith, behind, same)) all.0), each ds all.1)

not_found : (contents : List Stored) (place : ℕ) → find (λ x. x.place == place) contents ≡ None
    → AllByRecursion (λ x. x.place ≢ place) contents
not_found [] place none = tt
not_found (c ∷ cs) place none = by_test (c.place == place) refl (λ rest. not_found cs place rest) none
  where
    by_test : (b : Bool) → (c.place == place) ≡ b → (find (λ x. x.place == place) cs ≡ None → AllByRecursion (λ x. x.place ≢ place) cs)
        → cond b (Some c) (find (λ x. x.place == place) cs) ≡ None → AllByRecursion (λ x. x.place ≢ place) (c ∷ cs)
    by_test true same more bad = absurd (cc bad)
    by_test false other more rest = ((λ same. clash (sym other ∙ ap (λ n. n == place) same ∙ itself place)), more rest)
      where
        itself : (n : ℕ) → (n == n) ≡ true
        itself n = grind (arith, nat_tests)

        clash : false ≡ true → ⊥
        clash no_way = cc no_way

-- where blocks have places of their own, the sector at a place is the image's with the blocks
here_placed : (image : Image) (contents : List Stored) (place : ℕ) → Pairwise (λ a b. a.place ≢ b.place) contents
    → AllByRecursion (λ x. x.place < length image) contents → sector_here image contents place ≡ sector_at
    (with_blocks contents image) place
here_placed image contents place apart inside = by_found (find (λ x. x.place == place) contents) refl
  where
    by_found : (o : Option Stored) → find (λ x. x.place == place) contents ≡ o
        → sector_or (sector_at image place) o ≡ sector_at (with_blocks contents image) place
    by_found None there = sym (beside_blocks contents image place (not_found contents place there))
    by_found (Some stored) there =
        let has =
        found_has (λ (x : Stored). sector_at (with_blocks contents image) x.place ≡ block_sector x.bytes)
        (λ (x : Stored). x.place == place) contents stored there (blocks_placed contents image apart inside) in
        sym has.1 ∙ ap (sector_at (with_blocks contents image)) (eqb-true stored.place place has.0)

formed_within : (tag size : ℕ) (seal : Seal) → is_formed tag size seal ≡ true → seal.sectors ≤ size
formed_within tag size seal is =
    let with_modes = and_parts _ (has_checkpoint seal) is in
    let with_flags = and_parts _ (has_modes seal) with_modes.0 in
    let with_size = and_parts _ (has_flags seal) with_flags.0 in
    let with_group = and_parts _ (has_size size seal) with_size.0 in
    leb-true seal.sectors size
    (and_parts (nat_le fewest_sectors seal.sectors && nat_le seal.sectors most_sectors) (nat_le seal.sectors size) with_group.1).1

module _ (key_of : List ℕ → Key) (image : Image) (held : Held) (s : Standing) (over : StandsOver image held s) (moment : ℕ)
    (tasks : List Task) (firsts : AllByRecursion IsFirstWrite tasks) (wanted : ℕ) (places : List ℕ)
    (are_free : AreFirstFree held.used wanted places) (live : Live)
    (places_are : block_places live.contents ≡ take (length live.contents) places)
    (w : IsCourse key_of image held s moment (contents_in tasks) live []
    (first_course key_of s moment (block_places live.contents) (turns_from tasks live.replies))) where
  abbrev opening : Opening
  opening = opening_of key_of s moment

  abbrev pub turns : List Turn
  turns = turns_from tasks live.replies

  abbrev pub course : Course
  course = first_course key_of s moment (block_places live.contents) (turns_from tasks live.replies)

  -- the pool of the group
  abbrev pub after : Pool
  after =
      record (first_course key_of s moment (block_places live.contents) (turns_from tasks live.replies)).pool { group = s.pool.group + 1 }

  sorted : IsTable s.table
  sorted = table_sorted image held s over

  pub fresh_given : AreFresh (IsFree s) course.given
  fresh_given =
      subst (λ (runs : List (ℕ × ℕ)). AreFresh (IsFree s) runs) (sym (w.given_runs ∙ ap (map (λ x. (x, 1))) places_are))
      (found_fresh image held s over wanted places are_free (length live.contents))

  fresh_by_key : AreFreshByKey (IsUnnamedByKey held.sectors s.pool (found s.table)) course.given
  fresh_by_key = record {
    unnamed =
        all_from (λ (run : ℕ × ℕ). IsFree s run.0 run.1) (λ (run : ℕ × ℕ). IsUnnamedByKey held.sectors s.pool (found s.table) run.0 run.1)
        (λ run is. record {
          start = is.unnamed.start;
          end = omega (arith, is.end, over.sectors);
          no_pointer = is.unnamed.no_pointer;
          not_waiting =
              λ key home home_is zero. waiting_has
              (λ entry. IsApart run.0 run.1 entry.home.place
              (run_length entry.key)) s.table key home sorted home_is zero is.unnamed.not_waiting;
        }) course.given fresh_given.free;
    apart = fresh_given.apart;
  }

  own : GivesOwnChanges (change_of opening course)
  own key change is =
      own_from key (found s.table key)
      (settled (s.pool.group + 1) (found s.table key) (option_map (λ known. known.home) (known_home opening course key))) change is

  changes_by_key : ChangesByKey opening course
  changes_by_key = record {
    touched =
        λ key named. change_at-named (change_of opening course) own key course.touched ∙ ap
        (λ b. if b then change_of opening course key else None) named;
    untouched =
        λ key unnamed. change_at-named (change_of opening course) own key course.touched ∙ ap
        (λ b. if b then change_of opening course key else None) unnamed;
  }

  rising : AreChangesRising (changes_of opening course)
  rising = named_rising (change_of opening course) own course.touched

  matched : MatchesByKey held.sectors s.pool (found s.table)
  matched = matches_by_key image held s over

  well : IsWellFormed held.sectors s.pool
  well = formed image held s over

  goes : IsGoing held.sectors (IsUnnamedByKey held.sectors s.pool (found s.table)) opening course
  goes = going_all held.sectors opening s.pool (block_places live.contents ∷ replicate 15 []) turns refl well matched fresh_by_key

  after_well : IsWellFormed held.sectors after
  after_well = kept_formed held.sectors (IsUnnamedByKey held.sectors s.pool (found s.table)) opening s.pool
      (block_places live.contents ∷ replicate 15 []) turns well goes.kept

  after_by_key : MatchesByKey held.sectors after (λ key. home_after opening course (found s.table key) key)
  after_by_key =
      going_matches held.sectors (IsUnnamedByKey held.sectors s.pool (found s.table)) opening course
      (before_opened held.sectors s.pool (found s.table) well matched) goes changes_by_key

  after_matches : Matches after (sync_table (changes_of opening course) s.table)
  after_matches =
      matches_synced after (changes_of opening course) s.table sorted rising
      (record { homes = after_by_key.homes; waiting = after_by_key.waiting; apart = after_by_key.apart })

  -- a home that waits with the group's changes waited before
  waited_before : (key : Key) (home : Home) → found_with (changes_of opening course) s.table key ≡ Some home → home.count ≡ 0
      → found s.table key ≡ Some home
  waited_before key home is zero =
      (written_waits held.sectors (IsUnnamedByKey held.sectors s.pool (found s.table)) opening course
      (written_all held.sectors opening s.pool (block_places live.contents ∷ replicate 15 []) turns refl well matched fresh_by_key
      (writes_alone tasks live.replies firsts)) changes_by_key key home is zero).1

  -- the changes are the definitions'
  pub log_is : changes_here held live ≡ changes_of opening course
  log_is =
      λ i. filter_map (λ key. change_from key (found (over.is_held.table_is i) key)
      (settled (over.is_held.group_is i + 1) (found (over.is_held.table_is i) key) (w.homes key i)))
      (fold (λ keys key. with_key key keys) [] (sym w.touched i))

  pub table_is : table_after held (group_here held live) ≡ sync_table (changes_of opening course) s.table
  table_is = λ i. sync_table (log_is i) (over.is_held.table_is i)

  pub logs_are : logs_after (group_here held live).log held.table held.logs ≡ logs_after (changes_of opening course) s.table s.logs
  logs_are = λ i. logs_after (log_is i) (over.is_held.table_is i) (over.logs i)

  lens : AllByRecursion (λ p. 0 < p.key.len) after.pointers
  lens = all_from (IsPlaced held.used live.contents) (λ (p : Pointer). 0 < p.key.len) (λ p is. is.long) course.pool.pointers w.pointers

  -- the group's pool is that of the course, with its blocks' bytes
  refilled_is : pool_with image held (group_here held live) ≡ refilled_pool (with_blocks live.contents image) after
  refilled_is =
      (λ i. pool_after image live.contents (slots_after live.slots held.slots) (table_is i) (sym w.modes i) (sym w.quota i)
      (over.is_held.group_is i + 1))
      ∙ pool_refilled held.sectors after
      (sync_table (changes_of opening course) s.table) after_well after_matches.homes lens image live.contents
      (slots_after live.slots held.slots) course.pool.modes course.pool.quota (s.pool.group + 1) w.slots

  on_image : held.sectors ≤ length image
  on_image =
      subst (λ n. n ≤ length image) (sym over.is_held.sectors_are)
      (formed_within held.tag (length image) over.is_held.stands.seal over.is_held.stands.formed)

  apart : Pairwise (λ a b. a.place ≢ b.place) live.contents
  apart = places_differ live.contents (subst (Pairwise (λ (a b : ℕ × ℕ). IsApart a.0 a.1 b.0 b.1)) w.given_runs fresh_given.apart)

  inside : AllByRecursion (λ x. x.place < length image) live.contents
  inside =
      each live.contents (subst
      (λ (runs : List (ℕ × ℕ)). AllByRecursion (λ (run : ℕ × ℕ). IsFree s run.0 run.1) runs) w.given_runs fresh_given.free)
    where
      each : (cs : List Stored) → AllByRecursion (λ (run : ℕ × ℕ). IsFree s run.0 run.1) (map (λ x. (x, 1)) (block_places cs))
          → AllByRecursion (λ x. x.place < length image) cs
      each [] all = tt
      each (c ∷ cs) all = (omega (arith, all.0.end, over.sectors, on_image), each cs all.1)

  -- where contents can be trusted, it is the course's
  pub pool_stands : Trusted (first_mode held.modes) key_of s (contents_in tasks) → pool_with image held (group_here held live) ≡ after
  pool_stands trusted =
      refilled_is
      ∙ ap (λ (ps : List Pointer). record after { pointers = ps })
      (refilled_still (with_blocks live.contents image) course.pool.pointers
      (all_from (Stands image live.contents)
      (λ (p : Pointer). p.content ≡ take p.key.len (sector_at (with_blocks live.contents image) p.place))
      (λ p stood. stood ∙ ap (take p.key.len) (here_placed image live.contents p.place apart inside)) course.pool.pointers
      (w.faithful trusted)))

  waiting_named : AllByRecursion (λ entry. IsNamed held.used live.contents entry.home.place)
      (waiting_in (table_after held (group_here held live)))
  waiting_named =
      subst (λ (t : TableState). AllByRecursion (λ (entry : Entry). IsNamed held.used live.contents entry.home.place) (waiting_in t))
      (sym table_is)
      (all_from (λ (entry : Entry). (found_with (changes_of opening course) s.table entry.key ≡ Some entry.home) × (entry.home.count ≡ 0))
      (λ (entry : Entry). IsNamed held.used live.contents entry.home.place)
      (λ entry waits. inl (waiting_is_used image held s over entry.key entry.home
      (waited_before entry.key entry.home waits.0 waits.1) waits.1))
      (waiting_in (sync_table (changes_of opening course) s.table)) (waiting_synced (changes_of opening course) s.table sorted rising))

  pub can_sync : length live.slots ≤ length tasks → length live.contents ≤ length tasks
      → need (length held.pages) (flush_limit held.table) (length tasks) (length tasks) ≤ count_by not held.used → CanSync image held
      (group_here held live)
  can_sync few few_blocks enough = record {
    pool = s.pool;
    table = s.table;
    is_held = over.is_held;
    fresh = w.unused;
    pointers_named =
        subst (λ (slots : List SlotRecord). AllByRecursion
        (λ (slot : SlotRecord). IsNamed held.used live.contents slot.pointer.place) slots) (sym w.slots)
        (slots_named (IsNamed held.used live.contents) course.pool.pointers
        (all_from (IsPlaced held.used live.contents) (λ (p : Pointer). IsNamed held.used live.contents p.place)
        (λ p is. is.named) course.pool.pointers w.pointers));
    waiting_named = waiting_named;
    well_formed =
        subst (IsWellFormed held.sectors) (sym refilled_is)
        (well_formed_refilled (with_blocks live.contents image) held.sectors after after_well);
    matches =
        subst (λ (t : TableState). Matches (pool_with image held (group_here held live)) t) (sym table_is)
        (subst (λ (p : Pool). Matches p (sync_table (changes_of opening course) s.table)) (sym refilled_is)
        (matches_refilled (with_blocks live.contents image) after (sync_table (changes_of opening course) s.table) after_matches));
    room =
        need_enough image held s.pool s.table (group_here held live) (length tasks) (length tasks) over.is_held few
        (subst (λ (log : List Change). length log ≤ length tasks) (sym log_is)
        (omega (
          arith,
          (course_counts opening s.pool (block_places live.contents ∷ replicate 15 []) turns).2,
          turns_length tasks live.replies,
        ))) few_blocks enough;
  }

  no_pointer_there : (key : Key) (home : Home) → found s.table key ≡ Some home → home.count ≡ 0
      → find (λ p. p.place == home.place) s.pool.pointers ≡ None
  no_pointer_there key home is zero =
      each s.pool.pointers ((homes_match image held s over).waiting key home is zero)
      (pointer_lengths image held s.pool s.table over.is_held)
    where
      each : (ps : List Pointer) → AllByRecursion (IsApartFrom (record { key = key; home = home })) ps
          → AllByRecursion (λ p. IsKeyLength p.key.len) ps → find (λ p. p.place == home.place) ps ≡ None
      each [] all lengths = refl
      each (p ∷ ps) all lengths =
          let run : run_length key ≡ 1 = waiting_run image held s over key home is zero in
          let other : (p.place == home.place) ≡ false =
          ne_eqb p.place home.place
          (λ same. ⊎_elim (λ before. omega (arith, before, same, run))
          (λ behind. omega (arith, behind, same, one_sector p.key lengths.0)) all.0) in
          ap (λ b. cond b (Some p) (find (λ q. q.place == home.place) ps)) other ∙ each ps all.1 lengths.1

  -- a home that waits after the sync keeps its block
  pub keeps_waiting : (key : Key) (home : Home) → found (sync_table (changes_of opening course) s.table) key ≡ Some home → home.count ≡ 0
      → (slice_index_or held.used home.place true ≡ true) × (32 ≤ home.place)
      × (take key.len (blocks_after s home.place) ≡ take key.len (sector_at image home.place))
  keeps_waiting key home is zero =
      let before : found_with (changes_of opening course) s.table key ≡ Some home =
      there_stays (found_with (changes_of opening course) s.table key) (found (sync_table (changes_of opening course) s.table) key) home
      (found-synced (changes_of opening course) s.table key sorted rising) is in
      let was : found s.table key ≡ Some home = waited_before key home before zero in (
        waiting_used image held s over key home was zero,
        (home_within image held s over key home was).start,
        ap (λ (o : Option Pointer). take key.len (block_or (s.blocks home.place) o)) (no_pointer_there key home was zero)
            ∙ over.waiting key home was zero,
      )

  -- no home begins to wait, and those that wait keep their bytes
  pub stays_waiting : WaitingStays s (after_lanes opening s course [])
  stays_waiting =
      waiting_stays s (after_lanes opening s course [])
      (waiting_found (sync_table (changes_of opening course) s.table) (sync_keeps (changes_of opening course) s.table sorted))
      (λ key home is zero.
      let before : found_with (changes_of opening course) s.table key ≡ Some home =
      there_stays (found_with (changes_of opening course) s.table key) (found (sync_table (changes_of opening course) s.table) key) home
      (found-synced (changes_of opening course) s.table key sorted rising) is in
      let was : found s.table key ≡ Some home = waited_before key home before zero in
      (was, ap (λ (o : Option Pointer). block_or (s.blocks home.place) o) (no_pointer_there key home was zero)))
      (λ key home is zero. waiting_has (λ entry. IsIn entry (waiting_in s.table)) s.table key home sorted is zero
      (all_in (waiting_in s.table)))
