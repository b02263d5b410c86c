-- A prune: the homes that it takes are gone from the table, and their pointers are loose.
use Rattle.std.proofs.Common.{◌≡◌, ◌≤◌, ◌<◌, ◌+◌, ◌∙◌, ◌||◌, ℕ, Bool, true, false, cond, List, [], ◌∷◌, length, filter, map, take, min, Option, Some, None, refl, sym, ap, subst, arith}
use Rattle.std.specs.Prelude.{fold, Result, Ok, Err, IfOk, OnOk}
use Rattle.std.specs.List.{AllByRecursion, list_any}
use Rattle.std.proofs.lemmas.Bool.Decides.{nat_tests}
use Rattle.std.proofs.lemmas.List.{length-map}
use Rattle.ddt_entry.specs.Keys.{Keying, key_eq}
use Rattle.ddt_entry.specs.Spelling.{IsKeyLength}
use Rattle.ddt_entry.specs.declared.key.Key.{Key}
use Rattle.ddt_entry.specs.declared.entry.Home.{Home}
use Rattle.ddt_entry.specs.declared.entry.Entry.{Entry}
use Rattle.ddt_entry.specs.declared.entry.Change.{Change}
use Rattle.ddt_entry.specs.declared.entry.Change.TheVariants.{Gone}
use Rattle.disk_model.specs.Images.{Image, sector_at}
use Rattle.pool_model.specs.declared.commands.PruneRule.{PruneRule}
use Rattle.pool_model.specs.declared.closed.Closed.{Closed}
use Rattle.pool_model.specs.declared.faults.GroupFault.{GroupFault}
use Rattle.pool_model.specs.declared.notes.Outcome.{Outcome}
use Rattle.pool_model.specs.Plain.{GroupItem, prune, Told}
use Rattle.pool_model.specs.Pool.{Pool, Pointer, LiesWithin, comes_before, tracks}
use Rattle.pool_model.specs.Prune.{prune_changes, pruned}
use Rattle.pool_model.specs.Table.{TableState, IsApartFrom, IsTable, counted, entries_found, found, found_over, home_of_pointers, log_change, logged, set_found, sync_table}
use Rattle.pool_model.specs.Logs.{logs_after}
use Rattle.pool_model.specs.Group.{Standing, lanes_in_turn}
use Rattle.pool_model.specs.Run.{sealed_standing}
use Rattle.pool_model.specs.Homes.{HomesMatch, StaysOrGoes}
use Rattle.pool_model.proofs.Lists.{all_from}
use Rattle.pool_model.proofs.Logging.{found-logged}
use Rattle.pool_model.proofs.Members.{all_kept, pairs_kept}
use Rattle.pool_model.proofs.Synced.{found-logged-synced}
use Rattle.table_state.specs.Closing.{PlainClosed, IsInRange, closed_of}
use Rattle.table_state.specs.Flat.{IsChangeWithin}
use Rattle.table_state.specs.Over.{StandsOver}
use Rattle.table_state.specs.Pools.{Held}
use Rattle.table_state.specs.Slots.{slot_of}
use Rattle.table_state.specs.Sound.{IsSound}
use Rattle.table_state.specs.Tables.{HasLength}
use Rattle.table_state.proofs.SoundOf.{pointer_lengths}
use Rattle.table_state.proofs.SlotCounts.{few_slots}
use Rattle.table_state.proofs.SlotsOf.{held_slots}
use Rattle.table_state.proofs.UsedLaws.{all_found}
use Rattle.lane_run.proofs.Opened.{all_stand}
use Rattle.lane_run.proofs.Openings.{formed, homes_match, pool_sound, table_sorted}
use Rattle.prune_walk.specs.Candidates.{candidates}
use Rattle.prune_walk.proofs.Pruned.{changes_pruned}
use Rattle.prune_walk.proofs.Takes.{candidates_keep, pruned_few}
use Rattle.session.specs.StageClosing.{ClosesFrom, gone_of, lacks, lacks_room, unblocked}
use Rattle.session.proofs.Loosened.{all_loosened, is_taken, pairs_pruned, remarked, slots_stay, tracked_after}
use Rattle.session.proofs.Unblocked.{KeepsHomes, LeavesPool, closes_unblocked, standing_after, unblocked_in_range}

-- ---- The homes that are found once some are gone

module _ {X : Type 0} (key_of : X → Key) where
  abbrev pub gone : List X → List Change
  gone xs = map (λ x. Gone (key_of x)) xs

  abbrev pub is_among : List X → Key → Bool
  is_among xs key = list_any (λ x. key_eq (key_of x) key) xs

  -- the home that is left of a key
  abbrev pub home_left : TableState → List X → Key → Option Home
  home_left table xs key = cond (is_among xs key) None (found table key)

  found_gone : (xs : List X) (table : TableState) (key : Key) → found (logged (gone xs) table) key ≡ home_left table xs key
  found_gone [] table key = refl
  found_gone (x ∷ xs) table key =
      found_gone xs (log_change table (Gone (key_of x))) key
      ∙ ap (cond (is_among xs key) None) (found-logged (Gone (key_of x) ∷ []) table key (tt, tt))
      ∙ by_tests (found table key) (key_eq (key_of x) key) (is_among xs key)
    where
      by_tests : (home : Option Home) (here there : Bool)
          → cond there None (found_over home (cond here (Some (Gone (key_of x))) None)) ≡ cond (here || there) None home
      by_tests home true true = refl
      by_tests home true false = refl
      by_tests home false there = refl

  was_found : (b : Bool) (o : Option Home) (home : Home) → cond b None o ≡ Some home → o ≡ Some home
  was_found true o home is = absurd (cc is)
  was_found false o home is = is

  pub keeps_homes : (xs : List X) (table : TableState) → IsTable table → KeepsHomes table (gone xs) (home_left table xs)
  keeps_homes xs table is = record {
    synced = λ key.
        subst (λ (o : Option Home). StaysOrGoes o (found (sync_table (gone xs) table) key)) (found_gone xs table key)
        (found-logged-synced (gone xs) table key is);
    was = λ key home there. was_found (is_among xs key) (found table key) home there;
  }

  gone_within : (sectors group : ℕ) (xs : List X) → AllByRecursion (IsChangeWithin sectors group) (gone xs)
  gone_within sectors group [] = tt
  gone_within sectors group (x ∷ xs) = (tt, gone_within sectors group xs)

  gone_lengths : (xs : List X) → AllByRecursion (λ x. IsKeyLength (key_of x).len) xs → AllByRecursion HasLength (gone xs)
  gone_lengths [] all = tt
  gone_lengths (x ∷ xs) all = (all.0, gone_lengths xs all.1)

-- ---- Whatever the disk tells

entry_lengths : (held : Held) → IsSound held → AllByRecursion (λ (entry : Entry). IsKeyLength entry.key.len) (entries_found held.table)
entry_lengths held sound =
    all_found (λ (entry : Entry). IsKeyLength entry.key.len) HasLength (λ entry len. len) held.table.active
    (fold set_found held.table.zap held.table.flush) sound.lengths.active
    (all_found (λ (entry : Entry). IsKeyLength entry.key.len) HasLength (λ entry len. len) held.table.flush held.table.zap
    sound.lengths.flush sound.lengths.zap)

pub prune_in_range : (held : Held) (rule : PruneRule) (moment : ℕ) → IsSound held
    → IsInRange held (unblocked (gone_of (candidates (entries_found held.table) rule moment)) held.modes held.quota)
prune_in_range held rule moment sound =
    let taken : List Entry = candidates (entries_found held.table) rule moment in
    unblocked_in_range held (gone_of taken) (home_left (λ (e : Entry). e.key) held.table taken) held.modes held.quota sound
    (keeps_homes (λ (e : Entry). e.key) taken held.table sound.sorted)
    (gone_within (λ (e : Entry). e.key) held.sectors (held.group + 1) taken)
    (gone_lengths (λ (e : Entry). e.key) taken
    (candidates_keep (λ (entry : Entry). IsKeyLength entry.key.len) (entries_found held.table) rule moment (entry_lengths held sound)))

-- ---- Over told contents

module _ (image : Image) (held : Held) (s : Standing) (over : StandsOver image held s) (rule : PruneRule) (moment : ℕ) where
  abbrev taken : List Pointer
  taken = pruned s.pool rule moment

  abbrev ps : List Pointer
  ps = map (remarked (pruned s.pool rule moment)) s.pool.pointers

  abbrev home_at : Key → Option Home
  home_at key = home_left (λ (p : Pointer). p.key) s.table (pruned s.pool rule moment) key

  abbrev after_is : Pool
  after_is = record { pointers = map (remarked (pruned s.pool rule moment)) s.pool.pointers; modes = s.pool.modes; quota = s.pool.quota; group = s.pool.group + 1 }

  counted_after : (key : Key) (b : Bool) → is_taken taken key ≡ b
      → counted (cond b None (found s.table key)) ≡ home_of_pointers (cond b [] (filter (tracks key) s.pool.pointers))
  counted_after key true gone = refl
  counted_after key false left = (homes_match image held s over).homes key

  match : HomesMatch after_is home_at
  match =
      let before = homes_match image held s over in
      record {
        homes = λ key.
            counted_after key (is_taken taken key) refl ∙ ap home_of_pointers (sym (tracked_after taken key s.pool.pointers));
        waiting = λ key home there zero.
            all_kept (IsApartFrom (record { key = key; home = home })) (remarked taken) (λ p apart. apart) s.pool.pointers
            (before.waiting key home (was key home there) zero);
        apart = λ key other home second differ there zero found_other other_zero.
            before.apart key other home second differ (was key home there) zero (was other second found_other) other_zero;
      }
    where
      was : (key : Key) (home : Home) → home_at key ≡ Some home → found s.table key ≡ Some home
      was = (keeps_homes (λ (p : Pointer). p.key) taken s.table (table_sorted image held s over)).was

  leaves : LeavesPool image held s over (prune_changes s.pool rule moment) ps s.pool.modes s.pool.quota home_at
  leaves =
      let well = formed image held s over in
      record {
        keeps = keeps_homes (λ (p : Pointer). p.key) taken s.table (table_sorted image held s over);
        match = match;
        well = record {
          rising = pairs_kept (λ p q. comes_before p q ≡ true) (remarked taken) (λ p q before. before) s.pool.pointers well.rising;
          together = pairs_pruned s.pool rule moment well.together;
          within =
              all_kept (LiesWithin held.sectors (s.pool.group + 1)) (remarked taken)
              (λ p lies. record { start = lies.start; end = lies.end; birth = lies.birth }) s.pool.pointers
              (all_from (LiesWithin held.sectors s.pool.group) (LiesWithin held.sectors (s.pool.group + 1))
              (λ p lies. record { start = lies.start; end = lies.end; birth = omega (arith, lies.birth) }) s.pool.pointers well.within);
          modes = well.modes;
        };
        slots = slots_stay taken s.pool.pointers;
        long =
            all_kept (λ (p : Pointer). 0 < p.key.len) (remarked taken) (λ p long. long) s.pool.pointers
            (all_from (λ (p : Pointer). IsKeyLength p.key.len) (λ (p : Pointer). 0 < p.key.len) (λ p long. long.0) s.pool.pointers
            (pointer_lengths image held s.pool s.table over.is_held));
        stand =
            all_kept (λ (p : Pointer). p.content ≡ take p.key.len (sector_at image p.place)) (remarked taken) (λ p stood. stood)
            s.pool.pointers (all_stand image held s over);
      }

  -- the changes are the definitions'
  log_is : gone_of (candidates (entries_found held.table) rule moment) ≡ prune_changes s.pool rule moment
  log_is =
      ap (λ (t : TableState). gone_of (candidates (entries_found t) rule moment)) over.is_held.table_is
      ∙ changes_pruned s.pool s.table rule moment over.is_held.stands.matches

  count_is : length (candidates (entries_found held.table) rule moment) ≡ length (pruned s.pool rule moment)
  count_is =
      sym (length-map (candidates (entries_found held.table) rule moment) (λ (e : Entry). Gone e.key))
      ∙ ap (λ (log : List Change). length log) log_is
      ∙ length-map (pruned s.pool rule moment) (λ (p : Pointer). Gone p.key)

  -- a prune takes no more homes than there are slots
  taken_few : length (candidates (entries_found held.table) rule moment) ≤ 1048576
  taken_few =
      omega (
        arith,
        count_is,
        pruned_few s.pool rule moment,
        few_slots held (pool_sound image held s over),
        ap length (held_slots image held s.pool s.table over.is_held),
        length-map s.pool.pointers slot_of,
      )

  all_of_them : (n most : ℕ) → n ≤ most → min n most ≡ n
  all_of_them n most few = grind (arith, nat_tests)

  -- so that all of them are asked room for
  pub room_is : lacks held (min (length (candidates (entries_found held.table) rule moment)) 1048576) 0
      ≡ lacks_room held s.pool (prune moment rule)
  room_is =
      ap (λ n. lacks held n 0)
      (all_of_them (length (candidates (entries_found held.table) rule moment)) 1048576 taken_few ∙ count_is)

  pub closes_prune : (keying : Keying) (told : Told) → told.lanes ≡ [] → lacks_room held s.pool (prune moment rule) ≡ None
      → ClosesFrom (lanes_in_turn keying) image held s (prune moment rule) told
      (length (candidates (entries_found held.table) rule moment))
      (unblocked (gone_of (candidates (entries_found held.table) rule moment)) held.modes held.quota)
  closes_prune keying told unnoted room =
      subst (λ (n : ℕ). ClosesFrom (lanes_in_turn keying) image held s (prune moment rule) told n
      (unblocked (gone_of (candidates (entries_found held.table) rule moment)) held.modes held.quota)) (sym count_is)
      (subst (ClosesFrom (lanes_in_turn keying) image held s (prune moment rule) told (length (pruned s.pool rule moment)))
      (λ i. unblocked (sym log_is i) (sym over.is_held.modes_are i) (sym over.is_held.quota_is i))
      (closes_unblocked image held s over (prune_changes s.pool rule moment) ps s.pool.modes s.pool.quota home_at leaves keying
      (prune moment rule) told (length (pruned s.pool rule moment)) (length (pruned s.pool rule moment)) stands_so
      (omega (arith, length-map (pruned s.pool rule moment) (λ (p : Pointer). Gone p.key))) room room refl unnoted
      (record { free = tt; apart = tt })))
    where
      stands_so : standing_after image held s over (prune_changes s.pool rule moment) ps s.pool.modes s.pool.quota
          ≡ sealed_standing (lanes_in_turn keying) s (prune moment rule) told []
      stands_so =
          ap (λ (qs : List Pointer). record s {
            pool = record { pointers = qs; modes = s.pool.modes; quota = s.pool.quota; group = s.pool.group + 1 };
            table = sync_table (prune_changes s.pool rule moment) s.table;
            logs = logs_after (prune_changes s.pool rule moment) s.table s.logs;
            pages = [];
          }) (sym (all_loosened (pruned s.pool rule moment) s.pool.pointers))

-- ---- By what the prune answered

module _ (held : Held) (rule : PruneRule) (moment : ℕ) where
  -- what it leaves
  abbrev pub HasClosed : Result (Closed × ℕ) GroupFault → Type 0
  HasClosed r = IfOk r (λ done. closed_of done.0 ≡ unblocked (gone_of (candidates (entries_found held.table) rule moment)) held.modes held.quota)

  pub prune_ranged : IsSound held → (r : Result (Closed × ℕ) GroupFault) → HasClosed r → IfOk r (λ done. IsInRange held (closed_of done.0))
  prune_ranged sound (Ok done) is = subst (IsInRange held) (sym is) (prune_in_range held rule moment sound)
  prune_ranged sound (Err fault) is = tt

  module _ (image : Image) (s : Standing) (over : StandsOver image held s) (group : GroupItem) (is_group : prune moment rule ≡ group) where
    pub prune_closed : (keying : Keying) (told : Told) → told.lanes ≡ [] → (r : Result (Closed × ℕ) GroupFault) → HasClosed r
        → IfOk r (λ done. done.1 ≡ length (candidates (entries_found held.table) rule moment))
        → OnOk r (lacks held (min (length (candidates (entries_found held.table) rule moment)) 1048576) 0 ≡ None)
        → IfOk r (λ done. ClosesFrom (lanes_in_turn keying) image held s group told done.1 (closed_of done.0))
    prune_closed keying told unnoted (Ok done) is count room =
        subst (λ (other : GroupItem). ClosesFrom (lanes_in_turn keying) image held s other told done.1 (closed_of done.0)) is_group
        (subst (λ (o : PlainClosed). ClosesFrom (lanes_in_turn keying) image held s (prune moment rule) told done.1 o) (sym is)
        (subst (λ (n : ℕ). ClosesFrom (lanes_in_turn keying) image held s (prune moment rule) told n
        (unblocked (gone_of (candidates (entries_found held.table) rule moment)) held.modes held.quota)) (sym count)
        (closes_prune image held s over rule moment keying told unnoted (sym (room_is image held s over rule moment) ∙ room))))
    prune_closed keying told unnoted (Err fault) is count room = tt

    pub prune_lacks : (o : Option Outcome)
        → lacks held (min (length (candidates (entries_found held.table) rule moment)) 1048576) 0 ≡ o → lacks_room held s.pool group ≡ o
    prune_lacks o lacking =
        subst (λ (other : GroupItem). lacks_room held s.pool other ≡ o) is_group (sym (room_is image held s over rule moment) ∙ lacking)
