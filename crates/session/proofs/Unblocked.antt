-- A group that writes no block and changes no slot: it sets settings, or it lets homes go. What it leaves is in its ranges and can be synced.
use Rattle.std.proofs.Common.{◌≡◌, ◌≤◌, ◌<◌, ◌+◌, ◌∙◌, ℕ, true, false, List, [], ◌∷◌, length, map, take, Option, Some, None, inl, refl, sym, ap, subst, arith}
use Rattle.std.specs.Prelude.{not, nat_lt, if◌then◌else◌}
use Rattle.std.specs.List.{AllByRecursion, count_by}
use Rattle.std.specs.Ordering.{is_lt}
use Rattle.std.proofs.lemmas.Bool.Decides.{nat_tests}
use Rattle.ddt_entry.specs.Keys.{Keying, key_cmp}
use Rattle.ddt_entry.specs.declared.key.Key.{Key}
use Rattle.ddt_entry.specs.declared.entry.Home.{Home}
use Rattle.ddt_entry.specs.declared.entry.Entry.{Entry}
use Rattle.ddt_entry.specs.declared.entry.Change.{Change}
use Rattle.disk_model.specs.Images.{Image, sector_at}
use Rattle.pool_model.specs.declared.commands.Mode.{Mode}
use Rattle.pool_model.specs.declared.notes.Outcome.TheVariants.{NoSpace}
use Rattle.pool_model.specs.Plain.{GroupItem, Told}
use Rattle.pool_model.specs.Pool.{Pool, Pointer, Pairwise, IsApart, IsWellFormed, run_length}
use Rattle.pool_model.specs.Table.{TableState, IsApartFrom, Matches, found, flush_limit, sync_table, waiting_in}
use Rattle.pool_model.specs.Logs.{logs_after}
use Rattle.pool_model.specs.Space.{need, space_lacking}
use Rattle.pool_model.specs.Group.{Standing, AreFresh, IsFree, lanes_in_turn}
use Rattle.pool_model.specs.Run.{AnswersGroup, given_by, sealed_standing, taken_in}
use Rattle.pool_model.specs.Homes.{HomesMatch, StaysOrGoes}
use Rattle.pool_model.specs.Waiting.{IsIn, WaitingStays}
use Rattle.pool_model.proofs.Kept.{waiting_stays}
use Rattle.pool_model.proofs.Lists.{all_from, all_in}
use Rattle.pool_model.proofs.Synced.{counted_stays, there_stays}
use Rattle.pool_model.proofs.Syncing.{sync_keeps}
use Rattle.pool_model.proofs.TablePuts.{apart_by_order}
use Rattle.pool_model.proofs.Waiting.{Waits, waiting_found, waiting_has, waiting_rising}
use Rattle.slot_table.specs.declared.slot.SlotRecord.{SlotRecord}
use Rattle.table_state.specs.Closing.{PlainClosed, CanSync, IsInRange, IsNamed, pool_with, table_after}
use Rattle.table_state.specs.Flat.{IsChangeWithin}
use Rattle.table_state.specs.Over.{StandsOver}
use Rattle.table_state.specs.Pools.{Held, pool_after}
use Rattle.table_state.specs.Slots.{slot_of}
use Rattle.table_state.specs.Sound.{IsSound}
use Rattle.table_state.specs.Tables.{HasLength}
use Rattle.table_state.proofs.Refilled.{pool_refilled}
use Rattle.table_state.proofs.RoomLaws.{need_enough}
use Rattle.table_state.proofs.SlotsOf.{held_slots}
use Rattle.lane_run.specs.Going.{IsPlaced}
use Rattle.lane_run.specs.Groups.{KeepsWaiting}
use Rattle.lane_run.proofs.Leaving.{refilled_still, slots_named}
use Rattle.lane_run.proofs.Opened.{all_placed}
use Rattle.lane_run.proofs.Openings.{home_within, table_sorted, waiting_is_used, waiting_used}
use Rattle.session.specs.StageClosing.{ClosesFrom, lacks, lacks_room, unblocked}

-- a group that doesn't lack room has what it needs
has_needed : (held : Held) (changes writes : ℕ) → lacks held changes writes ≡ None
    → need (length held.pages) (flush_limit held.table) changes writes ≤ count_by not held.used
has_needed held changes writes =
    not_lacking (count_by not held.used) (need (length held.pages) (flush_limit held.table) changes writes)
  where
    not_lacking : (left needed : ℕ) → space_lacking left needed ≡ None → needed ≤ left
    not_lacking left needed none =
        elim (nat_lt left needed) as (λ b. (nat_lt left needed ≡ b) → (if b then Some (NoSpace needed left) else None) ≡ None
        → needed ≤ left) [ true ↦ λ _ bad. absurd (cc bad) | false ↦ λ no _. grind (arith, nat_tests, no) ] refl none

-- the homes that a group leaves, before its sync drops some that no pointer is counted at: each was there when it opened
pub record KeepsHomes (table : TableState) (log : List Change) (home_at : Key → Option Home) : Type 0 where
  pub synced : (key : Key) → StaysOrGoes (home_at key) (found (sync_table log table) key)
  pub was : (key : Key) (home : Home) → home_at key ≡ Some home → found table key ≡ Some home

-- a home that is found after the sync was found before the group
pub found_before : (table : TableState) (log : List Change) (home_at : Key → Option Home) → KeepsHomes table log home_at
    → (key : Key) (home : Home) → found (sync_table log table) key ≡ Some home
    → (home_at key ≡ Some home) × (found table key ≡ Some home)
found_before table log home_at keeps key home is =
    let there = there_stays (home_at key) (found (sync_table log table) key) home (keeps.synced key) is in
    (there, keeps.was key home there)

-- what such a group leaves is in its ranges
pub unblocked_in_range : (held : Held) (log : List Change) (home_at : Key → Option Home) (modes : List Mode) (quota : Option ℕ)
    → IsSound held → KeepsHomes held.table log home_at → AllByRecursion (IsChangeWithin held.sectors (held.group + 1)) log
    → AllByRecursion HasLength log → IsInRange held (unblocked log modes quota)
unblocked_in_range held log home_at modes quota sound keeps within lengths = record {
  changes = within;
  lengths = lengths;
  slots = tt;
  counts = λ key home is. sound.counts key home (found_before held.table log home_at keeps key home is).1;
  behind = tt;
  on_disk = tt;
  blocks = tt;
}

module _ (image : Image) (held : Held) (s : Standing) (over : StandsOver image held s) (log : List Change) (ps : List Pointer)
    (modes : List Mode) (quota : Option ℕ) where
  abbrev pub after : Pool
  after = record { pointers = ps; modes = modes; quota = quota; group = s.pool.group + 1 }

  -- what stands after the group
  abbrev pub standing_after : Standing
  standing_after = record s {
    pool = record { pointers = ps; modes = modes; quota = quota; group = s.pool.group + 1 };
    table = sync_table log s.table;
    logs = logs_after log s.table s.logs;
    pages = [];
  }

  -- its pointers are those that the slots keep, with the bytes of the image, and its homes match it
  pub record LeavesPool (home_at : Key → Option Home) : Type 0 where
    pub keeps : KeepsHomes s.table log home_at
    pub match : HomesMatch after home_at
    pub well : IsWellFormed held.sectors after
    pub slots : map slot_of s.pool.pointers ≡ map slot_of ps
    pub long : AllByRecursion (λ p. 0 < p.key.len) ps
    pub stand : AllByRecursion (λ p. p.content ≡ take p.key.len (sector_at image p.place)) ps

  module _ (home_at : Key → Option Home) (leaves : LeavesPool home_at) where
    abbrev closed : PlainClosed
    closed = unblocked log modes quota

    abbrev synced : TableState
    synced = sync_table log s.table

    before : (key : Key) (home : Home) → found synced key ≡ Some home → (home_at key ≡ Some home) × (found s.table key ≡ Some home)
    before = found_before s.table log home_at leaves.keeps

    waits : AllByRecursion (Waits synced) (waiting_in synced)
    waits = waiting_found synced (sync_keeps log s.table (table_sorted image held s over))

    pairs_apart : (es : List Entry) → AllByRecursion (Waits synced) es
        → Pairwise (λ (a b : Entry). is_lt (key_cmp a.key b.key) ≡ true) es
        → Pairwise (λ (a b : Entry). IsApart a.home.place (run_length a.key) b.home.place (run_length b.key)) es
    pairs_apart [] all rising = tt
    pairs_apart (e ∷ es) all rising = (each es all.1 rising.0, pairs_apart es all.1 rising.1)
      where
        each : (fs : List Entry) → AllByRecursion (Waits synced) fs → AllByRecursion (λ f. is_lt (key_cmp e.key f.key) ≡ true) fs
            → AllByRecursion (λ f. IsApart e.home.place (run_length e.key) f.home.place (run_length f.key)) fs
        each [] waiting above = tt
        each (f ∷ fs) waiting above = (
          leaves.match.apart e.key f.key e.home f.home (apart_by_order e.key f.key above.0)
              (before e.key e.home all.0.0).0 all.0.1 (before f.key f.home waiting.0.0).0 waiting.0.1,
          each fs waiting.1 above.1,
        )

    matches : Matches after synced
    matches = record {
      sorted = sync_keeps log s.table (table_sorted image held s over);
      homes = λ key. counted_stays (home_at key) (found synced key) (leaves.keeps.synced key) ∙ leaves.match.homes key;
      waiting =
          all_from (Waits synced) (λ e. AllByRecursion (IsApartFrom e) ps)
          (λ e there. leaves.match.waiting e.key e.home (before e.key e.home there.0).0 there.1) (waiting_in synced) waits;
      apart = pairs_apart (waiting_in synced) waits
          (waiting_rising synced (sync_keeps log s.table (table_sorted image held s over)));
    }

    table_is : table_after held closed ≡ synced
    table_is = ap (sync_table log) over.is_held.table_is

    slots_are : held.slots ≡ map slot_of ps
    slots_are = held_slots image held s.pool s.table over.is_held ∙ leaves.slots

    pool_is : pool_with image held closed ≡ after
    pool_is =
        (λ i. pool_after image [] held.slots (table_is i) modes quota (over.is_held.group_is i + 1))
        ∙ pool_refilled held.sectors after synced leaves.well matches.homes leaves.long image [] held.slots modes quota (s.pool.group + 1)
        slots_are
        ∙ ap (λ (qs : List Pointer). record { pointers = qs; modes = modes; quota = quota; group = s.pool.group + 1 })
        (refilled_still image ps leaves.stand)

    can_sync : (changes : ℕ) → length log ≤ changes → lacks held changes 0 ≡ None → CanSync image held closed
    can_sync changes few room = record {
      pool = s.pool;
      table = s.table;
      is_held = over.is_held;
      fresh = tt;
      pointers_named =
          subst (AllByRecursion (λ (slot : SlotRecord). IsNamed held.used [] slot.pointer.place))
          (sym (held_slots image held s.pool s.table over.is_held))
          (slots_named (IsNamed held.used []) s.pool.pointers
          (all_from (IsPlaced held.used []) (λ (p : Pointer). IsNamed held.used [] p.place) (λ p is. is.named) s.pool.pointers
          (all_placed image held s over)));
      waiting_named =
          subst (λ (t : TableState). AllByRecursion (λ (entry : Entry). IsNamed held.used [] entry.home.place) (waiting_in t)) (sym table_is)
          (all_from (Waits synced) (λ (entry : Entry). IsNamed held.used [] entry.home.place)
          (λ e there. inl (waiting_is_used image held s over e.key e.home (before e.key e.home there.0).1 there.1))
          (waiting_in synced) waits);
      well_formed = subst (IsWellFormed held.sectors) (sym pool_is) leaves.well;
      matches =
          subst (λ (t : TableState). Matches (pool_with image held closed) t) (sym table_is)
          (subst (λ (p : Pool). Matches p synced) (sym pool_is) matches);
      room =
          need_enough image held s.pool s.table closed changes 0 over.is_held (omega arith) few (omega arith)
          (has_needed held changes 0 room);
    }

    keeps_waiting : KeepsWaiting image held standing_after
    keeps_waiting key home is zero =
        let there : found s.table key ≡ Some home = (before key home is).1 in
        (waiting_used image held s over key home there zero, (home_within image held s over key home there).start, over.waiting key home there zero)

    stays_waiting : WaitingStays s standing_after
    stays_waiting =
        waiting_stays s standing_after waits (λ key home is zero. ((before key home is).1, refl))
        (λ key home is zero.
        waiting_has (λ entry. IsIn entry (waiting_in s.table)) s.table key home (table_sorted image held s over) is zero
        (all_in (waiting_in s.table)))

    -- and so it was closed, where it has room
    pub closes_unblocked : (keying : Keying) (item : GroupItem) (told : Told) (taken changes : ℕ)
        → standing_after ≡ sealed_standing (lanes_in_turn keying) s item told [] → length log ≤ changes → lacks held changes 0 ≡ None
        → lacks_room held s.pool item ≡ None → taken ≡ taken_in item s.pool → AnswersGroup (lanes_in_turn keying) s item told
        → AreFresh (IsFree s) (given_by (lanes_in_turn keying) s item told)
        → ClosesFrom (lanes_in_turn keying) image held s item told taken closed
    closes_unblocked keying item told taken changes same few room item_room taken_is answers fresh = record {
      room = item_room;
      taken_is = taken_is;
      answers = answers;
      fresh = fresh;
      can_sync = can_sync changes few room;
      table_is = table_is ∙ ap (λ (t : Standing). t.table) same;
      logs_are = (λ i. logs_after log (over.is_held.table_is i) (over.logs i)) ∙ ap (λ (t : Standing). t.logs) same;
      pool_is = λ clash. pool_is ∙ ap (λ (t : Standing). t.pool) same;
      waiting = subst (KeepsWaiting image held) same keeps_waiting;
      waiting_stays = subst (WaitingStays s) same stays_waiting;
    }
