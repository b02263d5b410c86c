-- A group that was closed is sealed, or the session ends in its sync.
use Rattle.std.proofs.Common.{◌≡◌, ◌∙◌, ◌≤◌, ◌+◌, ℕ, Bool, false, cond, Option, Some, None, List, [], ◌∷◌, length, take, refl, sym, ap, subst, inl, inr, ⊎_elim, arith}
use Rattle.std.specs.Prelude.{◌⊎◌, ◌≢◌, not, unwrap_or}
use Rattle.std.specs.List.{count_by}
use Rattle.std.proofs.Math.Nat.{mod-lt}
use Rattle.disk_model.specs.Images.{Image}
use Rattle.disk_model.specs.DiskLaws.{Stays}
use Rattle.disk_model.specs.Crashes.{DiskState, LeavesOnly, NothingPending}
use Rattle.disk_model.specs.DiskLaws.{IsDisk}
use Rattle.disk_model.proofs.Moments.{weakened, at_end}
use Rattle.ddt_entry.specs.Keys.{Keying}
use Rattle.uber_ring.specs.Ring.{gate_sector, body_sector}
use Rattle.uber_ring.specs.RingWrites.{slot_of}
use Rattle.pool_model.specs.declared.faults.SyncFault.{SyncFault}
use Rattle.pool_model.specs.declared.faults.SyncFault.TheVariants as syncs
use Rattle.pool_model.specs.declared.notes.Outcome.{Outcome}
use Rattle.pool_model.specs.declared.notes.Outcome.TheVariants.{Sealed, Cut}
use Rattle.pool_model.specs.Pool.{Pool}
use Rattle.pool_model.specs.Table.{TableState, flush_limit}
use Rattle.pool_model.specs.Plain.{GroupItem, of_group, Told}
use Rattle.pool_model.specs.Space.{need, space_lacking, free_count, image_pages}
use Rattle.pool_model.specs.Group.{Standing, Rules, AreFresh, IsFree, lanes_in_turn}
use Rattle.pool_model.specs.Run.{HasFlatRoom, changes_of_group, given_by, sealed_standing, writes_of_group}
use Rattle.pool_model.specs.Crash.{AnyStands, StandsAt, begun_by}
use Rattle.pool_model.proofs.Kept.{group_kept, stays_comes}
use Rattle.table_state.specs.Pools.{Held, IsHeld}
use Rattle.table_state.specs.Holding.{Holds, WaitingStand}
use Rattle.table_state.specs.Over.{StandsOver}
use Rattle.table_state.specs.Closing.{PlainClosed, CanSync, CanSyncOver, pages_of, records_after, standing_with, table_after}
use Rattle.table_state.proofs.Held.{standing_over, stands_as_held}
use Rattle.table_state.proofs.RoomLaws.{sealed_pages}
use Rattle.txg_sync.specs.Syncing.{BeforeGate, IsSynced, KeepsNamed, SyncLeaves, Syncs}
use Rattle.lane_run.specs.Groups.{KeepsWaiting}
use Rattle.session.specs.Faults.{status_of}
use Rattle.session.specs.StageEntries.{StandsForTold}
use Rattle.session.specs.StageClosing.{lacks}
use Rattle.session.specs.StageGroups.{HasRunOver, GroupEnded, GroupCut, group_step}
use Rattle.session.specs.StageItems.{KeepsApart}
use Rattle.session.specs.Running.{is_write_fault}
use Rattle.session.proofs.NotedGroups.{noted_as, after_group, after_sectors, noted_standing, noted_given, noted_answers, noted_lanes}
use Rattle.session.proofs.Over.{over_leaves}
use Rattle.pool_model.specs.Logs.{logs_after}

-- ---- What stands after a group

-- what holds a standing holds one that differs in its blocks alone, where the homes that wait have theirs
moved : (tag : ℕ) (c : Image) (a b : Standing) → a.pool ≡ b.pool → a.table ≡ b.table → a.logs ≡ b.logs → a.sectors ≡ b.sectors
    → a.pages ≡ b.pages → WaitingStand c b → Holds tag c a → Holds tag c b
moved tag c a b pool table logs sectors pages waiting holds =
    let there : Holds tag c (record b { blocks = a.blocks }) =
    subst (Holds tag c)
    (λ i. record { pool = pool i; table = table i; logs = logs i; blocks = a.blocks; sectors = sectors i; pages = pages i }) holds in
    record { state = there.state; logs = there.logs; sectors = there.sectors; pages = there.pages; waiting = waiting }

moved_over : (c : Image) (held : Held) (a b : Standing) → a.pool ≡ b.pool → a.table ≡ b.table → a.logs ≡ b.logs → a.sectors ≡ b.sectors
    → a.pages ≡ b.pages → WaitingStand c b → StandsOver c held a → StandsOver c held b
moved_over c held a b pool table logs sectors pages waiting over = record {
  is_held = subst (λ (t : TableState). IsHeld c held b.pool t) table (subst (λ (p : Pool). IsHeld c held p a.table) pool over.is_held);
  logs = over.logs ∙ logs;
  sectors = over.sectors ∙ sectors;
  pages = over.pages ∙ pages;
  waiting = waiting;
}

-- a sector behind the ring is none of it
not_gate : (at number : ℕ) → 32 ≤ at → at ≢ gate_sector (slot_of number)
not_gate at number behind e = absurd (omega (arith, behind, e, mod-lt number {m = 16} (omega arith)))

not_body : (at number : ℕ) → 32 ≤ at → at ≢ body_sector (slot_of number)
not_body at number behind e = absurd (omega (arith, behind, e, mod-lt number {m = 16} (omega arith)))

-- what waits after a group has its block in each image that its sync may leave
waits_later : (image c : Image) (held : Held) (after : Standing) → KeepsWaiting image held after → KeepsNamed held image c
    → WaitingStand c after
waits_later image c held after keeps only key home is_found none =
    let kept = keeps key home is_found none in
    kept.2 ∙ ap (take key.len)
    (sym (only home.place (not_gate home.place (held.group + 1) kept.1) (not_body home.place (held.group + 1) kept.1) kept.0))

-- ---- Its room

-- a group finds room by what is kept in memory where it does so by what stands
pub same_lacking : (image : Image) (held : Held) (s : Standing) (changes writes : ℕ) → StandsOver image held s
    → lacks held changes writes
    ≡ space_lacking (free_count s.sectors s.pages s.pool s.table) (need (length s.pages) (flush_limit s.table) changes writes)
same_lacking image held s changes writes over =
    ap (λ used. space_lacking (count_by not used) (need (length held.pages) (flush_limit held.table) changes writes)) over.is_held.used_are
    ∙ ap (λ table. space_lacking (free_count held.sectors held.pages s.pool s.table)
    (need (length held.pages) (flush_limit table) changes writes)) over.is_held.table_is
    ∙ ap (λ pages. space_lacking (free_count held.sectors pages s.pool s.table)
    (need (length pages) (flush_limit s.table) changes writes)) over.pages
    ∙ ap (λ sectors. space_lacking (free_count sectors s.pages s.pool s.table)
    (need (length s.pages) (flush_limit s.table) changes writes)) over.sectors

-- what a group leaves can be synced over what the disk still tells
pub can_over : (old mid : Option Image) (held : Held) (closed : PlainClosed) → (old ≡ None → mid ≡ None) → Stays old mid
    → StandsForTold old held
    → ((image : Image) (s : Standing) → old ≡ Some image → StandsOver image held s → CanSync image held closed)
    → CanSyncOver mid held closed
can_over None mid held closed untold stays stands can = subst (λ (o : Option Image). CanSyncOver o held closed) (sym (untold refl)) tt
can_over (Some image) mid held closed untold stays (pool, table, is) can =
    subst (λ (o : Option Image). CanSyncOver o held closed) (sym stays)
    (can image (standing_over image held pool table) refl (stands_as_held image held pool table is))

module _ (keying : Keying) (old new : DiskState) (held : Held) (s : Standing) (item : GroupItem) (told : Told) (taken : ℕ)
    (closed : PlainClosed) (ran : HasRunOver keying old held s item told taken closed) where
  abbrev rules : Rules
  rules = lanes_in_turn keying

  abbrev after : List ℕ → Standing
  after pages = after_group keying s told item pages

  abbrev Leaves : List ℕ → Image → Type 0
  Leaves pages = SyncLeaves ran.over.image held closed s pages

  abbrev stood : StandsOver ran.over.image held s
  stood = ran.over.stands

  sectors_stay : held.sectors ≡ (sealed_standing rules s item told []).sectors
  sectors_stay = stood.sectors ∙ sym (after_sectors keying s told item)

  -- what a sync leaves of the group holds what stands after the run
  after_holds : (pages : List ℕ) (c : Image) → KeepsNamed held ran.over.image c
      → Holds held.tag c (standing_with ran.over.image held closed pages)
      → Holds keying.tag c (after pages)
  after_holds pages c only holds =
      subst (λ t. Holds t c (after pages)) ran.tag_is
      (moved held.tag c (standing_with ran.over.image held closed pages) (after pages)
      (ran.run.pool_is ran.no_clash) ran.run.table_is ran.run.logs_are sectors_stay refl
      (waits_later ran.over.image c held (after pages) ran.run.waiting only) holds)

  before_holds : (c : Image) → Holds held.tag c s → Holds keying.tag c s
  before_holds c holds = subst (λ t. Holds t c s) ran.tag_is holds

  -- a crash leaves what stood, or what the run leaves
  either : (pages : List ℕ) (c : Image) → Leaves pages c → Holds keying.tag c s ⊎ Holds keying.tag c (after pages)
  either pages c leaves =
      ⊎_elim (λ before. inl (before_holds c before)) (λ then. inr (after_holds pages c leaves.only then)) leaves.stands

  any : (pages : List ℕ) (c : Image) → Leaves pages c → AnyStands (Holds keying.tag c) (s ∷ after pages ∷ [])
  any pages c leaves = ⊎_elim (λ before. inl before) (λ then. inr (inl then)) (either pages c leaves)

  while_syncing : (pages : List ℕ) → LeavesOnly old new (Leaves pages)
      → LeavesOnly old new (λ c. AnyStands (Holds keying.tag c) (s ∷ after pages ∷ []))
  while_syncing pages run = weakened (λ c. AnyStands (Holds keying.tag c) (s ∷ after pages ∷ [])) run (any pages)

  -- there was room, and the image has the pages of its pool
  has_room : (outcome : Outcome) (n : ℕ) (pages : List ℕ) → length pages ≡ pages_of (records_after held closed)
      → HasFlatRoom s item Sealed (given_by rules s item (noted_as told outcome n)) (after pages)
  has_room outcome n pages count = record {
    outcome_is =
        ap (λ (o : Option Outcome). unwrap_or o Sealed)
        (sym ran.run.room ∙ same_lacking ran.over.image held s (changes_of_group item s.pool) (writes_of_group item) stood);
    fresh = subst (AreFresh (IsFree s)) (noted_given keying s told outcome n item) ran.run.fresh;
    pages = λ sealed.
        count ∙ sealed_pages ran.over.image held closed
        ∙ ap (λ (p : Pool). image_pages p (table_after held closed) (logs_after closed.log held.table held.logs))
        (ran.run.pool_is ran.no_clash)
        ∙ ap (λ (t : TableState). image_pages (after pages).pool t (logs_after closed.log held.table held.logs)) ran.run.table_is
        ∙ ap (image_pages (after pages).pool (after pages).table) ran.run.logs_are;
  }

  -- a content without another of its key has none after the group
  stays_apart : (pages : List ℕ) → KeepsApart keying.key_of s (after pages) (of_group item)
  stays_apart pages all among content apart =
      let kept =
      group_kept keying s told [] item all among (stays_comes s (sealed_standing rules s item told []) ran.run.waiting_stays)
      content apart in
      record { writes = kept.writes; pointers = kept.pointers; waiting = kept.waiting }

  -- the group was sealed
  pub sealed_now : (noted : Told) (next : Held) → noted ≡ noted_as told Sealed taken → IsDisk new
      → (pages : List ℕ) → length pages ≡ pages_of (records_after held closed) → pages ≡ next.pages → LeavesOnly old new (Leaves pages)
      → Syncs old.seen held closed next new.seen → NothingPending new.seen new.may_leave
      → GroupEnded old new rules s item noted next
  sealed_now noted next is here pages count same run synced quiet =
      subst (λ (t : Told). GroupEnded old new rules s item t next) (sym is) (record {
        after = after pages;
        ended = record {
          number = ran.number ∙ ap (λ n. n + 1) stood.is_held.group_is;
          kind = ran.kind;
          did = (
            ran.run.taken_is,
            noted_answers keying s told Sealed taken item ran.run.answers,
            noted_standing keying s told Sealed taken item pages,
          );
          room_is = has_room Sealed taken pages count;
        };
        over = record {
          image = there.0;
          told = there.1;
          quiet = still;
          stands = moved_over there.0 next (standing_with ran.over.image held closed next.pages) (after pages)
              (ran.run.pool_is ran.no_clash) ran.run.table_is ran.run.logs_are sectors_stay (sym same)
              (waits_later ran.over.image there.0 held (after pages) ran.run.waiting there.2.only) there.2.stands;
        };
        others = stays_apart pages;
        crash = while_syncing pages run;
      })
    where
      there : (c : Image) × (new.seen ≡ Some c) × IsSynced ran.over.image held closed next c
      there = subst (λ (o : Option Image). Syncs o held closed next new.seen) ran.over.told synced

      still : NothingPending (Some there.0) new.may_leave
      still = subst (λ (o : Option Image). NothingPending o new.may_leave) there.1 quiet

  -- it stands where it stood
  still_at : (failed : Bool) (rest : List Standing) (c : Image) → old.may_leave c
      → StandsAt (Holds keying.tag c) failed s.pool.group (s ∷ rest)
  still_at failed rest c left =
      inl (refl, inl (over_leaves old held s keying.tag ran.over ran.tag_is c left))

  -- what a crash leaves at return after a fault
  module _ (pages : List ℕ) (here : IsDisk new) (run : LeavesOnly old new (Leaves pages)) where
    at_return : (fault : SyncFault) → (fault ≡ syncs.WriteFault → LeavesOnly old new (BeforeGate ran.over.image held s))
        → (fault ≡ syncs.Memory → (c : Image) → new.may_leave c → old.may_leave c)
        → ((sector : ℕ) → fault ≡ syncs.Damaged sector → (c : Image) → new.may_leave c → old.may_leave c)
        → (fault ≡ syncs.ReadFault → (c : Image) → new.may_leave c → old.may_leave c)
        → (c : Image) → new.may_leave c
        → StandsAt (Holds keying.tag c) (is_write_fault (status_of fault)) s.pool.group (s ∷ after pages ∷ [])
    at_return syncs.ReadFault before unwritten damaged unread c left = still_at false (after pages ∷ []) c (unread refl c left)
    at_return syncs.Memory before unwritten damaged unread c left = still_at false (after pages ∷ []) c (unwritten refl c left)
    at_return (syncs.Damaged sector) before unwritten damaged unread c left = still_at false (after pages ∷ []) c
        (damaged sector refl c left)
    at_return syncs.WriteFault before unwritten damaged unread c left =
        inl (refl, inl (before_holds c (at_end (before refl) here c left).stands))
    at_return syncs.GateFault before unwritten damaged unread c left =
        ⊎_elim (λ was. inl (refl, inl was)) (λ then. inl (refl, inr (refl, then))) (either pages c (at_end run here c left))

  -- the sync failed
  pub cut_now : (noted : Told) (fault : SyncFault) → noted ≡ noted_as told Cut 0 → IsDisk new
      → (pages : List ℕ) → length pages ≡ pages_of (records_after held closed) → LeavesOnly old new (Leaves pages)
      → (fault ≡ syncs.WriteFault → LeavesOnly old new (BeforeGate ran.over.image held s))
      → (fault ≡ syncs.Memory → (c : Image) → new.may_leave c → old.may_leave c)
      → ((sector : ℕ) → fault ≡ syncs.Damaged sector → (c : Image) → new.may_leave c → old.may_leave c)
      → (fault ≡ syncs.ReadFault → (c : Image) → new.may_leave c → old.may_leave c)
      → GroupCut old new rules s item noted (status_of fault)
  cut_now noted fault is here pages count run before unwritten damaged unread =
      subst (λ (t : Told). GroupCut old new rules s item t (status_of fault)) (sym is) (record {
        after = after pages;
        cut = record {
          number = ran.number ∙ ap (λ n. n + 1) stood.is_held.group_is;
          kind = ran.kind;
          outcome = refl;
          taken = refl;
          after_is = noted_standing keying s told Cut 0 item pages;
          did = inr (noted_answers keying s told Cut 0 item ran.run.answers, has_room Cut 0 pages count);
        };
        crash = subst (λ (stands : List Standing). LeavesOnly old new (λ c. AnyStands (Holds keying.tag c) (s ∷ stands))) (sym began)
            (while_syncing pages run);
        at_return = λ c left.
            subst (λ (stands : List Standing). StandsAt (Holds keying.tag c) (is_write_fault (status_of fault)) s.pool.group (s ∷ stands))
            (sym began)
            (at_return pages here run fault before unwritten damaged unread c left);
      })
    where
      began : begun_by (group_step s item (noted_as told Cut 0) (after pages)) ≡ after pages ∷ []
      began = ap (λ b. cond b (after pages ∷ []) []) (noted_lanes keying s told Cut 0 item ran.run.answers)
