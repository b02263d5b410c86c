-- What the plan of a group and its sealing come to, where the disk tells its contents and where it doesn't.
use Rattle.std.proofs.Common.{◌≡◌, ℕ, zero, suc, get_or, ◌+◌, ◌^◌, ◌<◌, ◌≤◌, List, [], ◌∷◌, Option, Some, None, length, map, refl, sym, ap, subst, ◌∙◌, inl, inr, ⊎_elim, arith}
use Rattle.std.specs.Prelude.{replicate}
use Rattle.std.specs.List.{AllByRecursion}
use Rattle.std.proofs.lemmas.List.{length-replicate}
use Rattle.disk_model.specs.Images.{Image}
use Rattle.disk_model.specs.DiskLaws.{TellsImage, Torn, IsDisk}
use Rattle.disk_model.specs.Crashes.{DiskState, LeavesOnly, NothingPending}
use Rattle.disk_model.proofs.Moments.{started, weakened}
use Rattle.page_tree.specs.ChainWrites.{AreOpen}
use Rattle.uber_ring.specs.Ring.{gate_sector, body_sector}
use Rattle.uber_ring.specs.RingWrites.{slot_of}
use Rattle.uber_ring.specs.declared.seal.Seal.{Seal}
use Rattle.pool_model.specs.declared.closed.StoredBlock.{StoredBlock}
use Rattle.pool_model.specs.Mirrors.{Stored, stored_of}
use Rattle.pool_model.specs.Pool.{Pool}
use Rattle.pool_model.specs.Group.{Standing}
use Rattle.ddt_entry.specs.Spelling.{Fits as ChangeFits}
use Rattle.ddt_entry.specs.declared.entry.Change.TheVariants as changes
use Rattle.table_state.specs.Spelling.{FitsSlot}
use Rattle.table_state.specs.Over.{StandsOver}
use Rattle.table_state.specs.Pools.{Held, slots_after}
use Rattle.table_state.specs.SealForms.{last_group}
use Rattle.table_state.specs.Sound.{IsSound}
use Rattle.table_state.specs.Sealed.{ChainPart, places_in, records_in}
use Rattle.slot_table.specs.declared.slot.SlotRecord.{SlotRecord}
use Rattle.table_state.proofs.Held.{holds_over}
use Rattle.table_state.proofs.Stands.{open_wider}
use Rattle.table_state.specs.Closing.{pages_of, PlainClosed, CanSync, CanSyncOver, IsInRange, records_after, kept_of}
use Rattle.txg_sync.specs.Planning.{IsPlan}
use Rattle.txg_sync.specs.Syncing.{KeepsNamed, BeforeGate, StopsAtGate, SyncLeaves, Syncs}
use Rattle.txg_sync.specs.Writing.{group_places, with_roots, FollowsSeal, IsUnsealed, MayBeSealed, Seals, LeavesGate, TouchesOnly}
use Rattle.txg_sync.proofs.PlacedParts.{places_as_pages}
use Rattle.txg_sync.proofs.Outcomes.{holds_before_gate, not_written}
use Rattle.txg_sync.proofs.Afterwards.{AreSpelt, holds_after, over_after, same_kept}
use Rattle.pool_model.specs.Logs.{Logs}

module _ (held : Held) (closed : PlainClosed) (sound : IsSound held) (next : Held) (parts : List ChainPart) (seal : Seal)
    (plan : IsPlan held closed next parts seal) where
  pub seal_group_is : seal.group ≡ held.group + 1
  seal_group_is = ap (λ (s : Seal). s.group) (plan.seal_is [])

  pub seal_version_is : seal.version ≡ 0
  seal_version_is = ap (λ (s : Seal). s.version) (plan.seal_is [])

  -- on a disk that has the pool's sectors
  pub open_on_disk : (sectors : ℕ) → held.sectors ≤ sectors → AreOpen sectors [] (places_in parts)
  open_on_disk sectors there = open_wider (length held.used) sectors (omega (arith, there, sound.used_len)) []
      (places_in parts) plan.placed.places_open

  -- the seal is the next one
  pub follows_newest : (told : Option Image) → CanSyncOver told held closed → FollowsSeal seal.group told
  follows_newest None can = tt
  follows_newest (Some image) can = (
    can.is_held.stands.seal,
    can.is_held.stands.counts,
    seal_group_is ∙ ap (λ n. n + 1) (can.is_held.group_is ∙ ap (λ (p : Pool). p.group) can.is_held.stands.pool_is),
  )

  module _ (image : Image) (can : CanSync image held closed) where
    -- only what nothing named may differ
    keeps_named : (c : Image) → TouchesOnly (slot_of seal.group) (group_places closed.contents parts) image c → KeepsNamed held image c
    keeps_named c only at gate body used =
        only.others at (λ e. gate (e ∙ ap (λ n. gate_sector (slot_of n)) seal_group_is))
        (λ e. body (e ∙ ap (λ n. body_sector (slot_of n)) seal_group_is))
        (not_written image held closed can sound parts plan.placed.unused at used)

    module _ (s : Standing) (over : StandsOver image held s) where
      -- before the gate may be open the image holds what stood
      pub before_gate : (c : Image) → IsUnsealed (slot_of seal.group) (group_places closed.contents parts) image c
          → BeforeGate image held s c
      before_gate c unsealed = record {
        stands =
            holds_before_gate image held closed can sound parts plan.placed.unused s over (slot_of seal.group) c (omega arith) unsealed;
        only = keeps_named c unsealed.only;
      }

      -- as it goes on until then
      pub while_filling : {old new : DiskState}
          → LeavesOnly old new (IsUnsealed (slot_of seal.group) (group_places closed.contents parts) image)
          → LeavesOnly old new (BeforeGate image held s)
      while_filling run = weakened (BeforeGate image held s) run before_gate

  module _ (range : IsInRange held closed) (last : held.group + 1 ≤ last_group) (spelt : AreSpelt next.slots (kept_of next)) where
    -- the group was synced
    pub syncs_of : (sectors : ℕ) (old new : Option Image) → TellsImage sectors old → held.sectors ≤ sectors → sectors ≤ 2 ^ 64
        → CanSyncOver old held closed → Seals (slot_of seal.group) closed.contents parts (with_roots seal parts) old new → Syncs old held
        closed next new
    syncs_of sectors None new tells there small can seals = tt
    syncs_of sectors (Some image) new tells there small can seals = (
      seals.0,
      seals.1,
      record {
        stands =
            over_after held closed sound range last next parts seal plan image (omega (arith, there, tells.count))
            (omega (arith, small, tells.count)) can spelt (slot_of seal.group) seals.0 seals.2;
        only = keeps_named image can seals.0 seals.2.only;
      },
    )

    -- or the write of its gate failed
    pub stops_of : (sectors : ℕ) (old new : Option Image) → TellsImage sectors old → held.sectors ≤ sectors → sectors ≤ 2 ^ 64
        → CanSyncOver old held closed → LeavesGate (slot_of seal.group) closed.contents parts (with_roots seal parts) old new
        → StopsAtGate old held closed new
    stops_of sectors None new tells there small can left = tt
    stops_of sectors (Some image) new tells there small can left = (
      left.0,
      left.1,
      record {
        meant = left.2.meant;
        pages = places_in parts;
        stands =
            holds_after held closed sound range last next parts seal plan image (omega (arith, there, tells.count))
            (omega (arith, small, tells.count)) can spelt (slot_of seal.group) left.2.meant left.2.is_sealed;
        torn = subst (λ n. Torn (gate_sector (slot_of n)) left.2.meant left.0) seal_group_is left.2.torn;
      },
    )

    module _ (image : Image) (there : held.sectors ≤ length image) (small : length image ≤ 2 ^ 64) (can : CanSync image held closed)
        (s : Standing) (over : StandsOver image held s) where
      -- at each moment what stood or what stands after the group
      pub leaves_of : (c : Image) → MayBeSealed (slot_of seal.group) closed.contents parts (with_roots seal parts) image c
          → SyncLeaves image held closed s (places_in parts) c
      leaves_of c may =
          ⊎_elim
          (λ unsealed. let before = before_gate image can s over c unsealed in record { stands = inl before.stands; only = before.only })
          (λ sealed. record {
            stands =
                inr (holds_after held closed sound range last next parts seal plan image there small can spelt (slot_of seal.group) c
                sealed);
            only = keeps_named image can c sealed.only;
          })
          may

      -- as it goes on
      pub while_syncing : {old new : DiskState}
          → LeavesOnly old new (MayBeSealed (slot_of seal.group) closed.contents parts (with_roots seal parts) image)
          → LeavesOnly old new (SyncLeaves image held closed s next.pages)
      while_syncing {old} {new} run =
          subst (λ (pages : List ℕ). LeavesOnly old new (SyncLeaves image held closed s pages)) (sym plan.is_next.pages_are)
          (weakened (SyncLeaves image held closed s (places_in parts)) run leaves_of)

-- the pool after a plan has the pages that its chains take
pub pages_after : (held : Held) (closed : PlainClosed) (next : Held) (parts : List ChainPart) (seal : Seal)
    → IsPlan held closed next parts seal → length next.pages ≡ pages_of (records_after held closed)
pages_after held closed next parts seal plan =
    ap (λ (pages : List ℕ). length pages) plan.is_next.pages_are ∙ places_as_pages parts plan.placed.pages
    ∙ ap pages_of (plan.placed.spelled ∙ ap (λ (slots : List SlotRecord). records_in slots (kept_of next)) plan.is_next.slots_are
    ∙ ap (records_in (slots_after closed.slots held.slots)) (same_kept _ _ _ _ plan.is_next.table_is plan.is_next.logs_are))

-- lists at hand are those of the plan
module _ (seal : Seal) (blocks listed : List StoredBlock) (parts given : List ChainPart) (same_blocks : listed ≡ blocks)
    (same_parts : given ≡ parts) where
  pub as_planned : (P : List Stored → List ChainPart → Type 0) → P (map stored_of listed) given → P (map stored_of blocks) parts
  as_planned P here =
      subst (P (map stored_of blocks)) same_parts (subst (λ (cs : List StoredBlock). P (map stored_of cs) given) same_blocks here)

  pub unsealed_as_planned : (image : Image) {old new : DiskState}
      → LeavesOnly old new (IsUnsealed (slot_of seal.group) (group_places (map stored_of listed) given) image)
      → LeavesOnly old new (IsUnsealed (slot_of seal.group) (group_places (map stored_of blocks) parts) image)
  unsealed_as_planned image {old} {new} run =
      as_planned (λ contents ps. LeavesOnly old new (IsUnsealed (slot_of seal.group) (group_places contents ps) image)) run

  pub may_be_as_planned : (image : Image) {old new : DiskState}
      → LeavesOnly old new (MayBeSealed (slot_of seal.group) (map stored_of listed) given (with_roots seal given) image)
      → LeavesOnly old new (MayBeSealed (slot_of seal.group) (map stored_of blocks) parts (with_roots seal parts) image)
  may_be_as_planned image {old} {new} run =
      as_planned (λ contents ps. LeavesOnly old new (MayBeSealed (slot_of seal.group) contents ps (with_roots seal ps) image)) run

  pub gate_as_planned : (old new : Option Image)
      → LeavesGate (slot_of seal.group) (map stored_of listed) given (with_roots seal given) old new
      → LeavesGate (slot_of seal.group) (map stored_of blocks) parts (with_roots seal parts) old new
  gate_as_planned old new left = as_planned (λ contents ps. LeavesGate (slot_of seal.group) contents ps (with_roots seal ps) old new) left

  pub sealed_as_planned : (old new : Option Image) → Seals (slot_of seal.group) (map stored_of listed) given (with_roots seal given) old new
      → Seals (slot_of seal.group) (map stored_of blocks) parts (with_roots seal parts) old new
  sealed_as_planned old new seals = as_planned (λ contents ps. Seals (slot_of seal.group) contents ps (with_roots seal ps) old new) seals

-- slots and logs at hand that have a spelling, beside a table whose stored homes have one
pub spelt_by : (next : Held) (slots : List SlotRecord) (logs : Logs) → slots ≡ next.slots → logs ≡ next.logs
    → AllByRecursion FitsSlot slots → AllByRecursion (λ entry. ChangeFits (changes.Entry entry)) next.table.zap
    → AllByRecursion ChangeFits logs.active → AllByRecursion ChangeFits logs.flushing → AreSpelt next.slots (kept_of next)
spelt_by next slots logs same_slots same_logs fit zap active flushing = record {
  slots_fit = subst (λ (s : List SlotRecord). AllByRecursion FitsSlot s) same_slots fit;
  zap = zap;
  active = subst (λ (l : Logs). AllByRecursion ChangeFits l.active) same_logs active;
  flushing = subst (λ (l : Logs). AllByRecursion ChangeFits l.flushing) same_logs flushing;
}

-- where nothing was begun what stood stands, and some pages would have been as many
pub nothing_begun : {D : DiskState} (image : Image) (held : Held) (closed : PlainClosed) (s : Standing) → IsDisk D
    → NothingPending (Some image) D.may_leave
    → StandsOver image held s → (pages : List ℕ) × (length pages ≡ pages_of (records_after held closed)) × LeavesOnly D D
    (SyncLeaves image held closed s pages)
nothing_begun image held closed s here still over = (
  replicate (pages_of (records_after held closed)) 0,
  length-replicate {A = ℕ} (pages_of (records_after held closed)) 0,
  started (SyncLeaves image held closed s (replicate (pages_of (records_after held closed)) 0))
      (λ c left. as_before c (still.1 c (here.only_now c left))),
)
  where
    as_before : (c : Image) → c ≡ image → SyncLeaves image held closed s (replicate (pages_of (records_after held closed)) 0) c
    as_before c same =
        subst (SyncLeaves image held closed s (replicate (pages_of (records_after held closed)) 0)) (sym same)
        (record { stands = inl (holds_over image held s over); only = λ at gate body used. refl })

-- what holds of each stored block holds at each index of the blocks
pub stored_at : (Q : Stored → Type 0) (contents : List StoredBlock) → AllByRecursion Q (map stored_of contents) → (k : ℕ) (d : StoredBlock)
    → k < length contents → Q (stored_of (get_or contents k d))
stored_at Q [] all k d within = absurd (omega (arith, within))
stored_at Q (s ∷ contents) all zero d within = all.0
stored_at Q (s ∷ contents) all (suc k) d within = stored_at Q contents all.1 k d (omega (arith, within))
