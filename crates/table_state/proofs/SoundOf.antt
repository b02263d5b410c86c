-- A pool in memory that is held over an image is sound: its numbers are in their ranges, since the image spells them so.
use Rattle.std.proofs.Common.{◌≡◌, ℕ, ◌≤◌, Bool, true, false, not, ◌&&◌, ◌==◌, List, [], ◌∷◌, length, map, Option, Some, None, Result, Ok, refl, sym, ap, subst, ◌∙◌}
use Rattle.std.specs.Prelude.{nat_le, unwrap_or, slice_index_or, if◌then◌else◌}
use Rattle.std.specs.List.{AllByRecursion}
use Rattle.std.specs.Result.{result_unwrap_or}
use Rattle.std.proofs.lemmas.Bool.{and_parts, leb-true}
use Rattle.ddt_entry.specs.Changes.{key_in}
use Rattle.ddt_entry.specs.Records.{Fields, is_key_length, is_no_home, malformed, change_of, change_in, fields_in}
use Rattle.ddt_entry.specs.Spelling.{IsKeyLength}
use Rattle.ddt_entry.specs.declared.entry.Entry.{Entry}
use Rattle.ddt_entry.specs.declared.entry.Change.{Change}
use Rattle.ddt_entry.specs.declared.entry.Change.TheVariants as changes
use Rattle.ddt_entry.specs.declared.entry.SlotKind.{SlotKind}
use Rattle.ddt_entry.specs.declared.record.Malformed.{Malformed}
use Rattle.disk_model.specs.Images.{Image}
use Rattle.uber_ring.specs.declared.seal.Seal.{Seal}
use Rattle.pool_model.specs.Pool.{Pool, Pointer}
use Rattle.pool_model.specs.Table.{TableState, IsTable, change_at, is_past, counted_homes}
use Rattle.pool_model.specs.Logs.{last_changes, is_missing}
use Rattle.table_state.specs.SealForms.{is_formed, has_group, has_size, has_flags, has_modes, has_checkpoint, fewest_sectors, most_sectors, last_group, checkpoint_in}
use Rattle.table_state.specs.SlotRecords.{is_slot, in_range, slot_at, slot_in, kind_said, kind_at, slot_of as slot_said}
use Rattle.slot_table.specs.Slots.{AreRisingSlots}
use Rattle.pool_stats.specs.Totals.{totals_in}
use Rattle.table_state.specs.Flat.{Flat, IsRead, table_in, pointer_of, logs_in}
use Rattle.table_state.specs.Pools.{Held, IsHeld}
use Rattle.pool_model.specs.Replaying.{Replays}
use Rattle.table_state.specs.Sound.{IsSound, HasKeyLengths}
use Rattle.table_state.specs.Tables.{IsTableWithin, AreLogsWithin, HasLength, HaveKeyLengths}
use Rattle.slot_table.specs.declared.slot.SlotRecord.{SlotRecord}
use Rattle.pool_model.proofs.Lists.{all_filter}
use Rattle.table_state.proofs.SlotCounts.{counts_held}
use Rattle.pool_model.proofs.Sorted.{all_fold}
use Rattle.table_state.proofs.TableBack.{is_table_in, table_in_within}
use Rattle.pool_model.proofs.TablePuts.{entries_put, changes_put}
use Rattle.table_state.proofs.UsedLaws.{length-used_sectors, ring_is_used, slot_lengths}
use Rattle.ddt_entry.proofs.RecordLaws.{is_key_length-from}

-- ---- What records spell

-- what holds of each thing that bytes spell
each_spelled : {B X Y : Type 0} (f : B → Y) (g : X → Y) (P : X → Type 0) → ((b : B) (x : X) → f b ≡ g x → P x)
    → (bs : List B) (xs : List X) → map f bs ≡ map g xs → AllByRecursion P xs
each_spelled f g P from bs [] same = tt
each_spelled f g P from [] (x ∷ xs) same = absurd (cc same)
each_spelled f g P from (b ∷ bs) (x ∷ xs) same = (from b x (cc same), each_spelled f g P from bs xs (cc same))

same_slot : (a b : SlotRecord) → Some a ≡ Some b → a ≡ b
same_slot a b same = ap (λ o. unwrap_or o a) same

ranged : (sectors group : ℕ) (said slot : SlotRecord) → in_range sectors group said ≡ Some slot → is_slot sectors group slot ≡ true
ranged sectors group said slot is = by_test (is_slot sectors group said) refl is
  where
    by_test : (b : Bool) → is_slot sectors group said ≡ b → (if b then Some said else None) ≡ Some slot
        → is_slot sectors group slot ≡ true
    by_test true within same = subst (λ (s : SlotRecord). is_slot sectors group s ≡ true) (same_slot said slot same) within
    by_test false within same = absurd (cc same)

-- a slot that bytes spell is in its ranges
slot_ranged : (sectors group : ℕ) (bytes : List ℕ) (slot : SlotRecord) → slot_in sectors group bytes ≡ Some slot
    → is_slot sectors group slot ≡ true
slot_ranged sectors group bytes slot is = by_kind (kind_said (kind_at bytes)) is
  where
    by_kind : (o : Option SlotKind) → slot_said sectors group o bytes ≡ Some slot → is_slot sectors group slot ≡ true
    by_kind None said = absurd (cc said)
    by_kind (Some kind) said = ranged sectors group (slot_at kind bytes) slot said

abbrev right : Change → Result Change Malformed
right change = Ok change

same_change : (a b : Change) → right a ≡ right b → a ≡ b
same_change a b same = ap (λ (r : Result Change Malformed). result_unwrap_or r a) same

said_length : (fields : Fields) (change : Change) → change_of fields ≡ right change → HasLength change
said_length fields change is =
    by_tests (is_key_length fields.key.len) (fields.kind == 1) ((fields.kind == 2) && is_no_home fields.home) refl is
  where
    by_tests : (len first second : Bool) → is_key_length fields.key.len ≡ len
        → (if not len then malformed else
        (if first then Ok (changes.Entry (record { key = fields.key; home = fields.home })) else
        (if second then Ok (changes.Gone fields.key) else malformed))) ≡ right change → HasLength change
    by_tests false first second long same = absurd (cc same)
    by_tests true true second long same =
        subst HasLength (same_change (changes.Entry (record { key = fields.key; home = fields.home })) change same)
        (is_key_length-from fields.key.len long)
    by_tests true false true long same =
        subst HasLength (same_change (changes.Gone fields.key) change same) (is_key_length-from fields.key.len long)
    by_tests true false false long same = absurd (cc same)

-- a change that bytes spell has a key of a length that a key can have
change_length : (bytes : List ℕ) (change : Change) → change_in bytes ≡ right change → HasLength change
change_length bytes change is = said_length (fields_in bytes) change is

-- ---- The slots and the table that are read

read_slots : (image : Image) (seal : Seal) (flat : Flat) → IsRead image seal flat
    → AllByRecursion (λ slot. is_slot seal.sectors seal.group slot ≡ true) flat.slots
read_slots image seal flat read =
    each_spelled (slot_in seal.sectors seal.group) Some
    (λ slot. is_slot seal.sectors seal.group slot
    ≡ true) (slot_ranged seal.sectors seal.group) read.slots flat.slots read.slots_spelled

entry_lengths : (bytes : List (List ℕ)) (es : List Entry) → map change_in bytes ≡ map (λ entry. right (changes.Entry entry)) es
    → AllByRecursion (λ entry. IsKeyLength entry.key.len) es
entry_lengths bytes es spelled =
    each_spelled change_in (λ entry. right (changes.Entry entry)) (λ entry. IsKeyLength entry.key.len)
    (λ b entry is. change_length b (changes.Entry entry) is) bytes es spelled

change_lengths : (bytes : List (List ℕ)) (log : List Change) → map change_in bytes ≡ map right log → AllByRecursion HasLength log
change_lengths bytes log spelled = each_spelled change_in right HasLength change_length bytes log spelled

-- the logs' keys have lengths that keys can have
read_log_lengths : (image : Image) (seal : Seal) (flat : Flat) → IsRead image seal flat → HaveKeyLengths (logs_in flat)
read_log_lengths image seal flat read = record {
  active = change_lengths read.active flat.active read.active_spelled;
  flushing = change_lengths read.flushing flat.flushing read.flushing_spelled;
}

-- and so the table's
read_lengths : (image : Image) (seal : Seal) (flat : Flat) → IsRead image seal flat → HasKeyLengths (table_in seal flat)
read_lengths image seal flat read = record {
  zap = all_fold entries_put (λ entry. IsKeyLength entry.key.len) flat.duplicate flat.unique
      (entry_lengths read.duplicate flat.duplicate read.duplicate_spelled) (entry_lengths read.unique flat.unique read.unique_spelled);
  flush =
      all_filter HasLength (λ change. is_past (checkpoint_in seal) (key_in change) && is_missing
      (change_at (key_in change) (last_changes flat.active))) (last_changes flat.flushing)
      (all_fold changes_put HasLength flat.flushing [] (change_lengths read.flushing flat.flushing read.flushing_spelled) tt);
  active = all_fold changes_put HasLength flat.active [] (change_lengths read.active flat.active read.active_spelled) tt;
}

-- ---- The numbers of the seal

-- what the form of a seal says of the pool's numbers
record HasNumbers (seal : Seal) : Type 0 where
  first : 1 ≤ seal.group
  last : seal.group ≤ last_group
  enough : fewest_sectors ≤ seal.sectors
  few : seal.sectors ≤ most_sectors

numbers_of : (tag size : ℕ) (seal : Seal) → is_formed tag size seal ≡ true → HasNumbers seal
numbers_of tag size seal formed =
    let with_modes = and_parts _ (has_checkpoint seal) formed in
    let with_flags = and_parts _ (has_modes seal) with_modes.0 in
    let with_size = and_parts _ (has_flags seal) with_flags.0 in
    let with_group = and_parts _ (has_size size seal) with_size.0 in
    let group = and_parts (nat_le 1 seal.group) (nat_le seal.group last_group) (and_parts _ (has_group seal) with_group.0).1 in
    let sizes = and_parts _ (nat_le seal.sectors size) with_group.1 in
    let bounds = and_parts (nat_le fewest_sectors seal.sectors) (nat_le seal.sectors most_sectors) sizes.0 in
    record {
      first = leb-true 1 seal.group group.0;
      last = leb-true seal.group last_group group.1;
      enough = leb-true fewest_sectors seal.sectors bounds.0;
      few = leb-true seal.sectors most_sectors bounds.1;
    }

-- ---- A pool that is held

module _ (image : Image) (held : Held) (pool : Pool) (table : TableState) (is : IsHeld image held pool table) where
  abbrev seal : Seal
  seal = is.stands.seal

  abbrev flat : Flat
  flat = is.stands.flat

  group_same : held.group ≡ seal.group
  group_same = is.group_is ∙ ap (λ (p : Pool). p.group) is.stands.pool_is

  table_same : held.table ≡ table_in seal flat
  table_same = is.table_is ∙ is.stands.table_is

  slots_ranged : AllByRecursion (λ slot. is_slot held.sectors held.group slot ≡ true) held.slots
  slots_ranged =
      subst (AllByRecursion (λ slot. is_slot held.sectors held.group slot ≡ true)) (sym is.slots_are)
      (subst (λ n. AllByRecursion (λ slot. is_slot n held.group slot ≡ true) flat.slots) (sym is.sectors_are)
      (subst (λ n. AllByRecursion (λ slot. is_slot seal.sectors n slot ≡ true) flat.slots) (sym group_same)
      (read_slots image seal flat is.stands.read)))

  table_ranged : IsTableWithin held.sectors held.group held.table
  table_ranged =
      subst (IsTableWithin held.sectors held.group) (sym table_same)
      (subst (λ n. IsTableWithin n held.group (table_in seal flat)) (sym is.sectors_are)
      (subst (λ n. IsTableWithin seal.sectors n (table_in seal flat)) (sym group_same) (table_in_within seal flat is.stands.whole)))

  logs_ranged : AreLogsWithin held.sectors held.group held.logs
  logs_ranged =
      subst (AreLogsWithin held.sectors held.group) (sym is.logs_are)
      (subst (λ n. AreLogsWithin n held.group (logs_in flat)) (sym is.sectors_are)
      (subst (λ n. AreLogsWithin seal.sectors n (logs_in flat)) (sym group_same)
      (record { active = is.stands.whole.active_within; flushing = is.stands.whole.flushing_within })))

  -- and its logs are replayed to its table
  pub held_replays : Replays held.table held.logs
  held_replays = subst (λ (t : TableState). Replays t held.logs) (sym table_same)
      (subst (Replays (table_in seal flat)) (sym is.logs_are) (record { active = refl; flush = refl }))

  -- what is held over an image is sound
  pub held_sound : IsSound held
  held_sound =
      let numbers : HasNumbers seal = numbers_of held.tag (length image) seal is.stands.formed in
      record {
        enough = subst (λ n. fewest_sectors ≤ n) (sym is.sectors_are) numbers.enough;
        few = subst (λ n. n ≤ most_sectors) (sym is.sectors_are) numbers.few;
        first = subst (λ n. 1 ≤ n) (sym group_same) numbers.first;
        last = subst (λ n. n ≤ last_group) (sym group_same) numbers.last;
        settled = is.settled;
        used_len = ap length is.used_are ∙ length-used_sectors held.sectors held.pages pool table;
        ring = λ sector first. ap (λ (used : List Bool). slice_index_or used sector true) is.used_are
            ∙ ring_is_used held.sectors held.pages pool table sector first;
        slots_within = slots_ranged;
        within = table_ranged;
        lengths = subst HasKeyLengths (sym table_same) (read_lengths image seal flat is.stands.read);
        logs_within = logs_ranged;
        log_lengths = subst HaveKeyLengths (sym is.logs_are) (read_log_lengths image seal flat is.stands.read);
        replays = held_replays;
        keys_are = is.keys_are ∙ ap (λ (t : TableState). length (counted_homes t)) (sym is.table_is);
        keys_few = is.keys_few;
        totals_are = is.totals_are ∙ ap (λ (t : TableState). totals_in (counted_homes t)) (sym is.table_is);
        sorted = subst IsTable (sym table_same) (is_table_in seal flat is.stands.whole);
        slots_rising = subst AreRisingSlots (sym is.slots_are) is.stands.whole.slots_rising;
        counts = counts_held image held pool table is;
      }

  -- and each pointer's key has a length that a key can have
  pub pointer_lengths : AllByRecursion (λ p. IsKeyLength p.key.len) pool.pointers
  pointer_lengths =
      subst (λ (p : Pool). AllByRecursion (λ (q : Pointer). IsKeyLength q.key.len) p.pointers) (sym is.stands.pool_is)
      (each flat.slots (subst (AllByRecursion (λ (slot : SlotRecord). IsKeyLength slot.pointer.key.len)) is.slots_are
      (slot_lengths held.sectors held.group held.slots slots_ranged)))
    where
      each : (slots : List SlotRecord) → AllByRecursion (λ (slot : SlotRecord). IsKeyLength slot.pointer.key.len) slots
          → AllByRecursion (λ (q : Pointer). IsKeyLength q.key.len) (map (pointer_of image (table_in seal flat)) slots)
      each [] all = tt
      each (slot ∷ slots) all = (all.0, each slots all.1)
