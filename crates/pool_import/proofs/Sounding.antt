-- The numbers of a pool in memory are in their ranges, whatever a disk tells.
use Rattle.std.proofs.Common.{◌≡◌, ◌∙◌, ℕ, ◌≤◌, true, [], Some, length, refl, sym, ap, subst, subst₂, arith}
use Rattle.std.specs.Prelude.{nat_le, slice_index_or}
use Rattle.std.specs.List.{AllByRecursion}
use Rattle.std.proofs.lemmas.Bool.{and_parts, leb-true}
use Rattle.std.proofs.lemmas.List.{length-map}
use Rattle.uber_ring.specs.declared.seal.Seal.{Seal}
use Rattle.table_state.specs.SealForms.{is_formed, has_group, has_size, has_flags, has_modes, has_checkpoint, fewest_sectors, most_sectors, last_group}
use Rattle.table_state.specs.SlotRecords.{is_slot}
use Rattle.pool_model.specs.Pool.{Pool}
use Rattle.pool_model.specs.Table.{found}
use Rattle.ddt_entry.specs.declared.key.Key.{Key}
use Rattle.ddt_entry.specs.declared.entry.Home.{Home}
use Rattle.table_state.specs.Flat.{Flat, pointer_of, table_in, pool_in}
use Rattle.table_state.specs.Pools.{Held}
use Rattle.table_state.specs.Sound.{IsSound}
use Rattle.table_state.proofs.SlotCounts.{counts_few}
use Rattle.table_state.proofs.TableBack.{is_table_in, table_in_within}
use Rattle.table_state.proofs.UsedLaws.{length-used_sectors, ring_is_used}
use Rattle.pool_import.specs.Imports.{IsMade, held_of}
use Rattle.pool_import.specs.Lengths.{HasLengths}
use Rattle.pool_import.proofs.Lengths.{key_lengths}

-- what the form of a seal says of the pool's numbers
pub record HasNumbers (disk_sectors : ℕ) (seal : Seal) : Type 0 where
  pub first : 1 ≤ seal.group
  pub last : seal.group ≤ last_group
  pub enough : fewest_sectors ≤ seal.sectors
  pub few : seal.sectors ≤ most_sectors
  pub on_disk : seal.sectors ≤ disk_sectors

pub numbers_of : (tag disk_sectors : ℕ) (seal : Seal) → is_formed tag disk_sectors seal ≡ true → HasNumbers disk_sectors seal
numbers_of tag disk_sectors seal formed =
    let with_modes = and_parts _ (has_checkpoint seal) formed in
    let with_flags = and_parts _ (has_modes seal) with_modes.0 in
    let with_size = and_parts _ (has_flags seal) with_flags.0 in
    let with_group = and_parts _ (has_size disk_sectors seal) with_size.0 in
    let group = and_parts (nat_le 1 seal.group) (nat_le seal.group last_group) (and_parts _ (has_group seal) with_group.0).1 in
    let sizes = and_parts _ (nat_le seal.sectors disk_sectors) with_group.1 in
    let size = and_parts (nat_le fewest_sectors seal.sectors) (nat_le seal.sectors most_sectors) sizes.0 in
    record {
      first = leb-true 1 seal.group group.0;
      last = leb-true seal.group last_group group.1;
      enough = leb-true fewest_sectors seal.sectors size.0;
      few = leb-true seal.sectors most_sectors size.1;
      on_disk = leb-true seal.sectors disk_sectors sizes.1;
    }

-- so a pool that was made under it is sound
pub sound_of : (tag disk_sectors : ℕ) (seal : Seal) (flat : Flat) (held : Held) → is_formed tag disk_sectors seal ≡ true
    → AllByRecursion (λ slot. is_slot seal.sectors seal.group slot ≡ true) flat.slots → HasLengths flat → IsMade tag seal flat held
    → IsSound held
sound_of tag disk_sectors seal flat held formed slots lengths made =
    let numbers : HasNumbers disk_sectors seal = numbers_of tag disk_sectors seal formed in
    let sound : IsSound (held_of tag seal flat made.used) = record {
      enough = numbers.enough;
      few = numbers.few;
      first = numbers.first;
      last = numbers.last;
      settled = refl;
      keys_are = (made.whole []).homes;
      keys_few = made.few;
      totals_are = refl;
      used_len = ap length (made.used_are []) ∙ length-used_sectors seal.sectors flat.named (pool_in [] seal flat) (table_in seal flat);
      ring = λ sector first. ap (λ used. slice_index_or used sector true) (made.used_are [])
          ∙ ring_is_used seal.sectors flat.named (pool_in [] seal flat) (table_in seal flat) sector first;
      slots_within = slots;
      slots_rising = made.together.slots_rising;
      sorted = is_table_in seal flat made.together;
      within = table_in_within seal flat made.together;
      lengths = key_lengths seal flat lengths;
      logs_within = record { active = made.together.active_within; flushing = made.together.flushing_within };
      log_lengths = record { active = lengths.active; flushing = lengths.flushing };
      replays = record { active = refl; flush = refl };
      counts = counts_of;
    } in
    subst IsSound (sym made.held_is) sound
  where
    pool : Pool
    pool = pool_in [] seal flat

    -- as many pointers as slots
    counts_of : (key : Key) (home : Home) → found (table_in seal flat) key ≡ Some home → home.count ≤ length flat.slots
    counts_of key home there =
        omega (
          arith,
          counts_few pool (table_in seal flat) (made.whole []).matches key home there,
          length-map flat.slots (pointer_of [] (table_in seal flat)),
        )

-- and has no more sectors than the disk
pub no_larger : (tag disk_sectors sectors : ℕ) (seal : Seal) (flat : Flat) (held : Held) → is_formed tag disk_sectors seal ≡ true
    → disk_sectors ≡ sectors → IsMade tag seal flat held → held.sectors ≤ sectors
no_larger tag disk_sectors sectors seal flat held formed same made =
    let numbers : HasNumbers disk_sectors seal = numbers_of tag disk_sectors seal formed in
    subst₂ (λ (h : Held) n. h.sectors ≤ n) (sym made.held_is) same numbers.on_disk
