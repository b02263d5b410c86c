-- An image whose newest seal is that of a new pool stands for the empty pool.
use Rattle.std.proofs.Common.{◌≡◌, ℕ, suc, ◌≤◌, ◌-◌, Bool, true, false, ◌||◌, [], Some, length, refl, ap, ◌∙◌, arith, eq-eqb}
use Rattle.std.specs.Prelude.{nat_le, nat_lt}
use Rattle.std.specs.List.{range_with_len}
use Rattle.std.proofs.lemmas.Bool.{and_from, lt-ltb}
use Rattle.std.proofs.lemmas.Bool.Decides.{nat_tests}
use Rattle.disk_model.specs.Images.{Image}
use Rattle.page_tree.specs.Pointers.{null_pointer}
use Rattle.page_tree.specs.Chains.{walk}
use Rattle.uber_ring.specs.Ring.{newest}
use Rattle.grant_book.specs.Sectors.{ring_used}
use Rattle.grant_book.proofs.MarkLaws.{length-ring_used, ring_used-at}
use Rattle.pool_model.specs.Pool.{empty_pool}
use Rattle.pool_model.specs.Run.{first_standing}
use Rattle.pool_model.specs.Space.{is_used, used_sectors}
use Rattle.pool_model.specs.Table.{IsTable, empty_table}
use Rattle.table_state.specs.SealForms.{is_formed, fewest_sectors, most_sectors, has_size}
use Rattle.table_state.specs.Spelling.{new_seal}
use Rattle.table_state.specs.Flat.{Flat, StandsFor, Reads, image_version}
use Rattle.table_state.specs.Pools.{IsHeld, new_held}
use Rattle.table_state.specs.Over.{StandsOver}
use Rattle.table_state.specs.Sound.{IsSound}
use Rattle.table_state.proofs.UsedLaws.{map_same}

nothing : Flat
nothing = record { slots = []; unique = []; duplicate = []; active = []; flushing = []; named = [] }

-- a null root reads nothing, on a disk that has a sector
reads_nothing : (image : Image) (count : ℕ) → length image ≡ suc count → Reads image [] (Some null_pointer) [] []
reads_nothing image count same = ap (λ n. walk n image (length image) [] null_pointer) same ∙ refl

new_formed : (tag sectors size : ℕ) → fewest_sectors ≤ sectors → sectors ≤ most_sectors → sectors ≤ size
    → is_formed tag size (new_seal tag sectors) ≡ true
new_formed tag sectors size enough few there =
    and_from _ _ (and_from _ _ (and_from _ _ (and_from _ _ (and_from _ _ (eq-eqb tag tag refl) refl) sizes) refl) refl) refl
  where
    at_least : (x y : ℕ) → x ≤ y → nat_le x y ≡ true
    at_least x y le = grind (arith, nat_tests, le)

    sizes : has_size size (new_seal tag sectors) ≡ true
    sizes = and_from _ _ (and_from _ _ (at_least fewest_sectors sectors enough) (at_least sectors most_sectors few))
        (at_least sectors size there)

empty_sorted : IsTable empty_table
empty_sorted = record { zap_rising = tt; zap_counted = tt; flush_rising = tt; active_rising = tt; logs_apart = tt; past = tt }

pub stands_for_empty : (tag sectors : ℕ) (image : Image) → fewest_sectors ≤ sectors → sectors ≤ most_sectors → sectors ≤ length image
    → newest image_version image ≡ Some (new_seal tag sectors) → StandsFor tag image empty_pool empty_table
unfolding nothing
stands_for_empty tag sectors image enough few there seals =
    record {
      seal = new_seal tag sectors;
      flat = nothing;
      counts = seals;
      formed = new_formed tag sectors (length image) enough few there;
      read = record {
        after_slots = [];
        after_unique = [];
        after_duplicate = [];
        after_active = [];
        slots = [];
        unique = [];
        duplicate = [];
        active = [];
        flushing = [];
        first = none;
        second = none;
        third = none;
        fourth = none;
        fifth = none;
        slots_spelled = refl;
        unique_spelled = refl;
        duplicate_spelled = refl;
        active_spelled = refl;
        flushing_spelled = refl;
      };
      whole = record {
        pages_within = tt;
        slots_rising = tt;
        unique_within = tt;
        duplicate_within = tt;
        active_within = tt;
        flushing_within = tt;
        unique_rising = tt;
        duplicate_rising = tt;
        counted_once = tt;
        counted_more = tt;
        one_class = tt;
        active_changes = refl;
        flushing_changes = refl;
      };
      table_is = refl;
      pool_is = refl;
      well_formed = record { rising = tt; together = tt; within = tt; modes = refl };
      matches = record { sorted = empty_sorted; homes = λ key. refl; waiting = tt; apart = tt };
      homes = refl;
      references = refl;
      pages = refl;
      pointers_clear = tt;
      waiting_clear = tt;
    }
  where
    some : length image ≡ suc (length image - 1)
    some = omega (arith, enough, there)

    none : Reads image [] (Some null_pointer) [] []
    none = reads_nothing image (length image - 1) some

-- the sectors that an empty pool uses are the ring's
pub used_by_none : (sectors : ℕ) → ring_used sectors ≡ used_sectors sectors [] empty_pool empty_table
used_by_none sectors = map_same (λ sector. nat_lt sector 32) (is_used [] empty_pool empty_table) (range_with_len 0 sectors)
    (λ s. ring_alone (nat_lt s 32))
  where
    ring_alone : (b : Bool) → b ≡ (b || false || false || false)
    ring_alone true = refl
    ring_alone false = refl

-- it stands for the empty pool over an image in which the first seal counts
pub new_is_held : (tag sectors : ℕ) (image : Image) → fewest_sectors ≤ sectors → sectors ≤ most_sectors → sectors ≤ length image
    → newest image_version image ≡ Some (new_seal tag sectors) → IsHeld image (new_held tag sectors) empty_pool empty_table
unfolding stands_for_empty nothing
new_is_held tag sectors image enough few there seals = record {
  stands = stands_for_empty tag sectors image enough few there seals;
  slots_are = refl;
  table_is = refl;
  logs_are = refl;
  pages_are = refl;
  keys_are = refl;
  totals_are = refl;
  keys_few = omega arith;
  used_are = used_by_none sectors;
  settled = refl;
  modes_are = refl;
  quota_is = refl;
  group_is = refl;
  sectors_are = refl;
}

-- and is sound
pub new_is_sound : (tag sectors : ℕ) → fewest_sectors ≤ sectors → sectors ≤ most_sectors → IsSound (new_held tag sectors)
new_is_sound tag sectors enough few = record {
  enough = enough;
  few = few;
  first = omega arith;
  last = omega arith;
  used_len = length-ring_used sectors;
  settled = refl;
  ring = λ sector within. ring_used-at sectors sector true (omega (arith, within, enough)) ∙ lt-ltb sector 32 within;
  slots_within = tt;
  slots_rising = tt;
  within = record { zap = tt; flush = tt; active = tt };
  lengths = record { zap = tt; flush = tt; active = tt };
  logs_within = record { active = tt; flushing = tt };
  log_lengths = record { active = tt; flushing = tt };
  replays = record { active = refl; flush = refl };
  sorted = empty_sorted;
  keys_are = refl;
  totals_are = refl;
  keys_few = omega arith;
  counts = λ key home found. absurd (cc found);
}

-- and is what stands over the image of a new pool
pub new_stands_over : (tag sectors : ℕ) (image : Image) → fewest_sectors ≤ sectors → sectors ≤ most_sectors → sectors ≤ length image
    → newest image_version image ≡ Some (new_seal tag sectors) → StandsOver image (new_held tag sectors) (first_standing sectors)
new_stands_over tag sectors image enough few there seals = record {
  is_held = new_is_held tag sectors image enough few there seals;
  logs = refl;
  sectors = refl;
  pages = refl;
  waiting = λ key home found none. absurd (cc found);
}
