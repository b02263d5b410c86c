-- Pointers that are refilled from an image: the pool stays well-formed, the table matches it, and they are what the slots stand for.
use Rattle.std.proofs.Common.{◌≡◌, ℕ, ◌<◌, Bool, true, false, cond, List, [], ◌∷◌, filter, map, take, Option, Some, refl, sym, ap, ◌∙◌}
use Rattle.std.specs.List.{AllByRecursion}
use Rattle.std.proofs.lemmas.List.{length-map}
use Rattle.ddt_entry.specs.declared.key.Key.{Key}
use Rattle.disk_model.specs.Images.{Image, sector_at}
use Rattle.pool_model.specs.declared.commands.Mode.{Mode}
use Rattle.pool_model.specs.Mirrors.{Stored}
use Rattle.pool_model.specs.Pool.{Pool, Pointer, Mark, comes_before, since_of, tracks, tracked_at, GoTogether, LiesWithin, IsWellFormed}
use Rattle.pool_model.specs.Table.{TableState, found, counted, home_of_pointers, IsApartFrom, waiting_in, Matches}
use Rattle.table_state.specs.Flat.{mark_of, pointer_of}
use Rattle.table_state.specs.Pools.{with_blocks, pool_after}
use Rattle.slot_table.specs.declared.slot.SlotRecord.{SlotRecord}
use Rattle.pool_model.proofs.Lists.{all_from}
use Rattle.pool_model.proofs.Members.{all_kept, pairs_kept}
use Rattle.table_state.specs.Slots.{kind_of, slot_of, refilled, refilled_pool}
use Rattle.table_state.proofs.MarksOf.{marks_stand}

-- ---- The pool and its table

-- a pool whose pointers are refilled is well-formed as it was
pub well_formed_refilled : (image : Image) (sectors : ℕ) (pool : Pool) → IsWellFormed sectors pool
    → IsWellFormed sectors (refilled_pool image pool)
well_formed_refilled image sectors pool is = record {
  rising = pairs_kept (λ p q. comes_before p q ≡ true) (refilled image) (λ p q before. before) pool.pointers is.rising;
  modes = is.modes;
  together =
      pairs_kept GoTogether (refilled image)
      (λ p q go. record {
        slots = go.slots;
        one_home = λ shared. let home = go.one_home shared in record { place = home.place; birth = home.birth; since = home.since };
        two_blocks = go.two_blocks;
      })
      pool.pointers is.together;
  within = all_kept (LiesWithin sectors pool.group) (refilled image)
      (λ p lies. record { start = lies.start; end = lies.end; birth = lies.birth }) pool.pointers is.within;
}

-- the pointers that a table counts under a key are the same ones, refilled
tracked_refilled : (image : Image) (key : Key) (ps : List Pointer)
    → filter (tracks key) (map (refilled image) ps) ≡ map (refilled image) (filter (tracks key) ps)
tracked_refilled image key [] = refl
tracked_refilled image key (p ∷ ps) = by_test (tracks key p) (tracked_refilled image key ps)
  where
    by_test : (b : Bool) → filter (tracks key) (map (refilled image) ps) ≡ map (refilled image) (filter (tracks key) ps)
        → cond b (refilled image p ∷ filter (tracks key) (map (refilled image) ps)) (filter (tracks key) (map (refilled image) ps))
        ≡ map (refilled image) (cond b (p ∷ filter (tracks key) ps) (filter (tracks key) ps))
    by_test true rest = ap (λ (qs : List Pointer). refilled image p ∷ qs) rest
    by_test false rest = rest

home_refilled : (image : Image) (ps : List Pointer) → home_of_pointers (map (refilled image) ps) ≡ home_of_pointers ps
home_refilled image [] = refl
home_refilled image (p ∷ ps) =
    ap (λ n. Some (record { place = p.place; birth = p.birth; since = since_of p.mark; count = n }))
    (length-map (p ∷ ps) (refilled image))

-- and its table matches it as before
pub matches_refilled : (image : Image) (pool : Pool) (table : TableState) → Matches pool table → Matches (refilled_pool image pool) table
matches_refilled image pool table is = record {
  sorted = is.sorted;
  homes = λ key. is.homes key
      ∙ sym (ap home_of_pointers (tracked_refilled image key pool.pointers) ∙ home_refilled image (tracked_at pool key));
  waiting =
      all_from (λ entry. AllByRecursion (IsApartFrom entry) pool.pointers)
      (λ entry. AllByRecursion (IsApartFrom entry) (map (refilled image) pool.pointers))
      (λ entry apart. all_kept (IsApartFrom entry) (refilled image) (λ p away. away) pool.pointers apart) (waiting_in table) is.waiting;
  apart = is.apart;
}

-- ---- What the slots stand for

-- over an image slots stand for their pointers, refilled from it
pointers_refilled : (image : Image) (table : TableState) (ps : List Pointer)
    → AllByRecursion (λ p. mark_of (kind_of p.mark) (found table p.key) p.place p.birth ≡ p.mark) ps
    → map (pointer_of image table) (map slot_of ps) ≡ map (refilled image) ps
pointers_refilled image table [] marks = refl
pointers_refilled image table (p ∷ ps) marks =
    ap (λ (mark : Mark). record {
      lane = p.lane;
      slot = p.slot;
      key = p.key;
      content = take p.key.len (sector_at image p.place);
      place = p.place;
      birth = p.birth;
      mark = mark;
    } ∷ map (pointer_of image table) (map slot_of ps)) marks.0
    ∙ ap (λ (qs : List Pointer). refilled image p ∷ qs) (pointers_refilled image table ps marks.1)

module _ (sectors : ℕ) (pool : Pool) (table : TableState) (well : IsWellFormed sectors pool)
    (homes : (key : Key) → counted (found table key) ≡ home_of_pointers (tracked_at pool key))
    (lens : AllByRecursion (λ p. 0 < p.key.len) pool.pointers) where
  pub slots_refilled : (image : Image) → map (pointer_of image table) (map slot_of pool.pointers) ≡ map (refilled image) pool.pointers
  slots_refilled image = pointers_refilled image table pool.pointers (marks_stand sectors pool table well homes lens)

  -- the pool after a group is the pool of its slots' pointers, refilled from the image with the group's blocks
  pub pool_refilled : (image : Image) (contents : List Stored) (slots : List SlotRecord) (modes : List Mode) (quota : Option ℕ)
      (group : ℕ) → slots ≡ map slot_of pool.pointers
      → pool_after image contents slots table modes quota group
      ≡ record { pointers = map (refilled (with_blocks contents image)) pool.pointers; modes = modes; quota = quota; group = group }
  pool_refilled image contents slots modes quota group are =
      ap (λ (ps : List Pointer). record { pointers = ps; modes = modes; quota = quota; group = group })
      (ap (λ (ss : List SlotRecord). map (pointer_of (with_blocks contents image) table) ss) are
      ∙ slots_refilled (with_blocks contents image))
