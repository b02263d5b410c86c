-- A book of a pool's sectors: which are used, and which of those are let go at the next settling. A place that is given out is used in the
-- book, also while nothing names it yet.
use Rattle.std.specs.Prelude.{◌≡◌, ◌&&◌, ℕ, Bool, true, false, not, List, [], ◌∷◌, length, map, drop, replicate, slice_set, slice_index_or}
use Rattle.std.specs.List.{count_by, range_with_len}
use Rattle.grant_book.specs.Sectors.{free_from, free_sectors, marked, AreFirstFree}

pub record Book : Type 0 where
  pub used : List Bool
  pub pending : List Bool

-- whether a sector is still used once what is pending is let go
abbrev pub is_kept : (used pending : List Bool) → (sector : ℕ) → Bool
is_kept used pending sector = slice_index_or used sector false && not (slice_index_or pending sector false)

-- the sectors that are used then
abbrev pub kept : (used pending : List Bool) → List Bool
kept used pending = map (is_kept used pending) (range_with_len 0 (length used))

-- the book once what was pending is free
abbrev pub settled : Book → Book
settled book = record { used = kept book.used book.pending; pending = replicate (length book.used) false }

-- the sectors with these free
abbrev pub unmarked : List Bool → (sectors : List ℕ) → List Bool
unmarked used [] = used
unmarked used (sector ∷ sectors) = unmarked (slice_set used sector false) sectors

-- a place that is used, and not pending
pub record IsTaken (used pending : List Bool) (place : ℕ) : Type 0 where
  pub is_used : slice_index_or used place false ≡ true
  pub stays : slice_index_or pending place false ≡ false

-- so many places were given out: the first that were free, used from then on
pub record IsGranted (old new : Book) (wanted : ℕ) (places : List ℕ) : Type 0 where
  pub first : AreFirstFree old.used wanted places
  pub used_then : new.used ≡ marked old.used places
  pub pending_then : new.pending ≡ old.pending

-- what a book keeps: how many sectors are free, and a sector below which none is; what is pending is used
pub record IsBook (used pending : List Bool) (free low : ℕ) : Type 0 where
  pub alike : length pending ≡ length used
  pub free_is : free ≡ count_by not used
  pub low_is : free_sectors used ≡ free_from low (drop low used)
  pub held : (sector : ℕ) → slice_index_or pending sector false ≡ true → slice_index_or used sector false ≡ true
