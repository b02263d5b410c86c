-- What holds of a pool in memory when a group opens on it: the homes that its table finds, and that those that wait have a place that is
-- used.
use Rattle.std.proofs.Common.{◌≡◌, ℕ, ◌^◌, ◌<◌, ◌≤◌, Bool, true, false, List, [], ◌∷◌, length, Some, None, Option, refl, sym, subst, ◌∙◌}
use Rattle.std.proofs.Common.{arith, ⊎_elim}
use Rattle.std.specs.Prelude.{slice_index_or}
use Rattle.std.specs.List.{AllByRecursion, find}
use Rattle.std.specs.Option.{option_map}
use Rattle.ddt_entry.specs.declared.key.Key.{Key}
use Rattle.ddt_entry.specs.declared.entry.Home.{Home}
use Rattle.ddt_entry.specs.declared.entry.Entry.{Entry}
use Rattle.ddt_entry.specs.declared.entry.Change.{Change}
use Rattle.ddt_entry.specs.declared.entry.Change.TheVariants as changes
use Rattle.ddt_entry.specs.Keys.{key_eq}
use Rattle.ddt_entry.specs.Changes.{key_in}
use Rattle.disk_model.specs.Images.{Image}
use Rattle.pool_model.specs.Pool.{IsApart, run_length, IsWellFormed}
use Rattle.pool_model.specs.Table.{TableState, found, found_over, home_in, change_at, entry_at, IsTable}
use Rattle.pool_model.specs.Group.{Standing}
use Rattle.table_state.specs.Flat.{IsWithin, IsChangeWithin}
use Rattle.table_state.specs.Tables.{IsTableWithin}
use Rattle.table_state.specs.Pools.{Held}
use Rattle.table_state.specs.Sound.{IsSound, HasKeyLengths}
use Rattle.table_state.proofs.UsedLaws.{waiting_runs}
use Rattle.table_state.proofs.SoundOf.{held_sound}
use Rattle.table_state.proofs.UnusedOf.{unused_free}
use Rattle.pool_model.specs.Homes.{HomesMatch}
use Rattle.pool_model.proofs.Waiting.{waiting_has}
use Rattle.pool_model.proofs.Matching.{matches_read}
use Rattle.pool_model.specs.ByKey.{MatchesByKey}
use Rattle.table_state.specs.Over.{StandsOver}
use Rattle.lane_run.proofs.Places.{used_either}
use Rattle.lane_run.proofs.Stored.{found_has}

-- the ranges of a home's numbers
pub record IsHomeWithin (sectors group : ℕ) (home : Home) : Type 0 where
  pub start : 32 ≤ home.place
  pub end : home.place < sectors
  pub born : 1 ≤ home.birth
  pub birth : home.birth ≤ group
  pub since : home.since < 2 ^ 40
  pub count : home.count ≤ 1048576

-- ---- What is found is in the lists

pub entry_has : (P : Home → Type 0) (key : Key) (entries : List Entry) (home : Home) → AllByRecursion (λ e. P e.home) entries
    → entry_at key entries ≡ Some home → P home
entry_has P key entries home all is = by_found (find (λ e. key_eq e.key key) entries) refl is
  where
    by_found : (o : Option Entry) → find (λ e. key_eq e.key key) entries ≡ o → option_map (λ e. e.home) o ≡ Some home → P home
    by_found None there gives = absurd (cc gives)
    by_found (Some e) there gives =
        let same : e.home ≡ home =
        cc gives in subst P same (found_has (λ (x : Entry). P x.home) (λ (x : Entry). key_eq x.key key) entries e there all)

abbrev ChangeHas : (Home → Type 0) → Change → Type 0
ChangeHas P (changes.Entry entry) = P entry.home
ChangeHas P (changes.Gone key) = Unit {0}

over_has : (P : Home → Type 0) (key : Key) (log : List Change) (below : Option Home) (home : Home) → ((h : Home) → below ≡ Some h → P h)
    → AllByRecursion (ChangeHas P) log → found_over below (change_at key log) ≡ Some home → P home
over_has P key log below home lower all is = by_found (change_at key log) refl is
  where
    by_change : (change : Change) → ChangeHas P change → home_in change ≡ Some home → P home
    by_change (changes.Entry entry) has gives = let same : entry.home ≡ home = cc gives in subst P same has
    by_change (changes.Gone gone) has gives = absurd (cc gives)

    by_found : (o : Option Change) → change_at key log ≡ o → found_over below o ≡ Some home → P home
    by_found None there gives = lower home gives
    by_found (Some change) there gives =
        by_change change (found_has (ChangeHas P) (λ (x : Change). key_eq (key_in x) key) log change there all) gives

pub found_within : (sectors group : ℕ) (table : TableState) (key : Key) (home : Home) → IsTableWithin sectors group table
    → found table key ≡ Some home → IsHomeWithin sectors group home
found_within sectors group table key home within is =
    over_has (IsHomeWithin sectors group) key table.active (found_over (entry_at key table.zap) (change_at key table.flush)) home
    (λ h below. over_has (IsHomeWithin sectors group) key table.flush (entry_at key table.zap) h
    (λ k stored. entry_has (IsHomeWithin sectors group) key table.zap k (entries table.zap within.zap) stored)
    (logged table.flush within.flush) below)
    (logged table.active within.active) is
  where
    of_entry : (entry : Entry) → IsWithin sectors group entry → IsHomeWithin sectors group entry.home
    of_entry entry w = record { start = w.place; end = w.on_disk; born = w.born; birth = w.birth; since = w.since; count = w.count }

    entries : (es : List Entry) → AllByRecursion (IsWithin sectors group) es → AllByRecursion (λ e. IsHomeWithin sectors group e.home) es
    entries [] all = tt
    entries (e ∷ es) all = (of_entry e all.0, entries es all.1)

    logged : (log : List Change) → AllByRecursion (IsChangeWithin sectors group) log
        → AllByRecursion (ChangeHas (IsHomeWithin sectors group)) log
    logged [] all = tt
    logged (changes.Entry e ∷ log) all = (of_entry e all.0, logged log all.1)
    logged (changes.Gone k ∷ log) all = (tt, logged log all.1)

-- ---- Over told contents

module _ (image : Image) (held : Held) (s : Standing) (over : StandsOver image held s) where
  pub table_sorted : IsTable s.table
  table_sorted = over.is_held.stands.matches.sorted

  pub pool_sound : IsSound held
  pool_sound = held_sound image held s.pool s.table over.is_held

  pub home_within : (key : Key) (home : Home) → found s.table key ≡ Some home → IsHomeWithin held.sectors held.group home
  home_within key home is =
      found_within held.sectors held.group s.table key home
      (subst (IsTableWithin held.sectors held.group) over.is_held.table_is pool_sound.within) is

  lengths : HasKeyLengths s.table
  lengths = subst HasKeyLengths over.is_held.table_is pool_sound.lengths

  -- a home that waits takes one sector
  pub waiting_run : (key : Key) (home : Home) → found s.table key ≡ Some home → home.count ≡ 0 → run_length key ≡ 1
  waiting_run key home is zero =
      waiting_has (λ entry. run_length entry.key ≡ 1) s.table key home table_sorted is zero
      (waiting_runs s.table lengths.zap lengths.flush lengths.active)

  -- and its sector is used
  pub waiting_used : (key : Key) (home : Home) → found s.table key ≡ Some home → home.count ≡ 0
      → slice_index_or held.used home.place true ≡ true
  waiting_used key home is zero = by_note (slice_index_or held.used home.place true) refl
    where
      by_note : (b : Bool) → slice_index_or held.used home.place true ≡ b → b ≡ true
      by_note true noted = refl
      by_note false noted =
          let is_free = unused_free image held s over home.place noted in
          let apart : IsApart home.place 1 home.place (run_length key) =
          waiting_has (λ entry. IsApart home.place 1 entry.home.place
          (run_length entry.key)) s.table key home table_sorted is zero is_free.unnamed.not_waiting in
          absurd (⊎_elim (λ before. omega (arith, before)) (λ behind. omega (arith, behind, waiting_run key home is zero)) apart)

  pub used_length : length held.used ≡ held.sectors
  used_length = pool_sound.used_len

  pub waiting_is_used : (key : Key) (home : Home) → found s.table key ≡ Some home → home.count ≡ 0
      → slice_index_or held.used home.place false ≡ true
  waiting_is_used key home is zero =
      sym (used_either held.used home.place (omega (arith, used_length, (home_within key home is).end))) ∙ waiting_used key home is zero

  pub homes_match : HomesMatch s.pool (found s.table)
  homes_match = matches_read s.pool s.table over.is_held.stands.matches

  -- the pool is well formed on the disk's sectors, and its homes match it key by key
  pub formed : IsWellFormed held.sectors s.pool
  formed = subst (λ n. IsWellFormed n s.pool) (sym over.is_held.sectors_are) over.is_held.stands.well_formed

  pub matches_by_key : MatchesByKey held.sectors s.pool (found s.table)
  matches_by_key = record {
    homes = homes_match.homes;
    waiting = homes_match.waiting;
    apart = homes_match.apart;
    births = λ key home is zero. subst (λ n. home.birth ≤ n) over.is_held.group_is (home_within key home is).birth;
    start = λ key home is zero. (home_within key home is).start;
    end = λ key home is zero. omega (arith, waiting_run key home is zero, (home_within key home is).end);
  }
