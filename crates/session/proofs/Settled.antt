-- A group that sets a quota or a lane's mode: its homes and pointers stay, and the settings are its own.
use Rattle.std.proofs.Common.{◌≡◌, ◌∙◌, ◌+◌, ◌<◌, ℕ, List, [], length, Option, None, refl, sym, subst, arith}
use Rattle.std.specs.Prelude.{slice_set}
use Rattle.std.proofs.lemmas.List.{length-set}
use Rattle.ddt_entry.specs.Keys.{Keying}
use Rattle.ddt_entry.specs.Spelling.{IsKeyLength}
use Rattle.disk_model.specs.Images.{Image}
use Rattle.pool_model.specs.declared.commands.Mode.{Mode}
use Rattle.pool_model.specs.Plain.{quota, set_mode, Told}
use Rattle.pool_model.specs.Pool.{Pointer, LiesWithin, lane_count}
use Rattle.pool_model.specs.Table.{TableState, IsTable, found}
use Rattle.pool_model.specs.Group.{Standing, lanes_in_turn}
use Rattle.pool_model.proofs.Lists.{all_from}
use Rattle.pool_model.proofs.Synced.{found-synced}
use Rattle.table_state.specs.Closing.{IsInRange}
use Rattle.table_state.specs.Over.{StandsOver}
use Rattle.table_state.specs.Pools.{Held}
use Rattle.table_state.specs.Sound.{IsSound}
use Rattle.table_state.proofs.SoundOf.{pointer_lengths}
use Rattle.lane_run.proofs.Opened.{all_stand}
use Rattle.lane_run.proofs.Openings.{formed, homes_match, table_sorted}
use Rattle.session.specs.StageClosing.{ClosesFrom, lacks, unblocked}
use Rattle.session.proofs.Unblocked.{KeepsHomes, LeavesPool, closes_unblocked, unblocked_in_range}

-- its homes are those that were found
same_homes : (table : TableState) → IsTable table → KeepsHomes table [] (found table)
same_homes table is = record { synced = λ key. found-synced [] table key is tt; was = λ key home there. there }

pub settings_in_range : (held : Held) (modes : List Mode) (limit : Option ℕ) → IsSound held → IsInRange held (unblocked [] modes limit)
settings_in_range held modes limit sound =
    unblocked_in_range held [] (found held.table) modes limit sound (same_homes held.table sound.sorted) tt tt

module _ (image : Image) (held : Held) (s : Standing) (over : StandsOver image held s) where
  leaves : (modes : List Mode) (limit : Option ℕ) → length modes ≡ lane_count
      → LeavesPool image held s over [] s.pool.pointers modes limit (found s.table)
  leaves modes limit each =
      let match = homes_match image held s over in
      let well = formed image held s over in
      record {
        keeps = same_homes s.table (table_sorted image held s over);
        match = record { homes = match.homes; waiting = match.waiting; apart = match.apart };
        well = record {
          rising = well.rising;
          together = well.together;
          within =
              all_from (LiesWithin held.sectors s.pool.group) (LiesWithin held.sectors (s.pool.group + 1))
              (λ p lies. record { start = lies.start; end = lies.end; birth = omega (arith, lies.birth) }) s.pool.pointers well.within;
          modes = each;
        };
        slots = refl;
        long =
            all_from (λ (p : Pointer). IsKeyLength p.key.len) (λ (p : Pointer). 0 < p.key.len) (λ p long. long.0) s.pool.pointers
            (pointer_lengths image held s.pool s.table over.is_held);
        stand = all_stand image held s over;
      }

  module _ (keying : Keying) (told : Told) (unnoted : told.lanes ≡ []) (room : lacks held 0 0 ≡ None) where
    pub closes_quota : (limit : Option ℕ)
        → ClosesFrom (lanes_in_turn keying) image held s (quota limit) told 0 (unblocked [] held.modes limit)
    closes_quota limit =
        subst (λ (modes : List Mode). ClosesFrom (lanes_in_turn keying) image held s (quota limit) told 0 (unblocked [] modes limit))
        (sym over.is_held.modes_are)
        (closes_unblocked image held s over [] s.pool.pointers s.pool.modes limit (found s.table)
        (leaves s.pool.modes limit (formed image held s over).modes) keying (quota limit) told 0 0 refl (omega arith) room room refl
        unnoted (record { free = tt; apart = tt }))

    pub closes_mode : (lane : ℕ) (mode : Mode)
        → ClosesFrom (lanes_in_turn keying) image held s (set_mode lane mode) told 0
        (unblocked [] (slice_set held.modes lane mode) held.quota)
    closes_mode lane mode =
        let modes : List Mode = slice_set s.pool.modes lane mode in
        subst (λ (limit : Option ℕ). ClosesFrom (lanes_in_turn keying) image held s (set_mode lane mode) told 0
        (unblocked [] (slice_set held.modes lane mode) limit)) (sym over.is_held.quota_is)
        (subst (λ (ms : List Mode). ClosesFrom (lanes_in_turn keying) image held s (set_mode lane mode) told 0
        (unblocked [] (slice_set ms lane mode) s.pool.quota)) (sym over.is_held.modes_are)
        (closes_unblocked image held s over [] s.pool.pointers modes s.pool.quota (found s.table)
        (leaves modes s.pool.quota (length-set s.pool.modes lane mode ∙ (formed image held s over).modes)) keying
        (set_mode lane mode) told 0 0 refl (omega arith) room room refl unnoted (record { free = tt; apart = tt })))
