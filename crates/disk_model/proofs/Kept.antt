-- What a disk in memory keeps still agrees after each of its calls, and what these leave.
use Rattle.std.proofs.Common.{◌≡◌, ℕ, ◌-◌, ◌<◌, ◌≤◌, List, [], ◌∷◌, ◌++◌, Some, length, replicate, refl, sym, ◌∙◌, ap, subst, arith}
use Rattle.std.specs.Prelude.{slice_set, All}
use Rattle.std.proofs.lemmas.List.{length-replicate, get_or-replicate}
use Rattle.std.proofs.lemmas.List.Elements.{All-push}
use Rattle.disk_model.specs.Images.{Image}
use Rattle.disk_model.specs.DiskLaws.{IsImage, Torn, sector_bytes, zero_sector, Elapses, Follows}
use Rattle.disk_model.specs.Crashes.{NothingPending}
use Rattle.disk_model.specs.Memory.{Cells, MayLeave, MemoryDisk, IsKept, IsWithin, padded, cells_after, cells_now, after_call, crash_image, state_of, told_by}
use Rattle.disk_model.specs.declared.call.Call.{Call}
use Rattle.disk_model.specs.declared.call.Call.TheVariants.{Write, Barrier}
use Rattle.disk_model.specs.declared.call.SectorWrite.{SectorWrite}
use Rattle.disk_model.proofs.Sectors.{IsImage-set, same_image}
use Rattle.disk_model.proofs.Outcomes.{cells_after-push, cells_now-write, left_before_write, left_before_barrier, settled_by_barrier, elapses_by_call, whole_after_crash, kept_by_crash}

-- zeros are whole sectors
pub IsImage-zeros : (sectors : ℕ) → IsImage sectors (padded sectors [])
IsImage-zeros sectors = record {
  count = length-replicate (sectors - 0) zero_sector ∙ less_none;
  whole = λ at within. ap length
      (get_or-replicate (sectors - 0) at zero_sector [] (omega (arith, within, length-replicate (sectors - 0) zero_sector)))
      ∙ length-replicate {A = ℕ} sector_bytes 0;
}
  where
    less_none : sectors - 0 ≡ sectors
    less_none = omega arith

-- a disk that was just made
pub kept_anew : (sectors : ℕ) (start cells : Image) (calls : List Call) → length start ≤ sectors → padded sectors start ≡ cells
    → IsImage sectors cells → calls ≡ [] → IsKept sectors start calls cells
kept_anew sectors start cells calls fits same is none = subst (λ (l : List Call). IsKept sectors start l cells) (sym none) here
  where
    here : IsKept sectors start [] cells
    here = record {
      fits = fits;
      now = same;
      whole = is;
      base = subst (IsImage sectors) (sym same) is;
      within = λ k d past. absurd (omega (arith, past));
    }

-- nothing is pending on a disk that was just made
pub settled_anew : (sectors : ℕ) (image : Image) → IsImage sectors image
    → NothingPending (Some image) (MayLeave sectors (cells_after image []))
settled_anew sectors image is = (
  record { image = is; kept = λ at none. refl },
  λ c left. same_image c image (left.image.count ∙ sym is.count) (λ at. left.kept at refl),
)

module _ (sectors : ℕ) (start : Image) (calls : List Call) (cells : Image) (kept : IsKept sectors start calls cells) where
  -- a write
  module _ (write : SectorWrite) (later : List Call) (recorded : later ≡ calls ++ Write write ∷ []) (inside : write.at < sectors) where
    after : cells_after (padded sectors start) later ≡ after_call (cells_after (padded sectors start) calls) (Write write)
    after = ap (cells_after (padded sectors start)) recorded ∙ cells_after-push (padded sectors start) calls (Write write)

    pub kept_by_write : length write.bytes ≡ sector_bytes → IsKept sectors start later (slice_set cells write.at write.bytes)
    kept_by_write long = record {
      fits = kept.fits;
      now = ap cells_now after ∙ cells_now-write (cells_after (padded sectors start) calls) write
          ∙ ap (λ image. slice_set image write.at write.bytes) kept.now;
      whole = IsImage-set sectors cells write.at write.bytes kept.whole (λ _. long);
      base = subst (λ (c : Cells). IsImage sectors c.base) (sym after) kept.base;
      within = subst (λ (l : List Call). All (IsWithin sectors) l) (sym recorded)
          (All-push (IsWithin sectors) calls (Write write) kept.within inside);
    }

    pub left_by_write : Follows (Torn write.at) (MayLeave sectors (cells_after (padded sectors start) calls))
        (MayLeave sectors (cells_after (padded sectors start) later))
    left_by_write c left =
        left_before_write sectors (cells_after (padded sectors start) calls) write c inside kept.base
        (subst (λ (cs : Cells). MayLeave sectors cs c) after left)

  -- a barrier
  module _ (later : List Call) (recorded : later ≡ calls ++ Barrier ∷ []) where
    ended : cells_after (padded sectors start) later ≡ after_call (cells_after (padded sectors start) calls) Barrier
    ended = ap (cells_after (padded sectors start)) recorded ∙ cells_after-push (padded sectors start) calls Barrier

    now_whole : IsImage sectors (cells_now (cells_after (padded sectors start) calls))
    now_whole = subst (IsImage sectors) (sym kept.now) kept.whole

    pub settled_at_barrier : NothingPending (Some (cells_now (cells_after (padded sectors start) later)))
        (MayLeave sectors (cells_after (padded sectors start) later))
    settled_at_barrier =
        subst (λ (c : Cells). NothingPending (Some (cells_now c)) (MayLeave sectors c)) (sym ended)
        (settled_by_barrier sectors (cells_after (padded sectors start) calls) now_whole)

    pub left_at_barrier : (c : Image) → MayLeave sectors (cells_after (padded sectors start) later) c
        → MayLeave sectors (cells_after (padded sectors start) calls) c
    left_at_barrier c left =
        left_before_barrier sectors (cells_after (padded sectors start) calls) c now_whole
        (subst (λ (cs : Cells). MayLeave sectors cs c) ended left)

  -- what a crash leaves by a choice
  pub crashed_whole : (choice : ℕ) → IsImage sectors (crash_image choice (cells_after (padded sectors start) calls))
  crashed_whole choice =
      whole_after_crash sectors choice (cells_now (cells_after (padded sectors start) calls))
      (subst (IsImage sectors) (sym kept.now) kept.whole) (cells_after (padded sectors start) calls).pending
      (cells_after (padded sectors start) calls).base kept.base

  pub crashed_left : (choice : ℕ)
      → MayLeave sectors (cells_after (padded sectors start) calls) (crash_image choice (cells_after (padded sectors start) calls))
  crashed_left choice = record {
    image = crashed_whole choice;
    kept = λ at none. kept_by_crash choice (cells_now (cells_after (padded sectors start) calls))
        (cells_after (padded sectors start) calls).pending (cells_after (padded sectors start) calls).base at none;
  }

-- time goes on with each call that was recorded
pub elapses_to : (old : MemoryDisk) (sectors : ℕ) (start : Image) (later : List Call) (write_faults read_faults : ℕ) (call : Call)
    → sectors ≡ old.sectors → start ≡ old.start → later ≡ old.calls ++ call ∷ []
    → Elapses (state_of old) (told_by sectors start later write_faults read_faults)
elapses_to old sectors start later write_faults read_faults call as_many same recorded =
    subst (λ (l : List Call). Elapses (state_of old) (told_by sectors start l write_faults read_faults)) (sym recorded)
    (subst (λ (i : Image). Elapses (state_of old) (told_by sectors i (old.calls ++ call ∷ []) write_faults read_faults)) (sym same)
    (subst (λ n. Elapses (state_of old) (told_by n old.start (old.calls ++ call ∷ []) write_faults read_faults)) (sym as_many)
    (elapses_by_call old.sectors old.start old.calls call old.write_faults old.read_faults write_faults read_faults)))
