-- What a crash may leave of a disk in memory, from call to call.
use Rattle.std.proofs.Common.{◌≡◌, ◌≢◌, ◌⊎◌, ℕ, ◌+◌, ◌<◌, ◌≤◌, Bool, true, false, ◌==◌, List, [], ◌∷◌, ◌++◌, Some, length, take, refl, sym, ◌∙◌, subst, inl, inr, ⊎_elim, arith}
use Rattle.std.specs.Prelude.{fold, slice_set, replicate, if◌then◌else◌}
use Rattle.std.proofs.lemmas.Bool.{cases_eq, eqb-false, ne_eqb, or_from, or_parts}
use Rattle.std.proofs.lemmas.List.{length-append, length-replicate, length-set, take_all, take-append-le}
use Rattle.std.proofs.lemmas.List.Sums.{fold-append}
use Rattle.std.proofs.lemmas.List.Folds.{list_any-append}
use Rattle.disk_model.specs.Images.{Image, sector_at}
use Rattle.disk_model.specs.DiskLaws.{IsImage, Torn, sector_bytes, Elapses}
use Rattle.disk_model.specs.Crashes.{NothingPending}
use Rattle.disk_model.specs.Memory.{Cells, MayLeave, WasLeft, cells_after, cells_now, after_call, write_sector, touches, choice_at, crash_sector, told_by}
use Rattle.disk_model.specs.declared.call.Call.{Call}
use Rattle.disk_model.specs.declared.call.Call.TheVariants.{Write, Barrier}
use Rattle.disk_model.specs.declared.call.SectorWrite.{SectorWrite}
use Rattle.disk_model.proofs.Sectors.{IsImage-set, sector_at-set, sector_at-set_other, same_image}

-- one more call
pub cells_after-push : (start : Image) (calls : List Call) (call : Call)
    → cells_after start (calls ++ call ∷ []) ≡ after_call (cells_after start calls) call
cells_after-push start calls call = fold-append after_call (record { base = start; pending = [] }) calls (call ∷ [])

-- one more write
pub cells_now-write : (cells : Cells) (write : SectorWrite)
    → cells_now (after_call cells (Write write)) ≡ write_sector (cells_now cells) write
cells_now-write cells write = fold-append write_sector cells.base cells.pending (write ∷ [])

-- a sector that no write goes to stays
pub kept_by_writes : (writes : List SectorWrite) (image : Image) (at : ℕ) → touches writes at ≡ false
    → sector_at (fold write_sector image writes) at ≡ sector_at image at
kept_by_writes [] image at none = refl
kept_by_writes (write ∷ writes) image at none =
    let parts = or_parts (write.at == at) (touches writes at) none in
    kept_by_writes writes (write_sector image write) at parts.1
    ∙ sector_at-set_other image write.at at write.bytes (λ same. eqb-false write.at at parts.0 (sym same))

-- each outcome after a write is an outcome before it, with that sector torn
pub left_before_write : (sectors : ℕ) (cells : Cells) (write : SectorWrite) (c : Image) → write.at < sectors → IsImage sectors cells.base
    → MayLeave sectors (after_call cells (Write write)) c
    → (d : Image) × MayLeave sectors cells d × Torn write.at d c
left_before_write sectors cells write c inside base left = (
  before,
  record {
    image = IsImage-set sectors c write.at (sector_at cells.base write.at) left.image
        (λ _. base.whole write.at (omega (arith, inside, base.count)));
    kept = kept;
  },
  record {
    count = sym (length-set c write.at (sector_at cells.base write.at));
    others = λ i apart. sym (sector_at-set_other c write.at i (sector_at cells.base write.at) apart);
    whole = λ _. left.image.whole write.at within;
  },
)
  where
    before : Image
    before = slice_set c write.at (sector_at cells.base write.at)

    within : write.at < length c
    within = omega (arith, inside, left.image.count)

    kept : (at : ℕ) → touches cells.pending at ≡ false → sector_at before at ≡ sector_at cells.base at
    kept at none =
        ⊎_elim
        (λ (same : at ≡ write.at). subst (λ i. sector_at before i ≡ sector_at cells.base i) (sym same)
        (sector_at-set c write.at (sector_at cells.base write.at) within))
        (λ (apart : at ≢ write.at).
        sector_at-set_other c write.at at (sector_at cells.base write.at) apart
        ∙ left.kept at (list_any-append (λ w. w.at == at) cells.pending (write ∷ [])
        ∙ or_from (touches cells.pending at) _ none (or_from (write.at == at) false (ne_eqb write.at at (λ same. apart (sym same))) refl)))
        (cases_eq at write.at)

-- after a barrier nothing is pending
pub settled_by_barrier : (sectors : ℕ) (cells : Cells) → IsImage sectors (cells_now cells)
    → NothingPending (Some (cells_now cells)) (MayLeave sectors (after_call cells Barrier))
settled_by_barrier sectors cells is = (
  record { image = is; kept = λ at none. refl },
  λ c left. same_image c (cells_now cells) (left.image.count ∙ sym is.count) (λ at. left.kept at refl),
)

-- and what it may leave it may have left before
pub left_before_barrier : (sectors : ℕ) (cells : Cells) (c : Image) → IsImage sectors (cells_now cells)
    → MayLeave sectors (after_call cells Barrier) c → MayLeave sectors cells c
left_before_barrier sectors cells c is left = record {
  image = left.image;
  kept = λ at none. left.kept at refl ∙ kept_by_writes cells.pending cells.base at none;
}

-- the calls before the last
earlier : (calls : List Call) (call : Call) (done : ℕ) → done ≤ length calls → take done (calls ++ call ∷ []) ≡ take done calls
earlier calls call done within = take-append-le done calls (call ∷ []) within

-- a call that was recorded
pub elapses_by_call : (sectors : ℕ) (start : Image) (calls : List Call) (call : Call)
    (write_faults read_faults more_write_faults more_read_faults : ℕ)
    → Elapses (told_by sectors start calls write_faults read_faults)
    (told_by sectors start (calls ++ call ∷ []) more_write_faults more_read_faults)
elapses_by_call sectors start calls call write_faults read_faults more_write_faults more_read_faults =
    record { later = omega (arith, more); nothing_else = nothing_else; keeps = keeps }
  where
    more : length (calls ++ call ∷ []) ≡ length calls + 1
    more = length-append calls (call ∷ [])

    Left : Image → List Call → Type 0
    Left c some = MayLeave sectors (cells_after start some) c

    nothing_else : (since : ℕ) (c : Image) → since ≤ length calls → WasLeft sectors start (calls ++ call ∷ []) since c
        → WasLeft sectors start calls since c ⊎ Left c (calls ++ call ∷ [])
    nothing_else since c earlier_since was =
        ⊎_elim
        (λ (last : was.done ≡ length calls + 1). inr
        (subst (Left c) (take_all was.done (calls ++ call ∷ []) (omega (arith, last, more))) was.left))
        (λ (other : was.done ≢ length calls + 1).
        let within : was.done ≤ length calls = unless_last other in
        inl (record { done = was.done; no_earlier = was.no_earlier; no_later = within; left = subst (Left c) (earlier calls call was.done within) was.left }))
        (cases_eq was.done (length calls + 1))
      where
        unless_last : was.done ≢ length calls + 1 → was.done ≤ length calls
        unless_last other = grind (arith, was.no_later, more, other)

    keeps : (since : ℕ) (c : Image) → since ≤ length calls → WasLeft sectors start calls since c
        → WasLeft sectors start (calls ++ call ∷ []) since c
    keeps since c earlier_since was = record {
      done = was.done;
      no_earlier = was.no_earlier;
      no_later = omega (arith, was.no_later, more);
      left = subst (Left c) (sym (earlier calls call was.done was.no_later)) was.left;
    }

-- one of three
pick : (first second : Bool) (P : Image → Type 0) (x y z : Image) → P x → P y → P z → P (if first then x else (if second then y else z))
pick true second P x y z p q r = p
pick false true P x y z p q r = q
pick false false P x y z p q r = r

-- a crash leaves whole sectors
pub whole_after_crash : (sectors choice : ℕ) (now : Image) → IsImage sectors now → (writes : List SectorWrite) (image : Image)
    → IsImage sectors image → IsImage sectors (fold (crash_sector choice now) image writes)
whole_after_crash sectors choice now whole [] image is = is
whole_after_crash sectors choice now whole (write ∷ writes) image is =
    whole_after_crash sectors choice now whole writes (crash_sector choice now image write)
    (pick (choice_at choice write.at == 0) (choice_at choice write.at == 1) (IsImage sectors) _ _ _ is
    (IsImage-set sectors image write.at (sector_at now write.at) is (λ inside. whole.whole write.at (omega (arith, inside, whole.count))))
    (IsImage-set sectors image write.at (replicate sector_bytes 165) is (λ inside. length-replicate {A = ℕ} sector_bytes 165)))

-- and a sector that no write goes to as it was
pub kept_by_crash : (choice : ℕ) (now : Image) (writes : List SectorWrite) (image : Image) (at : ℕ) → touches writes at ≡ false
    → sector_at (fold (crash_sector choice now) image writes) at ≡ sector_at image at
kept_by_crash choice now [] image at none = refl
kept_by_crash choice now (write ∷ writes) image at none =
    let parts = or_parts (write.at == at) (touches writes at) none in
    let apart : at ≢ write.at = λ same. eqb-false write.at at parts.0 (sym same) in
    kept_by_crash choice now writes (crash_sector choice now image write) at parts.1
    ∙ pick (choice_at choice write.at == 0) (choice_at choice write.at == 1) (λ i. sector_at i at ≡ sector_at image at) _ _ _ refl
    (sector_at-set_other image write.at at (sector_at now write.at) apart)
    (sector_at-set_other image write.at at (replicate sector_bytes 165) apart)
