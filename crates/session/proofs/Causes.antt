-- Why a session ends where its pool is opened, or told of: by why none was found, or made.
use Rattle.std.proofs.Common.{◌≡◌, ◌≤◌, ◌+◌, ◌-◌, ◌^◌, ℕ, min, Option, Some, None, Err, refl, subst, arith}
use Rattle.std.specs.Prelude.{IsErrOf, IfSome}
use Rattle.io_model.specs.Outside.{Rose}
use Rattle.disk_model.specs.Images.{Image}
use Rattle.disk_model.specs.Crashes.{DiskState}
use Rattle.table_state.specs.Flat.{HasNoPool, IsDamaged}
use Rattle.session.specs.Entries.{IsLawfulSize}
use Rattle.session.specs.StageFinding.{FindCause}
use Rattle.session.specs.StageMaking.{MakeCause}
use Rattle.session.specs.StageOpening.{EndsOpening}
use Rattle.session.specs.Running.{HasNewest, RoseBeyond, SizedSo}
use Rattle.session.specs.declared.status.Status.{Status}
use Rattle.session.specs.declared.status.Status.TheVariants.{Done, Usage, BadFile, SourceFault, SinkFault, ReadFault, WriteFault, NoPool, Damaged, OutOfMemory, PoolExists, BadSize, LastGroup}
use Rattle.session.specs.declared.words.Word.TheVariants.{Run, Make}

-- where no lane had a fault the count rose by one
rose_by_one : (before now : ℕ) → Rose before now → RoseBeyond 0 before now
rose_by_one before now rose = subst (λ n. min (n + 1) (2 ^ 64 - 1) ≤ now) (nothing_more before) rose
  where
    nothing_more : (n : ℕ) → n ≡ n + 0
    nothing_more n = omega arith

-- what holds of the status that was told holds of the one that is found in the result
pub of_status : {T : Type 0} (P : Status → Type 0) (told status : Status) → IsErrOf {T = T} (Err told) status → P told → P status
of_status P told status is holds = subst P same holds
  where
    same : told ≡ status
    same = cc is

-- more is said of what is told, or it is said of whatever is told
if_told : (P Q : Image → Type 0) (seen : Option Image) → ((image : Image) → P image → Q image) → IfSome seen P → IfSome seen Q
if_told P Q None from is = tt
if_told P Q (Some image) from is = from image is

pub when_told : (P : Image → Type 0) (seen : Option Image) → ((image : Image) → seen ≡ Some image → P image) → IfSome seen P
when_told P None from = tt
when_told P (Some image) from = from image refl

-- ---- A pool that was not found

module _ (tag : ℕ) (old new : DiskState) where
  -- what holds of each status that comes then
  pub record WhereUnfound (P : Status → Type 0) : Type 0 where
    pub unread : Rose old.read_faults new.read_faults → P ReadFault
    pub unwritten : Rose old.write_faults new.write_faults → P WriteFault
    pub memory : P OutOfMemory
    pub none : IfSome old.seen HasNoPool → P NoPool
    pub damaged : (sector : ℕ) → IfSome old.seen (IsDamaged tag) → P (Damaged sector)

  pub unfound : (P : Status → Type 0) → WhereUnfound P → (status : Status) → FindCause status tag old new → P status
  unfound P holds ReadFault cause = holds.unread cause
  unfound P holds WriteFault cause = holds.unwritten cause
  unfound P holds OutOfMemory cause = holds.memory
  unfound P holds NoPool cause = holds.none cause
  unfound P holds (Damaged sector) cause = holds.damaged sector cause
  unfound P holds Done cause = absurd cause
  unfound P holds Usage cause = absurd cause
  unfound P holds (BadFile line kind) cause = absurd cause
  unfound P holds SourceFault cause = absurd cause
  unfound P holds SinkFault cause = absurd cause
  unfound P holds (PoolExists group) cause = absurd cause
  unfound P holds (BadSize n) cause = absurd cause
  unfound P holds (LastGroup group) cause = absurd cause

  -- so a session ends, which imported none
  pub find_ends : (sealed : ℕ) → sealed ≡ 0 → (status : Status) → FindCause status tag old new → EndsOpening status Run tag old new sealed
  find_ends sealed zero = unfound (λ status. EndsOpening status Run tag old new sealed) (record {
    unread = λ rose. record { may = refl; cause = rose_by_one old.read_faults new.read_faults rose; sealed_is = zero };
    unwritten = λ rose. record { may = refl; cause = rose; sealed_is = zero };
    memory = record { may = refl; cause = tt; sealed_is = zero };
    none = λ none. record {
      may = refl;
      cause = if_told HasNoPool (λ image. (Run ≡ Run) × HasNoPool image) old.seen (λ image is. (refl, is)) none;
      sealed_is = zero;
    };
    damaged = λ sector damaged. record {
      may = refl;
      cause = if_told (IsDamaged tag) (λ image. (Run ≡ Run) × IsDamaged tag image) old.seen (λ image is. (refl, is)) damaged;
      sealed_is = zero;
    };
  })

-- ---- A pool that was not made

module _ (old new : DiskState) where
  -- what holds of each status that comes then
  pub record WhereUnmade (P : Status → Type 0) : Type 0 where
    pub unread : IsLawfulSize old.sectors → Rose old.read_faults new.read_faults → P ReadFault
    pub unwritten : IsLawfulSize old.sectors → Rose old.write_faults new.write_faults → P WriteFault
    pub memory : P OutOfMemory
    pub there : (group : ℕ) → IsLawfulSize old.sectors → IfSome old.seen (HasNewest group) → P (PoolExists group)
    pub unlawful : (n : ℕ) → n ≡ old.sectors → (IsLawfulSize old.sectors → ⊥) → P (BadSize n)

  pub unmade : (P : Status → Type 0) → WhereUnmade P → (status : Status) → MakeCause status old new → P status
  unmade P holds ReadFault cause = holds.unread cause.0 cause.1
  unmade P holds WriteFault cause = holds.unwritten cause.0 cause.1
  unmade P holds OutOfMemory cause = holds.memory
  unmade P holds (PoolExists group) cause = holds.there group cause.0 cause.1
  unmade P holds (BadSize n) cause = holds.unlawful n cause.0 cause.1
  unmade P holds Done cause = absurd cause
  unmade P holds Usage cause = absurd cause
  unmade P holds (BadFile line kind) cause = absurd cause
  unmade P holds SourceFault cause = absurd cause
  unmade P holds SinkFault cause = absurd cause
  unmade P holds NoPool cause = absurd cause
  unmade P holds (Damaged sector) cause = absurd cause
  unmade P holds (LastGroup group) cause = absurd cause

  -- so a session ends, which imported none
  pub make_ends : (tag sealed : ℕ) → sealed ≡ 0 → (status : Status) → MakeCause status old new → EndsOpening status Make tag old new sealed
  make_ends tag sealed zero = unmade (λ status. EndsOpening status Make tag old new sealed) (record {
    unread = λ lawful rose. record { may = refl; cause = rose_by_one old.read_faults new.read_faults rose; sealed_is = zero };
    unwritten = λ lawful rose. record { may = refl; cause = rose; sealed_is = zero };
    memory = record { may = refl; cause = tt; sealed_is = zero };
    there = λ group lawful newest. record { may = refl; cause = (refl, lawful, newest); sealed_is = zero };
    unlawful = λ n same small. record { may = refl; cause = (refl, same, small); sealed_is = zero };
  })

  -- on a disk whose size is not lawful, it is by its size, or by want of memory
  pub sized_so : (refused : Type 0) → (IsLawfulSize old.sectors → ⊥) → (status : Status) → MakeCause status old new
      → ((n : ℕ) → status ≡ BadSize n → refused) → SizedSo status refused
  sized_so refused unlawful = unmade (λ status. ((n : ℕ) → status ≡ BadSize n → refused) → SizedSo status refused) (record {
    unread = λ lawful. absurd (unlawful lawful);
    unwritten = λ lawful. absurd (unlawful lawful);
    memory = λ bad. tt;
    there = λ group lawful. absurd (unlawful lawful);
    unlawful = λ n same small bad. bad n refl;
  })
