-- How what a crash leaves at each moment of a run goes on from call to call.
use Rattle.std.proofs.Common.{◌∙◌, inl, inr, ⊎_elim, arith}
use Rattle.disk_model.specs.Images.{Image}
use Rattle.disk_model.specs.Crashes.{DiskState, LeavesOnly}
use Rattle.disk_model.specs.DiskLaws.{Elapses, Follows, IsDisk}
use Rattle.disk_model.specs.Accounts.{Keeps}

-- before the first call
pub started : {old : DiskState} (P : Image → Type 0) → ((c : Image) → old.left_since old.clock c → P c) → LeavesOnly old old P
started P here = record { later = omega arith; each = here; before = λ since c earlier left. inl left }

-- one call more, after which a crash leaves what has P
pub goes_on : {old mid new : DiskState} {P : Image → Type 0} → LeavesOnly old mid P → Elapses mid new
    → ((c : Image) → new.may_leave c → P c) → LeavesOnly old new P
goes_on {old} so_far time here = record {
  later = omega (arith, so_far.later, time.later);
  each = λ c left. ⊎_elim (so_far.each c) (here c) (time.nothing_else old.clock c so_far.later left);
  before = λ since c earlier left.
      ⊎_elim (so_far.before since c earlier) (λ now. inr (here c now))
      (time.nothing_else since c (omega (arith, earlier, so_far.later)) left);
}

-- one run after another
pub and_then : {old mid new : DiskState} {P : Image → Type 0} → LeavesOnly old mid P → LeavesOnly mid new P → LeavesOnly old new P
and_then {old} first second = record {
  later = omega (arith, first.later, second.later);
  each = λ c left. ⊎_elim (first.each c) (λ now. now) (second.before old.clock c first.later left);
  before = λ since c earlier left.
      ⊎_elim (first.before since c earlier) (λ now. inr now)
      (second.before since c (omega (arith, earlier, first.later)) left);
}

-- what a crash may leave at the end of a run
pub at_end : {old new : DiskState} {P : Image → Type 0} → LeavesOnly old new P → IsDisk new → (c : Image) → new.may_leave c → P c
at_end {old} run is c left = run.each c (is.counts_now old.clock c run.later left)

-- a run of which less is said
pub weakened : {old new : DiskState} {P : Image → Type 0} (Q : Image → Type 0) → LeavesOnly old new P → ((c : Image) → P c → Q c)
    → LeavesOnly old new Q
weakened Q run less = record {
  later = run.later;
  each = λ c left. less c (run.each c left);
  before = λ since c earlier left. ⊎_elim (λ was. inl was) (λ now. inr (less c now)) (run.before since c earlier left);
}

-- what no call takes from a disk, no run takes
pub keeps_on : {old mid new : DiskState} → Keeps old mid → Keeps mid new → Keeps old new
keeps_on first second = record {
  sectors = second.sectors ∙ first.sectors;
  reads = omega (arith, first.reads, second.reads);
  writes = omega (arith, first.writes, second.writes);
}

-- one write, after which a crash leaves what a step from an earlier outcome leads to
module _ {old : DiskState} (Step : Image → Image → Type 0) (is : IsDisk old) (still : (c : Image) → old.may_leave c → Step c c) where
  abbrev Stepped : Image → Type 0
  Stepped c = (d : Image) × old.may_leave d × Step d c

  began : LeavesOnly old old Stepped
  began = started Stepped (λ c left. (c, is.only_now c left, still c (is.only_now c left)))

  pub by_write : {mid : DiskState} → Follows Step old.may_leave mid.may_leave → Elapses old mid → LeavesOnly old mid Stepped
  by_write follows time = goes_on began time follows

  -- and a barrier behind it
  pub by_write_and_barrier : {mid new : DiskState} → Follows Step old.may_leave mid.may_leave → Elapses old mid
      → ((c : Image) → new.may_leave c → mid.may_leave c) → Elapses mid new → LeavesOnly old new Stepped
  by_write_and_barrier follows time shrinks later = goes_on (by_write follows time) later (λ c left. follows c (shrinks c left))

  -- a barrier alone
  pub by_barrier : {new : DiskState} → ((c : Image) → new.may_leave c → old.may_leave c) → Elapses old new → LeavesOnly old new Stepped
  by_barrier shrinks time = goes_on began time (λ c left. (c, shrinks c left, still c (shrinks c left)))
