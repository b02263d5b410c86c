-- What the blocks and the chains of a group come to, one after the other.
use Rattle.std.proofs.Common.{◌≡◌, ℕ, false, ◌==◌, List, Option, Some, None, Result, Ok, Err, sym, ap, subst, ◌∙◌}
use Rattle.std.specs.Prelude.{unwrap_or, OnOk}
use Rattle.std.specs.List.{list_any}
use Rattle.std.proofs.lemmas.Bool.{or_parts}
use Rattle.std.proofs.lemmas.List.Folds.{list_any-append}
use Rattle.disk_model.specs.Images.{Image}
use Rattle.disk_model.specs.Crashes.{DiskState, LeavesOnly}
use Rattle.disk_model.specs.DiskLaws.{IsDisk}
use Rattle.disk_model.proofs.Moments.{and_then, weakened, at_end}
use Rattle.page_tree.specs.ChainWrites.{SameBut, MayTouchAll, ChainLeaves}
use Rattle.pool_model.specs.Mirrors.{Stored}
use Rattle.table_state.specs.Pools.{with_blocks}
use Rattle.table_state.specs.Sealed.{ChainPart, places_in}
use Rattle.table_state.specs.Closing.{block_places}
use Rattle.txg_sync.specs.Writing.{group_places, Stores, HoldsSince, StoresParts}

-- what follows from what holds at Ok
pub on_ok : {T E : Type 0} (result : Result T E) (P Q : Type 0) → (P → Q) → OnOk result P → OnOk result Q
on_ok (Ok value) P Q from held = from held
on_ok (Err fault) P Q from held = tt

module _ (contents : List Stored) (parts : List ChainPart) where
  abbrev blocks : List ℕ
  blocks = block_places contents

  abbrev pages : List ℕ
  pages = places_in parts

  none_of_both : (at : ℕ) → list_any (λ place. place == at) (group_places contents parts) ≡ false
      → (list_any (λ place. place == at) blocks ≡ false) × (list_any (λ place. place == at) pages ≡ false)
  none_of_both at none = or_parts _ _ (sym (list_any-append (λ place. place == at) blocks pages) ∙ none)

  -- sectors of blocks and then of pages
  same_both : (d e c : Image) → SameBut blocks d e → SameBut pages e c → SameBut (group_places contents parts) d c
  same_both d e c first second = record {
    count = second.count ∙ first.count;
    others = λ at none. second.others at (none_of_both at none).1 ∙ first.others at (none_of_both at none).0;
  }

  same_blocks : (d c : Image) → SameBut blocks d c → SameBut (group_places contents parts) d c
  same_blocks d c same = record { count = same.count; others = λ at none. same.others at (none_of_both at none).0 }

  same_some : (a b : Image) → Some a ≡ Some b → a ≡ b
  same_some a b e = ap (λ (o : Option Image). unwrap_or o a) e

  pub blocks_touched : (old new : Option Image) → MayTouchAll old new blocks → MayTouchAll old new (group_places contents parts)
  blocks_touched None new touch = tt
  blocks_touched (Some image) new touch = (touch.0, touch.1, same_blocks image touch.0 touch.2)

  pub all_touched : (old mid new : Option Image) → MayTouchAll old mid blocks → MayTouchAll mid new pages
      → MayTouchAll old new (group_places contents parts)
  all_touched None mid new first second = tt
  all_touched (Some image) mid new first second =
      let now : MayTouchAll (Some first.0) new pages = subst (λ (m : Option Image). MayTouchAll m new pages) first.1 second in
      (now.0, now.1, same_both image first.0 now.0 first.2 now.2)

  -- blocks and chains stand at their places
  pub all_stored : (old mid new : Option Image) → Stores old mid contents → MayTouchAll old mid blocks → HoldsSince mid new parts
      → MayTouchAll mid new pages → StoresParts contents parts old new
  all_stored None mid new stores first held second = tt
  all_stored (Some image) mid new stores first held second =
      let d : Image = with_blocks contents image in
      let holds : HoldsSince (Some d) new parts = subst (λ (m : Option Image). HoldsSince m new parts) stores held in
      let touched : MayTouchAll (Some d) new pages = subst (λ (m : Option Image). MayTouchAll m new pages) stores second in
      let same_c : touched.0 ≡ holds.0 = same_some touched.0 holds.0 (sym touched.1 ∙ holds.1) in
      let beside : SameBut pages d holds.0 = subst (λ (x : Image). SameBut pages d x) same_c touched.2 in
      let front : SameBut blocks image d = subst (λ (x : Image). SameBut blocks image x)
      (same_some first.0 d (sym first.1 ∙ stores)) first.2 in
      (holds.0, holds.1, record { only = same_both image d holds.0 front beside; held = holds.2; beside = beside.others })

  -- at each moment
  module _ {old mid : DiskState} (run : LeavesOnly old mid (ChainLeaves blocks old.may_leave)) where
    pub while_blocks : LeavesOnly old mid (ChainLeaves (group_places contents parts) old.may_leave)
    while_blocks =
        weakened (ChainLeaves (group_places contents parts) old.may_leave) run (λ c from. (from.0, from.1, same_blocks from.0 c from.2))

    pub while_chains : {new : DiskState} → IsDisk mid → LeavesOnly mid new (ChainLeaves pages mid.may_leave)
        → LeavesOnly old new (ChainLeaves (group_places contents parts) old.may_leave)
    while_chains is later =
        and_then while_blocks
        (weakened (ChainLeaves (group_places contents parts) old.may_leave) later each)
      where
        each : (c : Image) → ChainLeaves pages mid.may_leave c → ChainLeaves (group_places contents parts) old.may_leave c
        each c from =
            let first = at_end run is from.0 from.1 in
            (first.0, first.1, same_both first.0 from.0 c first.2 from.2)
