-- What stands on a disk over which a pool in memory is.
use Rattle.std.proofs.Common.{◌≡◌, ℕ, sym, subst}
use Rattle.disk_model.specs.Images.{Image}
use Rattle.disk_model.specs.Crashes.{DiskState}
use Rattle.pool_model.specs.Group.{Standing}
use Rattle.table_state.specs.Holding.{Holds}
use Rattle.table_state.specs.Pools.{Held}
use Rattle.table_state.proofs.Held.{holds_over}
use Rattle.session.specs.StageEntries.{IsOver}

-- the told contents hold it
pub over_holds : (disk : DiskState) (held : Held) (s : Standing) (tag : ℕ) (over : IsOver disk held s) → held.tag ≡ tag
    → Holds tag over.image s
over_holds disk held s tag over tag_is = subst (λ (t : ℕ). Holds t over.image s) tag_is (holds_over over.image held s over.stands)

-- and so does what a crash leaves
pub over_leaves : (disk : DiskState) (held : Held) (s : Standing) (tag : ℕ) → IsOver disk held s → held.tag ≡ tag
    → (c : Image) → disk.may_leave c → Holds tag c s
over_leaves disk held s tag over tag_is c leaves =
    subst (λ (i : Image). Holds tag i s) (sym (over.quiet.1 c leaves)) (over_holds disk held s tag over tag_is)
