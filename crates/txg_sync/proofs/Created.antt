-- A pool in memory that was created stands for the empty pool.
use Rattle.std.proofs.Common.{◌≡◌, ℕ, ◌≤◌, Option, Some, None, sym, subst, ap, ◌∙◌, arith}
use Rattle.disk_model.specs.Images.{Image}
use Rattle.disk_model.specs.DiskLaws.{TellsImage}
use Rattle.pool_model.specs.Run.{first_standing}
use Rattle.table_state.specs.Holding.{Holds}
use Rattle.table_state.specs.Over.{StandsOver}
use Rattle.table_state.specs.Pools.{Held, new_held}
use Rattle.table_state.specs.SealForms.{fewest_sectors, most_sectors}
use Rattle.table_state.specs.Spelling.{new_seal}
use Rattle.table_state.proofs.Created.{new_stands_over}
use Rattle.txg_sync.specs.Creating.{Creates, CreatesAllButGate}
use Rattle.txg_sync.specs.Stages.{Begins, LeavesBeginning, LeavesFirstGate}

pub creates_of : (tag sectors : ℕ) (held : Held) (old new : Option Image) → held ≡ new_held tag sectors → TellsImage sectors old
    → fewest_sectors ≤ sectors → sectors ≤ most_sectors → Begins tag old new → Creates old new sectors held
creates_of tag sectors held None new is tells enough few begins = tt
creates_of tag sectors held (Some image) new is tells enough few begins = (
  begins.0,
  begins.1,
  subst (λ (h : Held). StandsOver begins.0 h (first_standing sectors)) (sym is)
      (new_stands_over tag sectors begins.0 enough few (omega (arith, tells.count, begins.2.outside.count))
      (begins.2.counts ∙ ap (λ n. Some (new_seal tag n)) tells.count)),
)

-- or the write of its gate failed
pub all_but_gate : (tag sectors : ℕ) (old new : Option Image) → TellsImage sectors old → LeavesFirstGate tag old new
    → CreatesAllButGate tag sectors old new
all_but_gate tag sectors None new tells left = tt
all_but_gate tag sectors (Some image) new tells left = (
  left.0,
  left.1,
  record {
    meant = left.2.meant;
    new = subst (λ n. Holds tag left.2.meant (first_standing n)) tells.count left.2.begun.new;
    torn = left.2.torn;
  },
)

-- what is told then
pub beginning_left : (tag : ℕ) (old new : Option Image) → LeavesFirstGate tag old new → LeavesBeginning tag old new
beginning_left tag None new left = tt
beginning_left tag (Some image) new left = (left.0, left.1, left.2.beginning)
