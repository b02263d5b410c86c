use Rattle.std.proofs.Common.{◌∙◌, arith, length-set}
use Rattle.txg_sync.proofs.PlannedSeals.{spelled_more, spelled_all}
use Rattle.txg_sync.proofs.group_seal.mode_bytes.Goals as goal

pub lanes-preserved : goal.lanes-preserved
lanes-preserved c = (
  spelled_more _ _ _ _ _ _ (omega (arith, c.told-modes, c.lanes-test.true))
      (omega (arith, c.lanes.invariant.1, c.lanes-test.true)) c.lanes.invariant.0 c.byte_of.ensures,
  length-set c.lanes.bytes c.lanes.i c.byte_of.result ∙ c.lanes.invariant.1,
)

pub returns : goal.returns
returns c =
    spelled_all _ _ _ _ (omega (arith, c.told-modes, c.lanes.auto.i-end, c.lanes-test.false))
    (omega (arith, c.lanes.invariant.1, c.lanes.auto.i-end, c.lanes-test.false)) c.lanes.invariant.0
