use Rattle.std.proofs.Common.{◌≡◌, length, take, map}
use Rattle.table_state.specs.Spelling.{mode_byte}
use Rattle.txg_sync.proofs.group_seal.mode_bytes.Given as goal

abbrev pub invariant-lanes : goal.invariant-lanes
invariant-lanes l = (take l.i l.bytes ≡ map mode_byte (take l.i l.modes)) × (length l.bytes ≡ 16)
