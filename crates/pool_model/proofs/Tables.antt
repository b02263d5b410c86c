-- The worked syncs of the table, each computed by the checker.
use Rattle.std.proofs.Common.{refl}
use Rattle.pool_model.specs.WorkedTables.{OneChange, SwapByAge, Flushed, GoneKey, FlushedInParts, LimitBefore, SwapWaits, SwapByKeys, LongFlush}

pub one_change : OneChange
one_change = refl

pub swap_by_age : SwapByAge
swap_by_age = record { before = refl; entry_swapped = refl; waiting_swapped = refl }

pub flushed : Flushed
flushed = record { set = refl; dropped = refl; dropped_from_zap = refl; kept = refl; taken_up = refl }

pub gone_key : GoneKey
gone_key = record { hidden = refl; flushing_first = refl; stored = refl; logged = refl; dropped = refl }

pub flushed_in_parts : FlushedInParts
flushed_in_parts = record { first = refl; last = refl }

pub swap_waits : SwapWaits
swap_waits = record { waits = refl; swaps = refl }

pub swap_by_keys : SwapByKeys
swap_by_keys = record { below = refl; reached = refl }

pub long_flush : LongFlush
long_flush = record { limits = refl; first = refl }

pub limit_before : LimitBefore
limit_before = refl
