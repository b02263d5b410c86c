use Rattle.pool_model.proofs.Tables.{one_change, swap_by_age, flushed, gone_key, flushed_in_parts, limit_before, swap_waits, swap_by_keys, long_flush}
use Rattle.pool_model.proofs.worked.worked_tables.Goals as goal

pub returns : goal.returns
returns c = record {
  one_change = one_change;
  swap_by_age = swap_by_age;
  flushed = flushed;
  gone_key = gone_key;
  flushed_in_parts = flushed_in_parts;
  limit_before = limit_before;
  swap_waits = swap_waits;
  swap_by_keys = swap_by_keys;
  long_flush = long_flush;
}
