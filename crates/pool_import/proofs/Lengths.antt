-- The keys of an image's table have the lengths that the image's parts give them.
use Rattle.std.proofs.Common.{[]}
use Rattle.ddt_entry.specs.Spelling.{IsKeyLength}
use Rattle.uber_ring.specs.declared.seal.Seal.{Seal}
use Rattle.pool_model.specs.Logs.{last_changes}
use Rattle.table_state.specs.Flat.{Flat, table_in}
use Rattle.table_state.specs.Sound.{HasKeyLengths}
use Rattle.table_state.specs.Tables.{HasLength}
use Rattle.pool_model.proofs.Lists.{all_filter}
use Rattle.pool_model.proofs.Sorted.{all_fold}
use Rattle.pool_model.proofs.TablePuts.{entries_put, changes_put}
use Rattle.pool_import.specs.Lengths.{HasLengths}

pub key_lengths : (seal : Seal) (flat : Flat) → HasLengths flat → HasKeyLengths (table_in seal flat)
key_lengths seal flat lengths = record {
  zap = all_fold entries_put (λ entry. IsKeyLength entry.key.len) flat.duplicate flat.unique lengths.duplicate lengths.unique;
  flush = all_filter HasLength _ (last_changes flat.flushing) (all_fold changes_put HasLength flat.flushing [] lengths.flushing tt);
  active = all_fold changes_put HasLength flat.active [] lengths.active tt;
}
