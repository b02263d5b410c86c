use Rattle.std.proofs.Common.{rules}
use Rattle.uber_ring.proofs.seal.seal_fits.Goals as goal

-- the types of the fields say it, one by one
pub returns : goal.returns
returns c = record {
  version = search rules;
  tag = search rules;
  group = search rules;
  sectors = search rules;
  quota = search rules;
  quota_flag = search rules;
  modes_len = search rules;
  modes = search rules;
  age = search rules;
  active_changes = search rules;
  flushing_changes = search rules;
  checkpoint_flag = search rules;
  checkpoint_len = search rules;
  checkpoint_digest_len = search rules;
  checkpoint_digest = search rules;
  pointers_len = search rules;
  pointers = c.pointers_fit.ensures;
  homes = search rules;
  counts = search rules;
  pages = search rules;
}
