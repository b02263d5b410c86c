use Rattle.pool_model.proofs.Facts.{refused_files, other_lines, edge_file, read_files, limits, digests, needs, premise, hold_together, contents, counted, sorted}
use Rattle.pool_model.proofs.worked.worked_facts.Goals as goal

pub returns : goal.returns
returns c = record {
  refused_files = refused_files;
  other_lines = other_lines;
  edge_file = edge_file;
  read_files = read_files;
  limits = limits;
  digests = digests;
  needs = needs;
  premise = premise;
  hold_together = hold_together;
  contents = contents;
  counted = counted;
  sorted = sorted;
}
