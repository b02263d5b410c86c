-- What stands after a group of a plain program, as the definitions see it.
use Rattle.pool_model.specs.Group.{Standing}
use Rattle.plain_run.specs.Openings.{bytes_at}
use Rattle.plain_run.specs.declared.standing.PlainStanding.{PlainStanding}

abbrev pub standing_of : PlainStanding → Standing
standing_of s = record {
  pool = s.pool;
  table = s.table;
  logs = s.logs;
  blocks = bytes_at s.blocks.items;
  sectors = s.sectors;
  pages = s.pages.items;
}
