-- What a session's call says of a disk is what the program says of it.
use Rattle.dedup_tool.proofs.serve.Goals as goal

pub returns-in-RunsFile-clause-ran : goal.returns-in-RunsFile-clause-ran
returns-in-RunsFile-clause-ran g c word is = (
  c.run.new.session,
  record {
    quiet = c.requires.quiet;
    over = λ image told. c.run.ensures.ran image word is told;
    read = c.run.ensures.read;
    cause = c.run.ensures.cause word is;
  },
)
