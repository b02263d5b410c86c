-- What was served is said of the disk alone.
use Rattle.std.proofs.Common.{inr}
use Rattle.dedup_tool.proofs.run_words.Goals as goal

pub returns-clause-looked : goal.returns-clause-looked
returns-clause-looked g c = λ look is. inr (record {
  written = _;
  now = _;
  sink_before = _;
  sink_now = _;
  looked = c.serve.ensures.looked look is;
})
