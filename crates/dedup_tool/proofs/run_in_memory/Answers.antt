-- What was served over a disk in memory began at a new one.
use Rattle.dedup_tool.proofs.MemoryEnds.{ran_in_memory, looked_in_memory}
use Rattle.dedup_tool.proofs.run_in_memory.Goals as goal

pub returns-clause-ran : goal.returns-clause-ran
returns-clause-ran g c = λ word is.
    ran_in_memory c.args.sectors c.in-Ok.disk c.run_words-status.new.disk c.starved.result c.run_words-status.result c.by_memory.result
    c.in-Ok.ensures.made c.starved.ensures c.by_memory.ensures word (c.run_words-status.ensures.ran word is)

pub returns-clause-looked : goal.returns-clause-looked
returns-clause-looked g c = λ look is.
    looked_in_memory c.args.sectors c.in-Ok.disk c.run_words-status.new.disk c.starved.result c.run_words-status.result c.by_memory.result
    c.in-Ok.ensures.made c.starved.ensures c.by_memory.ensures look (c.run_words-status.ensures.looked look is)
