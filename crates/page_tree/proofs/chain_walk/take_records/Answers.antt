use Rattle.std.proofs.Common.{◌+◌, ◌-◌, ◌*◌, ◌∷◌, ◌++◌, List, ℕ, drop, ap, sym, ◌∙◌, arith}
use Rattle.page_tree.specs.Chains.{record_len, parts_in}
use Rattle.page_tree.proofs.ChainLaws.{parts_in-more, pushed}
use Rattle.page_tree.proofs.chain_walk.take_records.Goals as goal

pub records-preserved : goal.records-preserved
records-preserved c = (
  pushed c.records.out.items c.push.new.self.items c.array_at.result
      (parts_in (c.count_of-count.result - (c.records.i + 1)) record_len (drop (48 + 72 * (c.records.i + 1)) c.args.page.now))
      c.push.ensures.items
      ∙ ap (λ (parts : List (List ℕ)). c.records.out.items ++ parts)
      (ap (λ (part : List ℕ). part ∷ parts_in (c.count_of-count.result - (c.records.i + 1)) record_len
      (drop (48 + 72 * (c.records.i + 1)) c.args.page.now)) c.array_at.ensures
      ∙ sym (parts_in-more c.count_of-count.result c.records.i c.args.page.now (omega (arith, c.records-test.true))))
      ∙ c.records.invariant.0,
  omega (arith, c.records.invariant.1, c.push.ensures.room),
  c.records.invariant.2,
)
