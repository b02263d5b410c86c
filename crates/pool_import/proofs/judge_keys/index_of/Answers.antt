use Rattle.std.proofs.Common.{◌∙◌, sym, arith}
use Rattle.pool_import.proofs.JudgingKeys.{all_below, all_above, none_of_key, met_at}
use Rattle.pool_import.proofs.judge_keys.index_of.Goals as goal

pub halves-preserved-in-Less : goal.halves-preserved-in-Less
halves-preserved-in-Less c = record {
  order = omega arith;
  within = omega arith;
  below = all_below c.args.entries.now _ _ c.args.key.now c.requires (omega arith) (sym c.cmp.ensures ∙ c.in-Less.is);
  above = c.halves.invariant.above;
}

pub returns-in-Equal-clause-some : goal.returns-in-Equal-clause-some
returns-in-Equal-clause-some c = met_at c.args.entries.now _ _ c.args.key.now (omega arith) (sym c.cmp.ensures ∙ c.in-Equal.is)

pub halves-preserved : goal.halves-preserved
halves-preserved c = record {
  order = omega arith;
  within = omega arith;
  below = c.halves.invariant.below;
  above = all_above c.args.entries.now _ _ c.args.key.now c.requires (omega arith) (sym c.cmp.ensures ∙ c.in-Greater.is);
}

pub returns-clause-none : goal.returns-clause-none
returns-clause-none c = none_of_key c.args.entries.now c.halves.low c.halves.high c.args.key.now
    (omega arith) c.halves.invariant.below c.halves.invariant.above
