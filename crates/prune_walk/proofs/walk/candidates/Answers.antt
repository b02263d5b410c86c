use Rattle.std.proofs.Common.{◌≡◌, map, rules, ap, ◌∙◌}
use Rattle.ddt_entry.specs.declared.entry.Entry.{Entry}
use Rattle.ddt_entry.specs.declared.entry.Change.TheVariants.{Gone}
use Rattle.pool_model.specs.Table.{entries_found}
use Rattle.prune_walk.specs.Candidates.{candidates, table_of_parts}
use Rattle.prune_walk.proofs.Pruned.{changes_pruned}
use Rattle.prune_walk.proofs.walk.candidates.Goals as goal

pub returns-clause-pruned : goal.returns-clause-pruned
returns-clause-pruned g c = λ pool age matches.
    let taken : c.from_vec.result.items ≡ candidates (entries_found (table_of_parts c.args.classes.now c.args.logs.now 0))
    c.args.rule c.args.moment = search rules in
    ap (map (λ (entry : Entry). Gone entry.key)) taken
    ∙ changes_pruned pool (table_of_parts c.args.classes.now c.args.logs.now age) c.args.rule c.args.moment matches
