use Rattle.std.proofs.Common.{◌∙◌, ap}
use Rattle.std.specs.Prelude.{List}
use Rattle.ddt_entry.specs.declared.entry.Entry.{Entry}
use Rattle.pool_model.specs.Table.{entry_at, drop_entry}
use Rattle.plain_table.specs.HomeLists.{entries_of}
use Rattle.plain_table.proofs.HomeLists.{lookup-entries_of, entries_of-remove, rising-remove}
use Rattle.plain_table.proofs.home_map.HomeMap.take_out.Goals as goal

pub invariant_of-self : goal.invariant_of-self
invariant_of-self c = rw c.remove.ensures.entries (rising-remove c.args.key.now c.self.inside.homes.entries c.self.invariant)

pub returns-clause-before : goal.returns-clause-before
returns-clause-before c =
    c.remove.ensures.value ∙ lookup-entries_of c.args.key.now c.self.inside.homes.entries
    ∙ ap (λ (es : List Entry). entry_at c.args.key.now es) c.self.view_is

pub returns-clause-left : goal.returns-clause-left
returns-clause-left c =
    ap entries_of c.remove.ensures.entries ∙ entries_of-remove c.args.key.now c.self.inside.homes.entries c.self.invariant
    ∙ ap (λ (es : List Entry). drop_entry c.args.key.now es) c.self.view_is
