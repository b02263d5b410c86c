use Rattle.std.proofs.Common.{◌∙◌, ap}
use Rattle.ddt_entry.specs.declared.entry.Entry.{Entry}
use Rattle.std.specs.Prelude.{List}
use Rattle.pool_model.specs.Table.{entry_at}
use Rattle.plain_table.proofs.HomeLists.{lookup-entries_of}
use Rattle.plain_table.proofs.home_map.HomeMap.find.Goals as goal

pub returns : goal.returns
returns c =
    c.copied.ensures ∙ c.get.ensures.value ∙ lookup-entries_of c.args.key.now c.self.inside.homes.entries
    ∙ ap (λ (es : List Entry). entry_at c.args.key.now es) c.self.view_is
