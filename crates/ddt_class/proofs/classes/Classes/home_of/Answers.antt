use Rattle.std.proofs.Common.{◌∙◌, ap}
use Rattle.std.specs.Prelude.{List}
use Rattle.ddt_entry.specs.declared.entry.Entry.{Entry}
use Rattle.pool_model.specs.Table.{entry_at}
use Rattle.ddt_class.proofs.Classed.{or_found, found_first}
use Rattle.ddt_class.proofs.classes.Classes.home_of.Goals as goal

pub returns : goal.returns
returns c =
    c.or.ensures ∙ or_found c.find.ensures c.find-2.ensures
    ∙ found_first _ _ _ _ c.self.invariant c.args.key.now
    ∙ ap (λ (es : List Entry). entry_at c.args.key.now es) c.self.view_is
