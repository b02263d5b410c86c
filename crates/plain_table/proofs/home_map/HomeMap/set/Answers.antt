use Rattle.std.proofs.Common.{rules, ◌≡◌, ◌∙◌, None, ap, sym}
use Rattle.std.specs.Prelude.{List}
use Rattle.ddt_entry.specs.declared.entry.Entry.{Entry}
use Rattle.pool_model.specs.Table.{entry_at, set_entry}
use Rattle.plain_table.specs.HomeLists.{entries_of}
use Rattle.plain_table.proofs.HomeLists.{lookup-entries_of, entries_of-insert, rising-insert}
use Rattle.plain_table.proofs.home_map.HomeMap.set.Goals as goal

pub invariant_of-self-2 : goal.invariant_of-self-2
invariant_of-self-2 c =
    rw c.in_ok-before.ensures.entries (rising-insert c.args.key.now c.args.home c.self.inside.homes.entries c.self.invariant)

pub returns-clause-before : goal.returns-clause-before
returns-clause-before c =
    c.in_ok-before.ensures.old ∙ lookup-entries_of c.args.key.now c.self.inside.homes.entries
    ∙ ap (λ (es : List Entry). entry_at c.args.key.now es) c.self.view_is

pub returns-clause-set : goal.returns-clause-set
returns-clause-set c =
    ap entries_of c.in_ok-before.ensures.entries ∙ entries_of-insert c.args.key.now c.args.home c.self.inside.homes.entries
    ∙ ap (λ (es : List Entry). set_entry (record { key = c.args.key.now; home = c.args.home }) es) c.self.view_is

pub returns-in_err-before-clause-absent : goal.returns-in_err-before-clause-absent
returns-in_err-before-clause-absent c =
    let none : entry_at c.args.key.now c.args.self.now ≡ None =
    ap (λ (es : List Entry). entry_at c.args.key.now es) (sym c.self.view_is)
    ∙ sym (lookup-entries_of c.args.key.now c.self.inside.homes.entries) ∙ c.in_err-before.ensures.absent in search rules
