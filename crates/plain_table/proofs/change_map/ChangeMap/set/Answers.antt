use Rattle.std.proofs.Common.{rules, sym, ◌≡◌, None}
use Rattle.ddt_entry.specs.Changes.{key_in}
use Rattle.pool_model.specs.Table.{change_at}
use Rattle.plain_table.proofs.Entries.{is_set, is_keyed, is_found, is_rising}
use Rattle.plain_table.proofs.change_map.ChangeMap.set.Goals as goal

pub returns-in_err-before-clause-absent : goal.returns-in_err-before-clause-absent
returns-in_err-before-clause-absent c =
    let none : change_at (key_in c.args.change) c.args.self.now ≡ None =
    sym (is_found (record { keyed = c.self.invariant; seen = c.self.view_is })
    c.key_of.ensures (sym c.in_err-before.ensures.absent)) in search rules

pub returns-in_err-before-clause-sorted : goal.returns-in_err-before-clause-sorted
returns-in_err-before-clause-sorted c =
    is_rising (record { keyed = c.self.invariant; seen = c.self.view_is }) c.in_err-before.ensures.was_ordered

pub invariant_of-self-2 : goal.invariant_of-self-2
invariant_of-self-2 c =
    is_keyed (record { keyed = c.self.invariant; seen = c.self.view_is }) _ c.key_of.ensures c.in_ok-before.ensures.entries

pub returns-clause-set : goal.returns-clause-set
returns-clause-set c =
    is_set (record { keyed = c.self.invariant; seen = c.self.view_is }) _ c.key_of.ensures c.in_ok-before.ensures.entries

pub returns-clause-before : goal.returns-clause-before
returns-clause-before c =
    is_found (record { keyed = c.self.invariant; seen = c.self.view_is }) c.key_of.ensures c.in_ok-before.ensures.old

pub returns-clause-sorted : goal.returns-clause-sorted
returns-clause-sorted c =
    is_rising (record { keyed = c.self.invariant; seen = c.self.view_is }) c.in_ok-before.ensures.was_ordered
