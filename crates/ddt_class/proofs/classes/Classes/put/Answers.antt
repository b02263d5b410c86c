use Rattle.std.proofs.Common.{rules, ◌∙◌, ap, arith}
use Rattle.std.specs.Prelude.{List}
use Rattle.ddt_entry.specs.declared.entry.Entry.{Entry}
use Rattle.pool_model.specs.Table.{set_entry}
use Rattle.ddt_class.specs.Classes.{IsStored}
use Rattle.ddt_class.proofs.Classed.{IsPutIn, counts_small, classed_anew, classes_merged, was_put, put_subtracts}
use Rattle.ddt_class.proofs.classes.Classes.put.Goals as goal

pub overflow_sub-self : goal.overflow_sub-self
overflow_sub-self g c =
    let entry : Entry = record { key = c.args.key.now; home = c.args.home } in
    let put : IsPutIn c.self.inside.unique c.self.inside.duplicate entry c.put_home.new.unique c.put_home.new.duplicate c.from.result
    c.args.home.count = record {
      unique_is = c.in_ok-before.ensures.unique;
      duplicate_is = c.in_ok-before.ensures.duplicate;
      old_is = search rules;
      new_is = search rules;
    } in
    put_subtracts _ _ _ _ c.self.invariant _ _ _ _ _ put

pub overflow_add-self : goal.overflow_add-self
overflow_add-self g c =
    omega (arith, counts_small _ _ _ _ c.self.invariant c.is_small.ensures c.is_small-2.ensures, c.from-2.ensures)

pub invariant_of-self-2 : goal.invariant_of-self-2
invariant_of-self-2 g c =
    let entry : Entry = record { key = c.args.key.now; home = c.args.home } in
    let stored : IsStored entry = record { counted = c.requires.counted; fits = search rules } in
    let put : IsPutIn c.self.inside.unique c.self.inside.duplicate entry c.put_home.new.unique c.put_home.new.duplicate c.from.result
    c.from-2.result = record {
      unique_is = c.in_ok-before.ensures.unique;
      duplicate_is = c.in_ok-before.ensures.duplicate;
      old_is = search rules;
      new_is = search rules;
    } in
    classed_anew _ _ _ _ (was_put _ _ _ _ c.self.invariant _ _ _ _ _ put stored)

pub returns-clause-put : goal.returns-clause-put
returns-clause-put g c =
    let entry : Entry = record { key = c.args.key.now; home = c.args.home } in
    let stored : IsStored entry = record { counted = c.requires.counted; fits = search rules } in
    let put : IsPutIn c.self.inside.unique c.self.inside.duplicate entry c.put_home.new.unique c.put_home.new.duplicate c.from.result
    c.from-2.result = record {
      unique_is = c.in_ok-before.ensures.unique;
      duplicate_is = c.in_ok-before.ensures.duplicate;
      old_is = search rules;
      new_is = search rules;
    } in
    classes_merged _ _ _ _ (was_put _ _ _ _ c.self.invariant _ _ _ _ _ put stored)
    ∙ ap (λ (es : List Entry). set_entry entry es) c.self.view_is
