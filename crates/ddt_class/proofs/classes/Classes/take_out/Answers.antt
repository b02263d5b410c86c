use Rattle.std.proofs.Common.{rules, ◌∙◌, ap}
use Rattle.std.specs.Prelude.{List}
use Rattle.ddt_entry.specs.declared.entry.Entry.{Entry}
use Rattle.pool_model.specs.Table.{entry_at, drop_entry}
use Rattle.ddt_class.proofs.Classed.{IsOut, or_found, found_first, classed_anew, classes_merged, was_out, out_subtracts}
use Rattle.ddt_class.proofs.classes.Classes.take_out.Goals as goal

pub overflow_sub-self : goal.overflow_sub-self
overflow_sub-self g c =
    let out : IsOut c.self.inside.unique c.self.inside.duplicate c.args.key.now c.take_out-alone.new.self c.take_out-shared.new.self
    c.from.result = record {
      unique_is = c.take_out-alone.ensures.left;
      duplicate_is = c.take_out-shared.ensures.left;
      old_is = search rules;
    } in
    out_subtracts _ _ _ _ c.self.invariant _ _ _ _ out

pub invariant_of-self : goal.invariant_of-self
invariant_of-self g c =
    let out : IsOut c.self.inside.unique c.self.inside.duplicate c.args.key.now c.take_out-alone.new.self c.take_out-shared.new.self
    c.from.result = record {
      unique_is = c.take_out-alone.ensures.left;
      duplicate_is = c.take_out-shared.ensures.left;
      old_is = search rules;
    } in
    classed_anew _ _ _ _ (was_out _ _ _ _ c.self.invariant _ _ _ _ out)

pub returns-clause-before : goal.returns-clause-before
returns-clause-before g c =
    c.or-before.ensures ∙ or_found c.take_out-alone.ensures.before c.take_out-shared.ensures.before
    ∙ found_first _ _ _ _ c.self.invariant c.args.key.now
    ∙ ap (λ (es : List Entry). entry_at c.args.key.now es) c.self.view_is

pub returns-clause-left : goal.returns-clause-left
returns-clause-left g c =
    let out : IsOut c.self.inside.unique c.self.inside.duplicate c.args.key.now c.take_out-alone.new.self c.take_out-shared.new.self
    c.from.result = record {
      unique_is = c.take_out-alone.ensures.left;
      duplicate_is = c.take_out-shared.ensures.left;
      old_is = search rules;
    } in
    classes_merged _ _ _ _ (was_out _ _ _ _ c.self.invariant _ _ _ _ out)
    ∙ ap (λ (es : List Entry). drop_entry c.args.key.now es) c.self.view_is
