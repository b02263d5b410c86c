use Rattle.std.proofs.Common.{ap, length, arith}
use Rattle.std.specs.Prelude.{List}
use Rattle.ddt_entry.specs.declared.entry.Entry.{Entry}
use Rattle.ddt_class.proofs.Classed.{classes_length}
use Rattle.ddt_class.proofs.classes.Classes.len.Goals as goal

pub returns : goal.returns
returns c = omega (arith, classes_length _ _ _ _ c.self.invariant, ap (λ (es : List Entry). length es) c.self.view_is)
