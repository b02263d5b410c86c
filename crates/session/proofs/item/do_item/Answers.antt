-- An item is done as its kind is.
use Rattle.std.proofs.Common.{◌∙◌, [], ap, sym, map}
use Rattle.std.proofs.lemmas.List.{append-nil}
use Rattle.pool_model.specs.Plain.{told_of}
use Rattle.session.specs.Running.{told_in}
use Rattle.session.proofs.item.do_item.Goals as goal

pub returns-in-Stat-clause-went : goal.returns-in-Stat-clause-went
returns-in-Stat-clause-went g c s over apart = ([], sym (append-nil (told_in c.args.session.now)), c.do_stat.ensures.went s over)

pub returns-in-Import-clause-went : goal.returns-in-Import-clause-went
returns-in-Import-clause-went g c s over apart =
    ([], ap (λ groups. map told_of groups.items) c.do_import.ensures.groups ∙ sym (append-nil (told_in c.args.session.now)), c.do_import.ensures.went s over)
