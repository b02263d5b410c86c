-- Each mode is that of its lane's byte.
use Rattle.std.proofs.Common.{◌∙◌, ◌<◌, rules, sym, subst}
use Rattle.pool_model.specs.declared.commands.Mode.TheVariants.{On}
use Rattle.table_state.specs.SealForms.{mode_in}
use Rattle.pool_model.proofs.Loops.{mapped}
use Rattle.pool_import.proofs.made.modes_of.Goals as goal

pub returns : goal.returns
returns c =
    mapped mode_in c.args.seal.now.modes c.map.result 0 On (c.map.ensures.items.long ∙ sym c.seal_fits.ensures.modes_len)
    (λ i within. let k = (c.map.ensures.items.at i 0 On (subst (λ n. i < n) c.seal_fits.ensures.modes_len within)).2 in search rules)
