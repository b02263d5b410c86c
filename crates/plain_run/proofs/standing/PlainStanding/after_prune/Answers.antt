use Rattle.std.proofs.Common.{◌∙◌, ◌+◌, refl, ap}
use Rattle.pool_model.specs.Pool.{Pool}
use Rattle.pool_model.specs.Prune.{after_prune}
use Rattle.pool_model.specs.Replaying.{LoggedTable, sync_logged}
use Rattle.plain_run.proofs.Afterwards.{same_standing}
use Rattle.plain_run.proofs.standing.PlainStanding.after_prune.Goals as goal

pub returns : goal.returns
returns c = λ rules told.
    let synced = c.in_ok-after.ensures
    ∙ ap (λ changes. sync_logged changes (record { table = c.args.self.table; logs = c.args.self.logs }))
    (c.as_slice.ensures.value ∙ c.in_ok-changes.ensures) in
    same_standing _ _
    (c.in_group.ensures
    ∙ ap (λ (p : Pool). record p { group = c.pool.inside.group + 1 }) c.in_ok-after_prune.ensures
    ∙ ap (λ (p : Pool). record (after_prune c.args.self.pool c.args.rule c.args.moment) { group = p.group + 1 }) c.pool.view_is)
    (ap (λ (k : LoggedTable). k.table) synced) (ap (λ (k : LoggedTable). k.logs) synced)
    (λ place. refl) refl refl
