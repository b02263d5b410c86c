use Rattle.std.proofs.Common.{◌∙◌, ◌++◌, List, map, ap, refl}
use Rattle.pool_model.specs.Pool.{Pool, Pointer}
use Rattle.pool_model.specs.Command.{Course}
use Rattle.pool_model.specs.Replaying.{LoggedTable, sync_logged}
use Rattle.plain_run.specs.Openings.{bytes_at}
use Rattle.plain_run.specs.Placed.{Placed, placed_of}
use Rattle.plain_run.proofs.Afterwards.{bytes_at-after, same_standing}
use Rattle.plain_run.proofs.standing.PlainStanding.after_course.Goals as goal

pub returns : goal.returns
returns c = λ key_of.
    let pointers = c.as_slice-2.ensures.value ∙ ap (λ (p : Pool). p.pointers) c.found.view_is in
    let blocks = c.in_ok-blocks_after.ensures ∙ ap (λ (ps : List Pointer). map placed_of ps ++ c.args.self.blocks.items) pointers in
    let synced = c.in_ok-after.ensures
    ∙ ap (λ changes. sync_logged changes (record { table = c.args.self.table; logs = c.args.self.logs }))
    (c.as_slice.ensures.value ∙ c.in_ok-changes.ensures key_of) in
    same_standing _ _
    (c.in_group.ensures ∙ ap (λ (k : Course). record k.pool { group = c.args.opening.now.number }) c.course.view_is)
    (ap (λ (k : LoggedTable). k.table) synced) (ap (λ (k : LoggedTable). k.logs) synced)
    (λ place.
    ap (λ (l : List Placed). bytes_at l place) blocks ∙ bytes_at-after c.args.self.pool.pointers c.args.self.blocks.items place)
    refl refl
