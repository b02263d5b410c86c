use Rattle.std.proofs.Common.{◌∙◌, ap, List, Bool, false, replicate, length}
use Rattle.grant_book.proofs.MarkLaws.{length-ring_used}
use Rattle.txg_sync.proofs.creating.new_book.Goals as goal

pub returns-clause-pending : goal.returns-clause-pending
returns-clause-pending c =
    c.of_used.ensures.pending
    ∙ ap (λ (l : List Bool). replicate (length l) false) c.in_ok-used.ensures
    ∙ ap (λ n. replicate n false) (length-ring_used c.args.sectors)
