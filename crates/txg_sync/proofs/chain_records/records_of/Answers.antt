use Rattle.std.proofs.Common.{◌≡◌, ◌∙◌, ap}
use Rattle.pool_model.specs.Replaying.{LoggedTable}
use Rattle.txg_sync.proofs.PlannedRecords.{class_lengths}
use Rattle.txg_sync.proofs.chain_records.records_of.Goals as goal

pub entry_records-requires : goal.entry_records-requires
entry_records-requires c =
    let listed : c.in_ok-stored.stored.items ≡ c.args.table.now.table.zap =
    c.in_ok-stored.ensures ∙ ap (λ (k : LoggedTable). k.table.zap) c.table.view_is in
    class_lengths _ _ _ _ _ listed c.unique_in-unique.ensures c.as_slice-3.ensures.value c.requires.zap

pub entry_records-requires-2 : goal.entry_records-requires-2
entry_records-requires-2 c =
    let listed : c.in_ok-stored.stored.items ≡ c.args.table.now.table.zap =
    c.in_ok-stored.ensures ∙ ap (λ (k : LoggedTable). k.table.zap) c.table.view_is in
    class_lengths _ _ _ _ _ (c.in_ok-from_slice.ensures.items ∙ c.as_slice-2.ensures.value ∙ listed) c.duplicate_in-duplicate.ensures
    c.as_slice-4.ensures.value c.requires.zap
