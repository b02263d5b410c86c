-- What is marked step by step is what the pool uses.
use Rattle.std.proofs.Common.{◌≡◌, ◌==◌, ℕ, Bool, List, [], filter, map, ◌∙◌, ap}
use Rattle.ddt_entry.specs.declared.entry.Entry.{Entry}
use Rattle.grant_book.specs.Sectors.{marked}
use Rattle.table_state.proofs.UsedLaws.{used_after}
use Rattle.txg_sync.proofs.used.used_after.Goals as goal

-- marks one after another, of places that are known under other names
marked_in_steps : (places : Entry → ℕ) (waits : Entry → Bool) (pages slots : List ℕ) (ring : List Bool)
    (first second third fourth : List Bool) (listed found : List Entry)
    → first ≡ ring → second ≡ marked first pages → third ≡ marked second slots → listed ≡ found
    → fourth ≡ marked third (map places (filter waits listed))
    → fourth ≡ marked (marked (marked ring pages) slots) (map places (filter waits found))
marked_in_steps places waits pages slots ring first second third fourth listed found one two three known four =
    four
    ∙ ap (λ (entries : List Entry). marked third (map places (filter waits entries))) known
    ∙ ap (λ (used : List Bool). marked used (map places (filter waits found)))
    (three ∙ ap (λ (used : List Bool). marked used slots) (two ∙ ap (λ (used : List Bool). marked used pages) one))

pub returns : goal.returns
returns c table known lengths modes quota group =
    marked_in_steps (λ entry. entry.home.place) (λ entry. entry.home.count == 0) c.args.pages.now
    (map (λ slot. slot.pointer.place) c.args.slots.now) _ _ _ _ _ _ _ c.in_ok-used.ensures c.mark_all.ensures c.mark_slots.ensures
    known c.mark_waiting.ensures
    ∙ used_after c.args.sectors c.args.pages.now []
    [] c.args.slots.now table modes quota group c.requires.slots lengths.zap lengths.flush lengths.active
