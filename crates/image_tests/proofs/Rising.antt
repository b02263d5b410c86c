-- Changes of which each key comes before the next one rise by key.
use Rattle.std.proofs.Common.{◌≡◌, true, List, [], ◌∷◌, None, Some}
use Rattle.std.specs.List.{AllByRecursion}
use Rattle.std.proofs.lemmas.Bool.{and_parts}
use Rattle.ddt_entry.specs.Changes.{key_in}
use Rattle.ddt_entry.specs.declared.entry.Change.{Change}
use Rattle.pool_model.specs.Table.{AreChangesRising}
use Rattle.pool_import.specs.Together.{rises}
use Rattle.pool_import.proofs.JudgingFound.{earlier_yet}
use Rattle.image_tests.specs.Counts.{has_lower}

all_onward : (a b : Change) → has_lower a b ≡ true → (log : List Change) → AllByRecursion (λ c. has_lower b c ≡ true) log
    → AllByRecursion (λ c. has_lower a c ≡ true) log
all_onward a b first [] all = tt
all_onward a b first (c ∷ log) all =
    (earlier_yet (key_in a) (key_in b) (key_in c) first all.0, all_onward a b first log all.1)

behind : (a : Change) (log : List Change) → rises has_lower (Some a) log ≡ true → AreChangesRising (a ∷ log)
behind a [] up = (tt, tt)
behind a (b ∷ log) up =
    let parts = and_parts (has_lower a b) (rises has_lower (Some b) log) up in
    let rest = behind b log parts.1 in
    ((parts.0, all_onward a b parts.0 log rest.0), rest)

pub rising : (log : List Change) → rises has_lower None log ≡ true → AreChangesRising log
rising [] up = tt
rising (a ∷ log) up = behind a log up
