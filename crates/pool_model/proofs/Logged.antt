-- The worked logs, each computed by the checker.
use Rattle.std.proofs.Common.{refl}
use Rattle.pool_model.specs.WorkedLogs.{ChangedTwice, KeptWhole, ChangedAgain, Exchanged}

pub changed_twice : ChangedTwice
changed_twice = record { kept = refl; listed = refl; replays = refl; last_counts = refl }

pub kept_whole : KeptWhole
kept_whole = record { first = refl; replays = refl; last = refl }

pub changed_again : ChangedAgain
changed_again = record { kept = refl; replays = refl; alone = refl }

pub exchanged : Exchanged
exchanged = record { before = refl; swapped = refl; at_once = refl }
