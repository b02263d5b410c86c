-- What is left of a log, read change by change.
use Rattle.std.proofs.Common.{◌≡◌, ℕ, ◌+◌, ◌<◌, List, length, take, get_or, Option, sym, ap, ◌∙◌}
use Rattle.std.specs.Prelude.{if◌then◌else◌}
use Rattle.std.proofs.lemmas.List.{take_more}
use Rattle.ddt_entry.specs.Changes.{key_in}
use Rattle.ddt_entry.specs.declared.key.Key.{Key}
use Rattle.ddt_entry.specs.declared.entry.Change.{Change}
use Rattle.pool_model.specs.Table.{set_change}
use Rattle.pool_model.specs.Logs.{is_left, left_in}
use Rattle.pool_model.proofs.Replays.{left_in-push}

pub left_more : (checkpoint : Option Key) (active log : List Change) (i : ℕ) (d : Change) {left new : List Change} → i < length log
    → left ≡ left_in checkpoint active (take i log)
    → new ≡ (if is_left checkpoint active (key_in (get_or log i d)) then set_change (get_or log i d) left else left)
    → new ≡ left_in checkpoint active (take (i + 1) log)
left_more checkpoint active log i d {left} within so_far is =
    is
    ∙ ap (λ (ys : List Change). if is_left checkpoint active (key_in (get_or log i d)) then set_change (get_or log i d) ys else ys) so_far
    ∙ sym (left_in-push checkpoint active (take i log) (get_or log i d))
    ∙ ap (left_in checkpoint active) (sym (take_more log i d within))
