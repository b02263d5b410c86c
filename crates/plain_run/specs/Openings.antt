-- What a plain program finds when a group opens, as the definitions see it.
use Rattle.std.specs.Prelude.{ℕ, ◌==◌, List, []}
use Rattle.std.specs.List.{find}
use Rattle.std.specs.Option.{option_map_or}
use Rattle.ddt_entry.specs.declared.key.Key.{Key}
use Rattle.pool_model.specs.Command.{Opening}
use Rattle.plain_run.specs.Placed.{Placed}
use Rattle.plain_run.specs.declared.opening.PlainOpening.{PlainOpening}

-- the bytes at a place, and none where the list doesn't name it
abbrev pub bytes_at : List Placed → ℕ → List ℕ
bytes_at blocks place = option_map_or (λ block. block.content) (find (λ block. block.place == place) blocks) []

-- the opening, where keys are made so
abbrev pub opening_by : (List ℕ → Key) → PlainOpening → Opening
opening_by key_of plain =
    record { key_of = key_of; table = plain.table; blocks = bytes_at plain.blocks.items; number = plain.number; moment = plain.moment }
