-- The spots and rows of the rules as the definitions see them, and the tests of a home's block.
use Rattle.std.specs.Prelude.{◌≡◌, ℕ, ⊤, Bool, List, Option, Some, None}
use Rattle.std.specs.Str.{bytes_eq}
use Rattle.ddt_entry.specs.Keys.{key_eq}
use Rattle.ddt_entry.specs.declared.key.Key.{Key}
use Rattle.pool_model.specs.Pool.{Mark, plain, tracked}
use Rattle.pool_model.specs.Command.{Known, Spot, nowhere, at_home, at_fresh, Row}
use Rattle.home_rules.specs.declared.row.Spot.{Spot as RuleSpot}
use Rattle.home_rules.specs.declared.row.Spot.TheVariants.{Nowhere, AtHome, AtFresh}
use Rattle.home_rules.specs.declared.row.Row.{Row as RuleRow}

-- the mark of a pointer that the table counts since a moment, or not at all
abbrev pub mark_since : Option ℕ → Mark
mark_since None = plain
mark_since (Some since) = tracked since

-- where a write puts its pointer
abbrev pub spot_of : RuleSpot → Spot
spot_of Nowhere = nowhere
spot_of (AtHome home since) = at_home home (tracked since)
spot_of (AtFresh since) = at_fresh (mark_since since)

-- what a write answers, and where its pointer goes
abbrev pub row_of : RuleRow → Row
row_of row = record { answer = row.answer; spot = spot_of row.spot }

-- the values of the two tests of a home's block: whether it has the content's key, and whether it is the content
abbrev pub IsCompared : (List ℕ → Key) → Option Known → (content : List ℕ) → (has_key same : Bool) → Type 0
IsCompared key_of None content has_key same = ⊤
IsCompared key_of (Some known) content has_key same = (key_eq (key_of known.block) (key_of content) ≡ has_key)
    × (bytes_eq known.block content ≡ same)
