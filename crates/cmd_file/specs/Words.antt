-- Which words of a line are good: numbers up to the most that may stand there, blocks of a lawful length, and rules of a prune.
use Rattle.std.specs.Prelude.{ℕ, nat_le, Option, Some, None, Result, Ok, Err, if◌then◌else◌}
use Rattle.pool_model.specs.declared.commands.PruneRule.{PruneRule}
use Rattle.pool_model.specs.declared.notes.BadKind.{BadKind}
use Rattle.pool_model.specs.declared.notes.BadKind.TheVariants.{Form, Range}
use Rattle.pool_model.specs.File.{Spelt, block_fits, rule_fits}

-- the number, where it isn't past the most
abbrev pub up_to : (most : ℕ) → (number : Option ℕ) → Result ℕ BadKind
up_to most None = Err Form
up_to most (Some number) = if nat_le number most then Ok number else Err Range

-- the block, where its length is lawful
abbrev pub lawful : Option Spelt → Result Spelt BadKind
lawful None = Err Form
lawful (Some block) = if block_fits block then Ok block else Err Range

-- the rule, where its number is in its range
abbrev pub rule_to : Option PruneRule → Result PruneRule BadKind
rule_to None = Err Form
rule_to (Some rule) = if rule_fits rule then Ok rule else Err Range
