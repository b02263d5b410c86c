-- The text of an item that ended, by its note and by the numbers of the pool that stands after it.
use Rattle.std.specs.Prelude.{ℕ, List, codes, Option, Some, None}
use Rattle.pool_model.specs.declared.stats.Stats.{Stats}
use Rattle.pool_model.specs.Plain.{GroupItem, Part, create, of_group, stat, «import», Told}
use Rattle.pool_model.specs.Text.{number_line, stat_text, kind_word, noted_text}

-- the group that an item is
abbrev pub group_in : Part → Option GroupItem
group_in (of_group item) = Some item
group_in part = None

-- what an item is called
abbrev pub item_word : Part → List ℕ
item_word (of_group item) = kind_word item
item_word create = codes "create"
item_word stat = codes "stat"
item_word «import» = codes "import"

abbrev pub text_of : Part → Option Told → Stats → (group : ℕ) → (limit : Option ℕ) → List ℕ
text_of (of_group item) told stats group limit = noted_text item told
text_of create told stats group limit = number_line (codes "create") 1
text_of stat told stats group limit = stat_text group limit stats
text_of «import» told stats group limit = number_line (codes "import") group
