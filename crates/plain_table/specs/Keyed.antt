-- What a map from keys to changes keeps, its first change, and what a change that is set in it leaves to be taken back.
use Rattle.std.specs.Prelude.{◌≡◌, List, [], ◌∷◌, Option, Some, None}
use Rattle.std.specs.List.{AllByRecursion}
use Rattle.ddt_entry.specs.Changes.{key_in}
use Rattle.ddt_entry.specs.declared.key.Key.{Key}
use Rattle.ddt_entry.specs.declared.entry.Change.{Change}
use Rattle.pool_model.specs.Table.{change_at, set_change, AreChangesRising}

-- each change stands under its own key
abbrev pub AreKeyed : List (Key × Change) → Type 0
AreKeyed entries = AllByRecursion (λ entry. entry.0 ≡ key_in entry.1) entries

abbrev pub first : List Change → Option Change
first [] = None
first (change ∷ rest) = Some change

-- the change was set in a sorted list, where this one stood before
pub record WasSet (change : Change) (before : Option Change) (first now : List Change) : Type 0 where
  pub rising : AreChangesRising first
  pub set : now ≡ set_change change first
  pub stood : before ≡ change_at (key_in change) first
