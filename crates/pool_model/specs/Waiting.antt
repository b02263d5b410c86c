-- Which homes wait after a group, and what is among the elements of a list.
use Rattle.std.specs.Prelude.{◌≡◌, ◌⊎◌, List, [], ◌∷◌, take}
use Rattle.std.specs.List.{AllByRecursion}
use Rattle.ddt_entry.specs.declared.entry.Entry.{Entry}
use Rattle.pool_model.specs.Pool.{Pointer}
use Rattle.pool_model.specs.Table.{waiting_in}
use Rattle.pool_model.specs.Group.{Standing}

-- an element of the list
abbrev pub IsIn : {X : Type 0} → X → List X → Type 0
IsIn x [] = ⊥
IsIn x (y ∷ ys) = (x ≡ y) ⊎ IsIn x ys

-- each element of some is one of all
abbrev pub AreAmong : {X : Type 0} → (some all : List X) → Type 0
AreAmong some all = AllByRecursion (λ x. IsIn x all) some

-- a home that waits after waited before, over the same bytes
abbrev pub WaitedBefore : (before after : Standing) → Entry → Type 0
WaitedBefore before after entry = IsIn entry (waiting_in before.table) × (after.blocks entry.home.place ≡ before.blocks entry.home.place)

-- each home that waits after did
abbrev pub WaitingStays : (before after : Standing) → Type 0
WaitingStays before after = AllByRecursion (WaitedBefore before after) (waiting_in after.table)

-- a pointer from before has this entry's key, and the bytes that are at its home after
pub record WaitsByPointer (before after : Standing) (entry : Entry) : Type 0 where
  pub pointer : Pointer
  pub was_there : IsIn pointer before.pool.pointers
  pub key_is : pointer.key ≡ entry.key
  pub bytes_are : pointer.content ≡ take entry.key.len (after.blocks entry.home.place)

-- each home that waits after waited before, over the same bytes, or a pointer from before had its key and its bytes
abbrev pub WaitingComes : (before after : Standing) → Type 0
WaitingComes before after =
    AllByRecursion (λ entry. WaitedBefore before after entry ⊎ WaitsByPointer before after entry) (waiting_in after.table)
