-- The premise on digests: no two different contents that meet in a lane whose mode is on have one key.
use Rattle.std.specs.Prelude.{◌≡◌, ℕ, Bool, true, false, List, [], ◌∷◌, filter, take}
use Rattle.std.specs.List.{flat_map, AllByRecursion}
use Rattle.ddt_entry.specs.declared.key.Key.{Key}
use Rattle.pool_model.specs.declared.commands.Mode.{Mode}
use Rattle.pool_model.specs.declared.commands.Mode.TheVariants.{Off, On, Verify}
use Rattle.pool_model.specs.Pool.{Pool, mode_of}
use Rattle.pool_model.specs.Table.{waiting_in}
use Rattle.pool_model.specs.Plain.{Act, write, read, free, Task, GroupItem, lanes, prune, quota, set_mode, Part, create, of_group, stat, «import»}
use Rattle.pool_model.specs.Group.{Standing}
use Rattle.pool_model.specs.Run.{RunStep, parts_of}

abbrev pub is_on : Mode → Bool
is_on Off = false
is_on On = true
is_on Verify = false

abbrev pub written_by : Act → List (List ℕ)
written_by (write content) = content ∷ []
written_by read = []
written_by free = []

abbrev pub contents_in : List Task → List (List ℕ)
contents_in tasks = flat_map (λ task. written_by task.act) tasks

-- each content that an item writes
abbrev pub group_contents : GroupItem → List (List ℕ)
group_contents (lanes moment tasks) = contents_in tasks
group_contents (prune moment rule) = []
group_contents (quota limit) = []
group_contents (set_mode lane mode) = []

abbrev pub part_contents : Part → List (List ℕ)
part_contents (of_group item) = group_contents item
part_contents create = []
part_contents stat = []
part_contents «import» = []

abbrev pub contents : List Part → List (List ℕ)
contents parts = flat_map part_contents parts

-- each content that an item writes in a lane whose mode is on when its group opens
abbrev pub group_trusted : Pool → GroupItem → List (List ℕ)
group_trusted pool (lanes moment tasks) = contents_in (filter (λ task. is_on (mode_of pool task.lane)) tasks)
group_trusted pool (prune moment rule) = []
group_trusted pool (quota limit) = []
group_trusted pool (set_mode lane mode) = []

abbrev pub part_trusted : Pool → Part → List (List ℕ)
part_trusted pool (of_group item) = group_trusted pool item
part_trusted pool create = []
part_trusted pool stat = []
part_trusted pool «import» = []

-- where the key is one, the content is
abbrev pub NoOther : (List ℕ → Key) → (content other : List ℕ) → Type 0
NoOther key_of content other = key_of content ≡ key_of other → content ≡ other

-- a content that is trusted equals each content, pointer's bytes and waiting home's bytes of its key
pub record HasNoOther (key_of : List ℕ → Key) (s : Standing) (others : List (List ℕ)) (content : List ℕ) : Type 0 where
  pub writes : AllByRecursion (NoOther key_of content) others
  pub pointers : AllByRecursion (λ p. key_of content ≡ p.key → content ≡ p.content) s.pool.pointers
  pub waiting : AllByRecursion (λ entry. key_of content ≡ entry.key → content ≡ take entry.key.len (s.blocks entry.home.place))
      (waiting_in s.table)

-- over these steps from this standing on, each content that a step writes and trusts
abbrev pub NoClash : (List ℕ → Key) → Standing → List RunStep → Type 0
NoClash key_of s steps =
    AllByRecursion (HasNoOther key_of s (contents (parts_of steps))) (flat_map (λ step. part_trusted step.before.pool step.part) steps)
