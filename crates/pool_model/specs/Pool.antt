-- A pool: the pointers in the slots of its lanes, and its settings.
use Rattle.std.specs.Prelude.{◌≡◌, ℕ, ◌+◌, ◌/◌, ◌<◌, ◌≤◌, ◌⊎◌, ⊤, Bool, true, false, not, ◌&&◌, ◌||◌, ◌==◌, nat_lt, List, [], ◌∷◌, length, filter, fold, replicate, slice_get, unwrap_or, Option, None, if◌then◌else◌}
use Rattle.std.specs.List.{AllByRecursion, find}
use Rattle.std.specs.Ordering.{is_eq, is_lt}
use Rattle.ddt_entry.specs.Keys.{key_cmp, key_eq}
use Rattle.ddt_entry.specs.declared.key.Key.{Key}
use Rattle.pool_model.specs.declared.commands.Mode.{Mode}
use Rattle.pool_model.specs.declared.commands.Mode.TheVariants.{On}

-- how the dedup table knows a pointer: not at all, as one that it counts (and since when), or no more
pub data Mark : Type 0 where
  plain : Mark
  tracked : (since : ℕ) → Mark
  loose : Mark

-- what a lane's slot holds
pub record Pointer : Type 0 where
  pub lane : ℕ
  pub slot : ℕ
  pub key : Key
  pub content : List ℕ
  pub place : ℕ
  pub birth : ℕ
  pub mark : Mark

-- the pointers in rising order of lane and slot, the mode of each lane, the quota, and the last sealed group
pub record Pool : Type 0 where
  pub pointers : List Pointer
  pub modes : List Mode
  pub quota : Option ℕ
  pub group : ℕ

-- how many lanes there are
abbrev pub lane_count : ℕ
lane_count = 16

-- at most so many bytes in a block
abbrev pub block_limit : ℕ
block_limit = 4096

-- what a write may store: at least one byte, and no more than a block has
abbrev pub IsContent : List ℕ → Type 0
IsContent content = (0 < length content) × (length content ≤ block_limit)

-- a pointer whose key is the one of its content
abbrev pub IsSound : (key_of : List ℕ → Key) → Pointer → Type 0
IsSound key_of p = key_of p.content ≡ p.key

-- the pool that a new image has
abbrev pub empty_pool : Pool
empty_pool = record { pointers = []; modes = replicate lane_count On; quota = None; group = 1 }

-- how many sectors the blocks of a key take
abbrev pub run_length : Key → ℕ
run_length key = (key.len + 4095) / 4096

-- two runs of sectors share none
abbrev pub IsApart : (place length other other_length : ℕ) → Type 0
IsApart place length other other_length = (place + length ≤ other) ⊎ (other + other_length ≤ place)

abbrev pub is_tracked : Mark → Bool
is_tracked plain = false
is_tracked (tracked since) = true
is_tracked loose = false

abbrev pub is_plain : Mark → Bool
is_plain plain = true
is_plain (tracked since) = false
is_plain loose = false

abbrev pub is_loose : Mark → Bool
is_loose plain = false
is_loose (tracked since) = false
is_loose loose = true

-- the moment at which the count became 1; 0 of a pointer that isn't tracked
abbrev pub since_of : Mark → ℕ
since_of plain = 0
since_of (tracked since) = since
since_of loose = 0

abbrev pub is_at : (lane slot : ℕ) → Pointer → Bool
is_at lane slot pointer = (pointer.lane == lane) && (pointer.slot == slot)

-- what a slot holds
abbrev pub held : Pool → (lane slot : ℕ) → Option Pointer
held pool lane slot = find (is_at lane slot) pool.pointers

abbrev pub mode_of : Pool → (lane : ℕ) → Mode
mode_of pool lane = unwrap_or (slice_get pool.modes lane) On

-- whether the table counts this pointer under this key
abbrev pub tracks : Key → Pointer → Bool
tracks key pointer = is_tracked pointer.mark && key_eq pointer.key key

-- the pointers that the table counts under a key, and how many they are
abbrev pub tracked_at : Pool → Key → List Pointer
tracked_at pool key = filter (tracks key) pool.pointers

abbrev pub count_at : Pool → Key → ℕ
count_at pool key = length (tracked_at pool key)

-- sorted keys, with one more if it isn't there
abbrev pub with_key : Key → List Key → List Key
with_key key [] = key ∷ []
with_key key (k ∷ ks) = if is_lt (key_cmp key k) then key ∷ k ∷ ks else (if is_eq (key_cmp key k) then k ∷ ks else k ∷ with_key key ks)

-- the keys that have a tracked pointer, sorted, each once
abbrev pub keys_in : Pool → List Key
keys_in pool = fold (λ keys pointer. if is_tracked pointer.mark then with_key pointer.key keys else keys) [] pool.pointers

abbrev pub comes_before : Pointer → Pointer → Bool
comes_before p q = nat_lt p.lane q.lane || ((p.lane == q.lane) && nat_lt p.slot q.slot)

-- pointers in order, with one more at its place
abbrev pub insert_pointer : Pointer → List Pointer → List Pointer
insert_pointer p [] = p ∷ []
insert_pointer p (q ∷ qs) = if comes_before p q then p ∷ q ∷ qs else q ∷ insert_pointer p qs

abbrev pub with_pointer : Pool → Pointer → Pool
with_pointer pool pointer = record pool { pointers = insert_pointer pointer pool.pointers }

abbrev pub without_pointer : Pool → (lane slot : ℕ) → Pool
without_pointer pool lane slot = record pool { pointers = filter (λ pointer. not (is_at lane slot pointer)) pool.pointers }

-- R holds between each element and each later one
abbrev pub Pairwise : {X : Type 0} → (X → X → Type 0) → List X → Type 0
Pairwise R [] = ⊤
Pairwise R (x ∷ xs) = AllByRecursion (R x) xs × Pairwise R xs

-- whether the table counts both under one key
abbrev pub is_shared : Pointer → Pointer → Bool
is_shared p q = is_tracked p.mark && is_tracked q.mark && key_eq p.key q.key

-- the same block, made in the same group, counted since the same moment
pub record SharesHome (p q : Pointer) : Type 0 where
  pub place : p.place ≡ q.place
  pub birth : p.birth ≡ q.birth
  pub since : since_of p.mark ≡ since_of q.mark

-- two pointers of a pool: not in one slot, of one home where the table counts both under one key, and else of two blocks
pub record GoTogether (p q : Pointer) : Type 0 where
  pub slots : is_at p.lane p.slot q ≡ false
  pub one_home : is_shared p q ≡ true → SharesHome p q
  pub two_blocks : is_shared p q ≡ false → IsApart p.place (run_length p.key) q.place (run_length q.key)

-- a pointer of a pool with so many sectors whose last group is this one
pub record LiesWithin (sectors group : ℕ) (p : Pointer) : Type 0 where
  pub start : 32 ≤ p.place
  pub end : p.place + run_length p.key ≤ sectors
  pub birth : p.birth ≤ group

-- a pool as commands leave it, on a disk of so many sectors: its pointers rise by lane and slot, and each lane has a mode
pub record IsWellFormed (sectors : ℕ) (pool : Pool) : Type 0 where
  pub rising : Pairwise (λ p q. comes_before p q ≡ true) pool.pointers
  pub together : Pairwise GoTogether pool.pointers
  pub within : AllByRecursion (LiesWithin sectors pool.group) pool.pointers
  pub modes : length pool.modes ≡ lane_count
