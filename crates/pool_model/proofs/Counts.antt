-- How many runs, pointers, keys and changes a course has: at most one more a turn.
use Rattle.std.proofs.Common.{ℕ, ◌+◌, ◌≤◌, Bool, true, false, cond, List, [], ◌∷◌, ◌++◌, length, filter, fold, Option, Some, None, arith, length-append}
use Rattle.std.specs.Prelude.{if◌then◌else◌}
use Rattle.std.specs.List.{filter_map, cons_option}
use Rattle.std.specs.Ordering.{is_eq, is_lt}
use Rattle.ddt_entry.specs.declared.key.Key.{Key}
use Rattle.ddt_entry.specs.Keys.{key_cmp}
use Rattle.pool_model.specs.declared.answers.FreeAnswer.TheVariants as freed
use Rattle.pool_model.specs.Pool.{Pool, Pointer, Mark, plain, tracked, loose, comes_before, insert_pointer, with_key, held, mode_of}
use Rattle.pool_model.specs.Plain.{Act, write, read, free, Task, Reply, to_free, to_write}
use Rattle.pool_model.specs.Command.{Opening, Turn, Course, Spot, nowhere, at_home, at_fresh, placed, naming, replied, released, free_by_mark, after_free, after_act, after, write_row, uses_table, is_fault}
use Rattle.pool_model.specs.Group.{opened, course_of, touched_keys, change_of, changes_of}

length-insert_pointer : (p : Pointer) (ps : List Pointer) → length (insert_pointer p ps) ≤ length ps + 1
length-insert_pointer p [] = omega arith
length-insert_pointer p (q ∷ qs) =
    let rest = length-insert_pointer p qs in
    elim (comes_before p q) as (λ b. length (cond b (p ∷ q ∷ qs) (q ∷ insert_pointer p qs)) ≤ length
    (q ∷ qs) + 1) [ true ↦ omega arith | false ↦ omega arith ]

filter-shorter : (test : Pointer → Bool) (ps : List Pointer) → length (filter test ps) ≤ length ps
filter-shorter test [] = omega arith
filter-shorter test (p ∷ ps) =
    let rest = filter-shorter test ps in
    elim (test p) as (λ b. length (cond b (p ∷ filter test ps) (filter test ps)) ≤ length
    (p ∷ ps)) [ true ↦ omega arith | false ↦ omega arith ]

-- one key more at the most
pub length-with_key : (key : Key) (keys : List Key) → length (with_key key keys) ≤ length keys + 1
length-with_key key [] = omega arith
length-with_key key (k ∷ ks) =
    let rest = length-with_key key ks in
    elim (is_lt (key_cmp key k)) as (λ b. length
    (if b then key ∷ k ∷ ks else (if is_eq (key_cmp key k) then k ∷ ks else k ∷ with_key key ks)) ≤ length (k ∷ ks) + 1) [
      | true ↦ omega arith
      | false ↦ elim (is_eq (key_cmp key k)) as (λ b. length (if b then k ∷ ks else k ∷ with_key key ks) ≤ length
          (k ∷ ks) + 1) [ true ↦ omega arith | false ↦ omega arith ]
    ]

length-with_keys : (more keys : List Key) → length (fold (λ keys key. with_key key keys) keys more) ≤ length keys + length more
length-with_keys [] keys = omega arith
length-with_keys (key ∷ more) keys =
    let rest = length-with_keys more (with_key key keys) in
    let one = length-with_key key keys in
    omega arith

length-filter_map : {X Y : Type 0} (h : X → Option Y) (xs : List X) → length (filter_map h xs) ≤ length xs
length-filter_map {X} {Y} h [] = omega arith
length-filter_map {X} {Y} h (x ∷ xs) = by_item (h x) (length-filter_map h xs)
  where
    by_item : (o : Option Y) → length (filter_map h xs) ≤ length xs → length (cons_option o (filter_map h xs)) ≤ length (x ∷ xs)
    by_item None rest = omega arith
    by_item (Some y) rest = omega arith

-- at most one run, one pointer and one named key more
pub record IsLonger (course later : Course) : Type 0 where
  pub given : length later.given ≤ length course.given + 1
  pub pointers : length later.pool.pointers ≤ length course.pool.pointers + 1
  pub touched : length later.touched ≤ length course.touched + 1

one_more : {X : Type 0} (xs : List X) (x : X) → length (xs ++ x ∷ []) ≤ length xs + 1
one_more xs x = omega (arith, length-append xs (x ∷ []))

spot_longer : (opening : Opening) (course : Course) (task : Task) (content : List ℕ) (reply : Reply) (key : Key) (named : Bool)
    (spot : Spot) → IsLonger course (naming named key (replied reply (placed opening course task content spot)))
spot_longer opening course task content reply key true nowhere =
    record { given = omega arith; pointers = omega arith; touched = one_more course.touched key }
spot_longer opening course task content reply key false nowhere =
    record { given = omega arith; pointers = omega arith; touched = omega arith }
spot_longer opening course task content reply key true (at_home home mark) =
    record { given = omega arith; pointers = length-insert_pointer _ course.pool.pointers; touched = one_more course.touched key }
spot_longer opening course task content reply key false (at_home home mark) =
    record { given = omega arith; pointers = length-insert_pointer _ course.pool.pointers; touched = omega arith }
spot_longer opening course task content reply key true (at_fresh mark) =
    record {
      given = one_more course.given _;
      pointers = length-insert_pointer _ course.pool.pointers;
      touched =
          one_more course.touched key;
    }
spot_longer opening course task content reply key false (at_fresh mark) =
    record { given = one_more course.given _; pointers = length-insert_pointer _ course.pool.pointers; touched = omega arith }

shorter : (test : Pointer → Bool) (ps : List Pointer) → length (filter test ps) ≤ length ps + 1
shorter test ps = omega (arith, filter-shorter test ps)

free_longer : (mark : Mark) (course : Course) (turn : Turn) (key : Key) → IsLonger course (free_by_mark mark course turn key)
free_longer plain course turn key = record { given = omega arith; pointers = shorter _ course.pool.pointers; touched = omega arith }
free_longer (tracked since) course turn key =
    elim (is_fault turn.reply) as (λ b. IsLonger course
    (naming true key (cond b (replied (to_free freed.Fault) course) (replied (to_free freed.Counted) (released course turn.task))))) [
      | true ↦ record { given = omega arith; pointers = omega arith; touched = one_more course.touched key }
      | false ↦ record { given = omega arith; pointers = shorter _ course.pool.pointers; touched = one_more course.touched key }
    ]
free_longer loose course turn key =
    elim (is_fault turn.reply) as (λ b. IsLonger course
    (naming true key (cond b (replied (to_free freed.Fault) course) (replied (to_free freed.Loose) (released course turn.task))))) [
      | true ↦ record { given = omega arith; pointers = omega arith; touched = one_more course.touched key }
      | false ↦ record { given = omega arith; pointers = shorter _ course.pool.pointers; touched = one_more course.touched key }
    ]

held_longer : (there : Option Pointer) (course : Course) (turn : Turn) → IsLonger course (after_free there course turn)
held_longer None course turn = record { given = omega arith; pointers = omega arith; touched = omega arith }
held_longer (Some p) course turn = free_longer p.mark course turn p.key

act_longer : (act : Act) (opening : Opening) (course : Course) (turn : Turn) → IsLonger course (after_act act opening course turn)
act_longer (write content) opening course turn =
    spot_longer opening course turn.task content (to_write (write_row opening course turn content).answer) (opening.key_of content)
    (uses_table (mode_of course.pool turn.task.lane)) (write_row opening course turn content).spot
act_longer read opening course turn = record { given = omega arith; pointers = omega arith; touched = omega arith }
act_longer free opening course turn = held_longer (held course.pool turn.task.lane turn.task.slot) course turn

-- the turns of a course
pub record IsLongerBy (turns : ℕ) (course later : Course) : Type 0 where
  pub given : length later.given ≤ length course.given + turns
  pub pointers : length later.pool.pointers ≤ length course.pool.pointers + turns
  pub touched : length later.touched ≤ length course.touched + turns

fold_longer : (opening : Opening) (turns : List Turn) (course : Course)
    → IsLongerBy (length turns) course (fold (after opening) course turns)
fold_longer opening [] course = record { given = omega arith; pointers = omega arith; touched = omega arith }
fold_longer opening (turn ∷ turns) course =
    let rest = fold_longer opening turns (after opening course turn) in
    let one = act_longer turn.task.act opening course turn in
    record {
      given = omega (arith, rest.given, one.given);
      pointers = omega (arith, rest.pointers, one.pointers);
      touched = omega (arith, rest.touched, one.touched);
    }

-- a course's runs, pointers and changes
pub course_counts : (opening : Opening) (pool : Pool) (fresh : List (List ℕ)) (turns : List Turn)
    → (length (course_of opening pool fresh turns).given ≤ length turns)
    × (length (course_of opening pool fresh turns).pool.pointers ≤ length pool.pointers + length turns)
    × (length (changes_of opening (course_of opening pool fresh turns)) ≤ length turns)
course_counts opening pool fresh turns =
    let course = course_of opening pool fresh turns in
    let all = fold_longer opening turns (opened pool fresh) in (
      omega (arith, all.given),
      all.pointers,
      omega
          (arith, length-filter_map (change_of opening course) (touched_keys course), length-with_keys course.touched [], all.touched),
    )
