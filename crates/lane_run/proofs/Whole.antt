-- A whole group: its note is that of the definitions' run, and what it leaves can be synced.
use Rattle.std.proofs.Common.{◌≡◌, ℕ, ◌+◌, ◌<◌, ◌≤◌, ◌==◌, Bool, true, false, cond, nat_lt, List, [], ◌∷◌, length, filter, map, replicate}
use Rattle.std.proofs.Common.{Some, None, Option, refl, sym, ap, subst, zero, suc, ◌∙◌, arith, add-one, append-nil}
use Rattle.std.specs.Prelude.{if◌then◌else◌, not, Result, Ok, Err, IsErrOf}
use Rattle.std.specs.List.{AllByRecursion, count_by, flat_map, range_with_len}
use Rattle.std.proofs.lemmas.List.Sums.{sum_by-cons}
use Rattle.std.proofs.lemmas.Bool.{lt-ltb, ne_eqb}
use Rattle.std.proofs.lemmas.Bool.Decides.{nat_tests}
use Rattle.ddt_entry.specs.Keys.{Keying}
use Rattle.ddt_entry.specs.declared.key.Key.{Key}
use Rattle.disk_model.specs.Images.{Image}
use Rattle.disk_model.specs.DiskLaws.{Stays}
use Rattle.pool_model.specs.declared.faults.GroupFault.{GroupFault}
use Rattle.pool_model.specs.declared.faults.GroupFault.TheVariants as faults
use Rattle.pool_model.specs.declared.notes.Outcome.{Outcome}
use Rattle.grant_book.specs.Sectors.{AreFirstFree}
use Rattle.pool_model.specs.declared.commands.Mode.{Mode}
use Rattle.pool_model.specs.declared.commands.Mode.TheVariants.{Off, On, Verify}
use Rattle.pool_model.specs.declared.notes.Outcome.TheVariants.{NoSpace}
use Rattle.pool_model.specs.Pool.{mode_of}
use Rattle.pool_model.specs.Plain.{Act, write, read, free, Task, Reply, Told, lanes}
use Rattle.pool_model.specs.Mirrors.{WritesBlock}
use Rattle.pool_model.specs.Space.{need, space_lacking, changes_in, writes_in, is_write, is_free_act}
use Rattle.pool_model.specs.Table.{flush_limit}
use Rattle.pool_model.specs.Clash.{HasNoOther, contents_in, is_on}
use Rattle.pool_model.specs.Command.{Turn, Course, is_fault}
use Rattle.pool_model.specs.Group.{Standing, opening_of, course_of, tasks_of, lanes_of, turns_of, lanes_in_turn, lane_by_lane, fresh_of, HasEachLane, Agrees, AreFresh, IsFree, after_lanes}
use Rattle.pool_model.specs.Run.{noted_course, AnswersAsRun, sealed_standing}
use Rattle.table_state.specs.Pools.{Held}
use Rattle.table_state.specs.Closing.{block_places}
use Rattle.table_state.specs.Over.{StandsOver}
use Rattle.lane_run.specs.Groups.{IsFirstWrite, HasNoClash, KeepsWaiting, IsRunFrom}
use Rattle.lane_run.specs.Going.{IsCourse, Trusted, turns_from, first_course, HasRun, HasRunOver, Opens, lanes_here}
use Rattle.lane_run.specs.Live.{Live, first_mode, group_here}
use Rattle.lane_run.proofs.Leaving.{fresh_given, table_is, pool_stands, can_sync, keeps_waiting, stays_waiting, logs_are}
use Rattle.pool_model.specs.Waiting.{WaitingStays}
use Rattle.pool_model.proofs.Loops.{filter-none}

-- ---- Lane 0 alone

-- all commands are of lane 0
tasks_of-first : (tasks : List Task) → AllByRecursion IsFirstWrite tasks → tasks_of 0 tasks ≡ tasks
tasks_of-first [] all = refl
tasks_of-first (task ∷ tasks) all =
    let here : (task.lane == 0) ≡ true = ap (λ n. n == 0) all.0.lane in
    rw here (ap (λ xs. task ∷ xs) (tasks_of-first tasks all.1))

tasks_of-other : (lane : ℕ) (tasks : List Task) → AllByRecursion IsFirstWrite tasks → tasks_of (suc lane) tasks ≡ []
tasks_of-other lane [] all = refl
tasks_of-other lane (task ∷ tasks) all =
    let elsewhere : (task.lane == suc lane) ≡ false = ne_eqb task.lane (suc lane) (λ e. absurd (omega (arith, e, all.0.lane))) in
    rw elsewhere (tasks_of-other lane tasks all.1)

none_above : (tasks : List Task) → AllByRecursion IsFirstWrite tasks → (a n : ℕ)
    → AllByRecursion (λ lane. nat_lt 0 (length (tasks_of lane tasks)) ≡ false) (range_with_len (suc a) n)
none_above tasks all a zero = tt
none_above tasks all a (suc n) = (rw (tasks_of-other a tasks all) refl, rw add-one (none_above tasks all (suc a) n))

filter-first : (test : ℕ → Bool) (n : ℕ) → test 0 ≡ true → AllByRecursion (λ lane. test lane ≡ false) (range_with_len 1 n)
    → filter test (range_with_len 0 (suc n)) ≡ 0 ∷ []
filter-first test n first none = rw first (ap (λ xs. 0 ∷ xs) (filter-none test (range_with_len 1 n) none))

lanes_of-first : (tasks : List Task) → AllByRecursion IsFirstWrite tasks → 0 < length tasks → lanes_of tasks ≡ 0 ∷ []
lanes_of-first tasks all some =
    let longer : 0 < length (tasks_of 0 tasks) = rw (tasks_of-first tasks all) some in
    filter-first (λ lane. nat_lt 0 (length (tasks_of lane tasks))) 15 (lt-ltb 0 (length (tasks_of 0 tasks)) longer)
    (none_above tasks all 0 15)

replies_of-turns : (tasks : List Task) (replies : List Reply) → length replies ≡ length tasks
    → map (λ (turn : Turn). turn.reply) (turns_from tasks replies) ≡ replies
replies_of-turns [] [] e = refl
replies_of-turns [] (reply ∷ replies) e = absurd (omega (arith, e))
replies_of-turns (task ∷ tasks) [] e = absurd (omega (arith, e))
replies_of-turns (task ∷ tasks) (reply ∷ replies) e = ap (λ xs. reply ∷ xs) (replies_of-turns tasks replies (omega (arith, e)))

empties : (n : ℕ) → AllByRecursion {X = List ℕ} (λ places. places ≡ []) (replicate n [])
empties zero = tt
empties (suc n) = (refl, empties n)

no_items : {X : Type 0} (xs : List X) → length xs ≤ 0 → xs ≡ []
no_items [] few = refl
no_items (x ∷ xs) few = absurd (omega (arith, few))

one_or_none : (b : Bool) → cond b 1 0 ≤ 1
one_or_none true = omega arith
one_or_none false = omega arith

faults_few : (replies : List Reply) → count_by is_fault replies ≤ length replies
faults_few [] = omega arith
faults_few (r ∷ replies) =
    let sum : count_by is_fault (r ∷ replies) ≡ cond (is_fault r) 1 0 + count_by is_fault replies =
    sum_by-cons (λ (x : Reply). cond (is_fault x) 1 0) r replies in
    omega (arith, sum, one_or_none (is_fault r), faults_few replies)

-- each command is a write
write_tests : (act : Act) → WritesBlock act → (is_write act ≡ true) × (is_free_act act ≡ false)
write_tests (write content) block = (refl, refl)
write_tests read block = absurd block
write_tests free block = absurd block

pub writes_all : (tasks : List Task) → AllByRecursion IsFirstWrite tasks → writes_in tasks ≡ length tasks
writes_all [] all = refl
writes_all (t ∷ ts) all =
    let sum : writes_in (t ∷ ts) ≡ cond (is_write t.act) 1 0 + writes_in ts = sum_by-cons (λ (x : Task). cond (is_write x.act) 1 0) t ts in
    let here : cond {A = ℕ} (is_write t.act) 1 0 ≡ 1 = ap (λ b. cond b 1 0) (write_tests t.act all.0.block).0 in
    omega (arith, sum, here, writes_all ts all.1)

frees_none : (tasks : List Task) → AllByRecursion IsFirstWrite tasks → count_by (λ task. is_free_act task.act) tasks ≡ 0
frees_none [] all = refl
frees_none (t ∷ ts) all =
    let sum : count_by (λ task. is_free_act task.act) (t ∷ ts) ≡ cond (is_free_act t.act) 1 0 + count_by (λ task. is_free_act task.act) ts =
    sum_by-cons (λ (x : Task). cond (is_free_act x.act) 1 0) t ts in
    let here : cond {A = ℕ} (is_free_act t.act) 1 0 ≡ 0 = ap (λ b. cond b 1 0) (write_tests t.act all.0.block).1 in
    omega (arith, sum, here, frees_none ts all.1)

pub changes_all : (tasks : List Task) → AllByRecursion IsFirstWrite tasks → changes_in tasks ≡ length tasks
changes_all tasks all = omega (arith, writes_all tasks all, frees_none tasks all)

trusted_by : (m : Mode) (key_of : List ℕ → Key) (s : Standing) (moment : ℕ) (tasks : List Task) → mode_of s.pool 0 ≡ m
    → AllByRecursion IsFirstWrite tasks → HasNoClash key_of s moment tasks → Trusted m key_of s (contents_in tasks)
trusted_by Off key_of s moment tasks mode all clash = tt
trusted_by Verify key_of s moment tasks mode all clash = tt
trusted_by On key_of s moment tasks mode all clash =
    subst (AllByRecursion (HasNoOther key_of s (contents_in tasks))) (ap contents_in (each tasks all)) clash
  where
    each : (ts : List Task) → AllByRecursion IsFirstWrite ts → filter (λ task. is_on (mode_of s.pool task.lane)) ts ≡ ts
    each [] firsts = refl
    each (t ∷ ts) firsts =
        let here : is_on (mode_of s.pool t.lane) ≡ true = ap (λ n. is_on (mode_of s.pool n)) firsts.0.lane ∙ ap is_on mode in
        ap (λ b. cond b (t ∷ filter (λ task. is_on (mode_of s.pool task.lane)) ts)
        (filter (λ task. is_on (mode_of s.pool task.lane)) ts)) here ∙ ap (λ xs. t ∷ xs) (each ts firsts.1)

-- ---- The note

module _ (keying : Keying) (image : Image) (held : Held) (s : Standing) (over : StandsOver image held s) (moment : ℕ) (tasks : List Task)
    (firsts : AllByRecursion IsFirstWrite tasks) (places : List ℕ) (are_free : AreFirstFree held.used (length tasks) places) (live : Live)
    (told : Option Image) (faults : ℕ) (has : HasRun told keying.key_of held moment tasks places 0 faults live)
    (told_is : told ≡ Some image) (few : length tasks ≤ 65536) (note : Told)
    (note_is : note.lanes ≡ lanes_here tasks live.replies (block_places live.contents) faults)
    (room : space_lacking (count_by not held.used)
    (need (length held.pages) (flush_limit held.table) (changes_in tasks) (writes_in tasks)) ≡ None) where
  abbrev w : IsCourse keying.key_of image held s moment (contents_in tasks) live []
      (first_course keying.key_of s moment (block_places live.contents) (turns_from tasks live.replies))
  w = has.course image s told_is over

  abbrev course : Course
  course = first_course keying.key_of s moment (block_places live.contents) (turns_from tasks live.replies)

  -- by whether there are commands
  pub record IsNoted : Type 0 where
    pub order : lane_by_lane tasks note ≡ turns_from tasks live.replies
    pub course_is : noted_course (lanes_in_turn keying) s moment tasks note ≡ course
    pub lanes : HasEachLane tasks note.lanes

  noted : (ts : List Task) → tasks ≡ ts → IsNoted
  noted [] none =
      let lanes_are : note.lanes ≡ [] = note_is ∙ ap (λ ts. lanes_here ts live.replies (block_places live.contents) faults) none in
      let no_tasks : length tasks ≡ 0 = ap length none in
      let no_blocks : block_places live.contents ≡ [] =
      ap block_places (no_items live.contents (omega (arith, has.blocks_few, no_tasks))) in
      let turns_none : turns_from tasks live.replies ≡ [] = ap (λ ts. turns_from ts live.replies) none in
      let order : lane_by_lane tasks note ≡ turns_from tasks live.replies = ap (flat_map (turns_of tasks)) lanes_are ∙ sym turns_none in
      record {
        order = order;
        course_is =
            (λ i. course_of (opening_of keying.key_of s moment) s.pool (fresh_of (lanes_are i)) (order i))
            ∙ (λ i. course_of (opening_of keying.key_of s moment) s.pool (sym no_blocks i ∷ replicate 15 [])
            (turns_from tasks live.replies));
        lanes =
            subst (HasEachLane tasks) (sym lanes_are)
            (subst (λ ts. HasEachLane ts []) (sym none) (record { lanes = refl; replies = tt; faults = tt }));
      }
  noted (t ∷ ts) some =
      let lanes_are : note.lanes ≡ record { lane = 0; replies = live.replies; fresh = block_places live.contents; faults = faults } ∷ [] =
      note_is ∙ ap (λ xs. lanes_here xs live.replies (block_places live.contents) faults) some in
      let whole : tasks_of 0 tasks ≡ tasks = tasks_of-first tasks firsts in
      let longer : length tasks ≡ suc (length ts) = ap length some in
      let order : lane_by_lane tasks note ≡ turns_from tasks live.replies =
      ap (flat_map (turns_of tasks)) lanes_are ∙ append-nil (turns_from (tasks_of 0 tasks) live.replies) ∙ ap
      (λ xs. turns_from xs live.replies) whole in
      let counted : count_by is_fault live.replies ≤ faults = omega (arith, has.counts, faults_few live.replies, has.each, few) in
      record {
        order = order;
        course_is = λ i. course_of (opening_of keying.key_of s moment) s.pool (fresh_of (lanes_are i)) (order i);
        lanes =
            subst (HasEachLane tasks) (sym lanes_are)
            (record {
              lanes = sym (lanes_of-first tasks firsts (omega (arith, longer)));
              replies = (has.each ∙ sym (ap length whole), tt);
              faults = (counted, tt);
            });
      }

  is_noted : IsNoted
  is_noted = noted tasks refl

  agrees : Agrees course (turns_from tasks live.replies)
  agrees =
      record {
        replies = w.told ∙ sym (replies_of-turns tasks live.replies has.each);
        fresh = subst (AllByRecursion (λ places. places ≡ []))
            (sym w.fresh) (refl, empties 15);
      }

  answers : AnswersAsRun (lanes_in_turn keying) s moment tasks note
  answers = record {
    lanes = is_noted.lanes;
    agrees =
        subst (λ (c : Course). Agrees c (lane_by_lane tasks note)) (sym is_noted.course_is)
        (subst (Agrees course) (sym is_noted.order) agrees);
  }

  as_sealed : sealed_standing (lanes_in_turn keying) s (lanes moment tasks) note [] ≡ after_lanes
      (opening_of keying.key_of s moment) s course []
  as_sealed = ap (λ (c : Course). after_lanes (opening_of keying.key_of s moment) s c []) is_noted.course_is

  enough : need (length held.pages) (flush_limit held.table) (length tasks) (length tasks) ≤ count_by not held.used
  enough =
      not_lacking (count_by not held.used) (need (length held.pages) (flush_limit held.table) (length tasks) (length tasks))
      ((λ i. space_lacking (count_by not held.used)
      (need (length held.pages) (flush_limit held.table) (sym (changes_all tasks firsts) i) (sym (writes_all tasks firsts) i))) ∙ room)
    where
      not_lacking : (left needed : ℕ) → space_lacking left needed ≡ None → needed ≤ left
      not_lacking left needed none =
          elim (nat_lt left needed) as (λ b. (nat_lt left needed ≡ b) → (if b then Some (NoSpace needed left) else None) ≡ None
          → needed ≤ left) [ true ↦ λ _ bad. absurd (cc bad) | false ↦ λ no _. grind (arith, nat_tests, no) ] refl none

  pub run_from : IsRunFrom (lanes_in_turn keying) image held s moment tasks note (group_here held live)
  run_from = record {
    answers = answers;
    fresh =
        subst (λ (c : Course). AreFresh (IsFree s) c.given) (sym is_noted.course_is)
        (fresh_given keying.key_of image held s over moment tasks firsts (length tasks) places are_free live has.places_are w);
    can_sync =
        can_sync keying.key_of image held s over moment tasks firsts
        (length tasks) places are_free live has.places_are w has.slots_few has.blocks_few enough;
    table_is =
        table_is keying.key_of image held s over moment tasks firsts (length tasks) places are_free live has.places_are w ∙ sym
        (ap (λ (x : Standing). x.table) as_sealed);
    logs_are =
        logs_are keying.key_of image held s over moment tasks firsts (length tasks) places are_free live has.places_are w ∙ sym
        (ap (λ (x : Standing). x.logs) as_sealed);
    pool_is = λ clash.
        pool_stands keying.key_of image held s over moment tasks firsts (length tasks) places are_free live has.places_are w
        (trusted_by (first_mode held.modes) keying.key_of s moment tasks (ap first_mode (sym over.is_held.modes_are)) firsts clash)
        ∙ sym (ap (λ (x : Standing). x.pool) as_sealed);
    waiting =
        subst (KeepsWaiting image held) (sym as_sealed)
        (keeps_waiting keying.key_of image held s over moment tasks firsts (length tasks) places are_free live has.places_are w);
    waiting_stays =
        subst (WaitingStays s) (sym as_sealed)
        (stays_waiting keying.key_of image held s over moment tasks firsts (length tasks) places are_free live has.places_are w);
  }

-- what a group of writes needs, by its commands or by their number
pub room_same : (left pages limit writes : ℕ) (tasks : List Task) → AllByRecursion IsFirstWrite tasks → writes ≡ length tasks
    → space_lacking left (need pages limit writes writes) ≡ space_lacking left (need pages limit (changes_in tasks) (writes_in tasks))
room_same left pages limit writes tasks all count =
    λ i. space_lacking left (need pages limit ((count ∙ sym (changes_all tasks all)) i) ((count ∙ sym (writes_all tasks all)) i))

-- a group that didn't open for want of room
pub unopened : {T : Type 0} (lacks other : Option Outcome) (before now : ℕ) (opened : Result (Unit {0}) GroupFault)
    (r : Result T GroupFault) (needed left : ℕ) → (IsErrOf r (faults.NoSpace needed left) → IsErrOf opened (faults.NoSpace needed left))
    → Opens lacks before now opened → lacks ≡ other
    → IsErrOf r (faults.NoSpace needed left) → other ≡ Some (NoSpace needed left)
unopened lacks other before now opened r needed left leads opens same is = sym same ∙ by_result opened opens (leads is)
  where
    by_fault : (fault : GroupFault) → Opens lacks before now (Err fault) → IsErrOf {T = Unit {0}} (Err fault) (faults.NoSpace needed left)
        → lacks ≡ Some (NoSpace needed left)
    by_fault (faults.NoSpace n l) opens is =
        let a : n ≡ needed = cc is in
        let b : l ≡ left = cc is in
        opens ∙ (λ i. Some (NoSpace (a i) (b i)))
    by_fault faults.ReadFault opens is = absurd opens
    by_fault faults.WriteFault opens is = absurd (cc is)
    by_fault (faults.Damaged sector) opens is = absurd opens
    by_fault faults.Memory opens is = absurd opens

    by_result : (o : Result (Unit {0}) GroupFault) → Opens lacks before now o → IsErrOf o (faults.NoSpace needed left)
        → lacks ≡ Some (NoSpace needed left)
    by_result (Ok done) opens is = absurd (cc is)
    by_result (Err fault) opens is = by_fault fault opens is

-- what was run over told contents
pub over_told : (told : Option Image) (key_of : List ℕ
    → Key) (held : Held) (moment : ℕ) (tasks : List Task) (places : List ℕ) (faults : ℕ) (live : Live) (image : Image) → told ≡ Some image
    → HasRunOver told key_of held moment tasks places faults live → HasRun (Some image) key_of held moment tasks places 0 faults live
over_told told key_of held moment tasks places faults live image is has =
    subst (λ (o : Option Image). HasRunOver o key_of held moment tasks places faults live) is has

-- contents that stay are told again
pub told_still : (old new : Option Image) (image : Image) → Stays old new → old ≡ Some image → new ≡ Some image
told_still None new image stays is = absurd (cc is)
told_still (Some there) new image stays is = stays ∙ is
