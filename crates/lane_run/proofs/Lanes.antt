-- A group's writes as far as they have come, one after another.
use Rattle.std.proofs.Common.{◌≡◌, ℕ, ◌+◌, ◌-◌, ◌/◌, ◌^◌, ◌<◌, ◌≤◌, cond, min, List, [], ◌∷◌, ◌++◌, length, map, take, replicate, get_or}
use Rattle.std.proofs.Common.{Some, None, Option, refl, sym, ap, subst, zero, suc, ◌∙◌, arith, append_assoc, append-nil, length-take}
use Rattle.std.specs.List.{AllByRecursion, count_by}
use Rattle.std.proofs.lemmas.List.{map-append, take_more, length-map}
use Rattle.std.proofs.Math.Seq.{take-length}
use Rattle.std.proofs.lemmas.List.Sums.{sum_by-append}
use Rattle.ddt_entry.specs.declared.key.Key.{Key}
use Rattle.disk_model.specs.Images.{Image}
use Rattle.grant_book.specs.Sectors.{AreFirstFree}
use Rattle.pool_model.specs.declared.commands.Command.{Command}
use Rattle.pool_model.specs.declared.answers.WriteAnswer.{WriteAnswer}
use Rattle.pool_model.specs.Pool.{run_length}
use Rattle.pool_model.specs.Plain.{Act, write, read, free, Task, Reply, to_write}
use Rattle.pool_model.specs.Mirrors.{WritesBlock, Stored, task_of, act_of}
use Rattle.pool_model.specs.Clash.{written_by, contents_in}
use Rattle.pool_model.specs.Command.{Turn, Course, Row, Spot, nowhere, at_home, at_fresh, is_fault, after}
use Rattle.pool_model.specs.Group.{Standing, opening_of}
use Rattle.pool_model.specs.Table.{counted_homes}
use Rattle.pool_model.proofs.Laws.{course_of-append}
use Rattle.table_state.specs.Pools.{Held}
use Rattle.table_state.specs.Sound.{IsSound}
use Rattle.table_state.specs.Closing.{block_places}
use Rattle.table_state.specs.Over.{StandsOver}
use Rattle.lane_run.specs.Groups.{IsFirstWrite}
use Rattle.lane_run.specs.Going.{IsCourse, turns_from, first_course, HasRun, HasRunOver}
use Rattle.lane_run.specs.Live.{Live, write_of, put_at, after_row, row_here, IsChosen, IsWritten, WritesAct, CountsFault}
use Rattle.lane_run.proofs.Places.{IsNew}
use Rattle.lane_run.proofs.Opened.{live_opened, course_opened}
use Rattle.lane_run.proofs.Ranges.{IsKeyed, IsNext, IsRanged, place_behind, place_new, place_within, row_ranged}
use Rattle.lane_run.proofs.Turns.{spot_places, turn_on}

-- over told contents, whatever places follow, the group goes as the definitions' course
abbrev pub GoesOver : Option Image → (List ℕ → Key) → Held → (moment : ℕ) → (others : List (List ℕ)) → List Turn → Live → Type 0
GoesOver told key_of held moment others turns live =
    (image : Image) (s : Standing) → told ≡ Some image → StandsOver image held s → (more : List ℕ)
    → IsCourse key_of image held s moment others live more (first_course key_of s moment (block_places live.contents ++ more) turns)

-- the first so many commands were done
pub record IsLane (told : Option Image) (key_of : List ℕ → Key) (held : Held) (moment : ℕ) (commands : List Command) (places : List ℕ)
    (start i before now : ℕ) (live : Live) : Type 0 where
  pub ranged : IsRanged held places start i live
  pub counts : min (before + count_by is_fault live.replies) (2 ^ 64 - 1) ≤ now
  pub going : GoesOver told key_of held moment (contents_in (map task_of commands))
      (turns_from (map task_of (take i commands)) live.replies) live

-- before the first command
pub opened_ranged : (held : Held) (places : List ℕ) (keys : ℕ) → IsRanged held places keys 0 (live_opened keys)
opened_ranged held places keys = record {
  each = refl;
  named = tt;
  brought = record {
    slots_few = omega arith;
    slots_within = tt;
    slots_more = omega arith;
    blocks_few = omega arith;
    places_are = refl;
    behind = tt;
    on_disk = tt;
    blocks = tt;
    keys_few = omega arith;
    homes = tt;
  };
}

pub lane_opened : (told : Option Image) (key_of : List ℕ
    → Key) (held : Held) (moment : ℕ) (commands : List Command) (places : List ℕ) (keys before : ℕ) → keys ≡ length
    (counted_homes held.table)
    → IsLane told key_of held moment commands places keys 0 before before (live_opened keys)
lane_opened told key_of held moment commands places keys before keys_are = record {
  ranged = opened_ranged held places keys;
  counts = omega arith;
  going = λ image s is over more. course_opened image held s over key_of moment (contents_in (map task_of commands)) keys more keys_are;
}

-- one pair more
pub turns_from-push : (tasks : List Task) (replies : List Reply) (task : Task) (reply : Reply) → length replies ≡ length tasks
    → turns_from (tasks ++ task ∷ []) (replies ++ reply ∷ []) ≡ turns_from tasks replies ++ record { task = task; reply = reply } ∷ []
turns_from-push [] [] task reply e = refl
turns_from-push [] (r ∷ replies) task reply e = absurd (omega (arith, e))
turns_from-push (t ∷ tasks) [] task reply e = absurd (omega (arith, e))
turns_from-push (t ∷ tasks) (r ∷ replies) task reply e =
    ap (λ xs. record { task = t; reply = r } ∷ xs) (turns_from-push tasks replies task reply (omega (arith, e)))

-- what holds of each content that a group writes holds of this one
all_front : {X : Type 0} (P : X → Type 0) (xs ys : List X) → AllByRecursion P (xs ++ ys) → AllByRecursion P xs × AllByRecursion P ys
all_front P [] ys all = (tt, all)
all_front P (x ∷ xs) ys all = let rest = all_front P xs ys all.1 in ((all.0, rest.0), rest.1)

content_among : (tasks : List Task) (i : ℕ) (d : Task) (content : List ℕ) → i < length tasks → (get_or tasks i d).act ≡ write content
    → (P : List ℕ → Type 0) → AllByRecursion P (contents_in tasks) → P content
content_among [] i d content below is P all = absurd (omega (arith, below))
content_among (t ∷ tasks) zero d content below is P all =
    (all_front P (content ∷ []) (contents_in tasks) (subst (λ (a : Act). AllByRecursion P (written_by a ++ contents_in tasks)) is all)).0.0
content_among (t ∷ tasks) (suc i) d content below is P all =
    content_among tasks i d content (omega (arith, below)) is P (all_front P (written_by t.act) (contents_in tasks) all).1

task_at : (commands : List Command) (i : ℕ) (d : Command) → i < length commands
    → get_or (map task_of commands) i (task_of d) ≡ task_of (get_or commands i d)
task_at [] i d below = absurd (omega (arith, below))
task_at (c ∷ commands) zero d below = refl
task_at (c ∷ commands) (suc i) d below = task_at commands i d (omega (arith, below))

-- what holds of each task holds of that of a command
pub at_index : {X Y : Type 0} (P : Y → Type 0) (f : X → Y) (xs : List X) (i : ℕ) (d : X) → i < length xs → AllByRecursion P (map f xs)
    → P (f (get_or xs i d))
at_index P f [] i d h all = absurd (omega (arith, h))
at_index P f (x ∷ xs) zero d h all = all.0
at_index P f (x ∷ xs) (suc i) d h all = at_index P f xs i d (omega (arith, h)) all.1

one_sector : (n : ℕ) → 0 < n → n ≤ 4096 → (n + 4095) / 4096 ≡ 1
one_sector n some fits = omega arith

-- the places of the blocks after a write, and what follows
places_on : (held : Held) (place slot : ℕ) (key : Key) (content : List ℕ) (live : Live) (chosen : Row) (more : List ℕ)
    → block_places (after_row held place slot key content live chosen).contents ++ more ≡ block_places
    live.contents ++ (spot_places place chosen.spot ++ more)
places_on held place slot key content live chosen more = by_spot chosen.spot
  where
    by_spot : (spot : Spot)
        → block_places (put_at
        (held.group + 1) place slot key content live spot).contents ++ more ≡ block_places live.contents ++ (spot_places place spot ++ more)
    by_spot nowhere = refl
    by_spot (at_home home mark) = refl
    by_spot (at_fresh mark) =
        ap (λ l. l ++ more) (map-append (λ (x : Stored). x.place) live.contents (record { place = place; bytes = content } ∷ []))
        ∙ append_assoc (block_places live.contents) (place ∷ []) more

replies_on : (held : Held) (place slot : ℕ) (key : Key) (content : List ℕ) (live : Live) (chosen : Row)
    → (after_row held place slot key content live chosen).replies ≡ live.replies ++ to_write chosen.answer ∷ []
replies_on held place slot key content live chosen = by_spot chosen.spot
  where
    by_spot : (spot : Spot)
        → (put_at (held.group + 1) place slot key content live spot).replies ++ to_write chosen.answer ∷ [] ≡ live.replies ++ to_write
        chosen.answer ∷ []
    by_spot nowhere = refl
    by_spot (at_home home mark) = refl
    by_spot (at_fresh mark) = refl

counts_on : (before now later : ℕ) (replies : List Reply) (answer : WriteAnswer)
    → min (before + count_by is_fault replies) (2 ^ 64 - 1) ≤ now → CountsFault now later answer → min
    (before + count_by is_fault (replies ++ to_write answer ∷ [])) (2 ^ 64 - 1) ≤ later
counts_on before now later replies answer so_far one =
    let sum : count_by is_fault (replies ++ to_write answer ∷ []) ≡ count_by is_fault replies + count_by is_fault (to_write answer ∷ []) =
    sum_by-append (λ (reply : Reply). cond (is_fault reply) 1 0) replies (to_write answer ∷ []) in
    omega (arith, so_far, one, sum)

first_task : (t : Task) (content : List ℕ) → t.lane ≡ 0 → t.act ≡ write content → t ≡ write_of t.slot content
first_task t content lane act = λ i. record { lane = lane i; slot = t.slot; act = act i }

-- one write more
module _ (told : Option Image) (key_of : List ℕ → Key) (keeps : (content : List ℕ) → (key_of content).len ≡ length content) (held : Held)
    (moment : ℕ) (commands : List Command) (places : List ℕ) (start i before now later : ℕ) (live next : Live) (command : Command)
    (place : ℕ)
    (sound : IsSound held) (early : moment < 2 ^ 40) (are_free : AreFirstFree held.used (length commands) places)
    (below : i < length commands) (is : command ≡ get_or commands i command) (first : IsFirstWrite (task_of command))
    (lane : IsLane told key_of held moment commands places start i before now live)
    (place_is : place ≡ get_or places (length live.contents) place) where
  place_below : length live.contents < length places
  place_below = omega (arith, lane.ranged.brought.blocks_few, below, are_free.count)

  is_next : IsNext held places live place
  is_next = record {
    below = place_below;
    place_is = place_is;
    start =
        subst (λ n. 32 ≤ n) (sym place_is)
        (place_behind held (length commands) places are_free place (length live.contents) place_below sound);
    end =
        subst (λ n. n < held.sectors) (sym place_is)
        (place_within held (length commands) places are_free place (length live.contents) place_below sound);
  }

  tasks_are : map task_of (take (i + 1) commands) ≡ map task_of (take i commands) ++ task_of command ∷ []
  tasks_are =
      ap (map task_of) (take_more commands i command below ∙ ap (λ x. take i commands ++ x ∷ []) (sym is)) ∙ map-append task_of
      (take i commands) (command ∷ [])

  even : length live.replies ≡ length (map task_of (take i commands))
  even = simp (length-map, length-take) (omega (arith, lane.ranged.each, below))

  module _ (content : List ℕ) (act_is : act_of command.verb ≡ write content) (some : 0 < length content) (fits : length content ≤ 4096)
      (written : IsWritten told key_of held moment place command.slot content now later live next) where
    abbrev made : Live
    made = after_row held place command.slot (key_of content) content live written.chosen

    is_among : (P : List ℕ → Type 0) → AllByRecursion P (contents_in (map task_of commands)) → P content
    is_among =
        content_among (map task_of commands) i (task_of command) content (rw length-map below)
        (ap (λ (t : Task). t.act) (task_at commands i command below ∙ sym (ap task_of is)) ∙ act_is)

    turns_are : turns_from (map task_of (take (i + 1) commands)) (live.replies ++ to_write written.chosen.answer ∷ []) ≡ turns_from
        (map task_of (take i commands)) live.replies ++ record {
          task = write_of command.slot content;
          reply = to_write written.chosen.answer;
        } ∷ []
    turns_are =
        ap (λ ts. turns_from ts (live.replies ++ to_write written.chosen.answer ∷ [])) tasks_are
        ∙ turns_from-push (map task_of (take i commands)) live.replies (task_of command) (to_write written.chosen.answer) even
        ∙ ap (λ (t : Task). turns_from
        (map task_of (take i commands)) live.replies ++ record { task = t; reply = to_write written.chosen.answer } ∷ [])
        (first_task (task_of command) content first.lane act_is)

    going_made : GoesOver told key_of held moment (contents_in (map task_of commands))
        (turns_from (map task_of (take (i + 1) commands)) made.replies) made
    going_made image s told_is over more =
        let others : List (List ℕ) = contents_in (map task_of commands) in
        let turns : List Turn = turns_from (map task_of (take i commands)) live.replies in
        let fresh : List ℕ = block_places live.contents ++ (spot_places place written.chosen.spot ++ more) in
        let course : Course = first_course key_of s moment fresh turns in
        let w = lane.going image s told_is over (spot_places place written.chosen.spot ++ more) in
        let chosen_is : written.chosen ≡ row_here key_of image held live moment command.slot content
        (is_fault (to_write written.chosen.answer)) =
        subst (λ (o : Option Image). IsChosen o key_of held live moment command.slot content written.chosen)
        told_is written.is_chosen in
        let length_is : (key_of content).len ≡ length content = keeps content in
        let long : 0 < (key_of content).len = omega (arith, length_is, some) in
        let one : run_length (key_of content) ≡ 1 = one_sector (key_of content).len long (omega (arith, length_is, fits)) in
        let is_new =
        subst (λ n. IsNew held.used live.contents n) (sym place_is)
        (place_new held (length commands) places are_free live.contents place place_below lane.ranged.brought.places_are) in
        let step =
        turn_on key_of image held s moment others over live command.slot content written.chosen place is_among long one length_is is_new
        more course w chosen_is in
        let turn : Turn = record { task = write_of command.slot content; reply = to_write written.chosen.answer } in
        let whole : first_course key_of s moment (block_places made.contents ++ more)
        (turns_from (map task_of (take (i + 1) commands)) made.replies) ≡ after (opening_of key_of s moment) course turn =
        (λ j. first_course key_of s moment (places_on held place command.slot (key_of content) content live written.chosen more j)
        (turns_from (map task_of (take (i + 1) commands))
        (replies_on held place command.slot (key_of content) content live written.chosen j)))
        ∙ ap (first_course key_of s moment fresh) turns_are
        ∙ course_of-append (opening_of key_of s moment) s.pool (fresh ∷ replicate 15 []) turns turn in
        subst (λ (c : Course). IsCourse key_of image held s moment others made more c) (sym whole) step

    is_keyed : IsKeyed command.slot (key_of content)
    is_keyed = record {
      slot_few = first.slot;
      long = (omega (arith, keeps content, some), omega (arith, keeps content, fits));
      fits = written.fits;
    }

    lane_made : IsLane told key_of held moment commands places start (i + 1) before later made
    lane_made = record {
      ranged =
          row_ranged held places start i live lane.ranged sound moment early command.slot
          (key_of content) content is_keyed fits place is_next
          written.chosen written.home_is written.since written.empty;
      counts =
          subst (λ rs. min (before + count_by is_fault rs) (2 ^ 64 - 1) ≤ later)
          (sym (replies_on held place command.slot (key_of content) content live written.chosen))
          (counts_on before now later live.replies written.chosen.answer lane.counts written.counts);
      going = going_made;
    }

    pub lane_written : IsLane told key_of held moment commands places start (i + 1) before later next
    lane_written = subst (IsLane told key_of held moment commands places start (i + 1) before later) (sym written.next_is) lane_made

  pub lane_push : WritesAct told key_of held moment place command.slot (act_of command.verb) now later live next
      → IsLane told key_of held moment commands places start (i + 1) before later next
  lane_push writes = by_act (act_of command.verb) refl first.block writes
    where
      by_act : (act : Act) → act_of command.verb ≡ act → WritesBlock act
          → WritesAct told key_of held moment place command.slot act now later live next
          → IsLane told key_of held moment commands places start (i + 1) before later next
      by_act (write content) act_is block w = lane_written content act_is block.0 block.1 w
      by_act read act_is block w = absurd block
      by_act free act_is block w = absurd block

-- all of them
pub lane_done : (told : Option Image) (key_of : List ℕ
    → Key) (held : Held) (moment : ℕ) (commands : List Command) (places : List ℕ) (start i before now : ℕ) (live : Live)
    → i ≡ length commands → IsLane told key_of held moment commands places start i before now live
    → HasRun told key_of held moment (map task_of commands) places before now live
lane_done told key_of held moment commands places start i before now live all lane =
    let many : length (map task_of commands) ≡ i = length-map commands task_of ∙ sym all in
    let whole : take i commands ≡ commands = ap (λ n. take n commands) all ∙ take-length commands in
    record {
      each = lane.ranged.each ∙ sym many;
      slots_few = omega (arith, lane.ranged.brought.slots_few, many);
      blocks_few = omega (arith, lane.ranged.brought.blocks_few, many);
      places_are = lane.ranged.brought.places_are;
      counts = lane.counts;
      course = λ image s is over.
          subst (λ (c : Course). IsCourse key_of image held s moment (contents_in (map task_of commands)) live [] c)
          (λ j. first_course key_of s moment (append-nil (block_places live.contents) j) (turns_from (map task_of (whole j)) live.replies))
          (lane.going image s is over []);
    }

-- what stands at a place of a list stands there whatever stands elsewhere
pub at_default : (xs : List ℕ) (n d e : ℕ) → n < length xs → get_or xs n d ≡ get_or xs n e
at_default [] n d e below = absurd (omega (arith, below))
at_default (x ∷ xs) zero d e below = refl
at_default (x ∷ xs) (suc n) d e below = at_default xs n d e (omega (arith, below))

-- what was run over told contents was run over these
pub run_over : (told : Option Image) (key_of : List ℕ
    → Key) (held : Held) (moment : ℕ) (tasks : List Task) (places : List ℕ) (faults : ℕ) (live : Live)
    → HasRun told key_of held moment tasks places 0 faults live → HasRunOver told key_of held moment tasks places faults live
run_over None key_of held moment tasks places faults live has = tt
run_over (Some image) key_of held moment tasks places faults live has = has

-- a group without commands
pub run_none : (told : Option Image) (key_of : List ℕ
    → Key) (held : Held) (moment : ℕ) (commands : List Command) (places : List ℕ) (keys : ℕ) → keys ≡ length (counted_homes held.table)
    → length commands ≡ 0
    → HasRun told key_of held moment (map task_of commands) places 0 0 (live_opened keys)
run_none told key_of held moment commands places keys keys_are none =
    lane_done told key_of held moment commands places keys 0 0 0 (live_opened keys) (sym none)
    (lane_opened told key_of held moment commands places keys 0 keys_are)
