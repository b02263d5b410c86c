-- Any turn of a course: a step, or a pointer taken out of its slot.
use Rattle.std.proofs.Common.{◌≡◌, ℕ, ◌+◌, ◌≤◌, Bool, true, false, cond, not, ◌&&◌, List, [], ◌∷◌, ◌++◌, filter, Option, Some, None, refl, sym, ap, subst, ◌∙◌}
use Rattle.std.specs.List.{find}
use Rattle.ddt_entry.specs.declared.key.Key.{Key}
use Rattle.ddt_entry.specs.declared.entry.Home.{Home}
use Rattle.ddt_entry.specs.Keys.{key_eq}
use Rattle.pool_model.specs.declared.answers.FreeAnswer.TheVariants as freed
use Rattle.pool_model.specs.Pool.{Pool, Pointer, Mark, plain, tracked, loose, Pairwise, GoTogether, run_length, is_tracked, is_at, tracks, held, insert_pointer}
use Rattle.pool_model.specs.Table.{found}
use Rattle.pool_model.specs.Plain.{Act, write, read, free, Reply, to_free}
use Rattle.pool_model.specs.Command.{Opening, Turn, Course, last_tracked, is_fault, naming, replied, released, free_by_mark, after_free, after_act, after}
use Rattle.pool_model.specs.ByKey.{AreFreshByKey, is_touched}
use Rattle.pool_model.proofs.Homes.{left_by, left_after, home_now, left_by-later, home_now-later, left_by-none, none_now}
use Rattle.pool_model.proofs.Removing.{taken_kept, taken_others}
use Rattle.pool_model.proofs.Aside.{AreBefore, IsAside, taken_aside, home_aside, fresh_aside}
use Rattle.pool_model.proofs.Putting.{left_of, home_of, any_last, IsPut, IsAlone, uncounted, unshared, Step, stood, put_fresh, put_home, write_step}
use Rattle.pool_model.proofs.Courses.{KeptAt, same_kept, fresh_last, kept_step, given_step, IsTouching, touching_step}

-- the pointer of a slot was taken out, and its key was named if it was counted
pub record IsTaken (course later : Course) (lane slot : ℕ) (p : Pointer) : Type 0 where
  pub there : find (is_at lane slot) course.pool.pointers ≡ Some p
  pub pool : later.pool.pointers ≡ filter (λ q. not (is_at lane slot q)) course.pool.pointers
  pub earlier : later.earlier ≡ course.pool ∷ course.earlier
  pub given : later.given ≡ course.given
  pub touched : (key : Key) → is_touched key later ≡ false → (is_touched key course ≡ false) × (tracks key p ≡ false)

pub data Turns (opening : Opening) (course later : Course) : Type 0 where
  steps : Step opening course later → Turns opening course later
  takes : (lane slot : ℕ) (p : Pointer) → IsTaken course later lane slot p → Turns opening course later

module _ (opening : Opening) (course : Course) (turn : Turn) where
  still_named : (key : Key) (reply : Reply) → Turns opening course (naming true key (replied reply course))
  still_named key reply = steps (stood refl refl refl (λ k none. (any_last (λ named. key_eq named k) course.touched key none).0))

  taken_named : (p : Pointer) (reply : Reply) → held course.pool turn.task.lane turn.task.slot ≡ Some p
      → Turns opening course (naming true p.key (replied reply (released course turn.task)))
  taken_named p reply there = takes turn.task.lane turn.task.slot p (record {
    there = there;
    pool = refl;
    earlier = refl;
    given = refl;
    touched = λ k none. let both = any_last (λ named. key_eq named k) course.touched p.key none in
        (both.0, unless (is_tracked p.mark) (key_eq p.key k) both.1);
  })
    where
      unless : (b e : Bool) → e ≡ false → (b && e) ≡ false
      unless true e differs = differs
      unless false e differs = refl

  free_turns : (mark : Mark) (p : Pointer) → p.mark ≡ mark → held course.pool turn.task.lane turn.task.slot ≡ Some p
      → Turns opening course (free_by_mark mark course turn p.key)
  free_turns plain p is there = takes turn.task.lane turn.task.slot p (record {
    there = there;
    pool = refl;
    earlier = refl;
    given = refl;
    touched = λ k none. (none, ap (λ (m : Mark). is_tracked m && key_eq p.key k) is);
  })
  free_turns (tracked since) p is there =
      elim (is_fault turn.reply) as (λ b. Turns opening course
      (naming true p.key (cond b (replied (to_free freed.Fault) course)
      (replied (to_free freed.Counted) (released course turn.task)))))
      [ true ↦ still_named p.key (to_free freed.Fault) | false ↦ taken_named p (to_free freed.Counted) there ]
  free_turns loose p is there =
      elim (is_fault turn.reply) as (λ b. Turns opening course
      (naming true p.key (cond b (replied (to_free freed.Fault) course) (replied (to_free freed.Loose) (released course turn.task)))))
      [ true ↦ still_named p.key (to_free freed.Fault) | false ↦ taken_named p (to_free freed.Loose) there ]

  held_turns : (there : Option Pointer) → held course.pool turn.task.lane turn.task.slot ≡ there
      → Turns opening course (after_free there course turn)
  held_turns None is = steps (stood refl refl refl (λ k none. none))
  held_turns (Some p) is = free_turns p.mark p refl is

  act_turns : (act : Act) → Turns opening course (after_act act opening course turn)
  act_turns (write content) = steps (write_step opening course turn content)
  act_turns read = steps (stood refl refl refl (λ k none. none))
  act_turns free = held_turns (held course.pool turn.task.lane turn.task.slot) refl

  -- each turn is one of these
  pub one_turn : Turns opening course (after opening course turn)
  one_turn = act_turns turn.task.act

-- a key that wasn't named keeps the home that the table found
pub touching_turn : (opening : Opening) (course later : Course) → Pairwise GoTogether course.pool.pointers → Turns opening course later
    → IsTouching opening course → IsTouching opening later
touching_turn opening course later pairs (steps step) touching = touching_step opening course later step touching
touching_turn opening course later pairs (takes lane slot p is) touching = λ key none.
    let was = is.touched key none in
    (λ i. home_now (left_by (found opening.table key) (last_tracked key (is.earlier i))) (filter (tracks key) (is.pool i)))
    ∙ ap (λ (l : List Pointer). home_now (left_by (found opening.table key) (last_tracked key (course.pool ∷ course.earlier))) l)
    (taken_others key lane slot course.pool.pointers p pairs is.there was.1)
    ∙ ap (λ (o : Option Home). home_now o (filter (tracks key) course.pool.pointers))
    (left_by-later (found opening.table key) (last_tracked key course.earlier) (filter (tracks key) course.pool.pointers))
    ∙ home_now-later (left_of opening course key) (filter (tracks key) course.pool.pointers)
    ∙ touching key was.0

module _ (sectors : ℕ) (unnamed : (place length : ℕ) → Type 0)
    (inside : (place length : ℕ) → unnamed place length → (32 ≤ place) × (place + length ≤ sectors)) (opening : Opening) where
  pub given_turn : (course later : Course) → Turns opening course later → AreFreshByKey unnamed later.given
      → AreFreshByKey unnamed course.given
  given_turn course later (steps step) fresh = given_step sectors unnamed inside opening course later step fresh
  given_turn course later (takes lane slot p is) fresh = subst (AreFreshByKey unnamed) is.given fresh

  pub kept_turn : (course later : Course) → Turns opening course later → AreFreshByKey unnamed later.given
      → KeptAt sectors unnamed inside opening course → KeptAt sectors unnamed inside opening later
  kept_turn course later (steps step) fresh kept = kept_step sectors unnamed inside opening course later step fresh kept
  kept_turn course later (takes lane slot p is) fresh kept =
      same_kept sectors unnamed inside opening course.given later.given
      (filter (λ q. not (is_at lane slot q)) course.pool.pointers) later.pool.pointers
      (course.pool ∷ course.earlier) later.earlier is.given is.pool is.earlier
      (taken_kept (λ q. not (is_at lane slot q)) course.pool.pointers (left_of opening course)
      (λ key. left_by (found opening.table key) (last_tracked key (course.pool ∷ course.earlier)))
      (λ key. left_by-later (found opening.table key) (last_tracked key course.earlier) (filter (tracks key) course.pool.pointers))
      sectors opening.number unnamed course.given kept)

  abbrev AsideIn : List Pointer → List Pool → Type 0
  AsideIn ps earlier = IsAside opening.number (found opening.table) ps
      (λ key. left_by (found opening.table key) (last_tracked key earlier))

  -- the homes that the group knows, of its course
  abbrev pub AsideAt : Course → Type 0
  AsideAt course = AsideIn course.pool.pointers course.earlier

  same_aside : (ps qs : List Pointer) (earlier later : List Pool) → qs ≡ ps → later ≡ earlier → AsideIn ps earlier → AsideIn qs later
  same_aside ps qs earlier later pointers pools is =
      subst (λ (x : List Pointer). AsideIn x later) (sym pointers) (subst (λ (x : List Pool). AsideIn ps x) (sym pools) is)

  module _ (table_homes : AreBefore sectors opening.number unnamed (found opening.table)) (course later : Course) where
    as_left : (key : Key) → left_by (found opening.table key) (last_tracked key (course.pool ∷ course.earlier)) ≡ left_after
        (left_of opening course key) (filter (tracks key) course.pool.pointers)
    as_left key = left_by-later (found opening.table key) (last_tracked key course.earlier) (filter (tracks key) course.pool.pointers)

    fresh_turn : (p : Pointer) → IsPut course later p → later.given ≡ course.given ++ (p.place, run_length p.key) ∷ []
        → p.birth ≡ opening.number → IsAlone (home_of opening course p.key) p
        → AreFreshByKey unnamed later.given → KeptAt sectors unnamed inside opening course → KeptAt sectors unnamed inside opening later
        → AsideAt course → AsideAt later
    fresh_turn p is runs birth alone fresh kept kept_later was =
        same_aside (insert_pointer p course.pool.pointers) later.pool.pointers
        (course.pool ∷ course.earlier) later.earlier is.pool is.earlier
        (fresh_aside p course.pool.pointers (left_of opening course)
        (λ key. left_by (found opening.table key) (last_tracked key (course.pool ∷ course.earlier))) as_left
        sectors opening.number unnamed course.given (found opening.table) table_homes
        (λ key none. left_by-none (found opening.table key) (last_tracked key course.earlier) none)
        kept (subst (Pairwise GoTogether) is.pool kept_later.pairs) birth
        (fresh_last unnamed course.given p.place (run_length p.key) (subst (AreFreshByKey unnamed) runs fresh)).1 (first alone) was)
      where
        first : IsAlone (home_of opening course p.key) p → is_tracked p.mark ≡ true → filter (tracks p.key) course.pool.pointers ≡ []
        first (uncounted uncounts) counts = absurd (cc (uncounts, counts))
        first (unshared counts none) _ = none_now (left_of opening course p.key) (filter (tracks p.key) course.pool.pointers) none

    pub aside_turn : Turns opening course later → AreFreshByKey unnamed later.given → KeptAt sectors unnamed inside opening course
        → KeptAt sectors unnamed inside opening later → AsideAt course → AsideAt later
    aside_turn (steps (stood pool earlier runs touched)) fresh kept kept_later was =
        same_aside course.pool.pointers later.pool.pointers course.earlier later.earlier (ap (λ (x : Pool). x.pointers) pool) earlier was
    aside_turn (steps (put_fresh p is runs birth alone)) fresh kept kept_later was =
        fresh_turn p is runs birth alone fresh kept kept_later was
    aside_turn (steps (put_home p home is runs at)) fresh kept kept_later was =
        same_aside (insert_pointer p course.pool.pointers) later.pool.pointers
        (course.pool ∷ course.earlier) later.earlier is.pool is.earlier
        (home_aside p course.pool.pointers (left_of opening course)
        (λ key. left_by (found opening.table key) (last_tracked key (course.pool ∷ course.earlier))) as_left
        opening.number (found opening.table) home (subst (Pairwise GoTogether) is.pool kept_later.pairs) at.is at.place at.birth was)
    aside_turn (takes lane slot p is) fresh kept kept_later was =
        same_aside (filter (λ q. not (is_at lane slot q)) course.pool.pointers) later.pool.pointers
        (course.pool ∷ course.earlier) later.earlier is.pool is.earlier
        (taken_aside (λ q. not (is_at lane slot q)) course.pool.pointers (left_of opening course)
        (λ key. left_by (found opening.table key) (last_tracked key (course.pool ∷ course.earlier))) as_left
        opening.number (found opening.table) kept.pairs was)
