-- What a group's changes make of its homes, and that a group of writes alone leaves each waiting home where it was.
use Rattle.std.proofs.Common.{◌≡◌, ℕ, ◌+◌, ◌≤◌, Bool, true, false, List, [], ◌∷◌, length, filter, fold, Option, Some, None, inl, inr, refl, sym, ap, ◌∙◌, arith}
use Rattle.std.specs.List.{AllByRecursion}
use Rattle.ddt_entry.specs.declared.key.Key.{Key}
use Rattle.ddt_entry.specs.declared.entry.Home.{Home}
use Rattle.pool_model.specs.declared.commands.Mode.{Mode}
use Rattle.pool_model.specs.Pool.{Pool, Pointer, IsWellFormed, tracks}
use Rattle.pool_model.specs.Table.{counted, home_of_pointers, found, found_over}
use Rattle.pool_model.specs.Command.{Opening, Turn, Course, after}
use Rattle.pool_model.specs.Group.{settled, change_from, opened, course_of}
use Rattle.pool_model.specs.ByKey.{MatchesByKey, IsUnnamedByKey, AreFreshByKey, ChangesByKey, is_touched, home_after, IsWrite}
use Rattle.pool_model.proofs.Homes.{matched_home, home_now, counted_now, left_now, zero_uncounted, left_by-none, home_now-none}
use Rattle.pool_model.proofs.Keeping.{Waits, IsKept}
use Rattle.pool_model.proofs.Settling.{over_settled, settled-same, counted_settled, settled_uncounted}
use Rattle.pool_model.proofs.Putting.{left_of, home_of, home_of-known, written_step}
use Rattle.pool_model.proofs.Settings.{modes_course}
use Rattle.pool_model.proofs.Courses.{IsTouching, IsWriting, kept_step, given_step, touching_step, writing_step, kept_opened}

-- the home of a key after the group's changes is the one that is settled
pub after_settled : (opening : Opening) (course : Course) → IsTouching opening course → ChangesByKey opening course
    → (key : Key) → home_after opening course (found opening.table key) key ≡ settled opening.number (found opening.table key)
    (home_of opening course key)
after_settled opening course touching changes key = by_touch (is_touched key course) refl
  where
    by_touch : (b : Bool) → is_touched key course ≡ b
        → home_after opening course (found opening.table key) key ≡ settled opening.number (found opening.table key)
        (home_of opening course key)
    by_touch true touched =
        ap (found_over (found opening.table key)) (changes.touched key touched)
        ∙ ap (λ (now : Option Home). found_over (found opening.table key)
        (change_from key (found opening.table key) (settled opening.number (found opening.table key) now)))
        (home_of-known opening course key)
        ∙ over_settled opening.number key (found opening.table key) (home_of opening course key)
    by_touch false untouched =
        ap (found_over (found opening.table key)) (changes.untouched key untouched)
        ∙ sym (settled-same opening.number (found opening.table key))
        ∙ sym (ap (settled opening.number (found opening.table key)) (touching key untouched))

-- a key whose home is gone had none in the table
pub gone_of : (opening : Opening) (course : Course) (key : Key) → home_of opening course key ≡ None → found opening.table key ≡ None
gone_of opening course key none =
    left_by-none (found opening.table key) _ (home_now-none (left_of opening course key) (filter (tracks key) course.pool.pointers) none)

-- what is counted of the home is what the pointers say
pub after_counted : (sectors : ℕ) (unnamed : (place length : ℕ) → Type 0) (opening : Opening) (course : Course)
    → IsKept sectors opening.number unnamed course.given course.pool.pointers (left_of opening course) → IsTouching opening course
    → ChangesByKey opening course
    → (key : Key) → counted (home_after opening course (found opening.table key) key) ≡ home_of_pointers
    (filter (tracks key) course.pool.pointers)
after_counted sectors unnamed opening course kept touching changes key =
    ap counted (after_settled opening course touching changes key)
    ∙ counted_settled opening.number (found opening.table key) (home_of opening course key) (gone_of opening course key)
    ∙ counted_now (left_of opening course key) (filter (tracks key) course.pool.pointers) (kept.uncounted key)

-- a course whose turns all write
pub record IsWritten (sectors : ℕ) (unnamed : (place length : ℕ) → Type 0) (opening : Opening) (course : Course) : Type 0 where
  pub kept : IsKept sectors opening.number unnamed course.given course.pool.pointers (left_of opening course)
  pub touching : IsTouching opening course
  pub writing : IsWriting opening course

module _ (sectors : ℕ) (unnamed : (place length : ℕ) → Type 0)
    (inside : (place length : ℕ) → unnamed place length → (32 ≤ place) × (place + length ≤ sectors)) (opening : Opening) where
  -- runs that are fresh at the end were fresh at each turn
  fresh_before : (turns : List Turn) (course : Course) → AllByRecursion (λ turn. IsWrite turn.task.act) turns
      → AreFreshByKey unnamed (fold (after opening) course turns).given → AreFreshByKey unnamed course.given
  fresh_before [] course writes fresh = fresh
  fresh_before (turn ∷ turns) course writes fresh =
      given_step sectors unnamed inside opening course (after opening course turn) (written_step opening course turn writes.0)
      (fresh_before turns (after opening course turn) writes.1 fresh)

  pub written_on : (turns : List Turn) (course : Course) → AllByRecursion (λ turn. IsWrite turn.task.act) turns
      → AreFreshByKey unnamed (fold (after opening) course turns).given → IsWritten sectors unnamed opening course
      → IsWritten sectors unnamed opening (fold (after opening) course turns)
  written_on [] course writes fresh was = was
  written_on (turn ∷ turns) course writes fresh was =
      let step = written_step opening course turn writes.0 in
      written_on turns (after opening course turn) writes.1 fresh (record {
        kept = kept_step sectors unnamed inside opening course (after opening course turn) step
            (fresh_before turns (after opening course turn) writes.1 fresh) was.kept;
        touching = touching_step opening course (after opening course turn) step was.touching;
        writing = writing_step opening course (after opening course turn) step was.writing;
      })

-- from the opening to the end
pub written_all : (sectors : ℕ) (opening : Opening) (pool : Pool) (fresh : List (List ℕ)) (turns : List Turn)
    → opening.number ≡ pool.group + 1 → IsWellFormed sectors pool → MatchesByKey sectors pool (found opening.table)
    → AreFreshByKey (IsUnnamedByKey sectors pool (found opening.table)) (course_of opening pool fresh turns).given
    → AllByRecursion (λ turn. IsWrite turn.task.act) turns
    → IsWritten sectors (IsUnnamedByKey sectors pool (found opening.table)) opening (course_of opening pool fresh turns)
written_all sectors opening pool fresh turns number formed matched given writes =
    written_on sectors (IsUnnamedByKey sectors pool (found opening.table)) (λ place length is. (is.start, is.end)) opening turns
    (opened pool fresh) writes given (record {
      kept = kept_opened sectors opening.number pool (found opening.table) (omega (arith, number)) formed matched;
      touching = λ key none. matched_home (found opening.table key) (filter (tracks key) pool.pointers) (matched.homes key);
      writing = λ key none. refl;
    })

-- a home that isn't counted at the end is the table's, of a key without counted pointers
still_waits : (number : ℕ) (before left : Option Home) (ps : List Pointer) (home : Home) → (home_now left ps ≡ None → before ≡ None)
    → (ps ≡ [] → left ≡ before) → settled number before (home_now left ps) ≡ Some home → home.count ≡ 0
    → (ps ≡ []) × (left ≡ Some home) × (before ≡ Some home)
still_waits number before left ps home gone writing is zero =
    elim (settled_uncounted number before (home_now left ps) home gone is zero) [
      | inl now ↦ let waits = left_now left ps home now (zero_uncounted home zero) in (waits.0, waits.1, sym (writing waits.0) ∙ waits.1)
      | inr lost ↦
          let waits = left_now left ps lost.0 lost.2 (zero_uncounted lost.0 lost.3) in
          let one : Some lost.0 ≡ Some lost.1 = sym waits.1 ∙ writing waits.0 ∙ lost.5 in
          let count : lost.1.count ≡ home.count = sym (counts one) ∙ lost.3 ∙ sym zero in
          let same : home ≡ lost.1 = λ i. record { place = lost.6 i; birth = lost.7 i; since = lost.8 i; count = sym count i } in
          let was : before ≡ Some home = lost.5 ∙ sym (ap Some same) in
          (waits.0, writing waits.0 ∙ was, was)
    ]
  where
    count_of : Option Home → ℕ
    count_of None = 0
    count_of (Some h) = h.count

    counts : {a b : Home} → Some a ≡ Some b → a.count ≡ b.count
    counts e = ap count_of e

module _ (sectors : ℕ) (unnamed : (place length : ℕ) → Type 0) (opening : Opening) (course : Course)
    (is : IsWritten sectors unnamed opening course) (changes : ChangesByKey opening course) where
  -- with writes alone no home begins to wait
  pub written_waits : (key : Key) (home : Home) → home_after opening course (found opening.table key) key ≡ Some home → home.count ≡ 0
      → Waits course.pool.pointers (left_of opening course) key home × (found opening.table key ≡ Some home)
  written_waits key home after_is zero =
      let waits = still_waits opening.number (found opening.table key) (left_of opening course key)
      (filter (tracks key) course.pool.pointers) home (gone_of opening course key) (is.writing key)
      (sym (after_settled opening course is.touching changes key) ∙ after_is) zero in
      (record { none = waits.0; left_is = waits.1 }, waits.2)

-- the pool that a group leaves is well formed
pub kept_formed : (sectors : ℕ) (unnamed : (place length : ℕ) → Type 0) (opening : Opening) (pool : Pool) (fresh : List (List ℕ))
    (turns : List Turn) → IsWellFormed sectors pool
    → IsKept sectors opening.number unnamed (course_of opening pool fresh turns).given (course_of opening pool fresh turns).pool.pointers
    (left_of opening (course_of opening pool fresh turns))
    → IsWellFormed sectors (record (course_of opening pool fresh turns).pool { group = opening.number })
kept_formed sectors unnamed opening pool fresh turns formed kept = record {
  rising = kept.rising;
  together = kept.pairs;
  within = kept.within;
  modes = ap (λ (modes : List Mode). length modes) (modes_course opening (opened pool fresh) turns) ∙ formed.modes;
}
