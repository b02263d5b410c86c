-- A whole group of any commands: it leaves a pool that is well formed, and homes that match it.
use Rattle.std.proofs.Common.{◌≡◌, ℕ, ◌+◌, ◌≤◌, false, List, [], ◌∷◌, filter, fold, Option, Some, inl, inr, sym, subst, ◌∙◌, arith}
use Rattle.std.specs.List.{AllByRecursion}
use Rattle.ddt_entry.specs.declared.key.Key.{Key}
use Rattle.ddt_entry.specs.declared.entry.Home.{Home}
use Rattle.ddt_entry.specs.Keys.{key_eq}
use Rattle.pool_model.specs.Pool.{Pool, Pointer, IsApart, IsWellFormed, tracks, run_length}
use Rattle.pool_model.specs.Table.{found, IsApartFrom}
use Rattle.pool_model.specs.Command.{Opening, Turn, Course, after}
use Rattle.pool_model.specs.Group.{opened, course_of}
use Rattle.pool_model.specs.ByKey.{MatchesByKey, IsUnnamedByKey, AreFreshByKey, ChangesByKey, home_after}
use Rattle.pool_model.proofs.Pointers.{apart_turned}
use Rattle.pool_model.proofs.Homes.{matched_home, left_now, zero_uncounted}
use Rattle.pool_model.proofs.Keeping.{Waits, IsOpen, IsKept}
use Rattle.pool_model.proofs.Settling.{settled_uncounted}
use Rattle.pool_model.proofs.Putting.{left_of, home_of}
use Rattle.pool_model.proofs.Courses.{IsTouching, kept_opened}
use Rattle.pool_model.proofs.Aside.{AreBefore, IsAside, before_opened, aside_opened}
use Rattle.pool_model.proofs.Turning.{one_turn, touching_turn, given_turn, kept_turn, aside_turn}
use Rattle.pool_model.proofs.Writing.{after_settled, gone_of, after_counted}

-- a course as its turns leave it
pub record IsGoing (sectors : ℕ) (unnamed : (place length : ℕ) → Type 0) (opening : Opening) (course : Course) : Type 0 where
  pub kept : IsKept sectors opening.number unnamed course.given course.pool.pointers (left_of opening course)
  pub touching : IsTouching opening course
  pub known : IsAside opening.number (found opening.table) course.pool.pointers (left_of opening course)

module _ (sectors : ℕ) (unnamed : (place length : ℕ) → Type 0)
    (inside : (place length : ℕ) → unnamed place length → (32 ≤ place) × (place + length ≤ sectors)) (opening : Opening) where
  -- runs that are fresh at the end were fresh at each turn
  fresh_before : (turns : List Turn) (course : Course) → AreFreshByKey unnamed (fold (after opening) course turns).given
      → AreFreshByKey unnamed course.given
  fresh_before [] course fresh = fresh
  fresh_before (turn ∷ turns) course fresh =
      given_turn sectors unnamed inside opening course (after opening course turn) (one_turn opening course turn)
      (fresh_before turns (after opening course turn) fresh)

  pub going_on : AreBefore sectors opening.number unnamed (found opening.table) → (turns : List Turn) (course : Course)
      → AreFreshByKey unnamed (fold (after opening) course turns).given → IsGoing sectors unnamed opening course
      → IsGoing sectors unnamed opening (fold (after opening) course turns)
  going_on table_homes [] course fresh was = was
  going_on table_homes (turn ∷ turns) course fresh was =
      let fresh_now = fresh_before turns (after opening course turn) fresh in
      let kept_later = kept_turn sectors unnamed inside opening course (after opening course turn)
      (one_turn opening course turn) fresh_now was.kept in
      going_on table_homes turns (after opening course turn) fresh (record {
        kept = kept_later;
        touching = touching_turn opening course (after opening course turn) was.kept.pairs (one_turn opening course turn) was.touching;
        known = aside_turn sectors unnamed inside opening table_homes course (after opening course turn)
            (one_turn opening course turn) fresh_now was.kept kept_later was.known;
      })

-- from the opening to the end
pub going_all : (sectors : ℕ) (opening : Opening) (pool : Pool) (fresh : List (List ℕ)) (turns : List Turn)
    → opening.number ≡ pool.group + 1 → IsWellFormed sectors pool → MatchesByKey sectors pool (found opening.table)
    → AreFreshByKey (IsUnnamedByKey sectors pool (found opening.table)) (course_of opening pool fresh turns).given
    → IsGoing sectors (IsUnnamedByKey sectors pool (found opening.table)) opening (course_of opening pool fresh turns)
going_all sectors opening pool fresh turns number formed matched given =
    let table_homes = subst (λ (n : ℕ). AreBefore sectors n (IsUnnamedByKey sectors pool (found opening.table)) (found opening.table))
    (sym number) (before_opened sectors pool (found opening.table) formed matched) in
    going_on sectors (IsUnnamedByKey sectors pool (found opening.table)) (λ place length is. (is.start, is.end)) opening table_homes turns
    (opened pool fresh) given (record {
      kept = kept_opened sectors opening.number pool (found opening.table) (omega (arith, number)) formed matched;
      touching = λ key none. matched_home (found opening.table key) (filter (tracks key) pool.pointers) (matched.homes key);
      known = aside_opened sectors opening.number pool (found opening.table) number formed matched;
    })

-- a home that isn't counted after the changes: one that waits, or the table's that was set aside
pub data EndsWaiting (before : Key → Option Home) (ps : List Pointer) (left : Key → Option Home) (key : Key) (home : Home) : Type 0 where
  ends : Waits ps left key home → EndsWaiting before ps left key home
  returns : (table : Home) → before key ≡ Some table → IsOpen ps left table.place (run_length key) → home.place ≡ table.place
      → home.birth ≡ table.birth → EndsWaiting before ps left key home

module _ (sectors : ℕ) (unnamed : (place length : ℕ) → Type 0) (opening : Opening) (course : Course)
    (table_homes : AreBefore sectors opening.number unnamed (found opening.table)) (is : IsGoing sectors unnamed opening course)
    (changes : ChangesByKey opening course) where
  ends_waiting : (key : Key) (home : Home) → home_after opening course (found opening.table key) key ≡ Some home → home.count ≡ 0
      → EndsWaiting (found opening.table) course.pool.pointers (left_of opening course) key home
  ends_waiting key home after_is zero =
      elim (settled_uncounted opening.number (found opening.table key) (home_of opening course key) home (gone_of opening course key)
      (sym (after_settled opening course is.touching changes key) ∙ after_is) zero) [
        | inl now ↦ let waits = left_now (left_of opening course key) (filter (tracks key) course.pool.pointers) home now
            (zero_uncounted home zero) in ends (record { none = waits.0; left_is = waits.1 })
        | inr lost ↦ returns lost.1 lost.5 (is.known.aside key lost.1 lost.0 lost.5 lost.2 lost.4) lost.6 lost.7
      ]

  waiting_end : (key : Key) (home : Home) → EndsWaiting (found opening.table) course.pool.pointers (left_of opening course) key home
      → AllByRecursion (IsApartFrom (record { key = key; home = home })) course.pool.pointers
  waiting_end key home (ends waits) = is.kept.waiting key home waits
  waiting_end key home (returns table is_table opens place birth) =
      subst (λ (at : ℕ). AllByRecursion (λ p. IsApart at (run_length key) p.place (run_length p.key)) course.pool.pointers)
      (sym place) opens.pointers

  apart_end : (key other : Key) (home second : Home) → key_eq key other ≡ false
      → EndsWaiting (found opening.table) course.pool.pointers (left_of opening course) key home
      → EndsWaiting (found opening.table) course.pool.pointers (left_of opening course) other second
      → IsApart home.place (run_length key) second.place (run_length other)
  apart_end key other home second differ (ends waits) (ends waits_too) = is.kept.apart key other home second differ waits waits_too
  apart_end key other home second differ (ends waits) (returns table is_table opens place birth) =
      apart_turned second.place (run_length other) home.place (run_length key) (rw place (opens.homes key home waits))
  apart_end key other home second differ (returns table is_table opens place birth) (ends waits_too) =
      rw place (opens.homes other second waits_too)
  apart_end key other home second differ (returns table is_table opens place birth)
      (returns table_too is_too opens_too place_too birth_too) =
      rw (place, place_too) (table_homes.apart key other table table_too differ is_table is_too)

  births_end : (key : Key) (home : Home) → EndsWaiting (found opening.table) course.pool.pointers (left_of opening course) key home
      → home.birth ≤ opening.number
  births_end key home (ends waits) = (is.kept.homes_within key home waits).birth
  births_end key home (returns table is_table opens place birth) = omega (arith, birth, table_homes.birth key table is_table)

  start_end : (key : Key) (home : Home) → EndsWaiting (found opening.table) course.pool.pointers (left_of opening course) key home
      → 32 ≤ home.place
  start_end key home (ends waits) = (is.kept.homes_within key home waits).start
  start_end key home (returns table is_table opens place birth) = omega (arith, place, table_homes.start key table is_table)

  end_end : (key : Key) (home : Home) → EndsWaiting (found opening.table) course.pool.pointers (left_of opening course) key home
      → home.place + run_length key ≤ sectors
  end_end key home (ends waits) = (is.kept.homes_within key home waits).end
  end_end key home (returns table is_table opens place birth) = rw place (table_homes.end key table is_table)

  pub going_matches : MatchesByKey sectors (record course.pool { group = opening.number })
      (λ key. home_after opening course (found opening.table key) key)
  going_matches = record {
    homes = after_counted sectors unnamed opening course is.kept is.touching changes;
    waiting = λ key home home_is zero. waiting_end key home (ends_waiting key home home_is zero);
    apart = λ key other home second differ home_is zero second_is zero_too. apart_end key other home second differ
        (ends_waiting key home home_is zero) (ends_waiting other second second_is zero_too);
    births = λ key home home_is zero. births_end key home (ends_waiting key home home_is zero);
    start = λ key home home_is zero. start_end key home (ends_waiting key home home_is zero);
    end = λ key home home_is zero. end_end key home (ends_waiting key home home_is zero);
  }
